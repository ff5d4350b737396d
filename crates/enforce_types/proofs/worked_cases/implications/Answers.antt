use Rattle.enforce_types.proofs.Vocabulary.{refl, AlwaysPlan, OverOne, ImplicationAnswer, NotEnforceable, p_leaf, q_leaf}
use Rattle.enforce_types.proofs.CaseLemmas.{test_q, guards_p}
use Rattle.enforce_types.proofs.worked_cases.implications.Goals as goal

pub returns-clause-guarded : goal.returns-clause-guarded
returns-clause-guarded c = ImplicationAnswer.implication_guarded (q_leaf 3) refl guards_p refl

pub returns-clause-guarded_by_both : goal.returns-clause-guarded_by_both
returns-clause-guarded_by_both c = ImplicationAnswer.test_guarded (NotEnforceable 20) (p_leaf 1) refl test_q refl guards_p refl

pub returns-clause-either : goal.returns-clause-either
returns-clause-either c = ImplicationAnswer.implication_either (q_leaf 5) (AlwaysPlan 0 1 0 5 (p_leaf 2)) refl (λ g. g.safe) refl (OverOne.operand_made (p_leaf 2) refl refl) refl

pub returns-clause-test : goal.returns-clause-test
returns-clause-test c = ImplicationAnswer.implication_tested (NotEnforceable 20) (AlwaysPlan 0 1 0 5 (p_leaf 2)) refl test_q (OverOne.operand_made (p_leaf 2) refl refl) (λ g. g.safe) refl refl

pub returns-clause-left_refused : goal.returns-clause-left_refused
returns-clause-left_refused c = ImplicationAnswer.premise_refused (q_leaf 5) (NotEnforceable 2) refl (λ g. g.safe) refl (OverOne.operand_refused (NotEnforceable 2) refl refl) refl

pub returns-clause-right_refused : goal.returns-clause-right_refused
returns-clause-right_refused c = ImplicationAnswer.conclusion_refused (NotEnforceable 6) (OverOne.operand_refused (NotEnforceable 6) refl refl) (λ t. t.0) refl

pub returns-clause-both_refused : goal.returns-clause-both_refused
returns-clause-both_refused c = ImplicationAnswer.implication_refused (NotEnforceable 20) (NotEnforceable 1) refl test_q refl refl
