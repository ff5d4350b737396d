use Rattle.enforce_types.proofs.Vocabulary.{[], refl, EventuallyPlan, AlwaysPlan, variable_x, here, none_in_nil, Term, Var, OverOne, ImplicationAnswer, Exclusion, NotEnforceable, p_x_leaf, q_x_leaf}
use Rattle.enforce_types.proofs.CaseLemmas.{guards_x, guards_x_y}
use Rattle.enforce_types.proofs.worked_cases.quantified.Goals as goal

pub returns-clause-guarded : goal.returns-clause-guarded
returns-clause-guarded c = ImplicationAnswer.implication_guarded (EventuallyPlan 0 4 0 5 (q_x_leaf 5)) (OverOne.operand_made (q_x_leaf 5) refl refl) (guards_x 2) refl

pub returns-clause-nested : goal.returns-clause-nested
returns-clause-nested c = ImplicationAnswer.implication_guarded (q_x_leaf 5) refl guards_x_y refl

pub returns-clause-none : goal.returns-clause-none
returns-clause-none c = Exclusion.exclusion_guarded (p_x_leaf 3) refl (guards_x 3) refl

pub returns-clause-none_refused : goal.returns-clause-none_refused
returns-clause-none_refused c = Exclusion.exclusion_refused (NotEnforceable 3) refl refl

pub returns-clause-none_unguarded : goal.returns-clause-none_unguarded
returns-clause-none_unguarded c = Exclusion.exclusion_unguarded (AlwaysPlan 0 3 0 5 (p_x_leaf 4)) (OverOne.operand_made (p_x_leaf 4) refl refl) (λ g. g.safe) refl

pub returns-clause-range_too_small : goal.returns-clause-range_too_small
returns-clause-range_too_small c = ImplicationAnswer.implication_unguarded (q_x_leaf 4) refl (λ g. none_in_nil {X = Term} (Var variable_x) (g.tells variable_x (here variable_x []))) (λ e. cc) refl

pub returns-clause-refused_before_unguarded : goal.returns-clause-refused_before_unguarded
returns-clause-refused_before_unguarded c = ImplicationAnswer.conclusion_refused (NotEnforceable 5) (OverOne.operand_refused (NotEnforceable 5) refl refl) (λ t. t.0) refl
