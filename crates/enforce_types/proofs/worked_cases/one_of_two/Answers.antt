use Rattle.enforce_types.proofs.Vocabulary.{refl, EventuallyPlan, OverOne, OneOfTwo, NotEnforceable, q_leaf}
use Rattle.enforce_types.proofs.CaseLemmas.{test_p, test_q_now}
use Rattle.enforce_types.proofs.worked_cases.one_of_two.Goals as goal

pub returns-clause-left_test : goal.returns-clause-left_test
returns-clause-left_test c = OneOfTwo.left_test (q_leaf 3) refl test_p refl

pub returns-clause-right_test : goal.returns-clause-right_test
returns-clause-right_test c = OneOfTwo.right_test (NotEnforceable 20) (q_leaf 3) refl test_p refl refl

pub returns-clause-left_is_asked : goal.returns-clause-left_is_asked
returns-clause-left_is_asked c = OneOfTwo.left_test (q_leaf 3) refl test_q_now refl

pub returns-clause-either : goal.returns-clause-either
returns-clause-either c = OneOfTwo.either_made (q_leaf 5) (EventuallyPlan 0 1 0 5 (q_leaf 2)) refl (λ t. t.0) (OverOne.operand_made (q_leaf 2) refl refl) refl

pub returns-clause-left_refused : goal.returns-clause-left_refused
returns-clause-left_refused c = OneOfTwo.left_refused (q_leaf 5) (NotEnforceable 2) refl (λ t. t.0) (OverOne.operand_refused (NotEnforceable 2) refl refl) refl

pub returns-clause-right_refused : goal.returns-clause-right_refused
returns-clause-right_refused c = OneOfTwo.right_refused (NotEnforceable 2) (OverOne.operand_refused (NotEnforceable 2) refl refl) (λ t. t.0) refl

pub returns-clause-both_refused : goal.returns-clause-both_refused
returns-clause-both_refused c = OneOfTwo.both_refused (NotEnforceable 20) (NotEnforceable 2) refl test_p (OverOne.operand_refused (NotEnforceable 2) refl refl) refl

pub returns-clause-right_is_first : goal.returns-clause-right_is_first
returns-clause-right_is_first c = OneOfTwo.right_refused (NotEnforceable 2) (OverOne.operand_refused (NotEnforceable 2) refl refl) (λ t. t.0) refl
