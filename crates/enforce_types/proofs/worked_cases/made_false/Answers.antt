use Rattle.enforce_types.proofs.Vocabulary.{refl, OverOne, OverTwo, OneOfTwo, Exclusion, NotEnforceable, p_leaf, p_x_leaf, q_leaf}
use Rattle.enforce_types.proofs.CaseLemmas.{test_not_q, guards_x}
use Rattle.enforce_types.proofs.worked_cases.made_false.Goals as goal

pub returns-clause-and_first_is_test : goal.returns-clause-and_first_is_test
returns-clause-and_first_is_test c = OneOfTwo.left_test (p_leaf 3) refl test_not_q refl

pub returns-clause-and_second_is_test : goal.returns-clause-and_second_is_test
returns-clause-and_second_is_test c = OneOfTwo.right_test (NotEnforceable 20) (p_leaf 3) refl test_not_q refl refl

pub returns-clause-or : goal.returns-clause-or
returns-clause-or c = OverTwo.two_made (p_leaf 1) (p_leaf 3) refl refl refl

pub returns-clause-implies : goal.returns-clause-implies
returns-clause-implies c = OverTwo.two_made (q_leaf 1) (p_leaf 3) refl refl refl

pub returns-clause-some : goal.returns-clause-some
returns-clause-some c = Exclusion.exclusion_guarded (p_x_leaf 2) refl (guards_x 2) refl

pub returns-clause-eventually : goal.returns-clause-eventually
returns-clause-eventually c = OverOne.operand_made (p_leaf 2) refl refl

pub returns-clause-always : goal.returns-clause-always
returns-clause-always c = OverOne.operand_made (p_leaf 2) refl refl
