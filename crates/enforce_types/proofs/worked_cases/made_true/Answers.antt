use Rattle.enforce_types.proofs.Vocabulary.{refl, OverOne, OverTwo, NotEnforceable, p_leaf, q_leaf}
use Rattle.enforce_types.proofs.worked_cases.made_true.Goals as goal

pub returns-clause-and : goal.returns-clause-and
returns-clause-and c = OverTwo.two_made (q_leaf 1) (p_leaf 4) refl refl refl

pub returns-clause-and_first : goal.returns-clause-and_first
returns-clause-and_first c = OverTwo.first_refused (NotEnforceable 1) refl refl

pub returns-clause-eventually : goal.returns-clause-eventually
returns-clause-eventually c = OverOne.operand_made (q_leaf 2) refl refl

pub returns-clause-always : goal.returns-clause-always
returns-clause-always c = OverOne.operand_made (q_leaf 2) refl refl

pub returns-clause-until : goal.returns-clause-until
returns-clause-until c = OverTwo.two_made (p_leaf 1) (q_leaf 3) refl refl refl

pub returns-clause-until_first : goal.returns-clause-until_first
returns-clause-until_first c = OverTwo.first_refused (NotEnforceable 1) refl refl

pub returns-clause-next : goal.returns-clause-next
returns-clause-next c = OverOne.operand_made (q_leaf 2) refl refl
