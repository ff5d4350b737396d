use Rattle.enforce_types.proofs.Vocabulary.{tree_of}
use Rattle.enforce_types.proofs.OperandLemmas.{guard_decided}
use Rattle.enforce_types.proofs.operand_plans.is_guard.Goals as goal

pub returns-then-branch : goal.returns-then-branch
returns-then-branch c =
    guard_decided c.are_free_in.result c.args.scope.now c.args.xs.now (tree_of c.args.g.now) c.in_ok-is_safe.field-0
    (rw (← c.as_slice.ensures) c.in_ok-is_safe.ensures) c.if-branch.true
    (rw (← c.as_slice-then-branch.ensures) c.are_free_in.ensures)
