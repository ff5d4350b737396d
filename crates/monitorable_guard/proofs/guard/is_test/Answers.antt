use Rattle.monitorable_guard.proofs.Vocabulary.{◌↔◌, subst, Contains, IsTrue, IfOk, tree_of, Safe, FreeWithin}
use Rattle.monitorable_guard.proofs.DecisionLemmas.{decides_second}
use Rattle.monitorable_guard.proofs.guard.is_test.Goals as goal

pub returns-then-branch : goal.returns-then-branch
returns-then-branch c =
    let f = tree_of c.args.formula.now in
    decides_second c.is_free_within.result c.in_ok-is_safe.field-0 (Safe f (Contains c.args.bound.now)) (FreeWithin f (Contains c.args.bound.now))
    (subst (λ l. IsTrue c.in_ok-is_safe.field-0 ↔ Safe f (Contains l)) c.as_slice.ensures c.in_ok-is_safe.ensures)
    c.if-branch.true
    (subst (λ l. IfOk c.is_free_within.result (λ b. IsTrue b ↔ FreeWithin f (Contains l))) c.as_slice-then-branch.ensures c.is_free_within.ensures)
