use Rattle.std.proofs.Common.{Contains, subst}
use Rattle.enf_formula.specs.machine.FormulaViews.{tree_of}
use Rattle.monitorable_guard.specs.meaning.Safety.{FreeWithin}
use Rattle.past_state.specs.machine.Guards.{tree_in}
use Rattle.enf_cases.proofs.holds.check_test.Goals as goal

pub returns-then-branch : goal.returns-then-branch
returns-then-branch c =
    let test = c.in_ok-is_test.ensures.0 c.if-branch.true in
    subst (λ b. FreeWithin (tree_in c.args.guard.now) (Contains b)) c.bound.ensures.bound
    (subst (λ f. FreeWithin (tree_of f) (Contains c.bound.result.now)) c.formula.ensures.formula test.1)
