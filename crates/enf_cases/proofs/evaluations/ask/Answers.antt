use Rattle.std.proofs.Common.{Contains, subst}
use Rattle.enf_formula.specs.machine.FormulaViews.{tree_of}
use Rattle.monitorable_guard.specs.meaning.Safety.{FreeWithin}
use Rattle.enf_cases.proofs.evaluations.ask.Goals as goal

pub holds-requires-clause-test : goal.holds-requires-clause-test
holds-requires-clause-test c =
    let test = c.in_ok-is_test.ensures.0 c.if-branch.true in
    subst (λ b. FreeWithin (tree_of c.args.guard.now.formula) (Contains b)) c.bound.ensures.bound
    (subst (λ f. FreeWithin (tree_of f) (Contains c.bound.result.now)) c.formula.ensures.formula test.1)
