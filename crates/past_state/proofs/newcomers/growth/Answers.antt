use Rattle.past_state.proofs.Vocabulary.{[], ◌∙◌, arith, ap, sym, subst, IfSome, ok_both, tree_of, outermost, IsAlone, AreFreeVariables}
use Rattle.past_state.proofs.FirstMemoryLemmas.{some_grown}
use Rattle.past_state.proofs.GrowthLemmas.{no_end}
use Rattle.past_state.specs.machine.Newcomers.{GrowsBy}
use Rattle.std.specs.Prelude.{◌≡◌}
use Rattle.past_state.proofs.newcomers.growth.Goals as goal

pub returns-else-is_some : goal.returns-else-is_some
returns-else-is_some c =
    let g = tree_of c.args.operand.now in
    let begun = tree_of c.deref.result.now in
    ok_both c.guard_of_now.result (λ found. IfSome found (IsAlone begun) × IfSome found (λ _. AreFreeVariables begun c.args.columns.now))
    (λ found. IfSome found (λ _. outermost begun ≡ [])) _
    (ok_both c.guard_of_now.result (λ found. IfSome found (IsAlone begun)) (λ found. IfSome found (λ _. AreFreeVariables begun c.args.columns.now)) _
    c.guard_of_now.ensures.alone c.guard_of_now.ensures.columns (λ found alone over. (alone, over))) c.guard_of_now.ensures.present
    (λ found both present. some_grown g begun c.args.columns.now found
    (subst (λ f. GrowsBy (tree_of f) begun) (sym c.in-Once.is) (omega (arith, c.if-inner-eq0.true), no_end c.in-Once.inner.high (sym c.is_some.ensures ∙ c.if-is_some.false), ap tree_of (sym c.deref.ensures)))
    c.requires.fresh c.requires.columns both.0 both.1 present)
