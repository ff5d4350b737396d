use Rattle.monitorable_guard.proofs.Vocabulary.{◌≡◌, refl, subst, ap, ◌∙◌, All, Option, None, Some, is_some, true, not, IsSome, option_copied, false≢true, take_all, All-more, All-contains, Value}
use Rattle.monitorable_guard.proofs.Vocabulary.{IsBoundBy}
use Rattle.std.proofs.Common.{Bor}
use Rattle.monitorable_guard.proofs.operators.are_bound.Goals as goal

got : (o : Option (Bor Value)) (a : Option Value) → option_copied o ≡ a → is_some o ≡ true → IsSome a
got None a e some = absurd (false≢true some)
got (Some x) a e some = subst IsSome e refl

pub loop-variable-preserved : goal.loop-variable-preserved
loop-variable-preserved g c = All-more (IsBoundBy (g.V.Lookup.valuation c.args.v.now)) c.args.variables.now c.loop-variable.variable-index _ c.loop-variable-test.true
    c.loop-variable.invariant (got c.value.result _ c.value.ensures (c.is_none.ensures ∙ ap not c.if-is_none.false))

pub returns : goal.returns
returns g c = (
  λ _ x there. All-contains (IsBoundBy (g.V.Lookup.valuation c.args.v.now)) c.args.variables.now x
      (subst (All (IsBoundBy (g.V.Lookup.valuation c.args.v.now))) (take_all c.loop-variable.variable-index c.args.variables.now c.loop-variable-test.false) c.loop-variable.invariant) there,
  λ _. refl,
)
