use Rattle.past_state.proofs.Vocabulary.{◌∙◌, subst, sym, inr, All, reverse, length, ap, None, arith, All-get_or, tree_of, outermost, IsFreshGuard, tree_in, CanKeep, PushesFor, operators}
use Rattle.past_state.proofs.GuardLemmas.{counted_none, pushed_none, counted_more, pushed_more}
use Rattle.past_state.proofs.KeepableLemmas.{keep_all}
use Rattle.past_state.proofs.guards.push_all.Goals as goal

pub loop-place-init : goal.loop-place-init
loop-place-init c = (counted_none c.args.guards.now c.new-counts.result.items c.new-counts.ensures.items, pushed_none c.args.guards.now c.args.out.now.items)

pub push_operators-requires : goal.push_operators-requires
push_operators-requires c =
    subst (λ f. All CanKeep (operators (tree_of f))) (sym c.formula.ensures.formula)
    (keep_all None (tree_in c.index-guards-guards.result) _ _ c.formula.ensures.safe
    (subst IsFreshGuard (sym c.index-guards-guards.is) (All-get_or IsFreshGuard c.args.guards.now _ c.index-guards-guards.result (omega (arith, c.loop-place-test.true)) c.requires))
    (λ x free. inr free))

pub loop-place-preserved : goal.loop-place-preserved
loop-place-preserved c = (
  counted_more c.args.guards.now c.loop-place.place c.index-guards-guards.result c.loop-place.counts.items c.push.new.self.items c.in_ok-push_operators.field-0 c.loop-place-test.true
      c.index-guards-guards.is c.loop-place.invariant.0
      (c.in_ok-push_operators.ensures.count ∙ ap (λ f. length (outermost (tree_of f))) c.formula.ensures.formula) c.in_ok-push.ensures.items,
  pushed_more c.args.guards.now c.loop-place.place c.index-guards-guards.result c.args.out.now.items c.loop-place.out.items c.push_operators.new.out.items c.loop-place-test.true
      c.index-guards-guards.is c.loop-place.invariant.1
      (subst (λ f. PushesFor (reverse (operators (tree_of f))) c.loop-place.out.items c.push_operators.new.out.items) c.formula.ensures.formula c.in_ok-push_operators.ensures.pushed),
)
