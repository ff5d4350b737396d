use Rattle.past_state.proofs.Vocabulary.{◌∙◌, ◌<◌, ⊎_elim, ap, All, refl, subst, sym, arith, rev_source, zip_first, zip_second, into_iter_items, AreByWindow}
use Rattle.past_state.proofs.RestoredRowLemmas.{AreLeft, all_left, distinct_next, keepable_next, none_left, one_less, rows_within}
use Rattle.past_state.proofs.restored_past.restore_each.Goals as goal

pub by_window-requires : goal.by_window-requires
by_window-requires c = subst (λ n. All (λ r. r.window < n) c.args.rows) (omega (arith, c.len.ensures)) (rows_within c.args.operators.items c.args.last c.args.rows c.requires)

pub loop-operator-init : goal.loop-operator-init
loop-operator-init c =
    let same = c.into_iter-operator-iterator.ensures.into_iter_gives in
    let left = ap (λ z. into_iter_items (zip_first z)) same ∙ ap into_iter_items c.zip-operator-items.ensures.first ∙ c.into_iter.ensures.rest in
    let lists = ap (λ z. into_iter_items (rev_source (zip_second z))) same ∙ ap (λ r. into_iter_items (rev_source r)) c.zip-operator-items.ensures.second ∙ ap into_iter_items
    c.rev.ensures.source ∙ c.into_iter-2.ensures.rest in (
      (tt, tt),
      tt,
      subst (λ l. AreLeft c.args.operators.items c.args.last c.args.rows l (into_iter_items (rev_source (zip_second c.into_iter-operator-iterator.result))) c.in_ok-restored.restored.items) (sym left)
          (subst (λ l. AreLeft c.args.operators.items c.args.last c.args.rows c.args.operators.items l c.in_ok-restored.restored.items) (sym lists)
          (all_left (subst (λ n. AreByWindow c.args.rows n c.in_ok-lists.lists.items) (omega (arith, c.len.ensures)) c.in_ok-lists.ensures) c.in_ok-restored.ensures.items)),
    )

pub restored-requires-clause-distinct : goal.restored-requires-clause-distinct
restored-requires-clause-distinct c = distinct_next c.loop-operator.invariant.2 c.in-Some.ensures.steps.0.0 c.requires

pub restored-requires-clause-keepable : goal.restored-requires-clause-keepable
restored-requires-clause-keepable c = keepable_next c.loop-operator.invariant.2 c.in-Some.ensures.steps.0.0 (into_iter_items (rev_source (zip_second c.next.new.self))) c.in-Some.pairs
    c.in-Some.ensures.steps.1 c.requires

pub loop-operator-preserved : goal.loop-operator-preserved
loop-operator-preserved c = (
  (tt, tt),
  tt,
  one_less c.loop-operator.invariant.2 c.in-Some.ensures.steps.0.0 (into_iter_items (rev_source (zip_second c.next.new.self))) c.in-Some.pairs c.in-Some.ensures.steps.1
      (record { taken = c.in-Some.operator.taken; memory = c.in_ok-memory.memory }) c.push.new.self.items
      refl c.in_ok-memory.ensures c.in_ok-push.ensures.items,
)

pub returns : goal.returns
returns c = none_left c.loop-operator.invariant.2 (⊎_elim (λ end. omega (arith, end.1.0, (zip_first c.loop-operator.operator-iterator).rest.ok.0))
    (λ end. omega (arith, end.1.0, (rev_source (zip_second c.loop-operator.operator-iterator)).rest.ok.0, c.loop-operator.invariant.2.by_window.0)) c.in-None.ensures.steps)
