use Rattle.past_state.proofs.Vocabulary.{◌∙◌, ◌++◌, ◌∷◌, [], Some, ap, sym, arith, append_assoc, slice_get-get_or}
use Rattle.past_state.proofs.RestoredRowLemmas.{lists_filled, within_rows}
use Rattle.past_state.proofs.restored_past.by_window.Goals as goal

pub loop-row-preserved : goal.loop-row-preserved
loop-row-preserved c =
    let split = sym c.into_vec-row-items.ensures ∙ sym c.into_iter-row-iterator.ensures.into_iter_gives.0 ∙ c.loop-row.invariant.3 ∙ ap (λ l. c.loop-row.yielded ++ l) c.in-Some.ensures.steps.0 in
    let within = within_rows c.args.rows c.loop-row.yielded c.next.new.self.rest.items c.in-Some.row c.args.count split c.requires in (
      tt,
      tt,
      lists_filled c.loop-row.yielded c.in-Some.row c.args.count c.loop-row.lists.items c.index_mut.result.now c.push.new.self c.loop-row.invariant.2
          (slice_get-get_or c.loop-row.lists.items c.in-Some.row.window c.index_mut.result.now (omega (arith, within, c.loop-row.invariant.2.0)) ∙ ap Some (sym c.index_mut.ensures.value))
          c.in_ok-push.ensures.items,
      c.loop-row.invariant.3 ∙ ap (λ l. c.loop-row.yielded ++ l) c.in-Some.ensures.steps.0 ∙ sym (append_assoc c.loop-row.yielded (c.in-Some.row ∷ []) c.next.new.self.rest.items),
    )
