use Rattle.windows.proofs.Vocabulary.{◌∙◌, ◌≡◌, ◌≤◌, All, HasNoRepeats, IfSome, IsWindow, length, sym, ap, subst, arith, AreWindowEntries, FitsColumns, RowSurvives}
use Rattle.valuations.specs.machine.Tables.{Relation}
use Rattle.windows.specs.machine.RowIndexes.{IsIndexOf}
use Rattle.windows.specs.machine.WindowEntries.{rows_of}
use Rattle.windows.proofs.CompactLemmas.{nothing_held}
use Rattle.windows.proofs.EntryLemmas.{kept_fewer, kept_later, least_fewer}
use Rattle.windows.proofs.PlaceLemmas.{queued_kept}
use Rattle.windows.proofs.QueueLemmas.{up_to_later}
use Rattle.windows.proofs.WindowLemmas.{is_committed_in}
use Rattle.windows.proofs.since.SinceWindow.commit_rows.Goals as goal

pub forget_dues-left-requires-clause-kept : goal.forget_dues-left-requires-clause-kept
forget_dues-left-requires-clause-kept c =
    let below : c.self.inside.last ≤ c.args.time = omega (arith, c.requires.later, ap (λ w. w.last) c.self.view_is) in
    (length c.self.inside.columns, kept_later _ c.self.inside.last c.args.time c.self.inside.entries.entries below c.self.invariant.kept)

pub forget_dues-left-requires-clause-least : goal.forget_dues-left-requires-clause-least
forget_dues-left-requires-clause-least c = (c.self.inside.last, omega (arith, c.requires.later, ap (λ w. w.last) c.self.view_is), c.self.invariant.least)

pub forget_dues-left-requires-clause-queued : goal.forget_dues-left-requires-clause-queued
forget_dues-left-requires-clause-queued c = c.self.invariant.queued.queued

pub add_step-added-requires-clause-distinct : goal.add_step-added-requires-clause-distinct
add_step-added-requires-clause-distinct c = subst HasNoRepeats (sym c.as_slice.ensures) c.self.invariant.distinct

pub add_step-added-requires-clause-fit : goal.add_step-added-requires-clause-fit
add_step-added-requires-clause-fit c =
    subst (λ l. All (λ row. length row ≡ length l) c.args.right.items) (sym (ap (λ w. w.columns) c.self.view_is) ∙ sym c.as_slice.ensures) c.requires.fit

pub add_step-added-requires-clause-kept : goal.add_step-added-requires-clause-kept
add_step-added-requires-clause-kept c =
    let below : c.self.inside.last ≤ c.args.time = omega (arith, c.requires.later, ap (λ w. w.last) c.self.view_is) in
    let left = c.forget_dues-left.ensures.kept _ (kept_later _ c.self.inside.last c.args.time c.self.inside.entries.entries below c.self.invariant.kept) in
    let keeps = c.keep_surviving-left.ensures.keeps in
    subst (λ l. AreWindowEntries (length l) c.args.time c.keep_surviving-left.new.entries.entries) (sym c.as_slice.ensures)
    (kept_fewer _ c.args.time c.forget_dues-left.new.entries.entries c.keep_surviving-left.new.entries.entries left keeps.among (keeps.unique left.unique))

pub add_step-added-requires-clause-least : goal.add_step-added-requires-clause-least
add_step-added-requires-clause-least c =
    least_fewer c.self.inside.interval c.args.time c.forget_dues-left.new.entries.entries c.keep_surviving-left.new.entries.entries c.forget_dues-left.ensures.least c.keep_surviving-left.ensures.keeps.among

pub add_step-added-requires-clause-indexed : goal.add_step-added-requires-clause-indexed
add_step-added-requires-clause-indexed c =
    subst (λ l. IfSome c.self.inside.index (IsIndexOf l (rows_of c.keep_surviving-left.new.entries.entries))) (sym c.as_slice.ensures)
    (subst (λ rows. IfSome c.self.inside.index (IsIndexOf c.self.inside.columns rows)) (sym (c.keep_surviving-left.ensures.rows ∙ c.forget_dues-left.ensures.forgets.rows))
    c.self.invariant.indexed)

pub add_step-added-requires-clause-queued : goal.add_step-added-requires-clause-queued
add_step-added-requires-clause-queued c =
    let below : c.self.inside.last ≤ c.args.time = omega (arith, c.requires.later, ap (λ w. w.last) c.self.view_is) in
    let left = c.forget_dues-left.ensures.kept _ (kept_later _ c.self.inside.last c.args.time c.self.inside.entries.entries below c.self.invariant.kept) in record {
      up_to = c.forget_dues-left.ensures.up_to (up_to_later c.self.inside.last c.args.time c.self.inside.queue.dues below c.self.invariant.queued.up_to);
      in_reach = c.forget_dues-left.ensures.in_reach c.self.inside.last c.self.invariant.queued.in_reach;
      queued = λ high is. queued_kept (RowSurvives c.args.surviving.now) c.forget_dues-left.new.entries.entries c.keep_surviving-left.new.entries.entries c.forget_dues-left.new.queue left.unique c.keep_surviving-left.ensures.keeps
          c.keep_surviving-left.ensures.rows (c.forget_dues-left.ensures.queued high is);
    }

pub invariant_of-self : goal.invariant_of-self
invariant_of-self c =
    subst (λ l. IsWindow c.self.inside.interval l c.args.time c.add_step-added.new.entries.entries c.add_step-added.new.queue c.add_step-added.new.index c.in-Ok.pairs)
    c.as_slice.ensures c.in-Ok.ensures.window

pub invariant_of-self-in-Err : goal.invariant_of-self-in-Err
invariant_of-self-in-Err c =
    nothing_held c.self.inside.interval c.self.inside.columns c.args.time c.add_step-added.new.entries.entries c.add_step-added.new.queue c.add_step-added.new.index c.self.invariant.distinct
    c.in-Err.ensures.none.0 c.in-Err.ensures.none.2 c.in-Err.ensures.none.1

pub returns-in-Ok-clause-ok : goal.returns-in-Ok-clause-ok
returns-in-Ok-clause-ok c =
    let window = subst (λ l. IsWindow c.self.inside.interval l c.args.time c.add_step-added.new.entries.entries c.add_step-added.new.queue c.add_step-added.new.index c.in-Ok.pairs) c.as_slice.ensures
    c.in-Ok.ensures.window in
    let columns = ap (λ w. w.columns) c.self.view_is in
    let right : Relation = record { columns = c.args.self.now.columns; rows = c.args.right.items } in
    is_committed_in c.self.inside.interval c.self.inside.columns c.self.inside.last c.args.time c.self.inside.entries.entries c.forget_dues-left.new.entries.entries
    c.keep_surviving-left.new.entries.entries c.add_step-added.new.entries.entries
    c.args.surviving.now right c.self.invariant.distinct c.self.invariant.kept
    (subst (λ l. FitsColumns l c.args.surviving.now) (sym columns) c.requires.surviving_columns) c.keep_surviving-left.ensures.tables
    (sym columns) c.forget_dues-left.ensures.forgets c.keep_surviving-left.ensures.keeps c.in-Ok.ensures.among c.in-Ok.ensures.added
    window.kept window.least
    c.args.self.now c.self.view_is
