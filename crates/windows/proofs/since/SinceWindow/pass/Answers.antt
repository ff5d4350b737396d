use Rattle.windows.proofs.Vocabulary.{◌≤◌, ◌∙◌, HasNoRepeats, IfSome, IsWindow, length, sym, ap, subst, arith, AreWindowEntries}
use Rattle.windows.specs.machine.RowIndexes.{IsIndexOf}
use Rattle.windows.specs.machine.WindowEntries.{rows_of}
use Rattle.windows.proofs.CompactLemmas.{nothing_held}
use Rattle.windows.proofs.EntryLemmas.{kept_later}
use Rattle.windows.proofs.QueueLemmas.{up_to_later}
use Rattle.windows.proofs.WindowLemmas.{is_passed_in}
use Rattle.windows.proofs.since.SinceWindow.pass.Goals as goal

pub forget_dues-left-requires-clause-kept : goal.forget_dues-left-requires-clause-kept
forget_dues-left-requires-clause-kept c =
    let below : c.self.inside.last ≤ c.args.time = omega (arith, c.requires.later, ap (λ w. w.last) c.self.view_is) in
    (length c.self.inside.columns, kept_later _ c.self.inside.last c.args.time c.self.inside.entries.entries below c.self.invariant.kept)

pub forget_dues-left-requires-clause-least : goal.forget_dues-left-requires-clause-least
forget_dues-left-requires-clause-least c = (c.self.inside.last, omega (arith, c.requires.later, ap (λ w. w.last) c.self.view_is), c.self.invariant.least)

pub forget_dues-left-requires-clause-queued : goal.forget_dues-left-requires-clause-queued
forget_dues-left-requires-clause-queued c = c.self.invariant.queued.queued

pub compact_step-compacted-requires-clause-distinct : goal.compact_step-compacted-requires-clause-distinct
compact_step-compacted-requires-clause-distinct c = subst HasNoRepeats (sym c.as_slice.ensures) c.self.invariant.distinct

pub compact_step-compacted-requires-clause-kept : goal.compact_step-compacted-requires-clause-kept
compact_step-compacted-requires-clause-kept c =
    let below : c.self.inside.last ≤ c.args.time = omega (arith, c.requires.later, ap (λ w. w.last) c.self.view_is) in
    subst (λ l. AreWindowEntries (length l) c.args.time c.forget_dues-left.new.entries.entries) (sym c.as_slice.ensures)
    (c.forget_dues-left.ensures.kept _ (kept_later _ c.self.inside.last c.args.time c.self.inside.entries.entries below c.self.invariant.kept))

pub compact_step-compacted-requires-clause-indexed : goal.compact_step-compacted-requires-clause-indexed
compact_step-compacted-requires-clause-indexed c =
    subst (λ l. IfSome c.self.inside.index (IsIndexOf l (rows_of c.forget_dues-left.new.entries.entries))) (sym c.as_slice.ensures)
    (subst (λ rows. IfSome c.self.inside.index (IsIndexOf c.self.inside.columns rows)) (sym c.forget_dues-left.ensures.forgets.rows) c.self.invariant.indexed)

pub compact_step-compacted-requires-clause-queued : goal.compact_step-compacted-requires-clause-queued
compact_step-compacted-requires-clause-queued c =
    let below : c.self.inside.last ≤ c.args.time = omega (arith, c.requires.later, ap (λ w. w.last) c.self.view_is) in record {
      up_to = c.forget_dues-left.ensures.up_to (up_to_later c.self.inside.last c.args.time c.self.inside.queue.dues below c.self.invariant.queued.up_to);
      in_reach = c.forget_dues-left.ensures.in_reach c.self.inside.last c.self.invariant.queued.in_reach;
      queued = λ high is. c.forget_dues-left.ensures.queued high is;
    }

pub invariant_of-self : goal.invariant_of-self
invariant_of-self c =
    subst (λ l. IsWindow c.self.inside.interval l c.args.time c.compact_step-compacted.new.entries.entries c.compact_step-compacted.new.queue c.compact_step-compacted.new.index c.in-Ok.pairs)
    c.as_slice.ensures c.in-Ok.ensures.window

pub invariant_of-self-in-Err : goal.invariant_of-self-in-Err
invariant_of-self-in-Err c =
    nothing_held c.self.inside.interval c.self.inside.columns c.args.time c.compact_step-compacted.new.entries.entries c.compact_step-compacted.new.queue c.compact_step-compacted.new.index
    c.self.invariant.distinct c.in-Err.ensures.none.0 c.in-Err.ensures.none.2 c.in-Err.ensures.none.1

pub returns-in-Ok-clause-ok : goal.returns-in-Ok-clause-ok
returns-in-Ok-clause-ok c = λ right columns none.
    let window = subst (λ l. IsWindow c.self.inside.interval l c.args.time c.compact_step-compacted.new.entries.entries c.compact_step-compacted.new.queue c.compact_step-compacted.new.index c.in-Ok.pairs)
    c.as_slice.ensures c.in-Ok.ensures.window in
    is_passed_in c.self.inside.interval c.self.inside.columns c.self.inside.last c.args.time c.self.inside.entries.entries c.forget_dues-left.new.entries.entries
    c.compact_step-compacted.new.entries.entries right c.self.invariant.distinct c.self.invariant.kept (columns ∙ sym (ap (λ w. w.columns) c.self.view_is)) none c.forget_dues-left.ensures.forgets
    c.in-Ok.ensures.keeps window.kept window.least c.args.self.now c.self.view_is
