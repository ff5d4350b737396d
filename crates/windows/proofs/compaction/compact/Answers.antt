use Rattle.windows.proofs.Vocabulary.{IfSome, length, subst, sym}
use Rattle.windows.specs.machine.RowIndexes.{IsIndexOf}
use Rattle.windows.specs.machine.WindowEntries.{rows_of}
use Rattle.windows.proofs.CompactLemmas.{compact_kept}
use Rattle.windows.proofs.EntryLemmas.{entries_fit, kept_fewer, least_fewer}
use Rattle.windows.proofs.WindowLemmas.{keeps_kept}
use Rattle.windows.proofs.compaction.compact.Goals as goal

pub made_anew-requires-clause-indexed : goal.made_anew-requires-clause-indexed
made_anew-requires-clause-indexed c = (
  rows_of c.args.entries.now.entries,
  subst (λ o. IfSome o (IsIndexOf c.args.among.now (rows_of c.args.entries.now.entries))) (sym c.replace-old.ensures.value) c.requires.indexed,
)

pub made_anew-requires-clause-fit : goal.made_anew-requires-clause-fit
made_anew-requires-clause-fit c =
    let keeps = keeps_kept c.args.entries.now.entries c.take_out.new.entries.entries c.take_out.ensures in
    entries_fit (length c.args.among.now) c.args.now c.take_out.new.entries.entries
    (kept_fewer (length c.args.among.now) c.args.now c.args.entries.now.entries c.take_out.new.entries.entries c.requires.kept keeps.among (keeps.unique c.requires.kept.unique))

pub queue_of-requires-clause-kept : goal.queue_of-requires-clause-kept
queue_of-requires-clause-kept c =
    let keeps = keeps_kept c.args.entries.now.entries c.take_out.new.entries.entries c.take_out.ensures in (
      length c.args.among.now,
      kept_fewer (length c.args.among.now) c.args.now c.args.entries.now.entries c.take_out.new.entries.entries c.requires.kept keeps.among (keeps.unique c.requires.kept.unique),
    )

pub queue_of-requires-clause-least : goal.queue_of-requires-clause-least
queue_of-requires-clause-least c =
    let keeps = keeps_kept c.args.entries.now.entries c.take_out.new.entries.entries c.take_out.ensures in
    least_fewer c.args.interval c.args.now c.args.entries.now.entries c.take_out.new.entries.entries c.requires.least keeps.among

pub returns-clause-keeps : goal.returns-clause-keeps
returns-clause-keeps c = keeps_kept c.args.entries.now.entries c.take_out.new.entries.entries c.take_out.ensures

pub returns-clause-window : goal.returns-clause-window
returns-clause-window c =
    let keeps = keeps_kept c.args.entries.now.entries c.take_out.new.entries.entries c.take_out.ensures in record {
      distinct = c.requires.distinct;
      kept = kept_fewer (length c.args.among.now) c.args.now c.args.entries.now.entries c.take_out.new.entries.entries c.requires.kept keeps.among (keeps.unique c.requires.kept.unique);
      least = least_fewer c.args.interval c.args.now c.args.entries.now.entries c.take_out.new.entries.entries c.requires.least keeps.among;
      queued = c.in_ok-queued.ensures.queued;
      indexed = c.in_ok-made.ensures;
      compact = compact_kept c.args.entries.now.entries c.take_out.new.entries.entries c.in_ok-queued.queued c.take_out.ensures c.in_ok-queued.ensures.count;
      counted = c.counted-pairs.ensures;
    }
