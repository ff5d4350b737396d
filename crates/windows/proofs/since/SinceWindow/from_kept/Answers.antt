use Rattle.windows.proofs.Vocabulary.{length, refl, kept_entries}
use Rattle.windows.proofs.RestoreLemmas.{restored, restored_kept, restored_least, restored_pairs}
use Rattle.windows.proofs.WindowLemmas.{keeps_least}
use Rattle.windows.proofs.since.SinceWindow.from_kept.Goals as goal

pub queue_of-requires-clause-kept : goal.queue_of-requires-clause-kept
queue_of-requires-clause-kept c = (
  length c.args.columns,
  restored_kept c.args.interval c.args.columns c.args.last c.args.pairs.items c.in_ok-entries.entries.entries c.requires.keepable c.in_ok-entries.ensures,
)

pub queue_of-requires-clause-least : goal.queue_of-requires-clause-least
queue_of-requires-clause-least c = restored_least c.args.interval c.args.columns c.args.last c.args.pairs.items c.in_ok-entries.entries.entries c.requires.keepable c.in_ok-entries.ensures

pub invariant_of-result : goal.invariant_of-result
invariant_of-result c =
    restored c.args.interval c.args.columns c.args.last c.args.pairs.items c.in_ok-entries.entries.entries c.requires.keepable c.in_ok-entries.ensures c.in_ok-queue.queue c.count-pairs.result
    c.requires.distinct c.in_ok-queue.ensures.queued c.in_ok-queue.ensures.count c.count-pairs.ensures

pub returns-clause-exact : goal.returns-clause-exact
returns-clause-exact c = restored_pairs c.args.interval c.args.columns c.args.last c.args.pairs.items c.in_ok-entries.entries.entries c.requires.keepable c.in_ok-entries.ensures
    (kept_entries c.in_ok-entries.entries.entries) refl

pub returns-clause-least : goal.returns-clause-least
returns-clause-least c = keeps_least c.args.interval c.args.columns c.args.last c.in_ok-entries.entries.entries c.requires.distinct
    (restored_kept c.args.interval c.args.columns c.args.last c.args.pairs.items c.in_ok-entries.entries.entries c.requires.keepable c.in_ok-entries.ensures)
    (restored_least c.args.interval c.args.columns c.args.last c.args.pairs.items c.in_ok-entries.entries.entries c.requires.keepable c.in_ok-entries.ensures)
