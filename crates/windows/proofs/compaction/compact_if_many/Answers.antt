use Rattle.windows.proofs.Vocabulary.{arith}
use Rattle.windows.proofs.EntryLemmas.{keeps_every}
use Rattle.windows.proofs.compaction.compact_if_many.Goals as goal

pub returns-then-not-are_many-clause-keeps : goal.returns-then-not-are_many-clause-keeps
returns-then-not-are_many-clause-keeps c = keeps_every c.args.entries.now.entries

pub returns-then-not-are_many-clause-window : goal.returns-then-not-are_many-clause-window
returns-then-not-are_many-clause-window c =
    let few = c.are_many.ensures c.if-not-are_many.true in record {
      distinct = c.requires.distinct;
      kept = c.requires.kept;
      least = c.requires.least;
      queued = c.requires.queued;
      indexed = c.requires.indexed;
      compact = record { rows = omega (arith, few.0, c.len.ensures.len, c.requires.counted); dues = omega (arith, few.1, c.len-2.ensures, c.requires.counted) };
      counted = c.requires.counted;
    }
