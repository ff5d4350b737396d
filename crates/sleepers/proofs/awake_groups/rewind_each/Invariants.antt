use Rattle.sleepers.proofs.Vocabulary.{take, AreRewound}
use Rattle.sleepers.proofs.awake_groups.rewind_each.Given as goal

abbrev pub invariant-loop-number : goal.invariant-loop-number
invariant-loop-number g l = AreRewound (take l.number-index l.numbers) l.fn.groups l.groups
