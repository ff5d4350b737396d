use Rattle.sleepers.proofs.GroupLookLemmas.{AreAwakeBelow}
use Rattle.sleepers.proofs.awake_groups.awake_of_all.Given as goal

abbrev pub invariant-loop-number : goal.invariant-loop-number
invariant-loop-number g l = AreAwakeBelow l.events l.time l.groups l.number l.numbers.items
