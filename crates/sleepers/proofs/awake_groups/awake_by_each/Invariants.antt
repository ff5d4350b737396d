use Rattle.sleepers.proofs.Vocabulary.{take}
use Rattle.sleepers.specs.machine.Groups.{AreAwakeBy}
use Rattle.sleepers.proofs.awake_groups.awake_by_each.Given as goal

abbrev pub invariant-loop-event : goal.invariant-loop-event
invariant-loop-event g l = AreAwakeBy l.events (take l.event-index l.events) l.time l.groups l.numbers.items
