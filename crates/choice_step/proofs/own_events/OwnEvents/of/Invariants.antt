use Rattle.choice_step.proofs.Vocabulary.{Contains, NameId, take}
use Rattle.choice_step.specs.machine.OwnEvents.{AreDivided, IsMarked}
use Rattle.choice_step.proofs.own_events.OwnEvents.of.Given as goal

abbrev pub invariant-loop-event : goal.invariant-loop-event
invariant-loop-event l = record {
  divided : AreDivided l.names (take l.event-index l.events) l.own l.others.items;
  told : (name : NameId) → IsMarked l.told.marks.items name → Contains l.others.items name;
}
