use Rattle.sleepers.proofs.Vocabulary.{take, MatchesNone}
use Rattle.sleepers.proofs.patterns.Pattern.matches_none.Given as goal

abbrev pub invariant-loop-event : goal.invariant-loop-event
invariant-loop-event l = MatchesNone l.self (take l.event-index l.events)
