use Rattle.past_state.proofs.GuardLemmas.{PlacedSoFar}
use Rattle.past_state.proofs.guards.place_all.Given as goal

abbrev pub invariant-loop-guard : goal.invariant-loop-guard
invariant-loop-guard l = PlacedSoFar l.guards l.guard-index l.counts.items l.start l.placed.items
