use Rattle.pending.proofs.Vocabulary.{◌≡◌, take}
use Rattle.pending.proofs.entries.place_behind.Given as goal

abbrev pub invariant-loop-made : goal.invariant-loop-made
invariant-loop-made l = l.beginnings.items ≡ take l.made-index l.place
