use Rattle.enf_data.proofs.Vocabulary.{Contains, take}
use Rattle.enf_data.proofs.event_sets.place_of.Given as goal

abbrev pub invariant-loop-place : goal.invariant-loop-place
invariant-loop-place l = Contains (take l.place l.events) l.event → ⊥
