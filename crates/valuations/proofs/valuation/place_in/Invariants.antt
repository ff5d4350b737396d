use Rattle.valuations.proofs.Vocabulary.{length, ◌-◌, ◌≡◌, ◌+◌, drop, binding_place}
use Rattle.valuations.proofs.valuation.place_in.Given as goal

abbrev pub invariant-loop-place : goal.invariant-loop-place
invariant-loop-place l = binding_place l.var l.bindings ≡ l.place + binding_place l.var (drop l.place l.bindings)

abbrev pub decreases-loop-place : goal.decreases-loop-place
decreases-loop-place l = length l.bindings - l.place
