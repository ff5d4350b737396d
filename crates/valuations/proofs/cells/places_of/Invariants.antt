use Rattle.valuations.proofs.Vocabulary.{take, ArePlaces}
use Rattle.valuations.proofs.cells.places_of.Given as goal

abbrev pub invariant-loop-variable : goal.invariant-loop-variable
invariant-loop-variable l = ArePlaces l.columns (take l.variable-index l.wanted) l.places.items
