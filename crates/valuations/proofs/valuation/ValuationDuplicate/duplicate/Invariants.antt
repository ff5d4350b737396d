use Rattle.valuations.proofs.Vocabulary.{◌≡◌, take}
use Rattle.valuations.proofs.valuation.ValuationDuplicate.duplicate.Given as goal

abbrev pub invariant-loop-variable : goal.invariant-loop-variable
invariant-loop-variable l = l.bindings.items ≡ take l.variable-index l.variable-items
