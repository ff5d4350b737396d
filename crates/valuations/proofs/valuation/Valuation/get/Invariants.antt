use Rattle.valuations.proofs.Vocabulary.{◌≡◌, drop, find, variable_cmp}
use Rattle.valuations.proofs.valuation.Valuation.get.Given as goal

abbrev pub invariant-loop-binding : goal.invariant-loop-binding
invariant-loop-binding l = find variable_cmp l.var l.binding-items ≡ find variable_cmp l.var (drop l.binding-index l.binding-items)
