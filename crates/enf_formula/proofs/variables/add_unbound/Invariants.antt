use Rattle.enf_formula.proofs.Vocabulary.{take, AddsVariables}
use Rattle.enf_formula.proofs.Gathering.{IsUnbound}
use Rattle.enf_formula.proofs.variables.add_unbound.Given as goal

abbrev pub invariant-loop-x : goal.invariant-loop-x
invariant-loop-x l = AddsVariables (IsUnbound l.bound (take l.x-index l.xs)) l.fn.found.keys l.found.keys
