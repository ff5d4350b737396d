use Rattle.valuations.proofs.Vocabulary.{take, bound_in}
use Rattle.valuations.proofs.ScopeLaws.{IsPartOfValuation}
use Rattle.valuations.proofs.filling.part_in.Given as goal

abbrev pub invariant-loop-variable : goal.invariant-loop-variable
invariant-loop-variable l = IsPartOfValuation (bound_in l.v) (take l.variable-index l.variables) l.part
