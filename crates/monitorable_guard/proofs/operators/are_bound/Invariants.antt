use Rattle.monitorable_guard.proofs.Vocabulary.{take, All, IsBoundBy}
use Rattle.monitorable_guard.proofs.operators.are_bound.Given as goal

abbrev pub invariant-loop-variable : goal.invariant-loop-variable
invariant-loop-variable g l = All (IsBoundBy (g.V.Lookup.valuation l.v)) (take l.variable-index l.variables)
