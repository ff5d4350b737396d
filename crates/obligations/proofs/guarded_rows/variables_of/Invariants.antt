use Rattle.std.specs.Prelude.{◌≡◌, take, filter}
use Rattle.obligations.specs.machine.GuardedRows.{is_in_terms}
use Rattle.obligations.proofs.guarded_rows.variables_of.Given as goal

abbrev pub invariant-loop-variable : goal.invariant-loop-variable
invariant-loop-variable l = l.found.items ≡ filter (is_in_terms l.terms) (take l.variable-index l.variables)
