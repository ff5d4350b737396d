-- The guards of a past state with their bound variables, in a list by their numbers.
use Rattle.enf_data.specs.declared.terms.VarId.{VarId}
use Rattle.std.specs.Prelude.{List, map}
use Rattle.enf_formula.specs.meaning.Satisfaction.{Formula}
use Rattle.past_state.specs.declared.guards.PlacedGuard.{PlacedGuard}
use Rattle.past_state.specs.machine.Past.{guard_formula, PastTables}

-- ---- the guards of a step

-- a guard of the tables, as its formula with the variables that are bound
abbrev pub placed_guard : PlacedGuard → Formula × List VarId
placed_guard g = (guard_formula g, g.guard.bound)

abbrev pub guards_at : PastTables → List (Formula × List VarId)
guards_at tables = map placed_guard tables.guards
