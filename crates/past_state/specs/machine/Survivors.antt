-- Which valuations survive a step, by the tables that tell it.
use Rattle.enf_data.specs.declared.terms.VarId.{VarId}
use Rattle.enf_data.specs.declared.values.Value.{Value}
use Rattle.enf_data.specs.meaning.Valuations.{Valuation}
use Rattle.std.specs.Prelude.{Bool, List, ◌≡◌}
use Rattle.valuations.specs.machine.Tables.{HasValuation}
use Rattle.windows.specs.declared.surviving_rows.Surviving.{Surviving}
use Rattle.windows.specs.machine.AnswerTables.{survives_always, survives_among, survives_outside}
use Rattle.past_state.specs.declared.survivors.Survivors.{Survivors}
use Rattle.past_state.specs.declared.survivors.Survivors.TheVariants as told
use Rattle.windows.specs.declared.surviving_rows.Surviving.TheVariants as seen

-- the valuation survives
abbrev pub ValuationSurvives : Survivors → Valuation → Type 0
ValuationSurvives told.All v = Unit {0}
ValuationSurvives (told.Only rows) v = HasValuation rows v
ValuationSurvives (told.AllBut rows) v = HasValuation rows v → ⊥

-- whether a row does
abbrev pub survives_by : Survivors → List Value → Bool
survives_by told.All = survives_always
survives_by (told.Only rows) = survives_among rows
survives_by (told.AllBut rows) = survives_outside rows

-- the table that tells it has these columns
abbrev pub SurvivorsFit : List VarId → Survivors → Type 0
SurvivorsFit columns told.All = Unit {0}
SurvivorsFit columns (told.Only rows) = rows.columns ≡ columns
SurvivorsFit columns (told.AllBut rows) = rows.columns ≡ columns

-- what windows ask is the survivors, by reference
abbrev pub IsViewOf : Survivors → Surviving → Type 0
IsViewOf told.All seen.All = Unit {0}
IsViewOf (told.Only rows) (seen.Only others) = others.now ≡ rows
IsViewOf (told.AllBut rows) (seen.AllBut others) = others.now ≡ rows
IsViewOf survivors surviving = ⊥
