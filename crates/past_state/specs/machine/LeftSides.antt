-- The left side of a `since`, as it is asked at each step.
use Rattle.enf_data.specs.declared.events.Event.{Event}
use Rattle.enf_data.specs.declared.terms.VarId.{VarId}
use Rattle.enf_data.specs.meaning.Valuations.{Valuation, BindsColumns}
use Rattle.std.specs.Prelude.{◌≡◌, ℕ, List, [], ◌↔◌}
use Rattle.enf_formula.specs.machine.FormulaViews.{tree_of}
use Rattle.enf_formula.specs.meaning.Satisfaction.{Formula, True, Not}
use Rattle.valuations.specs.machine.Tables.{Relation}
use Rattle.windows.specs.machine.Windows.{Window, WindowKeeps}
use Rattle.monitorable_guard.specs.machine.PresentMeaning.{HoldsNow}
use Rattle.past_state.specs.declared.left_sides.Left.{Left}
use Rattle.past_state.specs.declared.survivors.Survivors.{Survivors}
use Rattle.past_state.specs.machine.OperandQueries.{GuardAsks, CanAskRowsAmong, CanAskRowsUnder}
use Rattle.past_state.specs.machine.Survivors.{ValuationSurvives, SurvivorsFit}
use Rattle.past_state.specs.declared.left_sides.Left.TheVariants as side

-- what is asked is the formula, over these columns
abbrev pub AsksLeft : Formula → List VarId → Left → Type 0
AsksLeft f columns side.All = (place : ℕ) × (f ≡ True place)
AsksLeft f columns (side.Denied guard) =
    (place : ℕ) × (g : Formula) × (f ≡ Not place g) × GuardAsks g [] guard
AsksLeft f columns (side.ByRow guard) = GuardAsks f columns guard

-- the left side can be asked of rows of these columns
abbrev pub CanAskLeft : List VarId → List Relation → Left → Type 0
CanAskLeft columns tables side.All = Unit {0}
CanAskLeft columns tables (side.Denied guard) = CanAskRowsAmong guard columns tables
CanAskLeft columns tables (side.ByRow guard) = CanAskRowsUnder guard columns tables

-- the left side holds at a step with these events, by the tables
abbrev pub LeftHolds : List Event → List Relation → Left → Valuation → Type 0
LeftHolds events tables side.All v = Unit {0}
LeftHolds events tables (side.Denied guard) v = HoldsNow events tables v (tree_of guard.formula) → ⊥
LeftHolds events tables (side.ByRow guard) v = HoldsNow events tables v (tree_of guard.formula)

-- of the rows that the window keeps just those survive for which it holds
pub record AreSurvivors (events : List Event) (tables : List Relation) (asked : Left) (window : Window)
    (survivors : Survivors) : Type 0 where
  pub fit : SurvivorsFit window.columns survivors
  pub exact : (v : Valuation) → BindsColumns v window.columns → WindowKeeps window window.last v
      → ValuationSurvives survivors v ↔ LeftHolds events tables asked v
