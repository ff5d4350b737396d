-- The guards that can be asked at a step: those that look for no stale name.
use Rattle.enf_data.specs.declared.events.Event.{Event}
use Rattle.enf_data.specs.declared.events.NameId.{NameId}
use Rattle.enf_data.specs.declared.terms.VarId.{VarId}
use Rattle.std.specs.List.{list_any}
use Rattle.std.specs.Prelude.{Bool, cond, Contains, List, [], None, map, ◌↔◌}
use Rattle.enf_formula.specs.machine.Agreement.{names_in_formula}
use Rattle.enf_formula.specs.meaning.Satisfaction.{Formula, Next, True}
use Rattle.past_state.specs.declared.guards.PlacedGuard.{PlacedGuard}
use Rattle.past_state.specs.machine.GuardPlaces.{placed_guard}
use Rattle.past_state.specs.machine.Past.{guard_formula}
use Rattle.obligations.specs.declared.present_step.Now.{Now}
use Rattle.obligations.specs.machine.MovedPlans.{is_same_name}
use Rattle.obligations.specs.machine.UnreadNames.{Ignores}

-- the formula looks for none of the names
abbrev pub IgnoresAll : List NameId → Formula → Type 0
IgnoresAll stale f = (name : NameId) → Contains stale name → Ignores name f

-- whether the formula looks for one of the names
abbrev pub looks_for_any : List NameId → Formula → Bool
looks_for_any stale f = list_any (λ name. list_any (is_same_name name) (names_in_formula f)) stale

-- what cannot be evaluated at a step
abbrev pub unaskable : Formula × List VarId
unaskable = (Next 0 (record { low = 0; high = None }) (True 0), [])

-- a guard of the tables, as its formula with the variables that are bound; one that looks for a stale name is shown as
-- one that no plan can ask
abbrev pub askable : List NameId → PlacedGuard → Formula × List VarId
askable stale g = cond (looks_for_any stale (guard_formula g)) unaskable (placed_guard g)

abbrev pub guards_now : Now → List (Formula × List VarId)
guards_now now = map (askable now.stale.now) now.tables.now.guards

-- two lists have the same events of these names, but for the stale ones
abbrev pub HaveSameFreshEvents : (stale names : List NameId) → List Event → List Event → Type 0
HaveSameFreshEvents stale names events others = (event : Event) → Contains names event.name
    → (Contains stale event.name → ⊥) → Contains events event ↔ Contains others event
