-- What a step that is being decided stands for, and what it tells of plans.
use Rattle.enf_data.specs.declared.steps.Step.{Step}
use Rattle.enf_data.specs.meaning.Data.{step_at}
use Rattle.enf_data.specs.meaning.Valuations.{Valuation}
use Rattle.std.specs.Prelude.{ℕ, ◌+◌, ◌≡◌, ◌↔◌, ◌<◌, List, length, Bool, MatchBool, ◌⊎◌, []}
use Rattle.std.specs.Prelude.{Option, None, Some}
use Rattle.monitorable_guard.specs.machine.PresentMeaning.{HoldsNow}
use Rattle.plan_terms.specs.machine.GuardPlaces.{BindsFree}
use Rattle.plan_terms.specs.meaning.Plans.{Plan, Either}
use Rattle.past_state.specs.declared.guards.PlacedGuard.{PlacedGuard}
use Rattle.past_state.specs.machine.Past.{IsGuard, guard_formula, tables_of}
use Rattle.obligations.specs.declared.instances.Instance.{Instance}
use Rattle.obligations.specs.declared.present_step.Now.{Now}
use Rattle.obligations.specs.machine.FreshGuards.{IgnoresAll}
use Rattle.obligations.specs.meaning.Obligations.{time_now, LacksNothing, LacksSome, Begun, HoldsLast, last_position}

-- a node that is begun at the step, with a window that begins and ends so much later
abbrev pub begun_at_now : Now → (rule node low high : ℕ) → Valuation → Instance
begun_at_now now rule node low high v = record {
  rule = rule;
  node = node;
  valuation = v;
  origin = now.position;
  low = now.time + low;
  high = now.time + high;
}

-- the step is the last one of the trace, and each guard that looks for no stale name holds by its tables where it is
-- satisfied
pub record IsNowOf (now : Now) (trace : List Step) : Type 0 where
  pub some : 0 < length trace
  pub position : last_position trace ≡ now.position
  pub time : time_now trace ≡ now.time
  pub events : (step_at trace (last_position trace)).events ≡ now.events.now
  pub guards : (number : ℕ) (g : PlacedGuard) → IsGuard now.tables.now.guards number g
      → IgnoresAll now.stale.now (guard_formula g) → (v : Valuation) → BindsFree v (guard_formula g)
      → HoldsNow now.ordered.now (tables_of g now.tables.now) v (guard_formula g) ↔ HoldsLast trace v
      (guard_formula g)

-- true says that the plan misses nothing, and false that it misses something
abbrev pub TellsNothing : Now → Plan → Valuation → Bool → Type 0
TellsNothing now plan v nothing = (trace : List Step) → IsNowOf now trace
    → MatchBool nothing (LacksNothing trace plan v) (LacksSome trace plan v)

-- it is one of both, and what it begins is what both begin together
pub record IsSideTaken (now : Now) (left right : Plan) (v : Valuation) (side : Plan) : Type 0 where
  pub one : (side ≡ left) ⊎ (side ≡ right)
  pub begins : (trace : List Step) → IsNowOf now trace → (rule node : ℕ) (begun : List Instance)
      → Begun trace rule side v begun → Begun trace rule (Either node left right) v begun

-- where none is taken, nothing is begun
abbrev pub TakesSide : Now → (left right : Plan) → Valuation → Option Plan → Type 0
TakesSide now left right v None = (trace : List Step) → IsNowOf now trace → (rule node : ℕ)
    → Begun trace rule (Either node left right) v []
TakesSide now left right v (Some side) = IsSideTaken now left right v side
