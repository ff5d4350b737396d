-- For which traces a step is looked at, and what is then told of what comes after it.
use Rattle.enf_data.specs.declared.events.Event.{Event}
use Rattle.enf_data.specs.declared.steps.Step.{Step}
use Rattle.enf_data.specs.meaning.Data.{IsTrace, step_at}
use Rattle.enf_data.specs.meaning.Valuations.{Valuation}
use Rattle.std.specs.Prelude.{ℕ, List, ◌≡◌, ◌↔◌, ◌<◌, length, ◌+◌}
use Rattle.enf_formula.specs.meaning.Satisfaction.{Sat}
use Rattle.monitorable_guard.specs.machine.PresentMeaning.{HoldsNow}
use Rattle.plan_terms.specs.machine.GuardPlaces.{BindsFree}
use Rattle.plan_terms.specs.machine.StoredPlans.{plan_of}
use Rattle.plan_terms.specs.meaning.Plans.{Plan}
use Rattle.past_state.specs.declared.guards.PlacedGuard.{PlacedGuard}
use Rattle.past_state.specs.machine.GuardPlaces.{guards_at}
use Rattle.past_state.specs.machine.Past.{PastTables, IsGuard, guard_formula, tables_of}
use Rattle.trace_audit.specs.declared.present_step.Present.{Present}
use Rattle.trace_audit.specs.declared.residuals.Residual.{Residual}
use Rattle.trace_audit.specs.declared.residuals.Waiting.{Waiting}
use Rattle.trace_audit.specs.machine.Residuals.{ResidualCanGoOn, Means}

-- a step that is looked at: its time and its position in a trace, its events, and the tables of the guards' operators
-- on the past
pub record AuditMoment : Type 0 where
  pub time : ℕ
  pub position : ℕ
  pub events : List Event
  pub tables : PastTables

abbrev pub audit_moment : (time position : ℕ) → List Event → PastTables → AuditMoment
audit_moment time position events tables =
    record { time = time; position = position; events = events; tables = tables }

abbrev pub moment_of : Present → AuditMoment
moment_of now = audit_moment now.time now.position now.events.now now.tables.now

-- the step is the one at its position of the trace, and each guard holds by its tables where it is satisfied there
pub record IsAt (now : AuditMoment) (trace : List Step) : Type 0 where
  pub is_trace : IsTrace trace
  pub there : now.position < length trace
  pub time : (step_at trace now.position).time ≡ now.time
  pub events : (step_at trace now.position).events ≡ now.events
  pub guards : (number : ℕ) (g : PlacedGuard) → IsGuard now.tables.guards number g → (v : Valuation)
      → BindsFree v (guard_formula g)
      → HoldsNow now.events (tables_of g now.tables) v (guard_formula g) ↔ Sat trace now.position v
      (guard_formula g)

-- on each such trace this holds where the positions after the step meet what is asked of them
pub record TellsRest (now : AuditMoment) (P : List Step → Type 0) (rest : Residual) : Type 0 where
  pub means : (trace : List Step) → IsAt now trace → P trace ↔ Means trace (now.position + 1) rest
  pub can : ResidualCanGoOn (guards_at now.tables) rest

-- the node waits from the step on, with a window that begins and ends so much later
pub record IsBegunWaiting (now : AuditMoment) (node : Plan) (v : Valuation) (low high : ℕ) (waiting : Waiting) : Type
    0 where
  pub node_is : plan_of waiting.node.now ≡ node
  pub valuation_is : waiting.valuation ≡ v
  pub low_is : waiting.low ≡ now.time + low
  pub high_is : waiting.high ≡ now.time + high
