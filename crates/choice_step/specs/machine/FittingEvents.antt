-- Events that pass a test, where those that come in do and those that plans cause.
use Rattle.enf_data.specs.declared.events.Event.{Event}
use Rattle.enf_data.specs.declared.steps.Step.{Step}
use Rattle.enf_data.specs.declared.terms.VarId.{VarId}
use Rattle.enf_data.specs.declared.values.Value.{Value}
use Rattle.enf_data.specs.meaning.Data.{step_at}
use Rattle.enf_data.specs.meaning.Valuations.{Valuation, values_of_terms}
use Rattle.std.specs.Prelude.{Bool, IsTrue, List, Contains, ℕ, ◌≡◌, Some, [], slice_get}
use Rattle.plan_terms.specs.meaning.Plans.{Plan, CausePlan}
use Rattle.plan_terms.specs.machine.WellFormed.{AtEach}
use Rattle.obligations.specs.machine.RightValues.{AreRight, GuardsGiveRight}

-- each of the events passes the test
abbrev pub EventsFit : (fits : Event → Bool) → List Event → Type 0
EventsFit fits events = (event : Event) → Contains events event → IsTrue (fits event)

-- each event of the trace passes the test
abbrev pub TraceEventsFit : (fits : Event → Bool) → List Step → Type 0
TraceEventsFit fits trace = (i : ℕ) (event : Event) → Contains (step_at trace i).events event
    → IsTrue (fits event)

-- the events that a leaf causes pass the test, where the variables in scope have right values
abbrev pub CausesFit : (fits : Event → Bool) → (right : VarId → Value → Bool) → Plan → (scope : List VarId)
    → Type 0
CausesFit fits right (CausePlan node place name terms) scope = (v : Valuation) (args : List Value)
    → AreRight right scope v → values_of_terms v terms ≡ Some args
    → IsTrue (fits (record { name = name; args = args }))
CausesFit fits right plan scope = Unit {0}

-- the events that the plans of the rules cause pass the test, and guards give right values on each trace whose events
-- pass it
pub record KeepFitting (plans : List Plan) (fits : Event → Bool) (right : (rule : ℕ) → VarId → Value → Bool)
    : Type 0 where
  pub causes : (rule : ℕ) (plan : Plan) → slice_get plans rule ≡ Some plan
      → AtEach (CausesFit fits (right rule)) plan []
  pub give : (trace : List Step) → TraceEventsFit fits trace → GuardsGiveRight plans trace right
