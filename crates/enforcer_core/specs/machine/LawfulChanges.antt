-- That what is emitted while the clock rises changes the records lawfully.
use Rattle.enf_data.specs.declared.events.NameId.{NameId}
use Rattle.std.specs.Prelude.{Bool, IsTrue, List, ℕ, ◌+◌, ◌<◌, ◌≤◌, [], ◌∷◌}
use Rattle.trace_meaning.specs.declared.kinds.StepKind.{StepKind}
use Rattle.trace_meaning.specs.declared.kinds.StepKind.TheVariants.{System, Inserted}
use Rattle.trace_meaning.specs.meaning.Traces.{Lawful, IsWithin, Record}
use Rattle.plan_terms.specs.meaning.Plans.{IsCaused, IsSuppressed, Plan}
use Rattle.choice_step.specs.meaning.ActedSteps.{ActedStep, out_steps}

-- what plans cause may be caused, and what they suppress may be suppressed
pub record Permits (causable suppressible : NameId → Bool) (plans : List Plan) : Type 0 where
  pub caused : (name : NameId) → IsCaused plans name → IsTrue (causable name)
  pub suppressed : (name : NameId) → IsSuppressed plans name → IsTrue (suppressible name)

-- what is emitted while the clock goes from a time to another changes the records lawfully, wherever what the plans do
-- is permitted
pub record ChangesLawfully (plans : List Plan) (from to : ℕ) (records : List Record)
    (out : List ActedStep) : Type 0 where
  pub lawful : (causable suppressible : NameId → Bool) → Permits causable suppressible plans
      → Lawful causable suppressible records (out_steps out)
  pub within : IsWithin from to (out_steps out)

-- an inserted step is at a time from one on and below another, and what comes then is from after it on; a step of the
-- system counts for nothing
abbrev pub RisesBy : StepKind → (from until time : ℕ) → (Then : ℕ → Type 0) → Type 0
RisesBy Inserted from until time Then = (from ≤ time) × (time < until) × Then (time + 1)
RisesBy System from until time Then = Then from

-- the times of the inserted steps rise strictly, from a time on and below another
abbrev pub RiseWithin : (from until : ℕ) → List ActedStep → Type 0
RiseWithin from until [] = Unit {0}
RiseWithin from until (o ∷ out) = RisesBy o.kind from until o.step.time (λ next. RiseWithin next until out)
