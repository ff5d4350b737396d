-- Small records, steps and traces, on which the definitions can be checked by eye.
use Rattle.enf_data.specs.declared.events.Event.{Event}
use Rattle.enf_data.specs.declared.events.NameId.{NameId}
use Rattle.enf_data.specs.declared.steps.Step.{Step}
use Rattle.std.specs.Prelude.{◌==◌, Bool, true, ℕ, List, [], ◌∷◌}
use Rattle.enf_formula.specs.machine.Cases.{at_time, event_q, event_p, interval_between, formula_p, formula_q}
use Rattle.enf_formula.specs.meaning.Satisfaction.{Formula, Implies, Eventually}
use Rattle.trace_meaning.specs.declared.kinds.StepKind.TheVariants.{System, Inserted}
use Rattle.trace_meaning.specs.meaning.Traces.{Lawful, OutStep, Change, Record, StepRecord}

-- p() may be caused, and q() may be suppressed
abbrev pub may_cause : NameId → Bool
may_cause name = name.0 == 0

abbrev pub may_suppress : NameId → Bool
may_suppress name = name.0 == 1

abbrev pub any_name : NameId → Bool
any_name name = true

-- a record of a step at a time
abbrev pub recorded_at : ℕ → List Event → Record
recorded_at time events = StepRecord (at_time time events)

-- a step of the system, and an inserted one
abbrev pub system_at : ℕ → List Event → List Change → OutStep
system_at time events changes = record { kind = System; step = at_time time events; changes = changes }

abbrev pub inserted_at : ℕ → List Event → List Change → OutStep
inserted_at time events changes = record { kind = Inserted; step = at_time time events; changes = changes }

-- where p() may be caused and q() suppressed
abbrev pub IsLawful : List Record → List OutStep → Type 0
IsLawful records out = Lawful may_cause may_suppress records out

abbrev pub IsUnlawful : List Record → List OutStep → Type 0
IsUnlawful records out = IsLawful records out → ⊥

-- not even where each event may be caused and suppressed
abbrev pub IsNeverLawful : List Record → List OutStep → Type 0
IsNeverLawful records out = Lawful any_name any_name records out → ⊥

-- q() at time 1
abbrev pub q_at_1 : List Step
q_at_1 = at_time 1 (event_q ∷ []) ∷ []

-- q() at time 1, p() at 3
abbrev pub q_then_p : List Step
q_then_p = at_time 1 (event_q ∷ []) ∷ at_time 3 (event_p ∷ []) ∷ []

-- q() -> eventually[0,2] p()
abbrev pub policy_p_in_time : List Formula
policy_p_in_time = Implies 0 formula_q (Eventually 0 (interval_between 0 2) formula_p) ∷ []
