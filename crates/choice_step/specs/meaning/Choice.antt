-- What the choice loop does at one step: as long as something is missing, it acts for the first that misses something.
use Rattle.enf_data.specs.declared.events.Event.{Event}
use Rattle.enf_data.specs.declared.steps.Step.{Step}
use Rattle.enf_data.specs.meaning.Valuations.{no_values}
use Rattle.std.specs.List.{AllByRecursion}
use Rattle.std.specs.Prelude.{ℕ, suc, List, [], ◌∷◌, ◌++◌, map, Bool, ◌≡◌, ◌⊎◌}
use Rattle.plan_terms.specs.meaning.Plans.{Plan}
use Rattle.obligations.specs.declared.actions.Action.{Action}
use Rattle.obligations.specs.declared.instances.Instance.{Instance}
use Rattle.obligations.specs.declared.literals.Literal.{Literal}
use Rattle.obligations.specs.meaning.Obligations.{time_now, Missing, last_position}
use Rattle.obligations.specs.meaning.Pending.{MissingOf}
use Rattle.obligations.specs.meaning.PendingBounds.{is_forced}
use Rattle.choice_step.specs.meaning.ActedSteps.{Applies}

-- who is asked at a step: a pending instance, or the root of a rule
pub data Candidate : Type 0 where
  Waiting : Instance → Candidate
  Root : (rule : ℕ) → Plan → Candidate

-- the roots of the rules in the order of the policy; the first rule has this number
abbrev pub roots_from : (rule : ℕ) → List Plan → List Candidate
roots_from rule [] = []
roots_from rule (plan ∷ plans) = Root rule plan ∷ roots_from (suc rule) plans

-- the order in which candidates are asked: what is pending in its order, and then the roots of the rules
abbrev pub all_asked : List Plan → List Instance → List Candidate
all_asked plans pending = map Waiting pending ++ roots_from 0 plans

-- what a candidate misses at the last position of a trace
abbrev pub CandidateMisses : List Plan → (inserted : Bool) → List Step → Candidate → List Literal → Type 0
CandidateMisses plans inserted trace (Waiting i) literals =
    MissingOf plans trace i (is_forced inserted (time_now trace) i) literals
CandidateMisses plans inserted trace (Root rule plan) literals = Missing trace plan no_values literals

abbrev pub MissesNothing : List Plan → (inserted : Bool) → List Step → Candidate → Type 0
MissesNothing plans inserted trace asked = CandidateMisses plans inserted trace asked []

-- the first candidate that misses something, and the first literal that it misses
abbrev pub IsFirstMissing : List Plan → (inserted : Bool) → List Step → List Candidate → Candidate → Literal → Type 0
IsFirstMissing plans inserted trace [] asked literal = ⊥
IsFirstMissing plans inserted trace (next ∷ others) asked literal =
    ((next ≡ asked) × (rest : List Literal) × CandidateMisses plans inserted trace next (literal ∷ rest))
    ⊎ (MissesNothing plans inserted trace next × IsFirstMissing plans inserted trace others asked literal)

-- the action for the root of a rule at a step, whatever its plan
abbrev pub action_at_root : (time position rule : ℕ) → Literal → Action
action_at_root time position rule literal =
    record {
      kind = literal.kind;
      event = literal.event;
      time = time;
      position = position;
      rule = rule;
      node = 0;
      leaf = literal.leaf;
      origin = position;
      valuation = no_values;
    }

-- the action that is done for a candidate at a step, so that the literal holds
abbrev pub action_at : (time position : ℕ) → Candidate → Literal → Action
action_at time position (Waiting i) literal =
    record {
      kind = literal.kind;
      event = literal.event;
      time = time;
      position = position;
      rule = i.rule;
      node = i.node;
      leaf = literal.leaf;
      origin = i.origin;
      valuation = i.valuation;
    }
action_at time position (Root rule plan) literal = action_at_root time position rule literal

abbrev pub action_for : List Step → Candidate → Literal → Action
action_for trace = action_at (time_now trace) (last_position trace)

-- a step at a time after a trace
abbrev pub trace_with_step : List Step → (time : ℕ) → List Event → List Step
trace_with_step trace time events = trace ++ record { time = time; events = events } ∷ []

-- from some events of a step after a trace, before which this was pending, the actions lead to events that leave
-- nothing missing: each is for the first that misses something with the events before it
abbrev pub Decides : List Plan → List Step → List Instance → (inserted : Bool) → (time : ℕ)
    → (before : List Event) → List Action → (after : List Event) → Type 0
Decides plans trace pending inserted time before [] after = (after ≡ before)
    × AllByRecursion (MissesNothing plans inserted (trace_with_step trace time before)) (all_asked plans pending)
Decides plans trace pending inserted time before (action ∷ actions) after =
    (asked : Candidate) × (literal : Literal) × (between : List Event)
    × IsFirstMissing plans inserted (trace_with_step trace time before) (all_asked plans pending) asked literal
    × (action ≡ action_for (trace_with_step trace time before) asked literal)
    × Applies literal.kind literal.event before between
    × Decides plans trace pending inserted time between actions after
