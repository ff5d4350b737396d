-- For which traces an enforcer stands, and what its answers do after each of them.
use Rattle.enf_data.specs.declared.steps.Step.{Step}
use Rattle.enf_data.specs.meaning.Data.{IsTrace}
use Rattle.std.specs.Prelude.{◌≡◌, List, length, ◌++◌, ℕ, IsTrue, []}
use Rattle.trace_meaning.specs.meaning.Traces.{Satisfies, Good, Record, recorded}
use Rattle.plan_terms.specs.machine.StoredPlans.{formulas_for}
use Rattle.past_state.specs.machine.Past.{PastStands}
use Rattle.past_state.specs.meaning.KeptRows.{IsLastTime}
use Rattle.obligations.specs.meaning.Pending.{IsReady, Pend}
use Rattle.pending.specs.machine.PendingLists.{IsPendingListOf}
use Rattle.choice_step.specs.meaning.ActedSteps.{ActedStep, untouched, AllAreJustified}
use Rattle.choice_step.specs.meaning.Follows.{steps_of, Follows, FollowsDrain}
use Rattle.rank_check.specs.meaning.AcceptedPlans.{is_transparent}
use Rattle.enforcer_core.specs.machine.Enforcers.{Enforcing, enforcer_plans}

-- a trace that is ready for the clock, so that nothing is missing anywhere; what the guards remember stands for it, and
-- what is pending is what it leaves pending, with its deadlines
pub record Stands (enforcer : Enforcing) (trace : List Step) : Type 0 where
  pub is_trace : IsTrace trace
  pub ready : IsReady (enforcer_plans enforcer) trace enforcer.clock
  pub position : enforcer.position ≡ length trace
  pub last : IsLastTime trace enforcer.last
  pub past : PastStands trace enforcer.past
  pub pending : Pend (enforcer_plans enforcer) trace enforcer.pending.instances
  pub deadlines : IsPendingListOf (enforcer_plans enforcer) enforcer.pending

-- from whatever trace an enforcer stands for, this is emitted for the records, and where all is served
abbrev pub FollowsFrom : Enforcing → List Record → List ActedStep → Type 0
FollowsFrom before records out =
    (trace : List Step) → Stands before trace → Follows (enforcer_plans before) trace records out

abbrev pub FollowsDrainFrom : Enforcing → List ActedStep → Type 0
FollowsDrainFrom before out =
    (trace : List Step) → Stands before trace → FollowsDrain (enforcer_plans before) trace out

-- from whatever trace an enforcer stands for, what is emitted for the records is justified
abbrev pub IsJustifiedFrom : Enforcing → List Record → List ActedStep → Type 0
IsJustifiedFrom before records out =
    (trace : List Step) → Stands before trace → AllAreJustified (enforcer_plans before) trace (recorded records) out

-- whatever it stood for, it now stands for that with these steps at its end
abbrev pub KeepsStanding : Enforcing → Enforcing → List ActedStep → Type 0
KeepsStanding before after out =
    (trace : List Step) → Stands before trace → Stands after (trace ++ steps_of out)

-- the trace for which the enforcer stood satisfies the policy with these steps at its end
abbrev pub SatisfiesBehind : Enforcing → List ActedStep → Type 0
SatisfiesBehind before out =
    (trace : List Step) → Stands before trace → Satisfies (trace ++ steps_of out)
    (formulas_for (enforcer_plans before))

-- where an enforcer's plans are transparent, and the trace for which it stands can be continued well after the steps
-- of the records, from a time on, these steps are emitted as they came, and no others
abbrev pub LeavesAlone : Enforcing → List Record → (time : ℕ) → List ActedStep → Type 0
LeavesAlone before records time out = (trace : List Step) → Stands before trace
    → IsTrue (is_transparent (enforcer_plans before))
    → Good (formulas_for (enforcer_plans before)) (trace ++ recorded records) time → out
    ≡ untouched (recorded records)

-- where the trace for which an enforcer stands satisfies what its transparent plans stand for, nothing is drained
abbrev pub DrainsNothing : Enforcing → List ActedStep → Type 0
DrainsNothing before out = (trace : List Step) → Stands before trace
    → IsTrue (is_transparent (enforcer_plans before))
    → Satisfies trace (formulas_for (enforcer_plans before)) → out ≡ []
