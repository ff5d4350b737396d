-- What is pending after a trace: what its steps began and left open.
use Rattle.enf_data.specs.declared.steps.Step.{Step}
use Rattle.enf_data.specs.meaning.Valuations.{no_values}
use Rattle.std.specs.Prelude.{ℕ, ◌≤◌, List, ◌≡◌, Bool, [], ◌⊎◌, ◌<◌, ◌∷◌, Option, None, Some, suc, ◌++◌, zero, take}
use Rattle.std.specs.Prelude.{length, true, All, false}
use Rattle.trace_meaning.specs.meaning.Traces.{last_time}
use Rattle.plan_terms.specs.meaning.Plans.{node_in, has_deadline, Plan, EventuallyPlan, AlwaysPlan, UntilPlan, NextPlan}
use Rattle.obligations.specs.declared.instances.Instance.{Instance}
use Rattle.obligations.specs.declared.literals.Literal.{Literal}
use Rattle.obligations.specs.meaning.Obligations.{time_now, LacksNothing, LacksSome, IfElse, Begun, WithBehind, Missing}
use Rattle.obligations.specs.meaning.Obligations.{Gathers}

-- a time is in the window of an instance, both ends included
abbrev pub IsInWindow : Instance → ℕ → Type 0
IsInWindow instance time = (instance.low ≤ time) × (time ≤ instance.high)

abbrev pub IsNowIn : List Step → Instance → Type 0
IsNowIn trace instance = IsInWindow instance (time_now trace)

-- what an instance of the node misses at the last position; `forced` says that it cannot wait any longer
abbrev pub MissesAt : List Step → Plan → Instance → (forced : Bool) → List Literal → Type 0
MissesAt trace (EventuallyPlan node place low high body) i forced literals =
    IfElse forced (Missing trace body i.valuation literals) (literals ≡ [])
MissesAt trace (NextPlan node place high body) i forced literals = Missing trace body i.valuation literals
MissesAt trace (AlwaysPlan node place low high body) i forced literals =
    (IsNowIn trace i × Missing trace body i.valuation literals) ⊎ ((IsNowIn trace i → ⊥) × (literals ≡ []))
MissesAt trace (UntilPlan node place low high left right) i forced literals =
    (IsNowIn trace i × LacksNothing trace right i.valuation × (literals ≡ []))
    ⊎ ((IsNowIn trace i → LacksSome trace right i.valuation)
    × IfElse forced (Missing trace right i.valuation literals) (Missing trace left i.valuation literals))
MissesAt trace plan i forced literals = ⊥

-- in the window of an instance, and with nothing missing of a plan, what that plan begins; else what waits
abbrev pub BeginsInWindow : List Step → Plan → Instance → (Begins Waits : Type 0) → Type 0
BeginsInWindow trace plan i Begins Waits = (IsNowIn trace i × LacksNothing trace plan i.valuation × Begins)
    ⊎ ((IsNowIn trace i → LacksSome trace plan i.valuation) × Waits)

-- what an instance of the node becomes after the last position
abbrev pub BecomesAt : List Step → Plan → Instance → List Instance → Type 0
BecomesAt trace (EventuallyPlan node place low high body) i after =
    BeginsInWindow trace body i (Begun trace i.rule body i.valuation after) (after ≡ i ∷ [])
BecomesAt trace (NextPlan node place high body) i after = Begun trace i.rule body i.valuation after
BecomesAt trace (AlwaysPlan node place low high body) i after = ((time_now trace < i.low) × (after ≡ i ∷ []))
    ⊎ (IsNowIn trace i × WithBehind i (Begun trace i.rule body i.valuation) after)
    ⊎ ((i.low ≤ time_now trace) × (i.high < time_now trace) × (after ≡ []))
BecomesAt trace (UntilPlan node place low high left right) i after =
    BeginsInWindow trace right i (Begun trace i.rule right i.valuation after)
    (WithBehind i (Begun trace i.rule left i.valuation) after)
BecomesAt trace plan i after = ⊥

-- the node of an instance
abbrev pub node_of : List Plan → Instance → Option Plan
node_of plans i = node_in plans i.rule i.node

abbrev pub AtNode : Option Plan → (Plan → Type 0) → Type 0
AtNode None P = ⊥
AtNode (Some plan) P = P plan

-- what a pending instance misses at the last position, and what it becomes after it
abbrev pub MissingOf : List Plan → List Step → Instance → (forced : Bool) → List Literal → Type 0
MissingOf plans trace i forced literals = AtNode (node_of plans i) (λ node. MissesAt trace node i forced literals)

abbrev pub After : List Plan → List Step → Instance → List Instance → Type 0
After plans trace i after = AtNode (node_of plans i) (λ node. BecomesAt trace node i after)

-- what the roots of the rules begin at the last position, in the order of the policy; the first rule has this number
abbrev pub BegunByRoots : List Step → (rule : ℕ) → List Plan → List Instance → Type 0
BegunByRoots trace rule [] begun = begun ≡ []
BegunByRoots trace rule (plan ∷ plans) begun = (first rest : List Instance) × Begun trace rule plan no_values first
    × BegunByRoots trace (suc rule) plans rest × (begun ≡ first ++ rest)

-- what is pending after the last position, where these instances were pending before it
abbrev pub PendingAfter : List Plan → List Step → (before after : List Instance) → Type 0
PendingAfter plans trace before after = (kept begun : List Instance) × Gathers (After plans trace) before kept
    × BegunByRoots trace 0 plans begun × (after ≡ kept ++ begun)

-- what is pending after the first so many steps of a trace
abbrev pub PendsBehind : List Plan → List Step → (steps : ℕ) → List Instance → Type 0
PendsBehind plans trace zero pending = pending ≡ []
PendsBehind plans trace (suc steps) pending = (before : List Instance) × PendsBehind plans trace steps before
    × PendingAfter plans (take (suc steps) trace) before pending

-- what is pending after a trace
abbrev pub Pend : List Plan → List Step → List Instance → Type 0
Pend plans trace pending = PendsBehind plans trace (length trace) pending

-- the instance is of a node with a deadline, and that deadline is this time
abbrev pub HasDeadline : List Plan → Instance → ℕ → Type 0
HasDeadline plans i deadline = AtNode (node_of plans i) (λ node. (has_deadline node ≡ true) × (i.high ≡ deadline))

-- no deadline of these is below a time
abbrev pub NoneIsOver : List Plan → List Instance → (time : ℕ) → Type 0
NoneIsOver plans pending time = All (λ i. (deadline : ℕ) → HasDeadline plans i deadline → time ≤ deadline) pending

-- at the last position of a trace, before which these instances were pending, nothing is missing of a rule's root or
-- of an instance, where none counts as forced, and no deadline was over
pub record IsCleanAt (plans : List Plan) (trace : List Step) (pending : List Instance) : Type 0 where
  pub roots : All (λ plan. LacksNothing trace plan no_values) plans
  pub instances : All (λ i. MissingOf plans trace i false []) pending
  pub in_time : NoneIsOver plans pending (last_time trace)

-- at each position of the trace nothing is missing, and no deadline was over
abbrev pub IsClean : List Plan → List Step → Type 0
IsClean plans trace = (steps : ℕ) → steps < length trace
    → (pending : List Instance) × PendsBehind plans trace steps pending
    × IsCleanAt plans (take (suc steps) trace) pending

-- nothing is missing anywhere in the trace, no pending deadline is below the clock, and the clock is not below the
-- last time
pub record IsReady (plans : List Plan) (trace : List Step) (clock : ℕ) : Type 0 where
  pub clean : IsClean plans trace
  pub pending : List Instance
  pub pend : Pend plans trace pending
  pub in_time : NoneIsOver plans pending clock
  pub not_later : last_time trace ≤ clock
