-- What a plan misses at the last position of a trace, what it begins there, and why an action is done.
use Rattle.enf_data.specs.declared.events.Event.{Event}
use Rattle.enf_data.specs.declared.events.NameId.{NameId}
use Rattle.enf_data.specs.declared.steps.Step.{Step}
use Rattle.enf_data.specs.declared.terms.VarId.{VarId}
use Rattle.enf_data.specs.declared.values.Value.{Value}
use Rattle.enf_data.specs.meaning.Data.{step_at}
use Rattle.enf_data.specs.meaning.Valuations.{Valuation, with_values, values_of_terms, no_values}
use Rattle.enf_data.specs.meaning.Values.{row_cmp}
use Rattle.std.specs.List.Sorted.{IsStrictlySortedBy}
use Rattle.std.specs.Prelude.{ℕ, ◌-◌, List, length, Contains, ◌≡◌, [], ◌∷◌, ◌⊎◌, Option, None, Some, zero, suc, ◌↔◌}
use Rattle.std.specs.Prelude.{All, ◌++◌, ◌+◌, Bool, true, false, ◌<◌, IsTrue}
use Rattle.enf_formula.specs.meaning.Satisfaction.{Formula, Sat}
use Rattle.plan_terms.specs.meaning.Plans.{Plan, CausePlan, SuppressPlan, Both, Either, TestOr, Guarded, AlwaysPlan}
use Rattle.plan_terms.specs.meaning.Plans.{UntilPlan, EventuallyPlan, NextPlan, has_future, is_future, node_in}
use Rattle.plan_terms.specs.meaning.Plans.{window_end, has_deadline}
use Rattle.obligations.specs.declared.literals.Literal.{Literal}
use Rattle.obligations.specs.declared.instances.Instance.{Instance}
use Rattle.trace_meaning.specs.declared.kinds.StepKind.{StepKind}
use Rattle.trace_meaning.specs.declared.kinds.StepKind.TheVariants.{System, Inserted}
use Rattle.plan_terms.specs.meaning.Owed.{LeadsThrough, Obligation, obligation, IsLost, IsOwed}
use Rattle.obligations.specs.declared.actions.Action.{Action}
use Rattle.obligations.specs.declared.literals.LiteralKind.TheVariants as kind

-- the last position, counted from 0, of a trace with a step
abbrev pub last_position : List Step → ℕ
last_position trace = length trace - 1

-- an event is among those of the last step
abbrev pub IsPresent : List Step → Event → Type 0
IsPresent trace event = Contains (step_at trace (last_position trace)).events event

abbrev pub IsAbsent : List Step → Event → Type 0
IsAbsent trace event = IsPresent trace event → ⊥

abbrev pub cause_literal : Event → ℕ → Literal
cause_literal event leaf = record { kind = kind.Cause; event = event; leaf = leaf }

abbrev pub suppress_literal : Event → ℕ → Literal
suppress_literal event leaf = record { kind = kind.Suppress; event = event; leaf = leaf }

-- no literal where this holds, else the one literal
abbrev pub LiteralUnless : Type 0 → Literal → List Literal → Type 0
LiteralUnless P literal literals = (P × (literals ≡ [])) ⊎ ((P → ⊥) × (literals ≡ literal ∷ []))

-- a property of the event that a leaf speaks of, whose arguments have values
abbrev pub OfEvent : NameId → Option (List Value) → (Event → Type 0) → Type 0
OfEvent name None P = ⊥
OfEvent name (Some args) P = P (record { name = name; args = args })

-- some list of literals has the property, and it is not empty
abbrev pub HasSome : (List Literal → Type 0) → Type 0
HasSome P = (first : Literal) × (rest : List Literal) × P (first ∷ rest)

-- nothing where one side misses nothing, else what the right side misses
abbrev pub MissesEither : (left right : List Literal → Type 0) → List Literal → Type 0
MissesEither left right literals = (left [] × (literals ≡ [])) ⊎ (right [] × (literals ≡ []))
    ⊎ (HasSome left × HasSome right × right literals)

-- nothing where the window begins at once and the right side misses nothing, else what the left side misses
abbrev pub MissesUntil : (low : ℕ) → (left right : List Literal → Type 0) → List Literal → Type 0
MissesUntil zero left right literals = (right [] × (literals ≡ [])) ⊎ (HasSome right × left literals)
MissesUntil (suc low) left right literals = left literals

-- what the body misses where the window begins at once, else nothing
abbrev pub MissesAlways : (low : ℕ) → (body : List Literal → Type 0) → List Literal → Type 0
MissesAlways zero body literals = body literals
MissesAlways (suc low) body literals = literals ≡ []

-- a guard or test holds at the last position
abbrev pub HoldsLast : List Step → Valuation → Formula → Type 0
HoldsLast trace v f = Sat trace (last_position trace) v f

-- just the lists of values of the variables under which the guard holds at the last position, in rising order
pub record AreGuardRows (trace : List Step) (v : Valuation) (xs : List VarId) (guard : Formula)
    (rows : List (List Value)) : Type 0 where
  pub fit : All (λ row. length row ≡ length xs) rows
  pub rise : IsStrictlySortedBy row_cmp rows
  pub are : (row : List Value) → length row ≡ length xs
      → Contains rows row ↔ HoldsLast trace (with_values xs row v) guard

-- what each of some gives, one after the other
abbrev pub Gathers : {X Y : Type 0} → (X → List Y → Type 0) → List X → List Y → Type 0
Gathers P [] ys = ys ≡ []
Gathers {Y} P (x ∷ xs) ys = (first rest : List Y) × P x first × Gathers P xs rest × (ys ≡ first ++ rest)

-- what a plan misses where it is begun at the last position, under a valuation
abbrev pub Missing : List Step → Plan → Valuation → List Literal → Type 0
Missing trace (CausePlan node place name terms) v literals =
    OfEvent name (values_of_terms v terms) (λ e. LiteralUnless (IsPresent trace e) (cause_literal e node) literals)
Missing trace (SuppressPlan node place name terms) v literals =
    OfEvent name (values_of_terms v terms) (λ e. LiteralUnless (IsAbsent trace e) (suppress_literal e node) literals)
Missing trace (Both node left right) v literals =
    (first rest : List Literal) × Missing trace left v first × Missing trace right v rest × (literals ≡ first ++ rest)
Missing trace (Either node left right) v literals = MissesEither (Missing trace left v) (Missing trace right v) literals
Missing trace (TestOr node guard test body) v literals = (HoldsLast trace v test × (literals ≡ []))
    ⊎ ((HoldsLast trace v test → ⊥) × Missing trace body v literals)
Missing trace (Guarded node xs guard test body) v literals =
    (rows : List (List Value)) × AreGuardRows trace v xs test rows
    × Gathers (λ row. Missing trace body (with_values xs row v)) rows literals
Missing trace (AlwaysPlan node place low high body) v literals = MissesAlways low (Missing trace body v) literals
Missing trace (UntilPlan node place low high left right) v literals =
    MissesUntil low (Missing trace left v) (Missing trace right v) literals
Missing trace plan v literals = literals ≡ []

-- ---- What a plan begins at the last position of a trace, whose events leave nothing missing of it.

-- nothing is missing of a plan at the last position
abbrev pub LacksNothing : List Step → Plan → Valuation → Type 0
LacksNothing trace plan v = Missing trace plan v []

abbrev pub LacksSome : List Step → Plan → Valuation → Type 0
LacksSome trace plan v = HasSome (Missing trace plan v)

-- the time of the last step
abbrev pub time_now : List Step → ℕ
time_now trace = (step_at trace (last_position trace)).time

-- a node that is begun at the last position, with a window that begins and ends so much later
abbrev pub begun_now : List Step → (rule node low high : ℕ) → Valuation → Instance
begun_now trace rule node low high v =
    record {
      rule = rule;
      node = node;
      valuation = v;
      origin = last_position trace;
      low = time_now trace + low;
      high = time_now trace + high;
    }

-- a side is taken where it lacks nothing, and else something else comes
abbrev pub TakesOrElse : List Step → Plan → Valuation → (Begins Else : Type 0) → Type 0
TakesOrElse trace side v Begins Else = (LacksNothing trace side v × Begins) ⊎ (LacksSome trace side v × Else)

-- the first where the answer is yes, else the second
abbrev pub IfElse : Bool → Type 0 → Type 0 → Type 0
IfElse true First Second = First
IfElse false First Second = Second

-- a side that does not look ahead is taken where it lacks nothing; one that looks ahead is passed over
abbrev pub TakesPresent : List Step → Plan → Valuation → (Begins Else : Type 0) → Type 0
TakesPresent trace side v Begins Else = IfElse (has_future side) Else (TakesOrElse trace side v Begins Else)

-- where the window begins at once and the body lacks nothing, what the body begins; else the instance and what is
-- begun with it
abbrev pub BeginsOrWaits : List Step → (low : ℕ) → Plan → Valuation → (Begins Waits : Type 0) → Type 0
BeginsOrWaits trace zero body v Begins Waits = TakesOrElse trace body v Begins Waits
BeginsOrWaits trace (suc low) body v Begins Waits = Waits

-- an instance, and after it what is begun with it
abbrev pub WithBehind : Instance → (List Instance → Type 0) → List Instance → Type 0
WithBehind instance Behind instances = (more : List Instance) × Behind more × (instances ≡ instance ∷ more)

-- an instance, and after it what the body begins where the window begins at once
abbrev pub BeginsAlways : (low : ℕ) → Instance → (List Instance → Type 0) → List Instance → Type 0
BeginsAlways zero instance Body instances = WithBehind instance Body instances
BeginsAlways (suc low) instance Body instances = instances ≡ instance ∷ []

-- what a plan of a rule begins where it is begun at the last position, under a valuation. Of two sides the first one
-- of these that lacks nothing is taken: the right one if it does not look ahead, the left one if it does not, the
-- right one, the left one; and nothing is begun where both miss something
abbrev pub Begun : List Step → (rule : ℕ) → Plan → Valuation → List Instance → Type 0
Begun trace rule (Both node left right) v instances =
    (first rest : List Instance) × Begun trace rule left v first × Begun trace rule right v rest
    × (instances ≡ first ++ rest)
Begun trace rule (Either node left right) v instances = TakesPresent trace right v (Begun trace rule right v instances)
    (TakesPresent trace left v (Begun trace rule left v instances)
    (TakesOrElse trace right v (Begun trace rule right v instances)
    (TakesOrElse trace left v (Begun trace rule left v instances) (instances ≡ []))))
Begun trace rule (TestOr node guard test body) v instances = (HoldsLast trace v test × (instances ≡ []))
    ⊎ ((HoldsLast trace v test → ⊥) × Begun trace rule body v instances)
Begun trace rule (Guarded node xs guard test body) v instances =
    (rows : List (List Value)) × AreGuardRows trace v xs test rows
    × Gathers (λ row. Begun trace rule body (with_values xs row v)) rows instances
Begun trace rule (EventuallyPlan node place low high body) v instances =
    BeginsOrWaits trace low body v (Begun trace rule body v instances)
    (instances ≡ begun_now trace rule node low high v ∷ [])
Begun trace rule (AlwaysPlan node place low high body) v instances =
    BeginsAlways low (begun_now trace rule node low high v) (Begun trace rule body v) instances
Begun trace rule (UntilPlan node place low high left right) v instances =
    BeginsOrWaits trace low right v (Begun trace rule right v instances)
    (WithBehind (begun_now trace rule node low high v) (Begun trace rule left v) instances)
Begun trace rule (NextPlan node place high body) v instances = instances ≡ begun_now trace rule node 0 high v ∷ []
Begun trace rule plan v instances = instances ≡ []

-- ---- Why an action is done at a step, and why a step is inserted: for what is owed and would otherwise be lost.

-- the time below which no time comes after a step of a kind at a time: a system step, or an inserted one
abbrev pub floor : StepKind → (time : ℕ) → ℕ
floor System time = time
floor Inserted time = time + 1

-- a leaf wants the literal under a valuation
abbrev pub IsWantedBy : Plan → Valuation → Literal → Type 0
IsWantedBy (CausePlan node place name terms) v literal = (literal.kind ≡ kind.Cause) × (literal.leaf ≡ node)
    × OfEvent name (values_of_terms v terms) (λ event. literal.event ≡ event)
IsWantedBy (SuppressPlan node place name terms) v literal = (literal.kind ≡ kind.Suppress) × (literal.leaf ≡ node)
    × OfEvent name (values_of_terms v terms) (λ event. literal.event ≡ event)
IsWantedBy plan v literal = ⊥

-- what is to hold leads to a leaf at the last position, which wants the literal
pub record ServesLiteral (trace : List Step) (clock : ℕ) (from : Obligation) (literal : Literal) : Type 0 where
  pub leaf : Plan
  pub valuation : Valuation
  pub moves : List Obligation
  pub leads : LeadsThrough trace clock from moves (obligation leaf valuation (last_position trace))
  pub wanted : IsWantedBy leaf valuation literal

-- what an action does
abbrev pub literal_of : Action → Literal
literal_of action = record { kind = action.kind; event = action.event; leaf = action.leaf }

-- the node of an action is the root of its rule's plan, begun at the step itself, or an operator on the future that
-- was begun before the step
abbrev pub IsBegunFor : (position : ℕ) → Plan → Action → Type 0
IsBegunFor position node action = ((action.node ≡ 0) × (action.origin ≡ position) × (action.valuation ≡ no_values))
    ⊎ (IsTrue (is_future node) × (action.origin < position))

-- after a trace, a step of a kind, as it stood before the action, left no other way: the node for which the action is
-- done is owed and would be lost, and it leads to what the action does
pub record IsJustified (plans : List Plan) (trace : List Step) (kind : StepKind) (step : Step) (action : Action)
    : Type 0 where
  pub time : action.time ≡ step.time
  pub position : action.position ≡ length trace
  pub node : Plan
  pub named : node_in plans action.rule action.node ≡ Some node
  pub begun : IsBegunFor (length trace) node action
  pub owed : IsOwed plans (trace ++ step ∷ []) (floor kind step.time) action.rule node action.valuation action.origin
  pub lost : IsLost (trace ++ step ∷ []) (floor kind step.time) node action.valuation action.origin
  pub serves : ServesLiteral (trace ++ step ∷ []) (floor kind step.time)
      (obligation node action.valuation action.origin) (literal_of action)

-- a step that is inserted after a trace at a time is needed: a node with this time as its deadline is owed, and it is
-- lost where no step comes at that time
pub record IsNeeded (plans : List Plan) (trace : List Step) (time : ℕ) : Type 0 where
  pub rule : ℕ
  pub node : Plan
  pub valuation : Valuation
  pub origin : ℕ
  pub deadline : IsTrue (has_deadline node)
  pub is_now : (step_at trace origin).time + window_end node ≡ time
  pub owed : IsOwed plans trace (time + 1) rule node valuation origin
  pub lost : IsLost trace (time + 1) node valuation origin
