-- The finitely many events on which one can act at a step: those of the leaves of plans over some values, and the given ones.
use Rattle.choice_step.proofs.Vocabulary.{◌≡◌, ℕ, List, [], ◌∷◌, ◌++◌, length, map, Contains, sym, subst, ⊎_elim, flat_map, map-append, Contains-append_left, Contains-append_right}
use Rattle.choice_step.proofs.Vocabulary.{Contains-push_cases, Contains-map, Event, Value, Contains-insert, Contains-flat_map, IsArgument, IsCaused, IsSuppressed, NothingClashes, nodes, Plan}
use Rattle.choice_step.proofs.Vocabulary.{CausePlan, SuppressPlan, Both, Either, TestOr, Guarded, EventuallyPlan, AlwaysPlan, UntilPlan, NextPlan, ChangesEvents, IsLeaf, Action, LiteralKind, Applies}
use Rattle.choice_step.proofs.Vocabulary.{HasActionRole}
use Rattle.choice_step.proofs.FiniteListLemmas.{in_rows_over, rows_over}
use Rattle.obligations.specs.declared.literals.LiteralKind.TheVariants as kind

-- ---- the events of the leaves that cause

abbrev pub leaf_events : List Value → Plan → List Event
leaf_events values (CausePlan node place name terms) = map (λ args. record { name = name; args = args }) (rows_over values (length terms))
leaf_events values plan = []

is_event_of : (values : List Value) (leaf : Plan) (number : ℕ) (event : Event) → IsLeaf leaf kind.Cause number event
    → ((value : Value) → Contains event.args value → Contains values value) → Contains (leaf_events values leaf) event
is_event_of values (CausePlan node place name terms) number event is known =
    let made : List Value → Event = λ args. record { name = name; args = args } in
    let there : Contains (rows_over values (length terms)) event.args =
    subst (λ n. Contains (rows_over values n) event.args) is.3 (in_rows_over values event.args known)
    in
    let same : made event.args ≡ event = λ i. record { name = sym is.2 i; args = event.args } in
    subst (Contains (map made (rows_over values (length terms)))) same (Contains-map made (rows_over values (length terms)) event.args there)
is_event_of values (SuppressPlan node place name terms) number event is known = cc
is_event_of values (Both node left right) number event is known = absurd is
is_event_of values (Either node left right) number event is known = absurd is
is_event_of values (TestOr node guard test body) number event is known = absurd is
is_event_of values (Guarded node xs guard test body) number event is known = absurd is
is_event_of values (EventuallyPlan node place low high body) number event is known = absurd is
is_event_of values (AlwaysPlan node place low high body) number event is known = absurd is
is_event_of values (UntilPlan node place low high left right) number event is known = absurd is
is_event_of values (NextPlan node place high body) number event is known = absurd is

-- the arguments of the events are among the values
abbrev pub AreOfValues : List Value → List Event → Type 0
AreOfValues values events = (value : Value) → IsArgument events value → Contains values value

pub more_values : (values : List Value) (k : LiteralKind) (event : Event) (events after : List Event) → AreOfValues values events
    → ((value : Value) → Contains event.args value → Contains values value) → Applies k event events after
    → AreOfValues values after
more_values values kind.Cause event events after are known is value (e, there, arg) =
    ⊎_elim
    (λ before. are value (e, before, arg))
    (λ same. known value (subst (λ (x : Event). Contains x.args value) (sym same) arg))
    (Contains-push_cases events event e (subst (λ l. Contains l e) is there))
more_values values kind.Suppress event events after are known taken value (e, there, arg) =
    are value (e, subst (λ l. Contains l e) (sym taken.was) (Contains-insert taken.front taken.back event e (subst (λ l. Contains l e) taken.is there)), arg)

module _ (plans : List Plan) where
  abbrev candidates : List Value → List Event
  candidates values = flat_map (leaf_events values) (flat_map nodes plans)

  -- what may be acted on where the values are these
  abbrev pub possible_over : List Value → (given : List Event) → List Event
  possible_over values given = candidates values ++ given

  abbrev pub ArePossible : List Value → (given : List Event) → List Action → Type 0
  ArePossible values given actions = (event : Event) → Contains (map (λ (a : Action). a.event) actions) event
      → Contains (possible_over values given) event

  -- of the events with names that are suppressed each was given
  abbrev pub AreGiven : (given events : List Event) → Type 0
  AreGiven given events = (event : Event) → Contains events event → IsSuppressed plans event.name → Contains given event

  pub still_given : NothingClashes plans → (k : LiteralKind) (event : Event) (given events after : List Event)
      → AreGiven given events → HasActionRole plans k event.name → Applies k event events after → AreGiven given after
  still_given nothing kind.Cause event given events after are role is e there suppressed =
      ⊎_elim
      (λ before. are e before suppressed)
      (λ same. absurd (nothing e.name (subst (λ (x : Event). IsCaused plans x.name) same role, suppressed)))
      (Contains-push_cases events event e (subst (λ l. Contains l e) is there))
  still_given nothing kind.Suppress event given events after are role taken e there suppressed =
      are e (subst (λ l. Contains l e) (sym taken.was) (Contains-insert taken.front taken.back event e (subst (λ l. Contains l e) taken.is there))) suppressed

  pub is_possible : (values : List Value) (k : LiteralKind) (event : Event) (leaf : Plan) (number : ℕ) (given events : List Event)
      → Contains (flat_map nodes plans) leaf → IsLeaf leaf k number event → ChangesEvents k event events
      → HasActionRole plans k event.name → AreGiven given events
      → ((value : Value) → Contains event.args value → Contains values value) → Contains (possible_over values given) event
  is_possible values kind.Cause event leaf number given events there is changes role are known =
      Contains-append_left (candidates values) given event
      (Contains-flat_map (leaf_events values) (flat_map nodes plans) leaf event there (is_event_of values leaf number event is known))
  is_possible values kind.Suppress event leaf number given events there is changes role are known =
      Contains-append_right (candidates values) given event (are event changes role)

  -- one action more
  pub more_possible : (values : List Value) (given : List Event) (actions : List Action) (action : Action)
      → ArePossible values given actions → Contains (possible_over values given) action.event
      → ArePossible values given (actions ++ action ∷ [])
  more_possible values given actions action are this event there =
      ⊎_elim
      (λ before. are event before)
      (λ same. subst (Contains (possible_over values given)) same this)
      (Contains-push_cases (map (λ (a : Action). a.event) actions) action.event event
      (subst (λ l. Contains l event) (map-append (λ (a : Action). a.event) actions (action ∷ [])) there))
