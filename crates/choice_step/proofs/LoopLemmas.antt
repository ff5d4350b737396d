-- What the choice loop keeps from round to round, and why it ends.
use Rattle.choice_step.proofs.Vocabulary.{◌≡◌, ℕ, ◌≤◌, Bool, List, [], ◌∷◌, ◌++◌, None, Some, length, map, Contains, refl, sym, subst, ap, ◌∙◌, arith, append-nil, append_assoc, flat_map, here}
use Rattle.choice_step.proofs.Vocabulary.{none_in_nil, HasNoRepeats, Event, NameId, Step, Value, from_flat_map, Contains-flat_map, last_time, Past, PastStands, IsCaused, IsSuppressed, NothingClashes}
use Rattle.choice_step.proofs.Vocabulary.{caused_at, caused_below, suppressed_at, suppressed_below, nodes, Plan, CausePlan, SuppressPlan, Both, Either, TestOr, Guarded, EventuallyPlan, AlwaysPlan}
use Rattle.choice_step.proofs.Vocabulary.{UntilPlan, NextPlan, ChangesEvents, IsLeaf, Action, Instance, Literal, LiteralKind, Applies, Candidate, Decides, Root, Waiting, action_at, Acts, ActsFrom}
use Rattle.choice_step.proofs.Vocabulary.{HasActionRole, WillDecide, AreAskedActions, all_events, ActsInTurn, IsWantedFrom, WillFind}
use Rattle.choice_step.proofs.ActedEventLaws.{IsAmongAll}
use Rattle.choice_step.proofs.ActionChainLemmas.{once}
use Rattle.choice_step.proofs.AskedLeafLemmas.{all_more, asked_more, asked_none, leaf_wider}
use Rattle.choice_step.proofs.FiniteListLemmas.{few_among}
use Rattle.choice_step.proofs.PossibleEventLemmas.{AreGiven, AreOfValues, ArePossible, is_possible, more_possible, more_values, possible_over, still_given}
use Rattle.choice_step.proofs.KnownValueLemmas.{given_values, in_universe, possible, universe}
use Rattle.obligations.specs.declared.literals.LiteralKind.TheVariants as kind

-- ---- the role of a leaf

pub caused_by_leaf : (plans : List Plan) (leaf : Plan) (name : NameId) → Contains (flat_map nodes plans) leaf
    → Contains (caused_at leaf) name → IsCaused plans name
caused_by_leaf plans leaf name there is =
    let plan = from_flat_map nodes plans leaf there in
    Contains-flat_map caused_below plans plan.0 name plan.1 (Contains-flat_map caused_at (nodes plan.0) leaf name plan.2 is)

pub suppressed_by_leaf : (plans : List Plan) (leaf : Plan) (name : NameId) → Contains (flat_map nodes plans) leaf
    → Contains (suppressed_at leaf) name → IsSuppressed plans name
suppressed_by_leaf plans leaf name there is =
    let plan = from_flat_map nodes plans leaf there in
    Contains-flat_map suppressed_below plans plan.0 name plan.1 (Contains-flat_map suppressed_at (nodes plan.0) leaf name plan.2 is)

pub role_of_leaf : (plans : List Plan) (leaf : Plan) (k : LiteralKind) (number : ℕ) (event : Event)
    → Contains (flat_map nodes plans) leaf → IsLeaf leaf k number event → HasActionRole plans k event.name
role_of_leaf plans (CausePlan node place name terms) k number event there is =
    let caused : IsCaused plans event.name =
    caused_by_leaf plans (CausePlan node place name terms) event.name there (subst (λ n. Contains (name ∷ []) n) (sym is.2) (here name []))
    in
    subst (λ l. HasActionRole plans l event.name) (sym is.0) caused
role_of_leaf plans (SuppressPlan node place name terms) k number event there is =
    let suppressed : IsSuppressed plans event.name =
    suppressed_by_leaf plans (SuppressPlan node place name terms) event.name there (subst (λ n. Contains (name ∷ []) n) (sym is.2) (here name []))
    in
    subst (λ l. HasActionRole plans l event.name) (sym is.0) suppressed
role_of_leaf plans (Both node left right) k number event there is = absurd is
role_of_leaf plans (Either node left right) k number event there is = absurd is
role_of_leaf plans (TestOr node guard test body) k number event there is = absurd is
role_of_leaf plans (Guarded node xs guard test body) k number event there is = absurd is
role_of_leaf plans (EventuallyPlan node place low high body) k number event there is = absurd is
role_of_leaf plans (AlwaysPlan node place low high body) k number event there is = absurd is
role_of_leaf plans (UntilPlan node place low high left right) k number event there is = absurd is
role_of_leaf plans (NextPlan node place high body) k number event there is = absurd is

pub acts_of : (plans : List Plan) (k : LiteralKind) (event : Event) (events after : List Event) → HasActionRole plans k event.name
    → ChangesEvents k event events → Applies k event events after → Acts plans k event events after
acts_of plans kind.Cause event events after role changes applies = (role, changes, applies)
acts_of plans kind.Suppress event events after role changes applies = (role, applies)

pub acts_more : (plans : List Plan) (given : List Event) (actions : List Action) (action : Action) (events after : List Event)
    → ActsFrom plans given actions events → Acts plans action.kind action.event events after
    → ActsFrom plans given (actions ++ action ∷ []) after
acts_more plans given [] action events after is acts =
    (after, subst (λ l. Acts plans action.kind action.event l after) is acts, refl)
acts_more plans given (first ∷ actions) action events after (between, does, more) acts =
    (between, does, acts_more plans between actions action events after more acts)

pub kind_is : (time position : ℕ) (asked : Candidate) (literal : Literal) → (action_at time position asked literal).kind ≡ literal.kind
kind_is time position (Waiting i) literal = refl
kind_is time position (Root rule plan) literal = refl

pub event_is : (time position : ℕ) (asked : Candidate) (literal : Literal) → (action_at time position asked literal).event ≡ literal.event
event_is time position (Waiting i) literal = refl
event_is time position (Root rule plan) literal = refl

as_many : (actions : List Action) → length (map (λ (a : Action). a.event) actions) ≡ length actions
as_many [] = refl
as_many (a ∷ actions) = omega (arith, as_many actions)

-- no event is acted on twice, so there are no more actions than events on which one could act
pub few_actions : (plans : List Plan) → NothingClashes plans → (values : List Value) (given : List Event) (actions : List Action)
    (events : List Event) → HasNoRepeats given → ActsFrom plans given actions events → ArePossible plans values given actions
    → length actions ≤ length (possible_over plans values given)
few_actions plans nothing values given actions events distinct acts are =
    let events_are = few_among (map (λ (a : Action). a.event) actions) (possible_over plans values given) (once plans nothing given actions events distinct acts) are in
    omega (arith, as_many actions, events_are)

-- ---- a round

module _ (plans : List Plan) (pending : List Instance) (past : Past) where
  -- the values at a step that begins with these events
  abbrev values_at : List Event → List Value
  values_at given = universe plans pending past given

  pub record Keeps (inserted : Bool) (time position : ℕ) (given : List Event) (actions : List Action) (events : List Event) : Type 0 where
    pub distinct : HasNoRepeats given
    pub acts : ActsFrom plans given actions events
    pub values : AreOfValues (values_at given) events
    pub suppressed : AreGiven plans given events
    pub possible : ArePossible plans (values_at given) given actions
    pub asked : AreAskedActions plans pending given actions
    pub decides : (trace : List Step) → PastStands trace past → length trace ≡ position → last_time trace ≤ time
        → (more : List Action) (after : List Event) → Decides plans trace pending inserted time events more after
        → Decides plans trace pending inserted time given (actions ++ more) after

  pub keeps_first : (inserted : Bool) (time position : ℕ) (given : List Event) → HasNoRepeats given
      → Keeps inserted time position given [] given
  keeps_first inserted time position given distinct = record {
    distinct = distinct;
    acts = refl;
    values = given_values plans pending past given;
    suppressed = λ event there suppressed. there;
    possible = λ event there. absurd (none_in_nil event there);
    asked = asked_none plans pending given;
    decides = λ trace stands long later more after decided. decided;
  }

  keeps_more : NothingClashes plans → (inserted : Bool) (time position : ℕ) (given : List Event) (actions : List Action)
      (action : Action) (base events after : List Event) → AreOfValues (values_at given) base
      → IsAmongAll base (all_events given actions) → Keeps inserted time position given actions events
      → WillFind plans pending past inserted time position events (Some action)
      → IsWantedFrom plans pending past base events action → Applies action.kind action.event events after
      → Keeps inserted time position given (actions ++ action ∷ []) after
  keeps_more nothing inserted time position given actions action base events after base_values base_among keeps finds wanted applies =
      let role = role_of_leaf plans wanted.leaf action.kind action.leaf action.event wanted.there wanted.is in
      let known : (value : Value) → Contains action.event.args value → Contains (values_at given) value =
      λ value arg. in_universe plans pending past base value (wanted.known value arg) given base_values
      in
      let this =
      is_possible plans (values_at given) action.kind action.event wanted.leaf action.leaf given events wanted.there wanted.is wanted.changes role keeps.suppressed known
      in
      record {
        distinct = keeps.distinct;
        acts = acts_more plans given actions action events after keeps.acts (acts_of plans action.kind action.event events after role wanted.changes applies);
        values = more_values (values_at given) action.kind action.event events after keeps.values known applies;
        suppressed = still_given plans nothing action.kind action.event given events after keeps.suppressed role applies;
        possible = more_possible plans (values_at given) given actions action keeps.possible this;
        asked = asked_more plans pending given actions action keeps.asked
            (record { leaf = wanted.leaf; is = wanted.is; asked = leaf_wider plans pending base (all_events given actions) base_among wanted.leaf wanted.asked });
        decides = λ trace stands long later more rest decided.
            let found = finds trace stands long later in
            let of_kind : action.kind ≡ found.1.kind = ap (λ (a : Action). a.kind) found.3 ∙ kind_is _ _ found.0 found.1 in
            let of_event : action.event ≡ found.1.event = ap (λ (a : Action). a.event) found.3 ∙ event_is _ _ found.0 found.1 in
            let does : Applies found.1.kind found.1.event events after =
            subst (λ k. Applies k found.1.event events after) of_kind (subst (λ e. Applies action.kind e events after) of_event applies)
            in
            subst (λ l. Decides plans trace pending inserted time given l rest) (sym (append_assoc actions (action ∷ []) more))
            (keeps.decides trace stands long later (action ∷ more) rest (found.0, found.1, after, found.2, found.3, does, decided));
      }

  -- so do actions that go on from there
  pub keeps_on : NothingClashes plans → (inserted : Bool) (time position : ℕ) (given : List Event) (actions : List Action)
      (base events : List Event) (more : List Action) (after : List Event) → AreOfValues (values_at given) base
      → IsAmongAll base (all_events given actions) → Keeps inserted time position given actions events
      → ActsInTurn plans pending past inserted time position base events more after
      → Keeps inserted time position given (actions ++ more) after
  keeps_on nothing inserted time position given actions base events [] after base_values base_among keeps is =
      subst (λ l. Keeps inserted time position given l after) (sym (append-nil actions))
      (subst (Keeps inserted time position given actions) (sym is) keeps)
  keeps_on nothing inserted time position given actions base events (action ∷ more) after base_values base_among keeps (between, finds, wanted, applies, goes) =
      subst (λ l. Keeps inserted time position given l after) (append_assoc actions (action ∷ []) more)
      (keeps_on nothing inserted time position given (actions ++ action ∷ []) base between more after base_values
      (λ event there. all_more given actions action event (base_among event there))
      (keeps_more nothing inserted time position given actions action base events between base_values base_among keeps finds wanted applies) goes)

  pub few : NothingClashes plans → (inserted : Bool) (time position : ℕ) (given : List Event) (actions : List Action) (events : List Event)
      → Keeps inserted time position given actions events → length actions ≤ length (possible plans pending past given)
  few nothing inserted time position given actions events keeps =
      few_actions plans nothing (values_at given) given actions events keeps.distinct keeps.acts keeps.possible

  pub will_decide : (inserted : Bool) (time position : ℕ) (given : List Event) (actions : List Action) (events : List Event)
      → Keeps inserted time position given actions events → WillFind plans pending past inserted time position events None
      → WillDecide plans pending past inserted time position given actions events
  will_decide inserted time position given actions events keeps finds trace stands long later =
      subst (λ l. Decides plans trace pending inserted time given l events) (append-nil actions)
      (keeps.decides trace stands long later [] events (refl, finds trace stands long later))
