-- That something is done at each step: the choice loop over a trace, which ends as it does over a past state.
use Rattle.choice_step.proofs.Vocabulary.{◌≡◌, ℕ, zero, suc, ◌+◌, ◌≤◌, Bool, true, false, List, [], ◌∷◌, ◌++◌, length, map, Contains, refl, sym, subst, ap, inl, inr, ⊎_elim, ◌⊎◌, arith, true≢false}
use Rattle.choice_step.proofs.Vocabulary.{length-append, AllByRecursion, flat_map, list_any, Contains-append_left, Contains-append_right, Contains-push_cases, step_at, Contains-stable}
use Rattle.choice_step.proofs.Vocabulary.{list_any-Decides, AllByRecursion-append, AllByRecursion-weaker, first_or_later, here, later, none_in_nil, value_eq, value_eq-Decides, HasNoRepeats, TakesOut}
use Rattle.choice_step.proofs.Vocabulary.{Valuation, no_values, Event, Step, Const, VarId, Value, Contains-flat_map, Formula, Classically, IsArgument, NothingClashes, nodes, Plan, CanAskPlan}
use Rattle.choice_step.proofs.Vocabulary.{CanAskOf, CanAskRoots, ChangesEvents, IsBound, IsLeaf, terms_of, time_now, last_position, MissingExists, MissingOfExists, IsKnownOn, IsOwnLiteral}
use Rattle.choice_step.proofs.Vocabulary.{MissedAreOwn, MissedOfAreOwn, Action, Instance, Literal, LiteralKind, Applies, Candidate, Decides as DecidesStep, IsFirstMissing, CandidateMisses}
use Rattle.choice_step.proofs.Vocabulary.{MissesNothing, Root, Waiting, action_for, all_asked, is_forced, roots_from, trace_with_step, Acts, ActsFrom, SomeDecision}
use Rattle.std.specs.Bool.{Decides}
use Rattle.choice_step.proofs.UniquenessLemmas.{first_is_wanted, last_step}
use Rattle.choice_step.proofs.KeptValueLemmas.{constant_of, constants_in, constants_of_each}
use Rattle.choice_step.proofs.FirstActionLemmas.{node_below, nothing_bound}
use Rattle.choice_step.proofs.LoopLemmas.{acts_more, acts_of, event_is, few_actions, kind_is, role_of_leaf}
use Rattle.choice_step.proofs.PossibleEventLemmas.{AreGiven, AreOfValues, ArePossible, is_possible, more_possible, more_values, possible_over, still_given}
use Rattle.choice_step.proofs.KnownValueLemmas.{arguments_of, bound_is_there, bound_values, leaf_constants}
use Rattle.choice_step.proofs.WantedActionLemmas.{WantedAs}
use Rattle.obligations.specs.declared.literals.LiteralKind.TheVariants as kind

-- ---- lists

-- a value that cannot be missing from a list is there
value_stable : (values : List Value) (value : Value) → Classically (Contains values value) → Contains values value
value_stable values value is = by (list_any (value_eq value) values) (list_any-Decides value_eq value_eq-Decides values value)
  where
    by : (b : Bool) → Decides b (Contains values value) → Contains values value
    by true decides = decides.0 refl
    by false decides = absurd (is (λ there. true≢false (sym (decides.1 there))))

-- what is there can be taken out
takes_out : (event : Event) (events : List Event) → Contains events event → (after : List Event) × TakesOut event events after
takes_out event [] there = absurd (none_in_nil event there)
takes_out event (e ∷ events) there =
    ⊎_elim
    (λ (same : e ≡ event). (events, record { front = []; back = events; was = λ i. same i ∷ events; is = refl }))
    (λ behind. let rest = takes_out event events behind in (
      e ∷ rest.0,
      record { front = e ∷ rest.1.front; back = rest.1.back; was = λ i. e ∷ rest.1.was i; is = λ i. e ∷ rest.1.is i },
    ))
    (first_or_later event e events there)

-- an argument of the step at a position is one of some step
of_some_step : (steps : List Step) (position : ℕ) (value : Value) → IsArgument (step_at steps position).events value
    → (step : Step) × Contains steps step × IsArgument step.events value
of_some_step [] position value (event, there, arg) = absurd (none_in_nil event there)
of_some_step (step ∷ steps) zero value argument = (step, here step steps, argument)
of_some_step (step ∷ steps) (suc position) value argument =
    let found = of_some_step steps position value argument in (found.0, later found.0 step steps found.1, found.2)

-- what is done changes the events
applies_exists : (k : LiteralKind) (event : Event) (events : List Event) → ChangesEvents k event events
    → (after : List Event) × Applies k event events after
applies_exists kind.Cause event events changes = (events ++ event ∷ [], refl)
applies_exists kind.Suppress event events changes = takes_out event events changes

wanted_changes : (k : LiteralKind) (event : Event) (trace : List Step) (events : List Event)
    → (step_at trace (last_position trace)).events ≡ events → WantedAs trace k event → ChangesEvents k event events
wanted_changes kind.Cause event trace events is wanted = subst (λ l. Contains l event → ⊥) is wanted
wanted_changes kind.Suppress event trace events is wanted =
    subst (λ l. Contains l event) is (Contains-stable (step_at trace (last_position trace)).events event wanted)

-- ---- a step after a trace

module _ (guards : List (Formula × List VarId)) (plans : List Plan) (trace : List Step) (pending : List Instance)
    (inserted : Bool) (time : ℕ) where
  -- the values at a step that begins with these events
  abbrev earlier : List Value
  earlier = flat_map (λ (s : Step). arguments_of s.events) trace

  abbrev bound : List Value
  bound = flat_map (λ (i : Instance). bound_values i.valuation) pending

  abbrev constants : List Value
  constants = flat_map constants_in (map (λ (g : Formula × List VarId). g.0) guards)

  abbrev of_leaves : List Value
  of_leaves = flat_map leaf_constants (flat_map nodes plans)

  abbrev values_at : List Event → List Value
  values_at given = bound ++ (arguments_of given ++ (earlier ++ (constants ++ of_leaves)))

  abbrev now : List Event → List Step
  now events = trace_with_step trace time events

  argument_is_there : (given events : List Event) → AreOfValues (values_at given) events → (position : ℕ) (value : Value)
      → IsArgument (step_at (now events) position).events value → Contains (values_at given) value
  argument_is_there given events are position value argument =
      let found = of_some_step (now events) position value argument in
      ⊎_elim
      (λ before. Contains-append_right bound (arguments_of given ++ (earlier ++ (constants ++ of_leaves))) value
      (Contains-append_right (arguments_of given) (earlier ++ (constants ++ of_leaves)) value
      (Contains-append_left earlier (constants ++ of_leaves) value
      (Contains-flat_map (λ (s : Step). arguments_of s.events) trace found.0 value before
      (Contains-flat_map (λ (e : Event). e.args) found.0.events found.2.0 value found.2.1 found.2.2)))))
      (λ (same : record { time = time; events = events } ≡ found.0). are value (subst (λ (s : Step). IsArgument s.events value) (sym same) found.2))
      (Contains-push_cases trace (record { time = time; events = events }) found.0 found.1)

  -- what is known is one of the values, where what is bound is
  known_is_there : (given events : List Event) → AreOfValues (values_at given) events → (plan : Plan) (v : Valuation)
      → ((leaf : Plan) → Contains (nodes plan) leaf → Contains (flat_map nodes plans) leaf)
      → ((value : Value) → IsBound v value → Contains bound value) → (value : Value)
      → Classically (IsKnownOn guards (now events) plan v value) → Contains (values_at given) value
  known_is_there given events are plan v inside binds value known =
      value_stable (values_at given) value (λ not. known (λ k. not (⊎_elim
      (λ is_bound. Contains-append_left bound (arguments_of given ++ (earlier ++ (constants ++ of_leaves))) value (binds value is_bound))
      (λ others. ⊎_elim
      (λ argument. argument_is_there given events are argument.0 value argument.2)
      (λ others. Contains-append_right bound (arguments_of given ++ (earlier ++ (constants ++ of_leaves))) value
      (Contains-append_right (arguments_of given) (earlier ++ (constants ++ of_leaves)) value
      (Contains-append_right earlier (constants ++ of_leaves) value (⊎_elim
      (λ constant. Contains-append_left constants of_leaves value (constants_of_each (map (λ (g : Formula × List VarId). g.0) guards) value constant))
      (λ leaf. Contains-append_right constants of_leaves value
      (Contains-flat_map leaf_constants (flat_map nodes plans) leaf.0 value (inside leaf.0 leaf.1)
      (Contains-flat_map constant_of (terms_of leaf.0) (Const value) value leaf.2 (here value []))))
      others))))
      others)
      k)))

  -- ---- who is asked

  -- a literal of a leaf of the plans, whose values are among these
  pub record IsOver (values : List Value) (literal : Literal) : Type 0 where
    pub leaf : Plan
    pub there : Contains (flat_map nodes plans) leaf
    pub is : IsLeaf leaf literal.kind literal.leaf literal.event
    pub known : (value : Value) → Contains literal.event.args value → Contains values value

  own_is_over : (given events : List Event) → AreOfValues (values_at given) events → (plan : Plan) (v : Valuation)
      → ((leaf : Plan) → Contains (nodes plan) leaf → Contains (flat_map nodes plans) leaf)
      → ((value : Value) → IsBound v value → Contains bound value) → (literal : Literal)
      → IsOwnLiteral guards (now events) plan v literal → IsOver (values_at given) literal
  own_is_over given events are plan v inside binds literal own = record {
    leaf = own.leaf;
    there = inside own.leaf own.there;
    is = own.is;
    known = λ value arg. known_is_there given events are plan v inside binds value (own.known value arg);
  }

  -- each can be asked, and is one of the plans' or of the pending instances
  abbrev IsAsked : Candidate → Type 0
  IsAsked (Waiting i) = CanAskOf guards plans i × Contains pending i
  IsAsked (Root rule plan) = CanAskPlan guards plan no_values × Contains plans plan

  waiting_are : (some : List Instance) → AllByRecursion (CanAskOf guards plans) some
      → ((i : Instance) → Contains some i → Contains pending i) → AllByRecursion IsAsked (map Waiting some)
  waiting_are [] can inside = tt
  waiting_are (i ∷ some) can inside =
      ((can.0, inside i (here i some)), waiting_are some can.1 (λ j there. inside j (later j i some there)))

  roots_are : (rule : ℕ) (some : List Plan) → CanAskRoots guards some → ((p : Plan) → Contains some p → Contains plans p)
      → AllByRecursion IsAsked (roots_from rule some)
  roots_are rule [] can inside = tt
  roots_are rule (plan ∷ some) can inside =
      ((can.0.0, inside plan (here plan some)), roots_are (suc rule) some can.1 (λ p there. inside p (later p plan some there)))

  all_are : CanAskRoots guards plans → AllByRecursion (CanAskOf guards plans) pending
      → AllByRecursion IsAsked (all_asked plans pending)
  all_are roots can =
      AllByRecursion-append IsAsked (map Waiting pending) (roots_from 0 plans)
      (waiting_are pending can (λ i there. there)) (roots_are 0 plans roots (λ p there. there))

  module _ (misses : MissingExists) (misses_of : MissingOfExists) (own : MissedAreOwn) (own_of : MissedOfAreOwn)
      (given events : List Event) (are : AreOfValues (values_at given) events) where
    missed : (asked : Candidate) → IsAsked asked
        → (literals : List Literal) × CandidateMisses plans inserted (now events) asked literals × AllByRecursion (IsOver (values_at given)) literals
    missed (Waiting i) (can, there) =
        let forced = is_forced inserted (time_now (now events)) i in
        let some = misses_of guards plans (now events) i forced can in (
          some.0,
          some.1,
          AllByRecursion-weaker (IsOwnLiteral guards (now events) can.node i.valuation) (IsOver (values_at given)) some.0
              (own_is_over given events are can.node i.valuation (λ leaf below. node_below plans i can.node leaf can.found below)
              (λ value is. Contains-flat_map (λ (j : Instance). bound_values j.valuation) pending i value there (bound_is_there i.valuation value is)))
              (own_of guards plans (now events) i forced some.0 can.node can can.found some.1),
        )
    missed (Root rule plan) (can, there) =
        let some = misses guards (now events) plan no_values can in (
          some.0,
          some.1,
          AllByRecursion-weaker (IsOwnLiteral guards (now events) plan no_values) (IsOver (values_at given)) some.0
              (own_is_over given events are plan no_values (λ leaf below. Contains-flat_map nodes plans plan leaf there below)
              (λ value is. absurd (nothing_bound value is)))
              (own guards (now events) plan no_values some.0 can some.1),
        )

    -- none misses anything, or there is a first that does
    abbrev Found : List Candidate → Type 0
    Found all = (asked : Candidate) × (literal : Literal) × IsFirstMissing plans inserted (now events) all asked literal
        × IsOver (values_at given) literal

    none_or_first : (all : List Candidate) → AllByRecursion IsAsked all
        → AllByRecursion (MissesNothing plans inserted (now events)) all ⊎ Found all
    none_or_first [] each = inl tt
    none_or_first (asked ∷ others) each =
        let some = missed asked each.0 in by some.0 some.1 some.2 (none_or_first others each.1)
      where
        by : (literals : List Literal) → CandidateMisses plans inserted (now events) asked literals
            → AllByRecursion (IsOver (values_at given)) literals
            → AllByRecursion (MissesNothing plans inserted (now events)) others ⊎ Found others
            → AllByRecursion (MissesNothing plans inserted (now events)) (asked ∷ others) ⊎ Found (asked ∷ others)
        by [] nothing over behind =
            ⊎_elim
            (λ none. inl (nothing, none))
            (λ found. inr (found.0, found.1, inr (nothing, found.2), found.3))
            behind
        by (literal ∷ rest) some over behind = inr (asked, literal, inl (refl, rest, some), over.0)

  -- ---- the loop

  module _ (misses : MissingExists) (misses_of : MissingOfExists) (own : MissedAreOwn) (own_of : MissedOfAreOwn)
      (nothing : NothingClashes plans) (each : AllByRecursion IsAsked (all_asked plans pending)) (given : List Event)
      (distinct : HasNoRepeats given) where
    record Keeps (actions : List Action) (events : List Event) : Type 0 where
      acts : ActsFrom plans given actions events
      values : AreOfValues (values_at given) events
      suppressed : AreGiven plans given events
      possible : ArePossible plans (values_at given) given actions

    abbrev most : ℕ
    most = length (possible_over plans (values_at given) given)

    abbrev Decided : List Event → Type 0
    Decided events = (more : List Action) × (after : List Event) × DecidesStep plans trace pending inserted time events more after

    -- an action more
    more_kept : (actions : List Action) (events : List Event) → Keeps actions events → (asked : Candidate) (literal : Literal)
        → IsFirstMissing plans inserted (now events) (all_asked plans pending) asked literal → IsOver (values_at given) literal
        → (after : List Event) × Applies literal.kind literal.event events after
        × Keeps (actions ++ action_for (now events) asked literal ∷ []) after
    more_kept actions events keeps asked literal first over =
        let action : Action = action_for (now events) asked literal in
        let of_kind : action.kind ≡ literal.kind = kind_is (time_now (now events)) (last_position (now events)) asked literal in
        let of_event : action.event ≡ literal.event = event_is (time_now (now events)) (last_position (now events)) asked literal in
        let last : (step_at (now events) (last_position (now events))).events ≡ events =
        ap (λ (s : Step). s.events) (last_step trace (record { time = time; events = events }))
        in
        let changes : ChangesEvents literal.kind literal.event events =
        wanted_changes literal.kind literal.event (now events) events last (first_is_wanted plans inserted (now events) (all_asked plans pending) asked literal first)
        in
        let applied = applies_exists literal.kind literal.event events changes in
        let role = role_of_leaf plans over.leaf literal.kind literal.leaf literal.event over.there over.is in
        let there : Contains (possible_over plans (values_at given) given) literal.event =
        is_possible plans (values_at given) literal.kind literal.event over.leaf literal.leaf given events over.there over.is changes role keeps.suppressed over.known
        in
        let acts = acts_of plans literal.kind literal.event events applied.0 role changes applied.1 in (
          applied.0,
          applied.1,
          record {
            acts = acts_more plans given actions action events applied.0 keeps.acts
                (subst (λ l. Acts plans l action.event events applied.0) (sym of_kind)
                (subst (λ e. Acts plans literal.kind e events applied.0) (sym of_event) acts));
            values = more_values (values_at given) literal.kind literal.event events applied.0 keeps.values over.known applied.1;
            suppressed = still_given plans nothing literal.kind literal.event given events applied.0 keeps.suppressed role applied.1;
            possible = more_possible plans (values_at given) given actions action keeps.possible (subst (Contains (possible_over plans (values_at given) given)) (sym of_event) there);
          },
        )

    -- there are no more actions than events on which one could act, so there is a last one
    goes_on : (left : ℕ) (actions : List Action) (events : List Event) → Keeps actions events → most ≤ length actions + left
        → Decided events
    goes_on zero actions events keeps enough =
        ⊎_elim
        (λ none. ([], events, (refl, none)))
        (λ found.
        let next = more_kept actions events keeps found.0 found.1 found.2 found.3 in
        let action : Action = action_for (now events) found.0 found.1 in
        let few = few_actions plans nothing (values_at given) given (actions ++ action ∷ []) next.0 distinct next.2.acts next.2.possible in
        absurd (omega (arith, few, enough, length-append actions (action ∷ []))))
        (none_or_first misses misses_of own own_of given events keeps.values (all_asked plans pending) each)
    goes_on (suc left) actions events keeps enough =
        ⊎_elim
        (λ none. ([], events, (refl, none)))
        (λ found.
        let next = more_kept actions events keeps found.0 found.1 found.2 found.3 in
        let action : Action = action_for (now events) found.0 found.1 in
        let rest = goes_on left (actions ++ action ∷ []) next.0 next.2 (omega (arith, enough, length-append actions (action ∷ []))) in
        (action ∷ rest.0, rest.1, (found.0, found.1, next.0, found.2, refl, next.1, rest.2)))
        (none_or_first misses misses_of own own_of given events keeps.values (all_asked plans pending) each)

    given_are : AreOfValues (values_at given) given
    given_are value (event, there, arg) =
        Contains-append_right bound (arguments_of given ++ (earlier ++ (constants ++ of_leaves))) value
        (Contains-append_left (arguments_of given) (earlier ++ (constants ++ of_leaves)) value
        (Contains-flat_map (λ (e : Event). e.args) given event value there arg))

    from_the_start : Decided given
    from_the_start =
        goes_on most [] given
        (record {
          acts = refl;
          values = given_are;
          suppressed = λ event there suppressed. there;
          possible = λ event there. absurd (none_in_nil event there);
        })
        (omega arith)

pub some_decision : MissingExists → MissingOfExists → MissedAreOwn → MissedOfAreOwn → SomeDecision
some_decision misses misses_of own own_of guards plans trace pending inserted time before nothing roots can distinct =
    from_the_start guards plans trace pending inserted time misses misses_of own own_of nothing (all_are guards plans trace pending inserted time roots can) before distinct
