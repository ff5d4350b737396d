-- What follows of actions that lead from events to events.
use Rattle.choice_step.proofs.Vocabulary.{◌≡◌, Bool, IsTrue, List, [], ◌∷◌, ◌++◌, map, Contains, refl, sym, subst, ⊎_elim, AllByRecursion, All-from_recursion, Contains-append_left}
use Rattle.choice_step.proofs.Vocabulary.{Contains-append_right, Contains-push, Contains-push_cases, Contains-append, first_or_later, here, none_in_nil, HasNoRepeats-middle, HasNoRepeats-push}
use Rattle.choice_step.proofs.Vocabulary.{HasNoRepeats, TakesOut, Event, NameId, Contains-insert, without_middle, Changes, IsCause, event_of, IsCaused, IsSuppressed, NothingClashes, Plan, LiteralKind}
use Rattle.choice_step.proofs.Vocabulary.{Cause, Suppress, Acts, ActsFrom, HasActionRole, change_by, change_of, ActionsAreLawful, CausesAlone, EventsAreActedOnOnce, Action}

-- ---- lists without repeats

pub not_behind : {X : Type 0} (xs ys : List X) (x : X) → HasNoRepeats (xs ++ x ∷ ys) → Contains ys x → ⊥
not_behind [] ys x distinct there = distinct.0 there
not_behind (y ∷ xs) ys x distinct there = not_behind xs ys x distinct.1 there

-- ---- actions

module _ (plans : List Plan) (nothing : NothingClashes plans) where
  -- an event whose name is caused is not one whose name is suppressed
  apart : (event other : Event) → IsCaused plans event.name → IsSuppressed plans other.name → other ≡ event → ⊥
  apart event other caused suppressed same =
      nothing event.name (caused, subst (λ (e : Event). IsSuppressed plans e.name) same suppressed)

  -- an event on which no action of this kind can be taken any more
  abbrev IsSpent : LiteralKind → Event → List Event → Type 0
  IsSpent Cause event events = Contains events event
  IsSpent Suppress event events = Contains events event → ⊥

  role_of : (kind : LiteralKind) (event : Event) (before between : List Event) → Acts plans kind event before between
      → HasActionRole plans kind event.name
  role_of Cause event before between acts = acts.0
  role_of Suppress event before between acts = acts.0

  taken_is_there : (event : Event) (before between : List Event) → TakesOut event before between → Contains before event
  taken_is_there event before between taken =
      subst (λ l. Contains l event) (sym taken.was) (Contains-append_right taken.front (event ∷ taken.back) event (here event taken.back))

  stays_spent : (kind other_kind : LiteralKind) (event other : Event) (before between : List Event)
      → HasActionRole plans kind event.name → IsSpent kind event before → Acts plans other_kind other before between
      → IsSpent kind event between
  stays_spent Cause Cause event other before between role there acts =
      subst (λ l. Contains l event) (sym acts.2) (Contains-append_left before (other ∷ []) event there)
  stays_spent Cause Suppress event other before between role there (suppressed, taken) =
      subst (λ l. Contains l event) (sym taken.is)
      (⊎_elim
      (λ front. Contains-append_left taken.front taken.back event front)
      (λ behind. ⊎_elim
      (λ same. absurd (apart event other role suppressed same))
      (λ back. Contains-append_right taken.front taken.back event back)
      (first_or_later event other taken.back behind))
      (Contains-append taken.front (other ∷ taken.back) event (subst (λ l. Contains l event) taken.was there)))
  stays_spent Suppress Cause event other before between role absent (caused, new, is) =
      λ there. ⊎_elim
      (λ before. absent before)
      (λ same. apart other event caused role (sym same))
      (Contains-push_cases before other event (subst (λ l. Contains l event) is there))
  stays_spent Suppress Suppress event other before between role absent (suppressed, taken) =
      λ there. absent (subst (λ l. Contains l event) (sym taken.was) (Contains-insert taken.front taken.back other event (subst (λ l. Contains l event) taken.is there)))

  acts_on_another : (kind other_kind : LiteralKind) (event other : Event) (before between : List Event)
      → HasActionRole plans kind event.name → IsSpent kind event before → Acts plans other_kind other before between
      → other ≡ event → ⊥
  acts_on_another Cause Cause event other before between role there acts same =
      acts.1 (subst (Contains before) (sym same) there)
  acts_on_another Cause Suppress event other before between role there acts same = apart event other role acts.0 same
  acts_on_another Suppress Cause event other before between role absent acts same = apart other event acts.0 role (sym same)
  acts_on_another Suppress Suppress event other before between role absent acts same =
      absent (subst (Contains before) same (taken_is_there other before between acts.1))

  abbrev pub acted : List Action → List Event
  acted actions = map (λ a. a.event) actions

  spent_is_left : (kind : LiteralKind) (event : Event) (before : List Event) (actions : List Action) (after : List Event)
      → HasActionRole plans kind event.name → IsSpent kind event before → ActsFrom plans before actions after
      → Contains (acted actions) event → ⊥
  spent_is_left kind event before [] after role spent acts there = none_in_nil event there
  spent_is_left kind event before (a ∷ actions) after role spent (between, acts, more) there =
      ⊎_elim
      (λ same. acts_on_another kind a.kind event a.event before between role spent acts same)
      (λ behind. spent_is_left kind event between actions after role (stays_spent kind a.kind event a.event before between role spent acts) more behind)
      (first_or_later event a.event (acted actions) there)

  spent_after : (kind : LiteralKind) (event : Event) (before between : List Event) → HasNoRepeats before
      → Acts plans kind event before between → IsSpent kind event between
  spent_after Cause event before between distinct acts =
      subst (λ l. Contains l event) (sym acts.2) (Contains-push before event)
  spent_after Suppress event before between distinct (role, taken) =
      λ there. let whole = subst HasNoRepeats taken.was distinct in
      ⊎_elim
      (λ front. HasNoRepeats-middle taken.front taken.back event whole front)
      (λ back. not_behind taken.front taken.back event whole back)
      (Contains-append taken.front taken.back event (subst (λ l. Contains l event) taken.is there))

  pub distinct_after : (kind : LiteralKind) (event : Event) (before between : List Event) → HasNoRepeats before
      → Acts plans kind event before between → HasNoRepeats between
  distinct_after Cause event before between distinct acts =
      subst HasNoRepeats (sym acts.2) (HasNoRepeats-push before event distinct acts.1)
  distinct_after Suppress event before between distinct (role, taken) =
      subst HasNoRepeats (sym taken.is) (without_middle taken.front taken.back event (subst HasNoRepeats taken.was distinct))

  pub once : (before : List Event) (actions : List Action) (after : List Event) → HasNoRepeats before
      → ActsFrom plans before actions after → HasNoRepeats (acted actions)
  once before [] after distinct acts = tt
  once before (a ∷ actions) after distinct (between, acts, more) = (
    spent_is_left a.kind a.event between actions after (role_of a.kind a.event before between acts) (spent_after a.kind a.event before between distinct acts) more,
    once between actions after (distinct_after a.kind a.event before between distinct acts) more,
  )

  -- where all that is there is caused, an action is a cause and leaves it so
  abbrev AreCaused : List Event → Type 0
  AreCaused events = (event : Event) → Contains events event → IsCaused plans event.name

  is_cause : (kind : LiteralKind) (event : Event) (before between : List Event) → AreCaused before
      → Acts plans kind event before between → IsCause (change_by kind event)
  is_cause Cause event before between caused acts = tt
  is_cause Suppress event before between caused acts =
      absurd (nothing event.name (caused event (taken_is_there event before between acts.1), acts.0))

  stay_caused : (kind : LiteralKind) (event : Event) (before between : List Event) → AreCaused before
      → Acts plans kind event before between → AreCaused between
  stay_caused Cause event before between caused acts other there =
      ⊎_elim
      (λ before. caused other before)
      (λ same. subst (λ (e : Event). IsCaused plans e.name) same acts.0)
      (Contains-push_cases before event other (subst (λ l. Contains l other) acts.2 there))
  stay_caused Suppress event before between caused acts other there =
      absurd (nothing event.name (caused event (taken_is_there event before between acts.1), acts.0))

  pub causes_alone : (before : List Event) (actions : List Action) (after : List Event) → AreCaused before
      → ActsFrom plans before actions after → AllByRecursion IsCause (map change_of actions)
  causes_alone before [] after caused acts = tt
  causes_alone before (a ∷ actions) after caused (between, acts, more) = (
    is_cause a.kind a.event before between caused acts,
    causes_alone between actions after (stay_caused a.kind a.event before between caused acts) more,
  )

-- the event of a change is that of its action
event_is : (kind : LiteralKind) (event : Event) → event_of (change_by kind event) ≡ event
event_is Cause event = refl
event_is Suppress event = refl

events_are : (actions : List Action) → map (λ (a : Action). a.event) actions ≡ map event_of (map change_of actions)
events_are [] = refl
events_are (a ∷ actions) = λ i. sym (event_is a.kind a.event) i ∷ events_are actions i

pub events_are_acted_on_once : EventsAreActedOnOnce
events_are_acted_on_once plans before actions after nothing distinct acts =
    subst HasNoRepeats (events_are actions) (once plans nothing before actions after distinct acts)

pub causes_are_alone : CausesAlone
causes_are_alone plans actions after nothing acts =
    All-from_recursion IsCause (map change_of actions) (causes_alone plans nothing [] actions after (λ event there. absurd (none_in_nil event there)) acts)

-- an action as a change
changes : (plans : List Plan) (causable suppressible : NameId → Bool)
    → ((name : NameId) → IsCaused plans name → IsTrue (causable name))
    → ((name : NameId) → IsSuppressed plans name → IsTrue (suppressible name))
    → (kind : LiteralKind) (event : Event) (before between : List Event) → Acts plans kind event before between
    → Changes causable suppressible (change_by kind event) before between
changes plans causable suppressible causes suppresses Cause event before between acts =
    (causes event.name acts.0, acts.1, acts.2)
changes plans causable suppressible causes suppresses Suppress event before between acts =
    (suppresses event.name acts.0, acts.1)

pub actions_are_lawful : ActionsAreLawful
actions_are_lawful plans causable suppressible before [] after causes suppresses acts = acts
actions_are_lawful plans causable suppressible before (a ∷ actions) after causes suppresses (between, acts, more) = (
  between,
  changes plans causable suppressible causes suppresses a.kind a.event before between acts,
  actions_are_lawful plans causable suppressible between actions after causes suppresses more,
)
