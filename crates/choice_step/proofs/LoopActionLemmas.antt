-- Steps that differ in the event of an action, and actions one after the other.
use Rattle.choice_step.proofs.Vocabulary.{Action, ActsInTurn, AllByRecursion, Applies, AreThoseWith, Bool, ChangesEvents, Contains, Contains-append, Contains-append_left}
use Rattle.choice_step.proofs.Vocabulary.{Contains-append_right, Contains-insert, Contains-push_cases, DiffersIn, Event, GainsNoSuppressed, HasActionRole, HaveMoreOf}
use Rattle.choice_step.proofs.Vocabulary.{Instance, IsActionFor, IsCaused, IsLiteralBehind, IsStillWanted, IsWantedFrom, List, Literal, LiteralKind, MissesNothing, Missing}
use Rattle.choice_step.proofs.Vocabulary.{NameId, NothingClashes, Past, Plan, Root, Some, Step, Waiting, WillFind, [], action_at, action_at_root, all_asked, ap, arith}
use Rattle.choice_step.proofs.Vocabulary.{at_each, first_or_later, here, inl, inr, last_position, later, length-append, map, no_values, refl, roots_from, slice_get, subst}
use Rattle.choice_step.proofs.Vocabulary.{sym, take, time_now, trace_with_step, ℕ, ⊎_elim, ◌++◌, ◌↔◌, ◌∙◌, ◌∷◌, ◌≡◌}
use Rattle.choice_step.proofs.Vocabulary.{HasNoRepeats, HasNoRepeats-middle, Contains-push}
use Rattle.choice_step.proofs.ActionChainLemmas.{not_behind}
use Rattle.choice_step.proofs.UniquenessLemmas.{last_step}
use Rattle.choice_step.proofs.FirstActionLemmas.{found_behind, root_first}
use Rattle.choice_step.proofs.LoopLemmas.{role_of_leaf}
use Rattle.obligations.specs.declared.literals.LiteralKind.TheVariants as kind

-- ---- steps that differ in the event of an action

pub others_stay : (k : LiteralKind) (event : Event) (events after : List Event) → Applies k event events after → (other : Event)
    → (other.name ≡ event.name → ⊥) → Contains events other ↔ Contains after other
others_stay kind.Cause event events after is other apart = (
  λ there. subst (λ l. Contains l other) (sym is) (Contains-append_left events (event ∷ []) other there),
  λ there. ⊎_elim
      (λ before. before)
      (λ (same : event ≡ other). absurd (apart (ap (λ (e : Event). e.name) (sym same))))
      (Contains-push_cases events event other (subst (λ l. Contains l other) is there)),
)
others_stay kind.Suppress event events after taken other apart = (
  λ there. subst (λ l. Contains l other) (sym taken.is)
      (⊎_elim
      (λ front. Contains-append_left taken.front taken.back other front)
      (λ behind. ⊎_elim
      (λ (same : event ≡ other). absurd (apart (ap (λ (e : Event). e.name) (sym same))))
      (λ back. Contains-append_right taken.front taken.back other back)
      (first_or_later other event taken.back behind))
      (Contains-append taken.front (event ∷ taken.back) other (subst (λ l. Contains l other) taken.was there))),
  λ there. subst (λ l. Contains l other) (sym taken.was) (Contains-insert taken.front taken.back event other (subst (λ l. Contains l other) taken.is there)),
)

pub more_after : (event : Event) (events after : List Event) → Applies kind.Cause event events after → (other : Event)
    → Contains events other → Contains after other
more_after event events after is other there = subst (λ l. Contains l other) (sym is) (Contains-append_left events (event ∷ []) other there)

pub fewer_after : (event : Event) (events after : List Event) → Applies kind.Suppress event events after → (other : Event)
    → Contains after other → Contains events other
fewer_after event events after taken other there =
    subst (λ l. Contains l other) (sym taken.was) (Contains-insert taken.front taken.back event other (subst (λ l. Contains l other) taken.is there))

-- of a name that is suppressed no event comes
pub gained_once : (plans : List Plan) → NothingClashes plans → (k : LiteralKind) (event : Event) (events after : List Event)
    → HasActionRole plans k event.name → Applies k event events after → GainsNoSuppressed plans events after
gained_once plans nothing kind.Cause event events after caused is other named there =
    ⊎_elim
    (λ before. before)
    (λ (same : event ≡ other). absurd (nothing other.name (subst (λ (e : Event). IsCaused plans e.name) same caused, named)))
    (Contains-push_cases events event other (subst (λ l. Contains l other) is there))
gained_once plans nothing kind.Suppress event events after role taken other named there =
    fewer_after event events after taken other there

have_more : (name : NameId) (trace : List Step) (time : ℕ) (fewer more : List Event)
    → ((other : Event) → Contains fewer other → Contains more other)
    → ((other : Event) → (other.name ≡ name → ⊥) → Contains more other → Contains fewer other)
    → HaveMoreOf name (trace_with_step trace time fewer) (trace_with_step trace time more)
have_more name trace time fewer more grows others =
    let a : Step = record { time = time; events = fewer } in
    let b : Step = record { time = time; events = more } in
    record {
      long = length-append trace (a ∷ []) ∙ sym (length-append trace (b ∷ []));
      times = at_each (λ s t. s.time ≡ t.time) (λ s. refl) a b refl trace;
      more = at_each (λ s t. (other : Event) → Contains s.events other → Contains t.events other) (λ s other there. there) a b grows trace;
      others = at_each (λ s t. (other : Event) → (other.name ≡ name → ⊥) → Contains t.events other → Contains s.events other)
          (λ s other apart there. there) a b others trace;
    }

pub differs : (k : LiteralKind) (event : Event) (events after : List Event) (trace : List Step) (time : ℕ)
    → Applies k event events after → DiffersIn k event.name (trace_with_step trace time events) (trace_with_step trace time after)
differs kind.Cause event events after trace time is =
    have_more event.name trace time events after (more_after event events after is) (λ other apart. (others_stay kind.Cause event events after is other apart).1)
differs kind.Suppress event events after trace time taken =
    have_more event.name trace time after events (fewer_after event events after taken) (λ other apart. (others_stay kind.Suppress event events after taken other apart).0)

-- an event that was acted on is not to be acted on again
pub gone : (k : LiteralKind) (event : Event) (events after : List Event) → HasNoRepeats events → Applies k event events after
    → ChangesEvents k event after → ⊥
gone kind.Cause event events after distinct is absent =
    absent (subst (λ l. Contains l event) (sym is) (Contains-push events event))
gone kind.Suppress event events after distinct taken there =
    let whole = subst HasNoRepeats taken.was distinct in
    ⊎_elim
    (λ front. HasNoRepeats-middle taken.front taken.back event whole front)
    (λ back. not_behind taken.front taken.back event whole back)
    (Contains-append taken.front taken.back event (subst (λ l. Contains l event) taken.is there))

-- ---- literals of leaves that do not want the contrary

-- what is wanted after the action was wanted before it
pub still : (k wants : LiteralKind) (event other : Event) (events after : List Event) → Applies k event events after
    → ((k ≡ wants → ⊥) → other.name ≡ event.name → ⊥) → ChangesEvents wants other after → ChangesEvents wants other events
still kind.Cause kind.Cause event other events after applies apart absent = λ there.
    absent (more_after event events after applies other there)
still kind.Cause kind.Suppress event other events after applies apart there =
    (others_stay kind.Cause event events after applies other (apart not_both)).1 there
  where
    not_both : kind.Cause ≡ kind.Suppress → ⊥
    not_both same = cc
still kind.Suppress kind.Cause event other events after applies apart absent = λ there.
    absent ((others_stay kind.Suppress event events after applies other (apart not_both)).0 there)
  where
    not_both : kind.Suppress ≡ kind.Cause → ⊥
    not_both same = cc
still kind.Suppress kind.Suppress event other events after applies apart there =
    fewer_after event events after applies other there

-- the literals with the one property, of those with the other, are all that have the one, where each that has it has
-- the other
pub those_again : (P Q : Literal → Type 0) (all some left : List Literal) → ((l : Literal) → Contains all l → Q l → P l)
    → AreThoseWith P all some → AreThoseWith Q some left → AreThoseWith Q all left
those_again P Q [] some left turn none those = subst (λ l. AreThoseWith Q l left) none those
those_again P Q (x ∷ all) some left turn those again =
    ⊎_elim
    (λ has. ⊎_elim
    (λ still. inl (still.0, still.1, those_again P Q all has.1 still.1 (λ l there. turn l (later l x all there)) has.2 still.2, still.3))
    (λ lost. inr (lost.0, those_again P Q all has.1 left (λ l there. turn l (later l x all there)) has.2 lost.1))
    (subst (λ l. AreThoseWith Q l left) has.3 again))
    (λ lacks. inr (
      (λ is. lacks.0 (turn x (here x all) is)),
      those_again P Q all some left (λ l there. turn l (later l x all there)) lacks.1 again,
    ))
    those

-- ---- the first

module _ (plans : List Plan) (inserted : Bool) (trace : List Step) where
  pub found_root : (pending : List Instance) (rule : ℕ) (plan : Plan) (literal : Literal) (more : List Literal) (action : Action)
      → slice_get plans rule ≡ Some plan → AllByRecursion (MissesNothing plans inserted trace) (map Waiting pending)
      → AllByRecursion (MissesNothing plans inserted trace) (roots_from 0 (take rule plans))
      → Missing trace plan no_values (literal ∷ more) → action ≡ action_at (time_now trace) (last_position trace) (Root rule plan) literal
      → IsActionFor plans inserted trace (all_asked plans pending) (Some action)
  found_root pending rule plan literal more action there instances roots misses is =
      found_behind plans inserted trace (map Waiting pending) (roots_from 0 plans) (Some action) instances
      (Root rule plan, literal, root_first plans inserted trace 0 rule plans rule plan literal more (omega arith) there roots misses, is)

-- ---- actions one after the other

module _ (plans : List Plan) (pending : List Instance) (past : Past) (inserted : Bool) (time position : ℕ) where
  pub goes_more : (given before : List Event) (actions : List Action) (between : List Event) (action : Action) (after : List Event)
      → ActsInTurn plans pending past inserted time position given before actions between
      → WillFind plans pending past inserted time position between (Some action)
      → IsWantedFrom plans pending past given between action → Applies action.kind action.event between after
      → ActsInTurn plans pending past inserted time position given before (actions ++ action ∷ []) after
  goes_more given before [] between action after is finds wanted applies = (
    after,
    subst (λ l. WillFind plans pending past inserted time position l (Some action)) is finds,
    subst (λ l. IsWantedFrom plans pending past given l action) is wanted,
    subst (λ l. Applies action.kind action.event l after) is applies,
    refl,
  )
  goes_more given before (a ∷ actions) between action after (next, found, is_wanted, does, more) finds wanted applies =
      (next, found, is_wanted, does, goes_more given next actions between action after more finds wanted applies)

  -- an action of a root for a literal that is wanted
  pub wanted_from : (given events : List Event) (rule : ℕ) (literal : Literal) (action : Action)
      → IsLiteralBehind plans pending past given literal → ChangesEvents literal.kind literal.event events
      → action ≡ action_at_root time position rule literal → IsWantedFrom plans pending past given events action
  wanted_from given events rule literal action literal_is changes is =
      let by : IsWantedFrom plans pending past given events (action_at_root time position rule literal) = record {
        leaf = literal_is.leaf;
        there = literal_is.there;
        asked = inl literal_is.root;
        is = literal_is.is;
        changes = changes;
        known = literal_is.known;
      } in
      subst (IsWantedFrom plans pending past given events) (sym is) by

  pub wanted_now : (trace : List Step) (events : List Event) (literal : Literal) → ChangesEvents literal.kind literal.event events
      → IsStillWanted (trace_with_step trace time events) literal
  wanted_now trace events literal changes =
      subst (λ (s : Step). ChangesEvents literal.kind literal.event s.events) (sym (last_step trace (record { time = time; events = events }))) changes

  pub changes_now : (trace : List Step) (events : List Event) (literal : Literal) → IsStillWanted (trace_with_step trace time events) literal
      → ChangesEvents literal.kind literal.event events
  changes_now trace events literal wanted =
      subst (λ (s : Step). ChangesEvents literal.kind literal.event s.events) (last_step trace (record { time = time; events = events })) wanted

  -- no event comes of a name that is suppressed
  pub none_gained : NothingClashes plans → (given before : List Event) (actions : List Action) (after : List Event)
      → ActsInTurn plans pending past inserted time position given before actions after → GainsNoSuppressed plans before after
  none_gained nothing given before [] after is event named there = subst (λ l. Contains l event) is there
  none_gained nothing given before (action ∷ actions) after (between, finds, wanted, applies, more) event named there =
      gained_once plans nothing action.kind action.event before between
      (role_of_leaf plans wanted.leaf action.kind action.leaf action.event wanted.there wanted.is) applies event named
      (none_gained nothing given between actions after more event named there)

  -- actions lead on after those that led there
  pub goes_behind : (given before : List Event) (actions : List Action) (between : List Event) (more : List Action) (after : List Event)
      → ActsInTurn plans pending past inserted time position given before actions between
      → ActsInTurn plans pending past inserted time position given between more after
      → ActsInTurn plans pending past inserted time position given before (actions ++ more) after
  goes_behind given before [] between more after is goes =
      subst (λ l. ActsInTurn plans pending past inserted time position given l more after) is goes
  goes_behind given before (a ∷ actions) between more after (next, finds, wanted, applies, rest) goes =
      (next, finds, wanted, applies, goes_behind given next actions between more after rest goes)
