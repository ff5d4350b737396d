-- The events at each point of a step are among those at its beginning and those of its actions.
use Rattle.choice_step.proofs.Vocabulary.{Contains-append, later, first_or_later, here, none_in_nil, Event, subst, sym, ⊎_elim, Contains-append_left, Contains-append_right, Plan, Action, LiteralKind}
use Rattle.choice_step.proofs.Vocabulary.{Acts, ActsFrom, all_events}
use Rattle.std.specs.Prelude.{List, Contains, [], ◌∷◌, ◌++◌, ◌≡◌, map}
use Rattle.obligations.specs.declared.literals.LiteralKind.TheVariants as kind

abbrev pub IsAmongAll : (events more : List Event) → Type 0
IsAmongAll events more = (event : Event) → Contains events event → Contains more event

acted_once : (plans : List Plan) (k : LiteralKind) (event : Event) (before after : List Event)
    → Acts plans k event before after → IsAmongAll after (before ++ event ∷ [])
acted_once plans kind.Cause event before after acts e there = subst (λ (l : List Event). Contains l e) acts.2 there
acted_once plans kind.Suppress event before after acts e there =
    let taken = acts.1 in
    Contains-append_left before (event ∷ []) e
    (subst (λ (l : List Event). Contains l e) (sym taken.was)
    (⊎_elim (λ front. Contains-append_left taken.front (event ∷ taken.back) e front)
    (λ back. Contains-append_right taken.front (event ∷ taken.back) e (later e event taken.back back))
    (Contains-append taken.front taken.back e (subst (λ (l : List Event). Contains l e) taken.is there))))

pub acted_among : (plans : List Plan) (before : List Event) (actions : List Action) (after : List Event)
    → ActsFrom plans before actions after → IsAmongAll after (all_events before actions)
acted_among plans before [] after same event there =
    Contains-append_left before [] event (subst (λ (l : List Event). Contains l event) same there)
acted_among plans before (action ∷ actions) after (between, acts, more) event there = ⊎_elim
    (λ front. ⊎_elim
    (λ old. Contains-append_left before (action.event ∷ map (λ (a : Action). a.event) actions) event old)
    (λ new. Contains-append_right before (action.event ∷ map (λ (a : Action). a.event) actions) event
    (⊎_elim (λ (same : action.event ≡ event).
    subst (Contains (action.event ∷ map (λ (a : Action). a.event) actions)) same
    (here action.event (map (λ (a : Action). a.event) actions)))
    (λ none. absurd (none_in_nil event none)) (first_or_later event action.event [] new)))
    (Contains-append before (action.event ∷ []) event
    (acted_once plans action.kind action.event before between acts event front)))
    (λ acted. Contains-append_right before (action.event ∷ map (λ (a : Action). a.event) actions) event
    (later event action.event (map (λ (a : Action). a.event) actions) acted))
    (Contains-append between (map (λ (a : Action). a.event) actions) event
    (acted_among plans between actions after more event there))
