-- Those that sleep are told of the events of one action after another.
use Rattle.choice_step.proofs.Vocabulary.{◌≡◌, ◌∙◌, ℕ, ◌+◌, ◌<◌, ◌≤◌, List, [], ◌∷◌, ◌++◌, ap, arith, drop, drop_all, get_or, length, refl, subst, sym, take, take_all, take_more, Action, Event, LiteralKind}
use Rattle.std.proofs.lemmas.List.{length-take-le}
use Rattle.obligations.specs.declared.literals.LiteralKind.TheVariants as kind
use Rattle.pending.specs.machine.AskedEntries.{AskingList, RousesAsking}
use Rattle.choice_step.specs.machine.Turns.{RousesEach, caused_first, events_caused}
use Rattle.choice_step.proofs.MovedLemmas.{drop_push}

-- ---- of one action

pub told_of_one : (k : LiteralKind) (event : Event) (before after : AskingList) → k ≡ kind.Cause → RousesAsking event before after
    → RousesEach (caused_first k event []) before after
told_of_one k event before after is rouses = subst (λ l. RousesEach (caused_first l event []) before after) (sym is) (after, rouses, refl)

pub told_of_none : (k : LiteralKind) (event : Event) (before after : AskingList) → k ≡ kind.Suppress → after ≡ before
    → RousesEach (caused_first k event []) before after
told_of_none k event before after is same = subst (λ l. RousesEach (caused_first l event []) before after) (sym is) same

-- ---- of one more

each_then : (events more : List Event) (first before after : AskingList) → RousesEach events first before → RousesEach more before after
    → RousesEach (events ++ more) first after
each_then [] more first before after same each = subst (λ (a : AskingList). RousesEach more a after) same each
each_then (event ∷ events) more first before after (between, rouses, rest) each = (between, rouses, each_then events more between before after rest each)

caused_behind : (k : LiteralKind) (event : Event) (events more : List Event) → caused_first k event (events ++ more) ≡ caused_first k event events ++ more
caused_behind kind.Cause event events more = refl
caused_behind kind.Suppress event events more = refl

caused_push : (actions : List Action) (action : Action) → events_caused (actions ++ action ∷ []) ≡ events_caused actions ++ caused_first action.kind action.event []
caused_push [] action = refl
caused_push (a ∷ actions) action =
    ap (caused_first a.kind a.event) (caused_push actions action) ∙ caused_behind a.kind a.event (events_caused actions) (caused_first action.kind action.event [])

-- so many of the actions, from one on
abbrev pub caused_between : List Action → (start end : ℕ) → List Event
caused_between actions start end = events_caused (drop start (take end actions))

pub told_of_nobody : (actions : List Action) (start : ℕ) (before : AskingList) → start ≤ length actions → RousesEach (caused_between actions start start) before before
told_of_nobody actions start before within =
    subst (λ l. RousesEach (events_caused l) before before) (sym (drop_all start (take start actions) (omega (arith, length-take-le start actions within)))) refl

pub told_of_more : (actions : List Action) (start at : ℕ) (action : Action) (first before after : AskingList) → start ≤ at → at < length actions
    → action ≡ get_or actions at action → RousesEach (caused_between actions start at) first before
    → RousesEach (caused_first action.kind action.event []) before after → RousesEach (caused_between actions start (at + 1)) first after
told_of_more actions start at action first before after from within is each more =
    let taken : take (at + 1) actions ≡ take at actions ++ action ∷ [] = take_more actions at action within ∙ ap (λ a. take at actions ++ a ∷ []) (sym is) in
    let many : length (take at actions) ≡ at = length-take-le at actions (omega (arith, within)) in
    let left : drop start (take (at + 1) actions) ≡ drop start (take at actions) ++ action ∷ [] =
    ap (drop start) taken ∙ drop_push (take at actions) action start (omega (arith, from, many)) in
    let caused : caused_between actions start (at + 1) ≡ caused_between actions start at ++ caused_first action.kind action.event [] =
    ap events_caused left ∙ caused_push (drop start (take at actions)) action in
    subst (λ l. RousesEach l first after) (sym caused)
    (each_then (caused_between actions start at) (caused_first action.kind action.event []) first before after each more)

pub told_of_all : (actions : List Action) (start end : ℕ) (first after : AskingList) → length actions ≤ end → RousesEach (caused_between actions start end) first after
    → RousesEach (events_caused (drop start actions)) first after
told_of_all actions start end first after many each =
    subst (λ l. RousesEach (events_caused (drop start l)) first after) (take_all end actions many) each
