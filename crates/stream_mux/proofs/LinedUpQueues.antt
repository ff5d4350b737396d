-- Queues of steps that stand in one list: what is taken out first is the first of the list.
use Rattle.enf_data.proofs.ListFacts.{nil_not_cons}
use Rattle.enf_data.proofs.Lists.{AllByRecursion-append, AllByRecursion-weaker}
use Rattle.log_stream.specs.declared.items.LogItem.{LogItem}
use Rattle.std.proofs.Common.{ap, append_assoc, append-nil, arith, refl, subst, sym, true≢false, ◌∙◌, inl, inr, ⊎_elim, suc, zero}
use Rattle.std.proofs.lemmas.Bool.{eqb-true, eqb-false, false_from_ne_true}
use Rattle.std.proofs.lemmas.List.{get_or-set_other, get_or-set_same, length-map, map-append}
use Rattle.std.proofs.lemmas.Option.{none-some, same_Some}
use Rattle.std.specs.List.{AllByRecursion}
use Rattle.std.specs.Prelude.{ℕ, List, [], ◌∷◌, ◌++◌, ◌≡◌, ◌≢◌, ◌<◌, ◌≤◌, Bool, true, false, ◌==◌, cond, drop, length}
use Rattle.std.specs.Prelude.{Option, None, Some, get_or, set}
use Rattle.stream_mux.proofs.MergeOrder.{lex, lex_at_least, lex_both, lex_far}
use Rattle.stream_mux.proofs.MergedLists.{first_is_first, items_other, items_own}
use Rattle.stream_mux.proofs.ReleasedSteps.{pass_from_lex, pass_is_lex}
use Rattle.stream_mux.specs.declared.turns.Turn.{Turn}
use Rattle.stream_mux.specs.machine.MuxQueues.{AreLinedUp, GivesFront, HoldsBack, IsBehind, TakesFirst, front_time, front_times}
use Rattle.stream_mux.specs.machine.MuxQueues.{is_up_to_turn, passes_up_to, queue_of}
use Rattle.stream_mux.specs.machine.Turns.{IsFirstTurn, is_earlier}
use Rattle.stream_mux.specs.meaning.MergedStreams.{StreamStep, is_before, items_from, items_in_order, lets_pass}
use Rattle.stream_mux.specs.meaning.MergedStreams.{shown_time, time_of_step}

front_at : (queues : List (List LogItem)) (k : ℕ) → get_or (front_times queues) k None ≡ front_time (queue_of queues k)
front_at [] k = refl
front_at (q ∷ queues) zero = refl
front_at (q ∷ queues) (suc k) = front_at queues k

-- the first of a list of steps is in front of its queue
front_of_first : (queues : List (List LogItem)) (s : StreamStep) (l : List StreamStep) → AreLinedUp queues (s ∷ l)
    → get_or (front_times queues) s.stream None ≡ Some (time_of_step s)
front_of_first queues s l lined = front_at queues s.stream ∙ ap front_time (lined.streams s.stream ∙ items_own s.stream s l refl)

-- and so no turn is before it
first_turn_is_first : (queues : List (List LogItem)) (s : StreamStep) (l : List StreamStep) (turn : Turn) → AreLinedUp queues (s ∷ l)
    → IsFirstTurn (front_times queues) (Some turn) → lex (time_of_step s) s.stream turn.time turn.stream ≡ false
first_turn_is_first queues s l turn lined first =
    lex_at_least (time_of_step s) s.stream turn.time turn.stream
    (⊎_elim inl (λ (h : (turn.time ≡ time_of_step s) × (turn.stream ≤ s.stream)). inr (sym h.0, h.1))
    (first.2 s.stream (time_of_step s) (front_of_first queues s l lined)))

-- ---- What is taken.

passes_with : (bound : Option Turn) (turn : Turn) (s : StreamStep) → time_of_step s ≡ turn.time → s.stream ≡ turn.stream
    → is_up_to_turn bound turn ≡ true → passes_up_to bound s ≡ true
passes_with None turn s p q h = refl
passes_with (Some bound) turn s p q h = by (is_earlier bound turn) refl h
  where
    by : (b : Bool) → is_earlier bound turn ≡ b → cond b false true ≡ true → lets_pass bound.stream (Some bound.time) s ≡ true
    by true e h = absurd (true≢false (sym h))
    by false e h = pass_from_lex bound.stream bound.time (time_of_step s) s.stream
        ((λ i. lex bound.time bound.stream (p i) (q i)) ∙ e)

-- the item that is taken is that of the first step
pub record TakesStep (bound : Option Turn) (queues : List (List LogItem)) (l : List StreamStep) (item : LogItem)
    (queues' : List (List LogItem)) : Type 0 where
  pub step : StreamStep
  pub rest : List StreamStep
  pub parts : l ≡ step ∷ rest
  pub item_is : step.item ≡ item
  pub passes : passes_up_to bound step ≡ true
  pub lined_up : AreLinedUp queues' rest

taken_first : (bound : Option Turn) (queues queues' : List (List LogItem)) (s : StreamStep) (l : List StreamStep) (item : LogItem)
    → AreLinedUp queues (s ∷ l) → TakesFirst bound queues item queues' → TakesStep bound queues (s ∷ l) item queues'
taken_first bound queues queues' s l item lined takes =
    let turn = takes.turn in
    let k = turn.stream in
    let items : items_from k (s ∷ l) ≡ item ∷ takes.rest = sym (lined.streams k) ∙ takes.queue in
    let time : shown_time item ≡ turn.time =
    same_Some (shown_time item) turn.time (sym (ap front_time takes.queue) ∙ sym (front_at queues k) ∙ takes.first.0) in
    let behind = first_is_first k s l item takes.rest lined.ordered items in
    let front = first_turn_is_first queues s l turn lined takes.first in
    let same = lex_both (time_of_step s) s.stream (shown_time item) k
    (ap (λ t. lex (time_of_step s) s.stream t k) time ∙ front) behind in
    let parts = sym (items_own k s l same.1) ∙ items in
    let within : k < length queues = omega (arith, takes.first.1, length-map queues front_time) in
    record {
      step = s;
      rest = l;
      parts = refl;
      item_is = ap (λ is. get_or is 0 item) parts;
      passes = passes_with bound turn s (same.0 ∙ time) same.1 takes.passes;
      lined_up = record {
        ordered = lined.ordered.1;
        streams = λ j. ap (λ qs. queue_of qs j) takes.after ∙ by j within (ap (drop 1) parts) same.1 (j == k) refl;
      };
    }
  where
    by : (j : ℕ) → takes.turn.stream < length queues → items_from takes.turn.stream l ≡ takes.rest → s.stream ≡ takes.turn.stream
        → (b : Bool) → (j == takes.turn.stream) ≡ b
        → queue_of (set queues takes.turn.stream takes.rest) j ≡ items_from j l
    by j within rest same true e =
        let here : j ≡ takes.turn.stream = eqb-true j takes.turn.stream e in
        subst (λ n. queue_of (set queues takes.turn.stream takes.rest) n ≡ items_from n l) (sym here)
        (get_or-set_same queues takes.turn.stream takes.rest [] within ∙ sym rest)
    by j within rest same false e =
        let apart : j ≢ takes.turn.stream = eqb-false j takes.turn.stream e in
        get_or-set_other queues takes.turn.stream j takes.rest [] apart ∙ lined.streams j
        ∙ items_other j s l (λ here. apart (sym here ∙ same))

pub takes_step : (bound : Option Turn) (queues queues' : List (List LogItem)) (l : List StreamStep) (item : LogItem)
    → AreLinedUp queues l → TakesFirst bound queues item queues' → TakesStep bound queues l item queues'
takes_step bound queues queues' [] item lined takes =
    absurd (nil_not_cons item takes.rest (sym (lined.streams takes.turn.stream) ∙ takes.queue))
takes_step bound queues queues' (s ∷ l) item lined takes = taken_first bound queues queues' s l item lined takes

-- ---- What stays.

fails_behind : (bound turn : Turn) (z : StreamStep) → is_earlier bound turn ≡ true
    → lex (time_of_step z) z.stream turn.time turn.stream ≡ false → lets_pass bound.stream (Some bound.time) z ≡ false
fails_behind bound turn z front behind =
    false_from_ne_true (lets_pass bound.stream (Some bound.time) z)
    (λ passes. true≢false (sym front ∙ lex_far bound.time bound.stream (time_of_step z) z.stream turn.time turn.stream
    (pass_is_lex bound.stream bound.time (time_of_step z) z.stream passes) behind))

held_behind : (bound : Option Turn) (turn : Turn) (z : StreamStep) → is_up_to_turn bound turn ≡ false
    → lex (time_of_step z) z.stream turn.time turn.stream ≡ false → passes_up_to bound z ≡ false
held_behind None turn z up behind = absurd (true≢false up)
held_behind (Some bound) turn z up behind = by (is_earlier bound turn) refl up
  where
    by : (b : Bool) → is_earlier bound turn ≡ b → cond b false true ≡ false → lets_pass bound.stream (Some bound.time) z ≡ false
    by true e h = fails_behind bound turn z e behind
    by false e h = absurd (true≢false h)

held_first : (bound front : Option Turn) (queues : List (List LogItem)) (s : StreamStep) (l : List StreamStep)
    → AreLinedUp queues (s ∷ l) → IsFirstTurn (front_times queues) front → IsBehind bound front
    → AllByRecursion (λ z. passes_up_to bound z ≡ false) (s ∷ l)
held_first bound None queues s l lined first behind =
    absurd (none-some (time_of_step s) (sym (first s.stream) ∙ front_of_first queues s l lined))
held_first bound (Some turn) queues s l lined first behind =
    let here = first_turn_is_first queues s l turn lined first in (
      held_behind bound turn s behind here,
      AllByRecursion-weaker (λ z. is_before z s ≡ false) (λ z. passes_up_to bound z ≡ false) l
          (λ z later. held_behind bound turn z behind
          (lex_far (time_of_step z) z.stream (time_of_step s) s.stream turn.time turn.stream later here)) lined.ordered.0,
    )

pub all_held : (bound : Option Turn) (queues : List (List LogItem)) (l : List StreamStep) → AreLinedUp queues l
    → HoldsBack bound queues → AllByRecursion (λ z. passes_up_to bound z ≡ false) l
all_held bound queues [] lined holds = tt
all_held bound queues (s ∷ l) lined holds = held_first bound holds.front queues s l lined holds.first holds.behind

-- ---- What is given, one item after another.

pub gives_nothing : (bound : Option Turn) (l : List StreamStep) (given : List LogItem) (queues : List (List LogItem))
    → AreLinedUp queues l → GivesFront bound l given given queues
gives_nothing bound l given queues lined =
    record { front = []; left = l; parts = refl; gives = sym (append-nil given); gone = tt; lined_up = lined }

pub gives_more : (bound : Option Turn) (l : List StreamStep) (given so_far : List LogItem) (queues queues' : List (List LogItem))
    (item : LogItem) → GivesFront bound l given so_far queues → TakesFirst bound queues item queues'
    → GivesFront bound l given (so_far ++ item ∷ []) queues'
gives_more bound l given so_far queues queues' item gives takes =
    let next = takes_step bound queues queues' gives.left item gives.lined_up takes in
    record {
      front = gives.front ++ next.step ∷ [];
      left = next.rest;
      parts = gives.parts ∙ ap (λ r. gives.front ++ r) next.parts ∙ sym (append_assoc gives.front (next.step ∷ []) next.rest);
      gives = ap (λ is. is ++ item ∷ []) gives.gives ∙ append_assoc given (items_in_order gives.front) (item ∷ [])
          ∙ ap (λ i. given ++ (items_in_order gives.front ++ i ∷ [])) (sym next.item_is)
          ∙ ap (λ is. given ++ is) (sym (map-append (λ (step : StreamStep). step.item) gives.front (next.step ∷ [])));
      gone = AllByRecursion-append (λ step. passes_up_to bound step ≡ true) gives.front (next.step ∷ []) gives.gone (next.passes, tt);
      lined_up = next.lined_up;
    }
