-- The marks of the open streams: what they let go, the least of them, and how an offer changes them.
use Rattle.std.proofs.Common.{ap, arith, refl, subst, sym, true≢false, ◌∙◌, inl, inr, ⊎_elim, suc, zero}
use Rattle.std.proofs.lemmas.Bool.{eqb-true, eqb-false, false_from_ne_true}
use Rattle.std.proofs.lemmas.List.{get_or-set_other, get_or-set_same, length-set}
use Rattle.std.proofs.lemmas.List.FromFn.{fill_by_all, get_or-map-range_with_len, length-map-range_with_len}
use Rattle.std.proofs.lemmas.Option.{none-some, same_Some}
use Rattle.std.specs.Option.{option_map}
use Rattle.std.specs.Prelude.{ℕ, List, [], ◌∷◌, ◌≡◌, ◌≢◌, ◌<◌, ◌≤◌, ◌⊎◌, Bool, true, false, ◌==◌, min, Option, None, Some, get_or, set}
use Rattle.stream_mux.proofs.MergeOrder.{lex_at_least, lex_far}
use Rattle.stream_mux.proofs.ReleasedSteps.{may_go_all, may_go_at, open_other, open_own, pass_from_lex, pass_is_lex}
use Rattle.stream_mux.specs.declared.records.Tagged.{Tagged}
use Rattle.stream_mux.specs.declared.turns.Turn.{Turn}
use Rattle.stream_mux.specs.machine.MuxQueues.{passes_up_to}
use Rattle.stream_mux.specs.machine.MuxStates.{mark_left}
use Rattle.stream_mux.specs.machine.Turns.{IsFirstTurn, IsNotBefore, time_of_turn}
use Rattle.stream_mux.specs.meaning.MergedStreams.{StreamStep, is_closed, least_mark, lesser_mark, lets_pass, may_go, open_mark, open_marks}
use Rattle.stream_mux.specs.meaning.MergedStreams.{time_of_step}

pub at_open : (n : ℕ) (history : List Tagged) (k : ℕ) → k < n → get_or (open_marks n history) k None ≡ open_mark history k
at_open n history k below = get_or-map-range_with_len (open_mark history) 0 n k k None below (omega arith)

-- ---- The first turn of the marks tells what may go.

-- a mark that is not before another lets pass what that one lets pass
passes_behind : (turn : Turn) (k : ℕ) (mark : Option ℕ) (y : StreamStep) → lets_pass turn.stream (Some turn.time) y ≡ true
    → ((m : ℕ) → mark ≡ Some m → IsNotBefore m k turn) → lets_pass k mark y ≡ true
passes_behind turn k None y passes behind = refl
passes_behind turn k (Some m) y passes behind =
    pass_from_lex k m (time_of_step y) y.stream
    (lex_far m k turn.time turn.stream (time_of_step y) y.stream
    (lex_at_least m k turn.time turn.stream
    (⊎_elim inl (λ (h : (turn.time ≡ m) × (turn.stream ≤ k)). inr (sym h.0, h.1)) (behind m refl)))
    (pass_is_lex turn.stream turn.time (time_of_step y) y.stream passes))

pub bound_tells : (n : ℕ) (history : List Tagged) (bound : Option Turn) → IsFirstTurn (open_marks n history) bound
    → (y : StreamStep) → may_go n history y ≡ passes_up_to bound y
bound_tells n history None first y =
    may_go_all n history y (λ k below. ap (λ m. lets_pass k m y) (sym (at_open n history k below) ∙ first k))
bound_tells n history (Some turn) first y = by (lets_pass turn.stream (Some turn.time) y) refl
  where
    within : turn.stream < n
    within = omega (arith, first.1, length-map-range_with_len (open_mark history) 0 n)

    by : (b : Bool) → lets_pass turn.stream (Some turn.time) y ≡ b → may_go n history y ≡ b
    by true e = may_go_all n history y
        (λ k below. passes_behind turn k (open_mark history k) y e (λ m is. first.2 k m (at_open n history k below ∙ is)))
    by false e = false_from_ne_true (may_go n history y)
        (λ goes. true≢false (sym (subst (λ m. lets_pass turn.stream m y ≡ true) (sym (at_open n history turn.stream within) ∙ first.0)
        (may_go_at n history y goes turn.stream within)) ∙ e))

-- ---- And it is at the least mark.

least_there : (marks : List (Option ℕ)) (o : ℕ) → least_mark marks ≡ Some o → (j : ℕ) × (get_or marks j None ≡ Some o)
least_there [] o e = absurd (none-some o e)
least_there (None ∷ marks) o e = let there = least_there marks o e in (suc there.0, there.1)
least_there (Some f ∷ marks) o e = by (least_mark marks) refl e (least_there marks)
  where
    lesser : (l : ℕ) → Some (min f l) ≡ Some o → ((j : ℕ) × (get_or marks j None ≡ Some l)) → (Bool)
        → (j : ℕ) × (get_or (Some f ∷ marks) j None ≡ Some o)
    lesser l e there b = ⊎_elim
        (λ (h : f ≤ l). (0, ap (λ (x : ℕ). Some x) {x = f} {y = o} (let m = same_Some (min f l) o e in omega (arith, m, h))))
        (λ (h : l ≤ f). (suc there.0, there.1 ∙ ap (λ (x : ℕ). Some x) {x = l} {y = o} (let m = same_Some (min f l) o e in omega (arith, m, h))))
        (let either : (f ≤ l) ⊎ (l ≤ f) = grind arith in either)

    by : (least : Option ℕ) → least_mark marks ≡ least → lesser_mark (Some f) least ≡ Some o
        → ((o : ℕ) → least_mark marks ≡ Some o → (j : ℕ) × (get_or marks j None ≡ Some o))
        → (j : ℕ) × (get_or (Some f ∷ marks) j None ≡ Some o)
    by None is e rest = (0, e)
    by (Some l) is e rest = lesser l e (rest l is) true

least_none : (marks : List (Option ℕ)) → ((s : ℕ) → get_or marks s None ≡ None) → least_mark marks ≡ None
least_none [] none = refl
least_none (mark ∷ marks) none =
    ap (λ m. lesser_mark m (least_mark marks)) (none 0) ∙ least_none marks (λ s. none (suc s))

least_some : (marks : List (Option ℕ)) (k m : ℕ) → get_or marks k None ≡ Some m
    → ((j t : ℕ) → get_or marks j None ≡ Some t → m ≤ t) → least_mark marks ≡ Some m
least_some [] k m there low = absurd (none-some m there)
least_some (mark ∷ marks) zero m there low =
    ap (λ o. lesser_mark o (least_mark marks)) there ∙ by (least_mark marks) refl
  where
    by : (least : Option ℕ) → least_mark marks ≡ least → lesser_mark (Some m) least ≡ Some m
    by None is = refl
    by (Some l) is =
        let behind = least_there marks l is in
        let above : m ≤ l = low (suc behind.0) l behind.1 in
        ap (λ (x : ℕ). Some x) {x = min m l} {y = m} (omega (arith, above))
least_some (mark ∷ marks) (suc k) m there low =
    ap (lesser_mark mark) (least_some marks k m there (λ j t h. low (suc j) t h)) ∙ by mark refl
  where
    by : (first : Option ℕ) → mark ≡ first → lesser_mark first (Some m) ≡ Some m
    by None is = refl
    by (Some f) is =
        let above : m ≤ f = low 0 f is in
        ap (λ (x : ℕ). Some x) {x = min f m} {y = m} (omega (arith, above))

pub least_of_first : (marks : List (Option ℕ)) (bound : Option Turn) → IsFirstTurn marks bound
    → least_mark marks ≡ option_map time_of_turn bound
least_of_first marks None first = least_none marks first
least_of_first marks (Some turn) first =
    least_some marks turn.stream turn.time first.0
    (λ j t h. ⊎_elim (λ (less : turn.time < t). omega (arith, less)) (λ (tied : (turn.time ≡ t) × (turn.stream ≤ j)). omega (arith, tied.0))
    (first.2 j t h))

-- ---- What an offer leaves of them.

pub next_marks : (n : ℕ) (before : List Tagged) (last : Tagged) → last.stream < n → is_closed before last.stream ≡ false
    → set (open_marks n before) last.stream (mark_left last.offer) ≡ open_marks n (last ∷ before)
next_marks n before last within is_open =
    fill_by_all (open_mark (last ∷ before)) (set (open_marks n before) last.stream (mark_left last.offer)) n None
    (length-set (open_marks n before) last.stream (mark_left last.offer) ∙ length-map-range_with_len (open_mark before) 0 n)
    (λ k below. by k below (k == last.stream) refl)
  where
    by : (k : ℕ) → k < n → (b : Bool) → (k == last.stream) ≡ b
        → get_or (set (open_marks n before) last.stream (mark_left last.offer)) k None ≡ open_mark (last ∷ before) k
    by k below true e =
        subst (λ j. get_or (set (open_marks n before) last.stream (mark_left last.offer)) j None ≡ open_mark (last ∷ before) j)
        (sym (eqb-true k last.stream e))
        (get_or-set_same (open_marks n before) last.stream (mark_left last.offer) None
        (omega (arith, within, length-map-range_with_len (open_mark before) 0 n)) ∙ sym (open_own before last is_open))
    by k below false e =
        let apart : k ≢ last.stream = eqb-false k last.stream e in
        get_or-set_other (open_marks n before) last.stream k (mark_left last.offer) None apart
        ∙ at_open n before k below ∙ sym (open_other before last k (λ h. apart (sym h)))
