-- What a window keeps is what has to be kept of the trace, also with one step more.
use Rattle.past_state.proofs.Vocabulary.{◌≡◌, ◌↔◌, ◌⊎◌, inl, inr, ⊎_elim, ℕ, zero, suc, ◌+◌, ◌-◌, ◌<◌, ◌≤◌, List, [], ◌∷◌, ◌++◌, length, Option, None, Some, refl, sym, subst, arith, step_at, IsIn}
use Rattle.past_state.proofs.Vocabulary.{IsUpTo, Valuation, Step, last_time, ChosenBy, LeastIsChosen, Window, HasRow, KeepsLeast, WindowKeeps, WindowRemembers, HeldAt, HasPairAt, IsEndedTime}
use Rattle.past_state.proofs.Vocabulary.{IsServedTime, KeptAt}
use Rattle.past_state.proofs.ChosenLemmas.{not_below, chosen_on, serves_in}
use Rattle.past_state.proofs.Decided.{stable, in_window, is_remembered}
use Rattle.past_state.proofs.HeldLemmas.{held_from, held_now, held_on}

-- a time that no step is after
pub end_of : List Step → ℕ
end_of [] = 0
end_of (step ∷ trace) = step.time + end_of trace

pub up_to_end : (trace : List Step) (k : ℕ) → k < length trace → (step_at trace k).time ≤ end_of trace
unfolding end_of
up_to_end [] k below = absurd (omega (arith, below))
up_to_end (step ∷ trace) zero below = omega arith
up_to_end (step ∷ trace) (suc k) below = omega (arith, up_to_end trace k (omega (arith, below)))

bounded : (trace : List Step) (F G : ℕ → Type 0) (time : ℕ) → HasPairAt trace F G time → time ≤ end_of trace
bounded trace F G time held = not_below time (end_of trace) (λ above. held (λ h. omega (arith, above, h.2, up_to_end trace h.0 h.1)))

module _ (law : LeastIsChosen) (trace : List Step) (step : Step) (F G F' G' : ℕ → Type 0)
    (same_F : (k : ℕ) → k < length trace → F k ↔ F' k) (same_G : (k : ℕ) → k < length trace → G k ↔ G' k)
    (last : last_time (trace ++ step ∷ []) ≡ step.time) (later : last_time trace ≤ step.time) (before after : Window) (S R : Type 0) (v : Valuation)
    (interval_is : after.interval ≡ before.interval) (last_is : after.last ≡ step.time) (is_least : KeepsLeast after)
    (from : (time : ℕ) → HasRow after v time → (HasRow before v time × S) ⊎ ((time ≡ step.time) × R))
    (serves : (time : ℕ) → (HasRow before v time × S) ⊎ ((time ≡ step.time) × R)
    → IsServedTime before.interval.high before.interval.low step.time (HasRow after v) time ⊎ IsEndedTime before.interval.high step.time time)
    (held : (time : ℕ) → HasRow before v time ↔ KeptAt trace before.interval F G time)
    (survives : (time : ℕ) → HasRow before v time → S ↔ F' (length trace)) (is_right : R ↔ G' (length trace)) where
  is_chosen : (time : ℕ) → HasRow after v time → ChosenBy before.interval.high before.interval.low step.time (HasRow after v) time
  is_chosen time there = subst (λ l. ChosenBy before.interval.high before.interval.low l (HasRow after v) time) last_is
      (subst (λ i. ChosenBy i.high i.low after.last (HasRow after v) time) interval_is (law after is_least v time there))

  pub kept_on : (time : ℕ) → HasRow after v time ↔ KeptAt (trace ++ step ∷ []) before.interval F' G' time
  kept_on time = subst (λ l. HasRow after v time ↔ (HasPairAt (trace ++ step ∷ []) F' G' time
      × ChosenBy before.interval.high before.interval.low l (HasPairAt (trace ++ step ∷ []) F' G') time)) (sym last)
      (chosen_on before.interval.high before.interval.low (last_time trace) step.time (end_of trace) (HasPairAt trace F G) (HasRow before v) (HasPairAt (trace ++ step ∷ []) F' G') (HasRow after v)
      (F' (length trace)) S R later (bounded trace F G) held survives
      (λ t there none. held_from trace step (λ earlier. earlier ≡ t) F G F' G' same_F same_G there (λ either. none (⊎_elim (λ new. inr (sym new.0, is_right.1 new.1)) (λ old. inl old) either)))
      (λ t there goes. held_on trace step (λ earlier. earlier ≡ t) F G F' G' same_F same_G there goes)
      (λ has. held_now trace step (λ earlier. earlier ≡ step.time) F G F' G' same_F same_G refl (is_right.0 has))
      from serves is_chosen (λ t. stable (in_window after v t)) time)

-- what is kept is not past the end at the last time
within : (high : Option ℕ) (low last now : ℕ) (P : ℕ → Type 0) (time : ℕ) → now ≤ last → ChosenBy high low last P time → IsUpTo high (now - time)
within None low last now P time later chosen = tt
within (Some high) low last now P time later chosen = omega (arith, later, chosen.0)

pub kept_now : (last : ℕ) (P : ℕ → Type 0) (window : Window) (v : Valuation) (time : ℕ) → HasRow window v time → window.last ≤ last
    → ChosenBy window.interval.high window.interval.low last P time → WindowKeeps window window.last v
kept_now last P window v time has later chosen = (time, (omega arith, within window.interval.high window.interval.low last window.last P time later chosen), has)

-- what is kept answers, at each time from the last one on, what held
pub remembers_held : (trace : List Step) (F G : ℕ → Type 0) (window : Window) (v : Valuation) → ((time : ℕ) → HasRow window v time ↔ KeptAt trace window.interval F G time)
    → (time : ℕ) → last_time trace ≤ time → WindowRemembers window time v ↔ HeldAt trace window.interval time F G
remembers_held trace F G window v held time later = (
  λ h none. ((held h.0).0 h.2).0 (λ p. none (p.0, p.1, subst (λ t. IsIn window.interval (time - t)) (sym p.2) h.1, p.3, p.4)),
  λ h. stable (is_remembered window time v) (λ none. h (λ p.
      serves_in window.interval.high window.interval.low (last_time trace) time (end_of trace) (HasPairAt trace F G) (HasRow window v) later (bounded trace F G) held
      (step_at trace p.0).time (λ no. no (p.0, p.1, refl, p.3, p.4)) p.2 (λ k within has. none (k, within, has)))),
)
