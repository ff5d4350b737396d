-- Which of the times at which a row held are kept, with one step more, and what those give later.
use Rattle.past_state.proofs.Vocabulary.{◌≡◌, ◌∙◌, ◌↔◌, ◌⊎◌, inl, inr, ⊎_elim, ℕ, zero, suc, ◌+◌, ◌-◌, ◌<◌, ◌≤◌, Option, None, Some, refl, sym, subst, arith, cases_lt, IsUpTo, ChosenBy, IsEndedTime}
use Rattle.past_state.proofs.Vocabulary.{IsServedTime}

-- ---- classically there is a least time, and a greatest one

pub not_below : (m n : ℕ) → ((n < m) → ⊥) → m ≤ n
not_below m n denied = ⊎_elim (λ less. absurd (denied less)) (λ le. le) (cases_lt n m)

least_within : (fuel : ℕ) (P : ℕ → Type 0) (j : ℕ) → j ≤ fuel → P j → ((k : ℕ) → k ≤ j → P k → ((i : ℕ) → P i → k ≤ i) → ⊥) → ⊥
least_within zero P j small here none = none j (omega arith) here (λ i there. omega (arith, small))
least_within (suc fuel) P j small here none = none j (omega arith) here (λ i there. not_below j i (λ below.
    least_within fuel P i (omega (arith, small, below)) there (λ k up_to at first. none k (omega (arith, up_to, below)) at first)))

pub least : (P : ℕ → Type 0) (j : ℕ) → P j → ((k : ℕ) → k ≤ j → P k → ((i : ℕ) → P i → k ≤ i) → ⊥) → ⊥
least P j = least_within j P j (omega arith)

greatest_within : (fuel end : ℕ) (P : ℕ → Type 0) → ((i : ℕ) → P i → i ≤ end) → (j : ℕ) → end ≤ j + fuel → P j → ((k : ℕ) → j ≤ k → P k → ((i : ℕ) → P i → i ≤ k) → ⊥) → ⊥
greatest_within zero end P bound j near here none = none j (omega arith) here (λ i there. omega (arith, near, bound i there))
greatest_within (suc fuel) end P bound j near here none = none j (omega arith) here (λ i there. not_below i j (λ above.
    greatest_within fuel end P bound i (omega (arith, near, above)) there (λ k from at last. none k (omega (arith, from, above)) at last)))

pub greatest : (end : ℕ) (P : ℕ → Type 0) → ((i : ℕ) → P i → i ≤ end) → (j : ℕ) → P j → ((k : ℕ) → j ≤ k → P k → ((i : ℕ) → P i → i ≤ k) → ⊥) → ⊥
greatest end P bound j = greatest_within end end P bound j (omega arith)

-- ---- of the times P at which a row held, up to some end, one that is kept serves in the place of each that is not past the interval

pub chosen_serves : (high : Option ℕ) (low last end : ℕ) (P : ℕ → Type 0) → ((i : ℕ) → P i → i ≤ end) → (j : ℕ) → P j → (IsEndedTime high last j → ⊥)
    → (IsServedTime high low last (λ k. P k × ChosenBy high low last P k) j → ⊥) → ⊥
chosen_serves None low last end P bound j here alive none = least P j here (λ k up_to at first. none (k, up_to, (at, first)))
chosen_serves (Some high) low last end P bound j here alive none =
    ⊎_elim
    (λ near. none (j, omega arith, inl refl, (here, (not_below (last - j) high alive, λ far. absurd (omega (arith, near, far))))))
    (λ far. greatest end (λ i. P i × (low ≤ last - i)) (λ i both. bound i both.0) j (here, far)
    (λ k from at final. none (k, from, inr at.1, (at.0, (omega (arith, from, not_below (last - j) high alive), λ _ i there other. final i (there, other))))))
    (cases_lt (last - j) low)

-- ---- with one step more

-- before it the times P held and the times H of them were kept; after it the times Q held and the times A are kept
module _ (high : Option ℕ) (low last now end : ℕ) (P H Q A : ℕ → Type 0) (F S R : Type 0) (later : last ≤ now) (bound : (i : ℕ) → P i → i ≤ end)
    (held : (j : ℕ) → H j ↔ (P j × ChosenBy high low last P j))
    (survives : (j : ℕ) → H j → S ↔ F)
    (more : (j : ℕ) → Q j → (((P j × F) ⊎ ((j ≡ now) × R)) → ⊥) → ⊥)
    (goes : (j : ℕ) → P j → F → Q j) (comes : R → Q now)
    (from : (j : ℕ) → A j → (H j × S) ⊎ ((j ≡ now) × R))
    (serves : (j : ℕ) → (H j × S) ⊎ ((j ≡ now) × R) → IsServedTime high low now A j ⊎ IsEndedTime high now j)
    (chosen : (j : ℕ) → A j → ChosenBy high low now A j)
    (stable : (j : ℕ) → ((A j → ⊥) → ⊥) → A j) where
  was : (j : ℕ) → A j → Q j
  was j there = ⊎_elim (λ old. goes j ((held j).0 old.0).0 ((survives j old.0).0 old.1)) (λ new. subst Q (sym new.0) (comes new.1)) (from j there)

  -- in the place of a time that held, and is not past the interval, one that is kept serves
  served : (j : ℕ) → Q j → (IsEndedTime high now j → ⊥) → (IsServedTime high low now A j → ⊥) → ⊥
  served j there alive none = more j there (λ either. ⊎_elim
      (λ old. chosen_serves high low last end P bound j old.0 (λ ended. alive (sooner high ended)) (λ by. again high by old.1 alive none serves held survives))
      (λ new. ⊎_elim none alive (serves j (inr new)))
      either)
    where
      sooner : (h : Option ℕ) → IsEndedTime h last j → IsEndedTime h now j
      sooner None ended = ended
      sooner (Some high) ended = omega (arith, ended)

      again : (h : Option ℕ) → IsServedTime h low last (λ k. P k × ChosenBy h low last P k) j → F → (IsEndedTime h now j → ⊥) → (IsServedTime h low now A j → ⊥)
          → ((k : ℕ) → (H k × S) ⊎ ((k ≡ now) × R) → IsServedTime h low now A k ⊎ IsEndedTime h now k)
          → ((k : ℕ) → H k ↔ (P k × ChosenBy h low last P k)) → ((k : ℕ) → H k → S ↔ F) → ⊥
      again None by f alive none serves held survives =
          let h = (held by.0).1 by.2 in
          ⊎_elim (λ s. none (s.0, omega (arith, s.1, by.1), s.2)) (λ ended. ended) (serves by.0 (inl (h, (survives by.0 h).1 f)))
      again (Some high) by f alive none serves held survives =
          let h = (held by.0).1 by.3 in
          ⊎_elim
          (λ s. none (
            s.0,
            omega (arith, s.1, by.1),
            ⊎_elim (λ same. ⊎_elim (λ first. inl (same ∙ first))
                (λ far. inr (subst (λ t. low ≤ now - t) (sym same) (omega (arith, far)))) by.2) (λ far. inr far) s.2,
            s.3,
          ))
          (λ ended. alive (omega (arith, ended, by.1))) (serves by.0 (inl (h, (survives by.0 h).1 f)))

  is_chosen : (h : Option ℕ) (j : ℕ) → A j → ChosenBy h low now A j → ((i : ℕ) → Q i → (IsEndedTime h now i → ⊥) → (IsServedTime h low now A i → ⊥) → ⊥) → ChosenBy h low now Q j
  is_chosen None j there first served = λ i held_i. not_below j i (λ below. served i held_i (λ e. e) (λ s. omega (arith, below, s.1, first s.0 s.2)))
  is_chosen (Some high) j there last_far served = (
    last_far.0,
    λ far i held_i far_i. not_below i j (λ above. served i held_i (λ ended. omega (arith, ended, last_far.0, above))
        (λ s. omega (arith, above, s.1, last_far.1 far s.0 s.3 (⊎_elim (λ same. subst (λ t. low ≤ now - t) (sym same) far_i) (λ f. f) s.2)))),
  )

  -- a time that is to be kept is kept, since what serves in its place can only be itself
  itself : (h : Option ℕ) (j : ℕ) → ChosenBy h low now Q j → ((k : ℕ) → A k → Q k) → IsServedTime h low now A j → A j
  itself None j choice was s = subst A (omega (arith, s.1, choice s.0 (was s.0 s.2))) s.2
  itself (Some high) j choice was s = ⊎_elim (λ same. subst A same s.3) (λ far.
      subst A (omega (arith, s.1, choice.1 (omega (arith, far, s.1)) s.0 (was s.0 s.3) far)) s.3) s.2

  not_ended : (h : Option ℕ) (j : ℕ) → ChosenBy h low now Q j → IsEndedTime h now j → ⊥
  not_ended None j choice ended = ended
  not_ended (Some high) j choice ended = omega (arith, choice.0, ended)

  pub chosen_on : (j : ℕ) → A j ↔ (Q j × ChosenBy high low now Q j)
  chosen_on j = (
    λ there. (was j there, is_chosen high j there (chosen j there) served),
    λ both. stable j (λ no. served j both.0 (not_ended high j both.1) (λ s. no (itself high j both.1 was s))),
  )

-- ---- at a later time

-- what is kept answers at a later time as what held
pub serves_in : (high : Option ℕ) (low last time end : ℕ) (P H : ℕ → Type 0) → last ≤ time → ((i : ℕ) → P i → i ≤ end) → ((j : ℕ) → H j ↔ (P j × ChosenBy high low last P j))
    → (j : ℕ) → P j → (low ≤ time - j) × IsUpTo high (time - j) → ((k : ℕ) → (low ≤ time - k) × IsUpTo high (time - k) → H k → ⊥) → ⊥
serves_in None low last time end P H later bound held j here within none =
    chosen_serves None low last end P bound j here (λ e. e) (λ s. none s.0 (omega (arith, s.1, within.0), tt) ((held s.0).1 s.2))
serves_in (Some high) low last time end P H later bound held j here within none =
    chosen_serves (Some high) low last end P bound j here (λ ended. omega (arith, ended, within.1))
    (λ s. none s.0 (⊎_elim (λ same. subst (λ t. low ≤ time - t) (sym same) within.0) (λ far. omega (arith, far)) s.2, omega (arith, s.1, within.1)) ((held s.0).1 s.3))
