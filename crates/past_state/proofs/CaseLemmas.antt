-- The worked cases of what has to be kept.
use Rattle.past_state.proofs.Vocabulary.{◌≡◌, ◌⊎◌, inl, inr, ⊎_elim, ℕ, zero, suc, ◌-◌, ◌<◌, ◌≤◌, length, refl, sym, arith, step_at, at_two, three_times, HasPairAt}
use Rattle.past_state.proofs.ChosenLemmas.{not_below}

pub first : (F : ℕ → Type 0) → F 1 → F 2 → HasPairAt three_times F at_two 0
first F one two = λ no. no (0, omega arith, refl, omega arith, each)
  where
    each : (k : ℕ) → 0 < k → k < length three_times → F k
    each zero behind below = absurd (omega (arith, behind))
    each (suc zero) behind below = one
    each (suc (suc zero)) behind below = two
    each (suc (suc (suc k))) behind below = absurd (omega (arith, below))

pub second : (F : ℕ → Type 0) → F 2 → HasPairAt three_times F at_two 2
second F two = λ no. no (1, omega arith, refl, omega arith, each)
  where
    each : (k : ℕ) → 1 < k → k < length three_times → F k
    each zero behind below = absurd (omega (arith, behind))
    each (suc zero) behind below = absurd (omega (arith, behind))
    each (suc (suc zero)) behind below = two
    each (suc (suc (suc k))) behind below = absurd (omega (arith, below))

-- there is no other
pub one_of : (F : ℕ → Type 0) (time : ℕ) → HasPairAt three_times F at_two time → (((time ≡ 0) × F 1) ⊎ (time ≡ 2) → ⊥) → ⊥
one_of F time held none = held (λ h. by h.0 h.1 h.2 h.3 h.4)
  where
    by : (j : ℕ) → j < length three_times → (step_at three_times j).time ≡ time → j ≤ 1 → ((k : ℕ) → j < k → k < length three_times → F k) → ⊥
    by zero below is right each = none (inl (sym is, each 1 (omega arith) (omega arith)))
    by (suc zero) below is right each = none (inr (sym is))
    by (suc (suc j)) below is right each = omega (arith, right)

-- none of them is later than a time that is no earlier than 2; and where 2 is not far enough, than 0
pub none_later : (F : ℕ → Type 0) (time other : ℕ) → 2 ≤ time → HasPairAt three_times F at_two other → other ≤ time
none_later F time other from held = not_below other time (λ above. one_of F other held (λ either. ⊎_elim (λ z. omega (arith, above, z.0)) (λ t. omega (arith, above, t, from)) either))

pub first_alone : (F : ℕ → Type 0) (low other : ℕ) → 1 < low → HasPairAt three_times F at_two other → low ≤ 3 - other → other ≤ 0
first_alone F low other above held far = not_below other 0 (λ later. one_of F other held (λ either. ⊎_elim (λ z. omega (arith, later, z.0)) (λ t. omega (arith, t, far, above)) either))
