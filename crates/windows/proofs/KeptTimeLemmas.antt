-- What is kept is Kept: it goes on so with each step.
use Rattle.windows.proofs.Vocabulary.{◌≡◌, ◌⊎◌, inl, inr, ⊎_elim, ℕ, ◌-◌, ◌≤◌, Option, None, Some, subst, arith, ChosenBy, IsEndedTime, IsServedTime}

-- chosen among those that are kept, and so among all that held, each of which is served by one of those or past the end
module _ (high : Option ℕ) (low last : ℕ) (H P : ℕ → Type 0) where
  pub chosen_of_all : ((other : ℕ) → P other → IsServedTime high low last H other ⊎ IsEndedTime high last other) → (time : ℕ) → ChosenBy high low last H time → ChosenBy high low last P time
  chosen_of_all serves time chosen = by high serves chosen
    where
      by : (h : Option ℕ) → ((other : ℕ) → P other → IsServedTime h low last H other ⊎ IsEndedTime h last other) → ChosenBy h low last H time → ChosenBy h low last P time
      by None served least = λ other held. ⊎_elim (λ s. let earlier = least s.0 s.2 in omega (arith, earlier, s.1)) (λ ended. absurd ended) (served other held)
      by (Some end) served latest = (
        latest.0,
        λ far other held far_too. ⊎_elim
            (λ s. let far_there : low ≤ last - s.0 = ⊎_elim (λ same. omega (arith, same, far_too)) (λ f. f) s.2 in
            let no_later = latest.1 far s.0 s.3 far_there in omega (arith, no_later, s.1))
            (λ ended. omega (arith, ended, latest.0)) (served other held),
      )

  -- what is chosen of all is kept
  pub kept_if_chosen : ((other : ℕ) → H other → P other) → (time : ℕ) → IsServedTime high low last H time ⊎ IsEndedTime high last time → ChosenBy high low last P time → H time
  kept_if_chosen sound time served chosen = by high served chosen
    where
      by : (h : Option ℕ) → IsServedTime h low last H time ⊎ IsEndedTime h last time → ChosenBy h low last P time → H time
      by None either least = ⊎_elim (λ s. let earlier = least s.0 (sound s.0 s.2) in let same : s.0 ≡ time = omega (arith, earlier, s.1) in subst H same s.2) (λ ended. absurd ended) either
      by (Some end) either latest = ⊎_elim
          (λ s. ⊎_elim (λ same. subst H same s.3) (λ far.
          let far_too : low ≤ last - time = omega (arith, far, s.1) in
          let no_later = latest.1 far_too s.0 (sound s.0 s.3) far in
          let same : s.0 ≡ time = omega (arith, no_later, s.1) in subst H same s.3) s.2)
          (λ ended. absurd (omega (arith, ended, latest.0))) either

-- what serves goes on serving, and what is past the end stays so
pub served_later : (high : Option ℕ) (low last now : ℕ) (P : ℕ → Type 0) (time : ℕ) → last ≤ now → IsServedTime high low last P time → IsServedTime high low now P time
served_later None low last now P time below served = served
served_later (Some high) low last now P time below served = (served.0, served.1, ⊎_elim (λ same. inl same) (λ far. inr (omega (arith, far, below))) served.2, served.3)

pub ended_later : (high : Option ℕ) (last now time : ℕ) → last ≤ now → IsEndedTime high last time → IsEndedTime high now time
ended_later None last now time below ended = ended
ended_later (Some high) last now time below ended = omega (arith, ended, below)
