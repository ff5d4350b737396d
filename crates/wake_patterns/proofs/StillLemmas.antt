-- A guard or test that failed at the step before fails still, without an event of its patterns.
use Rattle.wake_patterns.proofs.Vocabulary.{◌≡◌, ℕ, zero, suc, ◌-◌, ◌≤◌, List, Option, None, Some, ◌⊎◌, inl, inr, ⊎_elim, refl, subst, arith, cases_lt, none-some, Valuation, with_values, Step, step_at}
use Rattle.wake_patterns.proofs.Vocabulary.{Interval, IsIn, IsUpTo, Formula, And, Exists, HeldSince, HoldsAnywhere, Once, Or, Since, Sat, elapsed, Pattern, HasNone, fails_still, fails_without}
use Rattle.wake_patterns.proofs.Vocabulary.{first_known, if_from_now, patterns_of_both}
use Rattle.wake_patterns.proofs.PatternLemmas.{BindsNew, Extends, events, guard_fails, two_of, under_row}

-- ---- options

pub of_first_known : (a b : Option (List Pattern)) (ps : List Pattern) → first_known a b ≡ Some ps → (a ≡ Some ps) ⊎ (b ≡ Some ps)
of_first_known None b ps is = inr is
of_first_known (Some xs) b ps is = inl is

from_now : (low : ℕ) (o : Option (List Pattern)) (ps : List Pattern) → if_from_now low o ≡ Some ps → (low ≡ 0) × (o ≡ Some ps)
from_now zero o ps is = (refl, is)
from_now (suc low) o ps is = absurd (none-some ps is)

-- ---- windows

up_to_less : (high : Option ℕ) (more less : ℕ) → less ≤ more → IsUpTo high more → IsUpTo high less
up_to_less None more less below within = tt
up_to_less (Some high) more less below within = let most : more ≤ high = within in omega (arith, below, most)

up_to_none : (high : Option ℕ) (difference : ℕ) → difference ≡ 0 → IsUpTo high difference
up_to_none None difference none = tt
up_to_none (Some high) difference none = omega (arith, none)

module _ (v : Valuation) (trace : List Step) (m : ℕ) (rises : (step_at trace m).time ≤ (step_at trace (suc m)).time) where
  -- what is in a window from 0 at a step was in it at the step before
  sooner : (interval : Interval) (k : ℕ) → interval.low ≡ 0 → IsIn interval (elapsed trace k (suc m)) → IsIn interval (elapsed trace k m)
  sooner interval k none within = (
    omega (arith, none),
    up_to_less interval.high (elapsed trace k (suc m)) (elapsed trace k m) (omega (arith, rises)) within.1,
  )

  at_once : (interval : Interval) → interval.low ≡ 0 → IsIn interval (elapsed trace m m)
  at_once interval none =
      let t = (step_at trace m).time in
      let apart : t - t ≡ 0 = omega arith in
      (omega (arith, none), up_to_none interval.high (elapsed trace m m) apart)

  module _ (interval : Interval) (none : interval.low ≡ 0) (F G : ℕ → Type 0) (failed : HeldSince trace m interval F G → ⊥) where
    failed_there : G m → ⊥
    failed_there there = failed (λ never. never (m, omega arith, at_once interval none, there, λ k behind before. absurd (omega (arith, behind, before))))

    held_still : (G (suc m) → ⊥) → HeldSince trace (suc m) interval F G → ⊥
    held_still not_now holds = holds (λ found.
        let k = found.0 in
        let until = found.1 in
        ⊎_elim
        (λ less. failed (λ never. never (k, omega (arith, less), sooner interval k none found.2, found.3, λ n behind before. found.4 n behind (omega (arith, before)))))
        (λ most. let same : k ≡ suc m = omega (arith, until, most) in not_now (subst G same found.3))
        (cases_lt k (suc m)))

  -- ---- guards and tests

  pub fails_on : (w : Valuation) → Extends v w → (f : Formula) → BindsNew v f → (ps : List Pattern) → fails_still v f ≡ Some ps
      → HasNone ps (events v trace (suc m)) → (Sat trace m w f → ⊥) → Sat trace (suc m) w f → ⊥
  fails_on w more (And place g h) new ps is none failed holds = ⊎_elim
      (λ one. guard_fails v trace (suc m) w more (And place g h) new ps one none holds)
      (λ both.
      let (xs, ys, l, r, front, back) = two_of v trace (suc m) (fails_still v g) (fails_still v h) ps both none in
      fails_on w more g new.0 xs l front (λ first. fails_on w more h new.1 ys r back (λ second. failed (first, second)) holds.1) holds.0)
      (of_first_known (fails_without v (And place g h)) (patterns_of_both (fails_still v g) (fails_still v h)) ps is)
  fails_on w more (Or place g h) new ps is none failed holds =
      let (xs, ys, l, r, front, back) = two_of v trace (suc m) (fails_still v g) (fails_still v h) ps is none in
      holds (fails_on w more g new.0 xs l front (λ first. failed (λ no_left no_right. no_left first)))
      (fails_on w more h new.1 ys r back (λ second. failed (λ no_left no_right. no_right second)))
  fails_on w more (Exists place xs g) new ps is none failed holds =
      holds (λ row. fails_on (with_values xs row.0 w) (under_row v trace (suc m) w more xs row.0 new.0) g new.1 ps is none
      (λ was. failed (λ never. never (row.0, row.1, was))) row.2)
  fails_on w more (Once place interval g) new ps is none failed holds =
      let from = from_now interval.low (fails_still v g) ps is in
      held_still interval from.0 HoldsAnywhere (λ j. Sat trace j w g) failed
      (fails_on w more g new ps from.1 none (failed_there interval from.0 HoldsAnywhere (λ j. Sat trace j w g) failed)) holds
  fails_on w more (Since place interval g h) new ps is none failed holds =
      let from = from_now interval.low (fails_still v h) ps is in
      held_still interval from.0 (λ k. Sat trace k w g) (λ j. Sat trace j w h) failed
      (fails_on w more h new.1 ps from.1 none (failed_there interval from.0 (λ k. Sat trace k w g) (λ j. Sat trace j w h) failed)) holds
  fails_on w more f new ps is none failed holds = guard_fails v trace (suc m) w more f new ps is none holds
