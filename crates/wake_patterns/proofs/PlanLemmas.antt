-- Without an event that it waits for a plan's formula fails, or holds.
use Rattle.wake_patterns.proofs.Vocabulary.{◌≡◌, ℕ, zero, suc, ◌-◌, ◌<◌, ◌≤◌, List, Option, None, Some, length, arith, ⊎_elim, cases_lt, none-some, subst, sym, values_of_terms, Valuation, refl}
use Rattle.wake_patterns.proofs.Vocabulary.{with_values, Step, step_at, Formula, Sat, IsIn, elapsed, formula_for, interval_from_to, Plan, CausePlan, SuppressPlan, Both, Either, TestOr, Guarded}
use Rattle.wake_patterns.proofs.Vocabulary.{AlwaysPlan, UntilPlan, HasNone, Pattern, met_by, missed_by, fails_without, holds_without, pattern_of, BringsFreshUnder}
use Rattle.wake_patterns.proofs.PatternLemmas.{Extends, BringsNew, plan_brings_new, events, guard_fails, guard_holds, not_among, of_narrower_some, one_of, two_of, under_row}

module _ (v : Valuation) (trace : List Step) (i : ℕ) where
  -- nothing has passed where nothing was begun before
  at_once : (low high : ℕ) → low ≡ 0 → IsIn (interval_from_to low high) (elapsed trace i i)
  at_once low high none =
      let t = (step_at trace i).time in
      let apart : t - t ≡ 0 = omega arith in
      (omega (arith, none), omega (arith, apart))

  -- a position that comes later by the clock is another one
  later : (low high j : ℕ) → i ≤ j → IsIn (interval_from_to (suc low) high) (elapsed trace i j) → i < j
  later low high j from within = ⊎_elim
      (λ less. less)
      (λ most.
      let same : i ≡ j = omega (arith, from, most) in
      let begun = (subst (λ k. IsIn (interval_from_to (suc low) high) (elapsed trace i k)) (sym same) within).0 in
      let t = (step_at trace i).time in
      let apart : t - t ≡ 0 = omega arith in
      absurd (omega (arith, begun, apart)))
      (cases_lt i j)

  module _ (there : i < length trace) where
    fails : (plan : Plan) (w : Valuation) → Extends v w → BringsNew v plan → (ps : List Pattern) → met_by v plan ≡ Some ps
        → HasNone ps (events v trace i) → Sat trace i w (formula_for plan) → ⊥
    fails (CausePlan node place name terms) w more new ps is none holds =
        not_among v trace i w more name terms (values_of_terms w terms) refl (one_of v trace i (pattern_of v name terms) ps is none) holds
    fails (Both node left right) w more new ps is none holds = ⊎_elim
        (λ l. fails left w more new.0 ps l none holds.0)
        (λ r. fails right w more new.1 ps r none holds.1)
        (of_narrower_some (met_by v left) (met_by v right) ps is)
    fails (Either node left right) w more new ps is none holds =
        let (xs, ys, l, r, front, back) = two_of v trace i (met_by v left) (met_by v right) ps is none in
        holds (fails left w more new.0 xs l front) (fails right w more new.1 ys r back)
    fails (TestOr node guard test body) w more new ps is none holds =
        let (xs, ys, l, r, front, back) = two_of v trace i (fails_without v test) (met_by v body) ps is none in
        holds (guard_fails v trace i w more test new.0 xs l front) (fails body w more new.1 ys r back)
    fails (AlwaysPlan node place zero high body) w more new ps is none holds =
        holds (λ never. never (i, omega arith, there, at_once 0 high refl, fails body w more new ps is none, λ k from before. tt))
    fails (AlwaysPlan node place (suc low) high body) w more new ps is none holds = absurd (none-some ps is)
    fails (UntilPlan node place zero high left right) w more new ps is none holds =
        let (xs, ys, r, l, front, back) = two_of v trace i (met_by v right) (met_by v left) ps is none in
        holds (λ met. ⊎_elim
        (λ less. fails left w more new.0 ys l back (met.5 i (omega arith) less))
        (λ most. let same : i ≡ met.0 = omega (arith, most, met.1) in
        fails right w more new.1 xs r front (subst (λ k. Sat trace k w (formula_for right)) (sym same) met.4))
        (cases_lt i met.0))
    fails (UntilPlan node place (suc low) high left right) w more new ps is none holds =
        holds (λ met. fails left w more new.0 ps is none (met.5 i (omega arith) (later low high met.0 met.1 met.3)))
    fails plan w more new ps is none holds = absurd (none-some ps is)

  holds : (plan : Plan) (w : Valuation) → Extends v w → BringsNew v plan → (ps : List Pattern) → missed_by v plan ≡ Some ps
      → HasNone ps (events v trace i) → Sat trace i w (formula_for plan)
  holds (SuppressPlan node place name terms) w more new ps is none =
      not_among v trace i w more name terms (values_of_terms w terms) refl (one_of v trace i (pattern_of v name terms) ps is none)
  holds (Both node left right) w more new ps is none =
      let (xs, ys, l, r, front, back) = two_of v trace i (missed_by v left) (missed_by v right) ps is none in
      (holds left w more new.0 xs l front, holds right w more new.1 ys r back)
  holds (Either node left right) w more new ps is none =
      let (xs, ys, l, r, front, back) = two_of v trace i (missed_by v left) (missed_by v right) ps is none in
      λ no_left no_right. no_left (holds left w more new.0 xs l front)
  holds (TestOr node guard test body) w more new ps is none = ⊎_elim
      (λ l no_test no_body. no_test (guard_holds v trace i w more test new.0 ps l none))
      (λ b no_test no_body. no_body (holds body w more new.1 ps b none))
      (of_narrower_some (holds_without v test) (missed_by v body) ps is)
  holds (Guarded node xs guard test body) w more new ps is none = λ row long on_guard. ⊎_elim
      (λ l. absurd (guard_fails v trace i (with_values xs row w) (under_row v trace i w more xs row new.0) test new.1 ps l none on_guard))
      (λ b. holds body (with_values xs row w) (under_row v trace i w more xs row new.0) new.2 ps b none)
      (of_narrower_some (fails_without v test) (missed_by v body) ps is)
  holds plan w more new ps is none = absurd (none-some ps is)

  itself : Extends v v
  itself x value is = is

  pub unmet_fails : (plan : Plan) (ps : List Pattern) → i < length trace → BringsFreshUnder v plan → met_by v plan ≡ Some ps
      → HasNone ps (step_at trace i).events → Sat trace i v (formula_for plan) → ⊥
  unmet_fails plan ps there fresh is none = fails there plan v itself (plan_brings_new v plan fresh) ps is none

  pub unmissed_holds : (plan : Plan) (ps : List Pattern) → BringsFreshUnder v plan → missed_by v plan ≡ Some ps
      → HasNone ps (step_at trace i).events → Sat trace i v (formula_for plan)
  unmissed_holds plan ps fresh is none = holds plan v itself (plan_brings_new v plan fresh) ps is none
