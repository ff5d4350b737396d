-- Before the last moment of a window, and before the first.
use Rattle.pending.proofs.Vocabulary.{◌≡◌, ℕ, ◌<◌, ◌≤◌, ◌==◌, ◌&&◌, Bool, true, false, arith, refl, subst, ⊎_elim, ne_eqb, List, Plan, Instance, step_moment, IsWaitOf, Wait, early_until}

-- its end is not over
pub not_later : (inserted : Bool) (time high : ℕ) → step_moment inserted time < step_moment true high → time ≤ high
not_later true time high before = omega (arith, before)
not_later false time high before = omega (arith, before)

-- and nothing is forced
pub not_forced : (inserted : Bool) (time high : ℕ) → step_moment inserted time < step_moment true high → (inserted && (time == high)) ≡ false
not_forced true time high before = ne_eqb time high (λ same. omega (arith, same, before))
not_forced false time high before = refl

-- ---- what is waited for

-- a wait ends with the last moment of the window at the latest
pub before_last : (plans : List Plan) (wait : Wait) (i : Instance) (moment : ℕ) → IsWaitOf plans wait i → moment < wait.until → moment < step_moment true i.high
before_last plans wait i moment is before = ⊎_elim
    (λ open_is. subst (λ (w : Wait). moment < w.until) open_is before)
    (λ early_is. let early = subst (λ (w : Wait). moment < w.until) early_is before in omega (arith, early)) is

-- before the first moment of a window it has not begun
pub not_begun : (inserted : Bool) (time : ℕ) (i : Instance) → step_moment inserted time < early_until i → time < i.low
not_begun true time i before = omega (arith, before)
not_begun false time i before = omega (arith, before)
