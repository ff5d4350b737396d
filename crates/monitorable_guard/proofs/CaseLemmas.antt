-- The variables of small lists of terms.
use Rattle.monitorable_guard.proofs.Vocabulary.{◌≡◌, ℕ, ◌<◌, ◌⊎◌, ⊎_elim, ap, arith, Var, VarId, variable_is, variable_x, guard_case_y, three}

-- and of a comparison with a constant
pub below : (b : VarId) → (Var variable_x ≡ Var b) ⊎ (three ≡ Var b) → variable_x ≡ b
below b free = ⊎_elim (λ first. variable_is variable_x b first) (λ second. absurd (cc)) free

number_of : VarId → ℕ
number_of v = v.0

differ : (m n : ℕ) → m ≡ n → m < n → ⊥
differ m n e less = absurd (omega (arith, e))

pub x_is_not_y : variable_x ≡ guard_case_y → ⊥
unfolding number_of
x_is_not_y e = differ 0 1 (ap number_of e) (omega arith)
