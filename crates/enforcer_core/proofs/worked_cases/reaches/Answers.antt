use Rattle.enforcer_core.proofs.Vocabulary.{◌≡◌, ℕ, ◌+◌, Bool, true, false, cond, nat_eq, refl, arith, unsigned_Decides}
use Rattle.enforcer_core.proofs.worked_cases.reaches.Goals as goal

none_above : (b : Bool) → (b ≡ true → ⊥) → 0 + cond {A = ℕ} b 1 0 ≡ 0 + cond {A = ℕ} b 1 0 + cond {A = ℕ} b 1 0
none_above true never = absurd (never refl)
none_above false never = refl

pub returns-clause-fewer : goal.returns-clause-fewer
returns-clause-fewer c = record {
  class = 6;
  fewer = omega arith;
  above = λ higher less. none_above (nat_eq 6 higher) (λ same. let at : 6 ≡ higher = (unsigned_Decides 6 higher).0 same in omega (arith, at, less));
}

pub returns-clause-as_many : goal.returns-clause-as_many
returns-clause-as_many c fall = omega (arith, fall.fewer)
