-- What guards and tests of small formulas ask.
use Rattle.enforce_types.proofs.Vocabulary.{◌≡◌, ℕ, [], ◌∷◌, Contains, ⊎_elim, subst, Term, Var, VarId, variable_x, Not, here, later, first_or_later, none_in_nil, IsTest, IsGuardFor, var_y, p_at}
use Rattle.enforce_types.proofs.Vocabulary.{q_at, p_x_at, p_x_y_at, once_p, once_q}

-- without terms no variable is free
pub closed : (z : VarId) → Contains {X = Term} [] (Var z) → Contains [] z
closed z there = absurd (none_in_nil (Var z) there)

pub test_p : IsTest once_p (Contains [])
test_p = (tt, closed)

pub test_q : IsTest once_q (Contains [])
test_q = (tt, closed)

pub test_not_q : IsTest (Not 20 once_q) (Contains [])
test_not_q = ((closed, tt), closed)

pub test_q_now : IsTest (q_at 1) (Contains [])
test_q_now = (tt, closed)

pub guards_p : IsGuardFor [] [] (p_at 1)
guards_p = record { safe = tt; tells = λ z there. absurd (none_in_nil z there) }

pub guards_x : (place : ℕ) → IsGuardFor [] (variable_x ∷ []) (p_x_at place)
guards_x place = record {
  safe = tt;
  tells = λ z there.
      ⊎_elim (λ is. subst (λ (w : VarId). Contains (Var variable_x ∷ []) (Var w)) is (here (Var variable_x) []))
      (λ none. absurd (none_in_nil z none)) (first_or_later z variable_x [] there);
}

pub guards_x_y : IsGuardFor [] (variable_x ∷ var_y ∷ []) (p_x_y_at 3)
guards_x_y = record { safe = tt; tells = tells }
  where
    first : (z : VarId) → variable_x ≡ z → Contains (Var variable_x ∷ Var var_y ∷ []) (Var z)
    first z is = subst (λ (w : VarId). Contains (Var variable_x ∷ Var var_y ∷ []) (Var w)) is (here (Var variable_x) (Var var_y ∷ []))

    second : (z : VarId) → var_y ≡ z → Contains (Var variable_x ∷ Var var_y ∷ []) (Var z)
    second z is = subst (λ (w : VarId). Contains (Var variable_x ∷ Var var_y ∷ []) (Var w)) is (later (Var var_y) (Var variable_x) (Var var_y ∷ []) (here (Var var_y) []))

    tells : (z : VarId) → Contains (variable_x ∷ var_y ∷ []) z → Contains (Var variable_x ∷ Var var_y ∷ []) (Var z)
    tells z there = ⊎_elim (first z) (λ more. ⊎_elim (second z) (λ none. absurd (none_in_nil z none)) (first_or_later z var_y [] more)) (first_or_later z variable_x (var_y ∷ []) there)
