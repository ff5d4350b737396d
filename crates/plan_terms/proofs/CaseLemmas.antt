-- Small lists of variables.
use Rattle.plan_terms.proofs.Vocabulary.{◌≡◌, ℕ, [], ◌∷◌, Contains, ap, arith, ⊎_elim, subst, here, later, first_or_later, none_in_nil, Var, VarId, only_variable, variable_x, plan_terms_y}

pub apart : variable_x ≡ plan_terms_y → ⊥
apart e = let n : ◌≡◌ {A = ℕ} 0 1 = ap (λ (z : VarId). z.0) e in omega arith

pub only : (a b : VarId) → Contains (a ∷ []) b → a ≡ b
only a b there = ⊎_elim (λ same. same) (λ none. absurd (none_in_nil b none)) (first_or_later b a [] there)

-- x where it is the only variable, as a variable and as a term
pub known : (z : VarId) → Contains (Var variable_x ∷ []) (Var z) → Contains (variable_x ∷ []) z
known z there = subst (λ (w : VarId). Contains (variable_x ∷ []) w) (only_variable variable_x z there) (here variable_x [])

pub told : (z : VarId) → Contains (variable_x ∷ []) z → Contains (Var variable_x ∷ []) (Var z)
told z there = subst (λ (w : VarId). Contains (Var variable_x ∷ []) (Var w)) (only variable_x z there) (here (Var variable_x) [])

-- y after x
pub known_second : (z : VarId) → Contains (Var plan_terms_y ∷ []) (Var z) → Contains (variable_x ∷ plan_terms_y ∷ []) z
known_second z there = subst (λ (w : VarId). Contains (variable_x ∷ plan_terms_y ∷ []) w) (only_variable plan_terms_y z there)
    (later plan_terms_y variable_x (plan_terms_y ∷ []) (here plan_terms_y []))
