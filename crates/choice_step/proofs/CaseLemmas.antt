-- What the worked cases have in common.
use Rattle.choice_step.proofs.Vocabulary.{◌≡◌, List, [], ◌∷◌, Contains, ap, ⊎_elim, arith, first_or_later, none_in_nil, Event, event_p, event_q, event_r}

pub apart : (e f : Event) → (e.name.0 ≡ f.name.0 → ⊥) → e ≡ f → ⊥
apart e f other same = other (ap (λ (x : Event). x.name.0) same)

pub absent : (e f : Event) (events : List Event) → (e ≡ f → ⊥) → (Contains events f → ⊥) → Contains (e ∷ events) f → ⊥
absent e f events other none there = ⊎_elim other none (first_or_later f e events there)

pub p_not_q : event_p ≡ event_q → ⊥
p_not_q = apart event_p event_q (λ is. omega (arith, is))

pub q_not_p : event_q ≡ event_p → ⊥
q_not_p = apart event_q event_p (λ is. omega (arith, is))

pub q_not_r : event_q ≡ event_r → ⊥
q_not_r = apart event_q event_r (λ is. omega (arith, is))

pub p_not_r : event_p ≡ event_r → ⊥
p_not_r = apart event_p event_r (λ is. omega (arith, is))

pub r_not_q : event_r ≡ event_q → ⊥
r_not_q = apart event_r event_q (λ is. omega (arith, is))

pub no_q : Contains (event_p ∷ []) event_q → ⊥
no_q = absent event_p event_q [] p_not_q (none_in_nil event_q)

pub no_p : Contains (event_q ∷ []) event_p → ⊥
no_p = absent event_q event_p [] q_not_p (none_in_nil event_p)

pub no_q_left : Contains (event_r ∷ event_p ∷ []) event_q → ⊥
no_q_left = absent event_r event_q (event_p ∷ []) r_not_q no_q

pub no_r : Contains (event_q ∷ event_p ∷ []) event_r → ⊥
no_r = absent event_q event_r (event_p ∷ []) q_not_r (absent event_p event_r [] p_not_r (none_in_nil event_r))
