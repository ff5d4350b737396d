-- What can be evaluated can be where more variables are bound.
use Rattle.monitorable_guard.proofs.Vocabulary.{◌≡◌, ◌⊎◌, inl, inr, ⊎_elim, List, [], ◌∷◌, ◌++◌, Option, None, Some, Contains, ap, subst, first_or_later, here, later, none_in_nil, same_or_other}
use Rattle.monitorable_guard.proofs.Vocabulary.{among_or_not, Term, Var, Const, VarId, Formula, True, False, Atom, Equal, Less, AtMost, Not, And, Or, Implies, Exists, Forall, Prev, Next, Once}
use Rattle.monitorable_guard.proofs.Vocabulary.{Historically, Since, Eventually, Always, Until, IsFree, SafeBelow, FreeWithin, BoundOrFreeIn, Assigns}
use Rattle.monitorable_guard.proofs.Decided.{Decided, decided_as, decided_both, decided_either, decided_not}
use Rattle.monitorable_guard.proofs.SafetyLemmas.{historically_denial}
use Rattle.enf_data.proofs.ValuationFacts.{variable_is}

-- ---- whether a variable is free

is_variable : (x : VarId) (t : Term) → Decided (t ≡ Var x)
is_variable x (Var y) = decided_as (y ≡ x) (Var y ≡ Var x) (λ e. ap Var e) (variable_is y x) (same_or_other y x)
is_variable x (Const value) = inr (λ e. absurd (cc))

either_is : (x : VarId) (s t : Term) → Decided ((s ≡ Var x) ⊎ (t ≡ Var x))
either_is x s t = decided_either (s ≡ Var x) (t ≡ Var x) (is_variable x s) (is_variable x t)

among_terms : (x : VarId) (terms : List Term) → Decided (Contains terms (Var x))
among_terms x [] = inr (none_in_nil (Var x))
among_terms x (t ∷ terms) = decided_as ((t ≡ Var x) ⊎ Contains terms (Var x)) (Contains (t ∷ terms) (Var x))
    (λ either. ⊎_elim (λ e. subst (Contains (t ∷ terms)) e (here t terms)) (later (Var x) t terms) either)
    (first_or_later (Var x) t terms)
    (decided_either (t ≡ Var x) (Contains terms (Var x)) (is_variable x t) (among_terms x terms))

outside_decided : (x : VarId) (xs : List VarId) (P : Type 0) → Decided P → Decided (P × (Contains xs x → ⊥))
outside_decided x xs P p = decided_both P (Contains xs x → ⊥) p (decided_not (Contains xs x) (among_or_not xs x))

pub free_or_not : (x : VarId) (f : Formula) → Decided (IsFree x f)
free_or_not x (True place) = inr (λ free. free)
free_or_not x (False place) = inr (λ free. free)
free_or_not x (Atom place name terms) = among_terms x terms
free_or_not x (Equal place s t) = either_is x s t
free_or_not x (Less place s t) = either_is x s t
free_or_not x (AtMost place s t) = either_is x s t
free_or_not x (Not place g) = free_or_not x g
free_or_not x (And place g h) = decided_either (IsFree x g) (IsFree x h) (free_or_not x g) (free_or_not x h)
free_or_not x (Or place g h) = decided_either (IsFree x g) (IsFree x h) (free_or_not x g) (free_or_not x h)
free_or_not x (Implies place g h) = decided_either (IsFree x g) (IsFree x h) (free_or_not x g) (free_or_not x h)
free_or_not x (Exists place xs g) = outside_decided x xs (IsFree x g) (free_or_not x g)
free_or_not x (Forall place xs g) = outside_decided x xs (IsFree x g) (free_or_not x g)
free_or_not x (Prev place interval g) = free_or_not x g
free_or_not x (Next place interval g) = free_or_not x g
free_or_not x (Once place interval g) = free_or_not x g
free_or_not x (Historically place interval g) = free_or_not x g
free_or_not x (Since place interval g h) = decided_either (IsFree x g) (IsFree x h) (free_or_not x g) (free_or_not x h)
free_or_not x (Eventually place interval g) = free_or_not x g
free_or_not x (Always place interval g) = free_or_not x g
free_or_not x (Until place interval g h) = decided_either (IsFree x g) (IsFree x h) (free_or_not x g) (free_or_not x h)

-- ---- more variables

-- of each variable it is known whether it is bound
abbrev pub AreKnown : (VarId → Type 0) → Type 0
AreKnown B = (x : VarId) → Decided (B x)

-- what the first binds the second does
abbrev pub AreWithin : (VarId → Type 0) → (VarId → Type 0) → Type 0
AreWithin B C = (x : VarId) → B x → C x

pub known_with : (C : VarId → Type 0) (g : Formula) → AreKnown C → AreKnown (BoundOrFreeIn C g)
known_with C g known x = decided_either (C x) (IsFree x g) (known x) (free_or_not x g)

pub more_with : (B C : VarId → Type 0) (g : Formula) → AreWithin B C → AreWithin (BoundOrFreeIn B g) (BoundOrFreeIn C g)
more_with B C g more x either = ⊎_elim (λ b. inl (more x b)) (λ free. inr free) either

within_more : (B C : VarId → Type 0) (g : Formula) → AreWithin B C → FreeWithin g B → FreeWithin g C
within_more B C g more within x free = more x (within x free)

-- an assignment is one still, or both sides are bound
assigns_more : (B C : VarId → Type 0) (s t : Term) → AreWithin B C → AreKnown C → Assigns B s t → Assigns C s t ⊎ ((x : VarId) → (s ≡ Var x) ⊎ (t ≡ Var x) → C x)
assigns_more B C (Var x) (Var y) more known opens = ⊎_elim
    (λ bound. inr (λ z either. ⊎_elim (λ e. subst C (variable_is x z e) bound) (λ e. subst C (variable_is y z e) (more y opens.1)) either))
    (λ unbound. inl (unbound, more y opens.1))
    (known x)
assigns_more B C (Var x) (Const value) more known opens = ⊎_elim
    (λ bound. inr (λ z either. ⊎_elim (λ e. subst C (variable_is x z e) bound) (λ e. absurd (cc)) either))
    (λ unbound. inl unbound)
    (known x)
assigns_more B C (Const value) t more known opens = absurd opens

turned : (x : VarId) (s t : Term) → (s ≡ Var x) ⊎ (t ≡ Var x) → (t ≡ Var x) ⊎ (s ≡ Var x)
turned x s t either = ⊎_elim (λ e. inr e) (λ e. inl e) either

pub safe_grows : (m : Option (List VarId)) (f : Formula) (B C : VarId → Type 0) → AreWithin B C → AreKnown C → SafeBelow m f B → SafeBelow m f C
safe_grows None (True place) B C more known safe = tt
safe_grows None (False place) B C more known safe = tt
safe_grows None (Atom place name terms) B C more known safe = tt
safe_grows None (Equal place s t) B C more known safe = ⊎_elim
    (λ within. inl (within_more B C (Equal place s t) more within))
    (λ opens. ⊎_elim
    (λ first. ⊎_elim (λ still. inr (inl still)) (λ both. inl both) (assigns_more B C s t more known first))
    (λ second. ⊎_elim (λ still. inr (inr still)) (λ both. inl (λ x free. both x (turned x s t free))) (assigns_more B C t s more known second))
    opens)
    safe
safe_grows None (Less place s t) B C more known safe = within_more B C (Less place s t) more safe
safe_grows None (AtMost place s t) B C more known safe = within_more B C (AtMost place s t) more safe
safe_grows None (Not place g) B C more known safe = (within_more B C g more safe.0, safe_grows None g B C more known safe.1)
safe_grows None (And place g h) B C more known safe = (
  safe_grows None g B C more known safe.0,
  safe_grows None h (BoundOrFreeIn B g) (BoundOrFreeIn C g) (more_with B C g more) (known_with C g known) safe.1,
)
safe_grows None (Or place g h) B C more known safe = (
  safe_grows None g B C more known safe.0,
  safe_grows None h B C more known safe.1,
  λ x absent. safe.2 x (λ b. absent (more x b)),
)
safe_grows None (Implies place g h) B C more known safe = (
  within_more B C g more safe.0,
  within_more B C h more safe.1,
  safe_grows None g B C more known safe.2,
  safe_grows None h B C more known safe.3,
)
safe_grows None (Exists place xs g) B C more known safe = safe_grows None g B C more known safe
safe_grows None (Forall place xs g) B C more known safe = safe_grows (Some xs) g B C more known safe
safe_grows None (Prev place interval g) B C more known safe = safe
safe_grows None (Once place interval g) B C more known safe = safe
safe_grows None (Historically place interval g) B C more known safe =
    let parts = (historically_denial place interval g B).0 safe in
    (historically_denial place interval g C).1 (within_more B C g more parts.0, parts.1)
safe_grows None (Since place interval g h) B C more known safe = safe
safe_grows None (Next place interval g) B C more known safe = safe
safe_grows None (Eventually place interval g) B C more known safe = safe
safe_grows None (Always place interval g) B C more known safe = safe
safe_grows None (Until place interval g h) B C more known safe = safe
safe_grows (Some xs) (Forall place ys g) B C more known safe = safe_grows (Some (xs ++ ys)) g B C more known safe
safe_grows (Some xs) (Implies place g h) B C more known safe = (
  λ x free absent. more x (safe.0 x free absent),
  safe.1,
  safe_grows None g B C more known safe.2,
  safe_grows None h (BoundOrFreeIn B g) (BoundOrFreeIn C g) (more_with B C g more) (known_with C g known) safe.3,
  within_more (BoundOrFreeIn B g) (BoundOrFreeIn C g) h (more_with B C g more) safe.4,
)
safe_grows (Some xs) (Not place g) B C more known safe = (λ x free absent. more x (safe.0 x free absent), safe_grows None g B C more known safe.1)
safe_grows (Some xs) g B C more known safe = absurd safe
