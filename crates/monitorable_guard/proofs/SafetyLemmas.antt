-- Safety depends on which variables are bound alone, and what it asks of `historically`.
use Rattle.monitorable_guard.proofs.Vocabulary.{ℕ, inl, inr, ⊎_elim, List, ◌++◌, Option, None, Some, ◌↔◌, Interval, Term, Var, Const, VarId, Formula, True, False, Atom, Equal, Less, AtMost, Not, And}
use Rattle.monitorable_guard.proofs.Vocabulary.{Or, Implies, Exists, Forall, Prev, Next, Once, Historically, Since, Eventually, Always, Until, Safe, SafeBelow, FreeWithin, BoundOrFreeIn, NoneBound}
use Rattle.monitorable_guard.proofs.Vocabulary.{Assigns, denial}

pub historically_denial : (place : ℕ) (interval : Interval) (g : Formula) (B : VarId → Type 0) → Safe (Historically place interval g) B ↔ (FreeWithin g B × Safe (denial g) NoneBound)
historically_denial place interval (Not p h) B = (λ s. (s.0, s.1), λ s. (s.0, s.1))
historically_denial place interval (Implies p a b) B = (λ s. (λ x free. ⊎_elim (s.0 x) (s.1 x) free, (s.2, (s.3, s.4))), λ s. (λ x f. s.0 x (inl f), λ x f. s.0 x (inr f), s.1.0, s.1.1.0, s.1.1.1))
historically_denial place interval g B = (λ s. (s.0, (s.1, s.2)), λ s. (s.0, s.1.0, s.1.1))

abbrev pub Same : (VarId → Type 0) → (VarId → Type 0) → Type 0
Same B C = (x : VarId) → B x ↔ C x

with_same : (B C : VarId → Type 0) (g : Formula) → Same B C → Same (BoundOrFreeIn B g) (BoundOrFreeIn C g)
with_same B C g same x = (λ b. ⊎_elim (λ b. inl ((same x).0 b)) (λ f. inr f) b, λ c. ⊎_elim (λ c. inl ((same x).1 c)) (λ f. inr f) c)

within_same : (B C : VarId → Type 0) (g : Formula) → Same B C → FreeWithin g B → FreeWithin g C
within_same B C g same within x free = (same x).0 (within x free)

assigns_same : (B C : VarId → Type 0) (s t : Term) → Same B C → Assigns B s t → Assigns C s t
assigns_same B C (Var x) (Var y) same opens = (λ c. opens.0 ((same x).1 c), (same y).0 opens.1)
assigns_same B C (Var x) (Const value) same opens = λ c. opens ((same x).1 c)
assigns_same B C (Const value) t same opens = absurd opens

pub safe_same : (m : Option (List VarId)) (f : Formula) (B C : VarId → Type 0) → Same B C → SafeBelow m f B → SafeBelow m f C
safe_same None (True place) B C same safe = tt
safe_same None (False place) B C same safe = tt
safe_same None (Atom place name terms) B C same safe = tt
safe_same None (Equal place s t) B C same safe = ⊎_elim (λ within. inl (within_same B C (Equal place s t) same within))
    (λ opens. inr (⊎_elim (λ first. inl (assigns_same B C s t same first)) (λ second. inr (assigns_same B C t s same second)) opens)) safe
safe_same None (Less place s t) B C same safe = within_same B C (Less place s t) same safe
safe_same None (AtMost place s t) B C same safe = within_same B C (AtMost place s t) same safe
safe_same None (Not place g) B C same safe = (within_same B C g same safe.0, safe_same None g B C same safe.1)
safe_same None (And place g h) B C same safe = (safe_same None g B C same safe.0, safe_same None h (BoundOrFreeIn B g) (BoundOrFreeIn C g) (with_same B C g same) safe.1)
safe_same None (Or place g h) B C same safe = (safe_same None g B C same safe.0, safe_same None h B C same safe.1, λ x absent. safe.2 x (λ b. absent ((same x).0 b)))
safe_same None (Implies place g h) B C same safe = (within_same B C g same safe.0, within_same B C h same safe.1, safe_same None g B C same safe.2, safe_same None h B C same safe.3)
safe_same None (Exists place xs g) B C same safe = safe_same None g B C same safe
safe_same None (Forall place xs g) B C same safe = safe_same (Some xs) g B C same safe
safe_same None (Prev place interval g) B C same safe = safe
safe_same None (Once place interval g) B C same safe = safe
safe_same None (Historically place interval g) B C same safe =
    let parts = (historically_denial place interval g B).0 safe in
    (historically_denial place interval g C).1 (within_same B C g same parts.0, parts.1)
safe_same None (Since place interval g h) B C same safe = safe
safe_same None (Next place interval g) B C same safe = safe
safe_same None (Eventually place interval g) B C same safe = safe
safe_same None (Always place interval g) B C same safe = safe
safe_same None (Until place interval g h) B C same safe = safe
safe_same (Some xs) (Forall place ys g) B C same safe = safe_same (Some (xs ++ ys)) g B C same safe
safe_same (Some xs) (Implies place g h) B C same safe = (
  λ x free absent. (same x).0 (safe.0 x free absent),
  safe.1,
  safe_same None g B C same safe.2,
  safe_same None h (BoundOrFreeIn B g)
      (BoundOrFreeIn C g) (with_same B C g same) safe.3,
  within_same (BoundOrFreeIn B g) (BoundOrFreeIn C g) h (with_same B C g same) safe.4,
)
safe_same (Some xs) (Not place g) B C same safe = (λ x free absent. (same x).0 (safe.0 x free absent), safe_same None g B C same safe.1)
safe_same (Some xs) g B C same safe = absurd safe
