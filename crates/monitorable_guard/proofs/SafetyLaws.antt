-- What can be evaluated does not look ahead, and of what is only asked whether it holds, the free variables are bound.
use Rattle.monitorable_guard.proofs.Vocabulary.{Contains-append, Interval, VarId, Bool, true, false, ◌&&◌, IsTrue, List, ◌++◌, Option, None, Some, refl, ⊎_elim, ℕ, is_past, Formula, True, False, Atom}
use Rattle.monitorable_guard.proofs.Vocabulary.{Equal, Less, AtMost, Not, And, Or, Implies, Exists, Forall, Prev, Next, Once, Historically, Since, Eventually, Always, Until, SafeBelow, BoundOrFreeIn}
use Rattle.monitorable_guard.proofs.Vocabulary.{NoneBound, FreeUnder, FreeWithin, Safe}

both : (a b : Bool) → IsTrue a → IsTrue b → IsTrue (a && b)
both true b first second = second
both false b first second = first

pub safe_past : (m : Option (List VarId)) (f : Formula) (B : VarId → Type 0)
    → SafeBelow m f B → IsTrue (is_past f)
safe_past None (True place) B safe = refl
safe_past None (False place) B safe = refl
safe_past None (Atom place name terms) B safe = refl
safe_past None (Equal place s t) B safe = refl
safe_past None (Less place s t) B safe = refl
safe_past None (AtMost place s t) B safe = refl
safe_past None (Not place g) B safe = safe_past None g B safe.1
safe_past None (And place g h) B safe =
    both (is_past g) (is_past h) (safe_past None g B safe.0) (safe_past None h (BoundOrFreeIn B g) safe.1)
safe_past None (Or place g h) B safe =
    both (is_past g) (is_past h) (safe_past None g B safe.0) (safe_past None h B safe.1)
safe_past None (Implies place g h) B safe =
    both (is_past g) (is_past h) (safe_past None g B safe.2) (safe_past None h B safe.3)
safe_past None (Exists place xs g) B safe = safe_past None g B safe
safe_past None (Forall place xs g) B safe = safe_past (Some xs) g B safe
safe_past None (Prev place interval g) B safe = safe_past None g NoneBound safe
safe_past None (Once place interval g) B safe = safe_past None g NoneBound safe
safe_past None (Historically place interval (Not p h)) B safe = safe_past None h NoneBound safe.1
safe_past None (Historically place interval (Implies p a b)) B safe =
    both (is_past a) (is_past b) (safe_past None a NoneBound safe.2)
    (safe_past None b (BoundOrFreeIn NoneBound a) safe.4)
safe_past None (Historically place interval g) B safe = safe_past None g NoneBound safe.2
safe_past None (Since place interval g h) B safe =
    both (is_past g) (is_past h) (safe_past None g (BoundOrFreeIn NoneBound h) safe.2)
    (safe_past None h NoneBound safe.0)
safe_past None (Next place interval g) B safe = absurd safe
safe_past None (Eventually place interval g) B safe = absurd safe
safe_past None (Always place interval g) B safe = absurd safe
safe_past None (Until place interval g h) B safe = absurd safe
safe_past (Some xs) (Forall place ys g) B safe = safe_past (Some (xs ++ ys)) g B safe
safe_past (Some xs) (Implies place g h) B safe =
    both (is_past g) (is_past h) (safe_past None g B safe.2) (safe_past None h (BoundOrFreeIn B g) safe.3)
safe_past (Some xs) (Not place g) B safe = safe_past None g B safe.1
safe_past (Some xs) g B safe = absurd safe

-- ---- the free variables of the kinds that are only asked whether they hold

pub below_within : (xs : List VarId) (g : Formula) (B : VarId → Type 0)
    → SafeBelow (Some xs) g B → FreeUnder xs g B
below_within xs (Forall place ys g) B safe =
    λ x free absent. below_within (xs ++ ys) g B safe x free.0
    (λ there. ⊎_elim absent free.1 (Contains-append xs ys x there))
below_within xs (Implies place g h) B safe = safe.0
below_within xs (Not place g) B safe = safe.0
below_within xs g B safe = absurd safe

pub historically_within : (place : ℕ) (interval : Interval) (g : Formula) (B : VarId → Type 0)
    → Safe (Historically place interval g) B → FreeWithin g B
historically_within place interval (Not p h) B safe = safe.0
historically_within place interval (Implies p a b) B safe = λ x free. ⊎_elim (safe.0 x) (safe.1 x) free
historically_within place interval g B safe = safe.0
