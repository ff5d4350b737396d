-- What lists of variables say of free variables.
use Rattle.monitorable_guard.proofs.Vocabulary.{◌≡◌, Bool, inl, inr, ⊎_elim, List, ◌++◌, All, Contains, IsTrue, ◌↔◌, Result, Ok, Err, IfOk, sym, subst, All-contains, Contains-append_left}
use Rattle.monitorable_guard.proofs.Vocabulary.{Contains-append_right, VarId, all_from, Formula, IsFree, AreFreeVariables, among_or_not, Contains-append, FreeWithin, FreeUnder, FreeAlike}
use Rattle.monitorable_guard.proofs.Vocabulary.{AddsVariables, BoundOrFreeIn}

pub within_decided : (f : Formula) (free these bound : List VarId) (b : Bool) → AreFreeVariables f free → these ≡ free → IsTrue b ↔ All (Contains bound) these
    → IsTrue b ↔ FreeWithin f (Contains bound)
within_decided f free these bound b are is told = (
  λ t x at. All-contains (Contains bound) these x (told.0 t) (subst (λ l. Contains l x) (sym is) ((are.exact x).1 at)),
  λ within. told.1 (all_from (Contains bound) these (λ x there. within x ((are.exact x).0 (subst (λ l. Contains l x) is there)))),
)

pub under_decided : {E : Type 0} (f : Formula) (xs bound all these : List VarId) (r : Result Bool E) → all ≡ xs ++ bound → these ≡ all
    → IfOk r (λ b. IsTrue b ↔ FreeWithin f (Contains these)) → IfOk r (λ b. IsTrue b ↔ FreeUnder xs f (Contains bound))
under_decided f xs bound all these (Err e) joined is told = tt
under_decided f xs bound all these (Ok b) joined is told = (
  λ t x free absent. ⊎_elim (λ front. absurd (absent front)) (λ back. back) (Contains-append xs bound x (subst (λ l. Contains l x) joined (subst (λ l. Contains l x) is (told.0 t x free)))),
  λ under. told.1 (λ x free. subst (λ l. Contains l x) (sym is) (subst (λ l. Contains l x) (sym joined)
      (⊎_elim (λ there. Contains-append_left xs bound x there) (λ absent. Contains-append_right xs bound x (under x free absent)) (among_or_not xs x)))),
)

pub free_decided : (f : Formula) (free these xs : List VarId) (b : Bool) → AreFreeVariables f free → these ≡ free → IsTrue b ↔ All (Contains these) xs
    → IsTrue b ↔ ((x : VarId) → Contains xs x → IsFree x f)
free_decided f free these xs b are is told = (
  λ t x there. (are.exact x).0 (subst (λ l. Contains l x) is (All-contains (Contains these) xs x (told.0 t) there)),
  λ each. told.1 (all_from (Contains these) xs (λ x there. subst (λ l. Contains l x) (sym is) ((are.exact x).1 (each x there)))),
)

-- a scope to which the free variables were added
pub with_added : (f : Formula) (bound start all : List VarId) → start ≡ bound → AddsVariables (λ x. IsFree x f) start all → (x : VarId) → Contains all x ↔ BoundOrFreeIn (Contains bound) f x
with_added f bound start all is a x = (
  λ there. ⊎_elim (λ before. inl (subst (λ l. Contains l x) is before)) (λ free. inr free) (a.only x there),
  λ either. ⊎_elim (λ before. a.kept x (subst (λ l. Contains l x) (sym is) before)) (λ free. a.added x free) either,
)

pub alike_from : (g h : Formula) (bound left right : List VarId) → ((x : VarId) → Contains left x ↔ BoundOrFreeIn (Contains bound) g x)
    → ((x : VarId) → Contains right x ↔ BoundOrFreeIn (Contains bound) h x) → All (Contains right) left → All (Contains left) right → FreeAlike (Contains bound) g h
alike_from g h bound left right is_left is_right l r x absent = (
  λ free. ⊎_elim (λ there. absurd (absent there)) (λ f. f) ((is_right x).0 (All-contains (Contains right) left x l ((is_left x).1 (inr free)))),
  λ free. ⊎_elim (λ there. absurd (absent there)) (λ f. f) ((is_left x).0 (All-contains (Contains left) right x r ((is_right x).1 (inr free)))),
)

-- where each variable that is not bound is free in both or in none, each of the one is of the other
pub all_from_alike : (g h : Formula) (bound left right : List VarId) → ((x : VarId) → Contains left x ↔ BoundOrFreeIn (Contains bound) g x)
    → ((x : VarId) → Contains right x ↔ BoundOrFreeIn (Contains bound) h x) → FreeAlike (Contains bound) g h → All (Contains right) left × All (Contains left) right
all_from_alike g h bound left right is_left is_right alike = (
  all_from (Contains right) left (λ x there. (is_right x).1 (⊎_elim (λ at. inl at) (λ free. ⊎_elim (λ at. inl at) (λ absent. inr ((alike x absent).0 free)) (among_or_not bound x))
      ((is_left x).0 there))),
  all_from (Contains left) right (λ x there. (is_left x).1 (⊎_elim (λ at. inl at) (λ free. ⊎_elim (λ at. inl at) (λ absent. inr ((alike x absent).1 free)) (among_or_not bound x))
      ((is_right x).0 there))),
)

pub alike_decided : (g h : Formula) (bound left right these those : List VarId) (b : Bool) → ((x : VarId) → Contains left x ↔ BoundOrFreeIn (Contains bound) g x)
    → ((x : VarId) → Contains right x ↔ BoundOrFreeIn (Contains bound) h x) → these ≡ left → those ≡ right
    → IsTrue b ↔ (All (Contains those) these × All (Contains these) those) → IsTrue b ↔ FreeAlike (Contains bound) g h
alike_decided g h bound left right these those b is_left is_right e f told =
    let left' = subst (λ l. (x : VarId) → Contains l x ↔ BoundOrFreeIn (Contains bound) g x) (sym e) is_left in
    let right' = subst (λ l. (x : VarId) → Contains l x ↔ BoundOrFreeIn (Contains bound) h x) (sym f) is_right in
    (λ t. alike_from g h bound these those left' right' (told.0 t).0 (told.0 t).1, λ alike. told.1 (all_from_alike g h bound these those left' right' alike))
