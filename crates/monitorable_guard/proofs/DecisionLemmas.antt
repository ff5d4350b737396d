-- From what a decision's parts ask to what it asks.
use Rattle.monitorable_guard.proofs.Vocabulary.{◌≡◌, ℕ, Bool, true, [], None, Contains, IsTrue, ◌↔◌, Result, Ok, Err, IfOk, Box, refl, ⊎_elim, inl, inr, VarId, Formula, tree_of, Global, none_in_nil}
use Rattle.monitorable_guard.proofs.Vocabulary.{Safe, FreeWithin, BoundOrFreeIn, NoneBound, denial}
use Rattle.monitorable_guard.proofs.SafetyLemmas.{Same, safe_same}
use Rattle.enf_formula.specs.declared.formulas.Formula as stored

module _ {E : Type 0} (r : Result Bool E) where
  pub decides_alike : (P Q : Type 0) → P ↔ Q → IfOk r (λ b. IsTrue b ↔ P) → IfOk r (λ b. IsTrue b ↔ Q)
  decides_alike P Q alike told = by r told
    where
      by : (s : Result Bool E) → IfOk s (λ b. IsTrue b ↔ P) → IfOk s (λ b. IsTrue b ↔ Q)
      by (Ok b) h = (λ t. alike.0 (h.0 t), λ q. h.1 (alike.1 q))
      by (Err e) h = tt

  -- where the first part was found true, the second decides both
  pub decides_second : (b : Bool) (P Q : Type 0) → IsTrue b ↔ P → b ≡ true → IfOk r (λ c. IsTrue c ↔ Q) → IfOk r (λ c. IsTrue c ↔ (P × Q))
  decides_second b P Q first t told = decides_alike Q (P × Q) (λ q. (first.0 t, q), λ both. both.1) told

pub nothing_listed : Same (Contains []) NoneBound
nothing_listed x = (none_in_nil x, λ b. absurd b)

pub safe_by_itself : (g : Formula) → Safe g (Contains []) ↔ Safe g NoneBound
safe_by_itself g = (safe_same None g (Contains []) NoneBound nothing_listed, safe_same None g NoneBound (Contains []) (λ x. ((nothing_listed x).1, (nothing_listed x).0)))

turned : (B C : VarId → Type 0) → Same B C → Same C B
turned B C same x = ((same x).1, (same x).0)

pub safe_alike : (g : Formula) (B C : VarId → Type 0) → Same B C → Safe g B ↔ Safe g C
safe_alike g B C same = (safe_same None g B C same, safe_same None g C B (turned B C same))

pub within_alike : (g : Formula) (B C : VarId → Type 0) → Same B C → FreeWithin g B ↔ FreeWithin g C
within_alike g B C same = (λ w x free. (same x).0 (w x free), λ w x free. (same x).1 (w x free))

pub with_alike : (g : Formula) (B C : VarId → Type 0) → Same B C → Same (BoundOrFreeIn B g) (BoundOrFreeIn C g)
with_alike g B C same x = (λ b. ⊎_elim (λ b. inl ((same x).0 b)) (λ f. inr f) b, λ b. ⊎_elim (λ b. inl ((same x).1 b)) (λ f. inr f) b)

-- what is asked of both formulas of a list of bound variables and of a set
pub pair_alike : (g h : Formula) (B C : VarId → Type 0) → Same B C → (Safe g B × (FreeWithin h (BoundOrFreeIn B g) × Safe h (BoundOrFreeIn B g))) ↔
    (Safe g C × (FreeWithin h (BoundOrFreeIn C g) × Safe h (BoundOrFreeIn C g)))
pair_alike g h B C same = (
  λ s. (
    (safe_alike g B C same).0 s.0,
    (
      (within_alike h (BoundOrFreeIn B g) (BoundOrFreeIn C g) (with_alike g B C same)).0 s.1.0,
      (safe_alike h (BoundOrFreeIn B g) (BoundOrFreeIn C g) (with_alike g B C same)).0 s.1.1,
    ),
  ),
  λ s. (
    (safe_alike g B C same).1 s.0,
    (
      (within_alike h (BoundOrFreeIn B g) (BoundOrFreeIn C g) (with_alike g B C same)).1 s.1.0,
      (safe_alike h (BoundOrFreeIn B g) (BoundOrFreeIn C g) (with_alike g B C same)).1 s.1.1,
    ),
  ),
)

pub test_alike : (g : Formula) (B C : VarId → Type 0) → Same B C → (FreeWithin g B × Safe g B) ↔ (FreeWithin g C × Safe g C)
test_alike g B C same = (λ s. ((within_alike g B C same).0 s.0, (safe_alike g B C same).0 s.1), λ s. ((within_alike g B C same).1 s.0, (safe_alike g B C same).1 s.1))

-- the denial of a formula that is no denial and no implication
pub denial_else : (f : stored.Formula) → ((place : ℕ) (b : Box stored.Formula Global) → f ≡ stored.Not place b → ⊥)
    → ((place : ℕ) (a b : Box stored.Formula Global) → f ≡ stored.Implies place a b → ⊥)
    → (FreeWithin (tree_of f) (Contains []) × Safe (tree_of f) (Contains [])) ↔ Safe (denial (tree_of f)) NoneBound
denial_else (stored.Not' place q g) n m = absurd (n place (record { ptr = q.ptr; alloc = q.alloc; value = g }) refl)
denial_else (stored.Implies' place p a q b) n m = absurd (m place (record { ptr = p.ptr; alloc = p.alloc; value = a }) (record { ptr = q.ptr; alloc = q.alloc; value = b }) refl)
denial_else f n m = test_alike (tree_of f) (Contains []) NoneBound nothing_listed
