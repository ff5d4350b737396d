-- What can be evaluated can be with its parts in another order.
use Rattle.monitorable_guard.proofs.Vocabulary.{ℕ, ◌+◌, inl, inr, ⊎_elim, List, ◌++◌, length, Option, None, Some, ◌↔◌, VarId, Formula, Not, And, Or, Implies, Exists, Forall, IsFree, Safe, SafeBelow}
use Rattle.monitorable_guard.proofs.Vocabulary.{BoundOrFreeIn, outermost}
use Rattle.monitorable_guard.proofs.ReorderingParts.{part_free}
use Rattle.monitorable_guard.proofs.SafetyGrowth.{AreKnown, known_with, safe_grows}
use Rattle.monitorable_guard.proofs.SafetyLemmas.{Same, safe_same}
use Rattle.monitorable_guard.specs.machine.Reordering.{IsReordered, only_formula}

-- ---- what the parts of it are

pub not_part : (above : Option (List VarId)) (place : ℕ) (g : Formula) (B : VarId → Type 0) → SafeBelow above (Not place g) B → Safe g B
not_part None place g B safe = safe.1
not_part (Some xs) place g B safe = safe.1

pub exists_part : (above : Option (List VarId)) (place : ℕ) (xs : List VarId) (g : Formula) (B : VarId → Type 0) → SafeBelow above (Exists place xs g) B → Safe g B
exists_part None place xs g B safe = safe
exists_part (Some ys) place xs g B safe = absurd safe

pub forall_part : (above : Option (List VarId)) (place : ℕ) (xs : List VarId) (g : Formula) (B : VarId → Type 0) → SafeBelow above (Forall place xs g) B
    → (below : Option (List VarId)) × SafeBelow below g B
forall_part None place xs g B safe = (Some xs, safe)
forall_part (Some ys) place xs g B safe = (Some (ys ++ xs), safe)

pub and_whole : (above : Option (List VarId)) (place : ℕ) (g h : Formula) (B : VarId → Type 0) → SafeBelow above (And place g h) B → Safe (And place g h) B
and_whole None place g h B safe = safe
and_whole (Some xs) place g h B safe = absurd safe

-- a conjunction is below no `forall`
pub and_below : (above : Option (List VarId)) (place : ℕ) (g h a : Formula) (B : VarId → Type 0) → Safe a B → SafeBelow above (And place g h) B → SafeBelow above a B
and_below None place g h a B ordered safe = ordered
and_below (Some xs) place g h a B ordered safe = absurd safe

pub or_parts : (above : Option (List VarId)) (place : ℕ) (g h : Formula) (B : VarId → Type 0) → SafeBelow above (Or place g h) B → Safe g B × Safe h B
or_parts None place g h B safe = (safe.0, safe.1)
or_parts (Some xs) place g h B safe = absurd safe

pub implies_parts : (above : Option (List VarId)) (place : ℕ) (g h : Formula) (B : VarId → Type 0) → AreKnown B → SafeBelow above (Implies place g h) B
    → Safe g B × Safe h (BoundOrFreeIn B g)
implies_parts None place g h B known safe = (safe.2, safe_grows None h B (BoundOrFreeIn B g) (λ x b. inl b) (known_with B g known) safe.3)
implies_parts (Some xs) place g h B known safe = (safe.2, safe.3)

-- ---- one part

module _ (first : ℕ) (g a : Formula) (ns : List ℕ) (part : IsReordered (only_formula first g) a ns) (B : VarId → Type 0) where
  pub not_again : (above : Option (List VarId)) (place : ℕ) → Safe a B → SafeBelow above (Not place g) B → SafeBelow above (Not place a) B
  not_again None place ordered safe = (λ x free. safe.0 x ((part_free first g a ns part x).0 free), ordered)
  not_again (Some xs) place ordered safe = (λ x free absent. safe.0 x ((part_free first g a ns part x).0 free) absent, ordered)

  pub exists_again : (above : Option (List VarId)) (place : ℕ) (xs : List VarId) → Safe a B → SafeBelow above (Exists place xs g) B → SafeBelow above (Exists place xs a) B
  exists_again None place xs ordered safe = ordered
  exists_again (Some ys) place xs ordered safe = absurd safe

  pub forall_again : ((below : Option (List VarId)) → SafeBelow below g B → SafeBelow below a B) → (above : Option (List VarId)) (place : ℕ) (xs : List VarId)
      → SafeBelow above (Forall place xs g) B → SafeBelow above (Forall place xs a) B
  forall_again each None place xs safe = each (Some xs) safe
  forall_again each (Some ys) place xs safe = each (Some (ys ++ xs)) safe

-- ---- two parts

module _ (first : ℕ) (g h a b : Formula) (ns ms : List ℕ) (left : IsReordered (only_formula first g) a ns)
    (right : IsReordered (only_formula (first + length (outermost g)) h) b ms) (B : VarId → Type 0) where
  free_left : (x : VarId) → IsFree x a ↔ IsFree x g
  free_left x = part_free first g a ns left x

  free_right : (x : VarId) → IsFree x b ↔ IsFree x h
  free_right x = part_free (first + length (outermost g)) h b ms right x

  pub or_again : (above : Option (List VarId)) (place : ℕ) → Safe a B → Safe b B → SafeBelow above (Or place g h) B → SafeBelow above (Or place a b) B
  or_again None place first_safe second_safe safe = (
    first_safe,
    second_safe,
    λ x absent.
        let alike = safe.2 x absent in (
          λ free. (free_right x).1 (alike.0 ((free_left x).0 free)),
          λ free. (free_left x).1 (alike.1 ((free_right x).0 free)),
        ),
  )
  or_again (Some xs) place first_safe second_safe safe = absurd safe

  -- with the first part's variables bound as they are, and where they are
  same_scope : Same (BoundOrFreeIn B g) (BoundOrFreeIn B a)
  same_scope x = (
    λ either. ⊎_elim (λ there. inl there) (λ free. inr ((free_left x).1 free)) either,
    λ either. ⊎_elim (λ there. inl there) (λ free. inr ((free_left x).0 free)) either,
  )

  pub implies_again : (above : Option (List VarId)) (place : ℕ) → Safe a B → Safe b (BoundOrFreeIn B g) → SafeBelow above (Implies place g h) B → SafeBelow above (Implies place a b) B
  implies_again None place first_safe second_safe safe = (
    λ x free. safe.0 x ((free_left x).0 free),
    λ x free. safe.1 x ((free_right x).0 free),
    first_safe,
    safe_same None b (BoundOrFreeIn B g) B (λ x. (λ either. ⊎_elim (λ there. there) (λ free. safe.0 x free) either, λ there. inl there)) second_safe,
  )
  implies_again (Some xs) place first_safe second_safe safe = (
    λ x free absent. safe.0 x (⊎_elim (λ f. inl ((free_left x).0 f)) (λ f. inr ((free_right x).0 f)) free) absent,
    λ x there. (free_left x).1 (safe.1 x there),
    first_safe,
    safe_same None b (BoundOrFreeIn B g) (BoundOrFreeIn B a) same_scope second_safe,
    λ x free. (same_scope x).0 (safe.4 x ((free_right x).0 free)),
  )
