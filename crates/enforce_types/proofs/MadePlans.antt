-- What holds of a plan that a rule makes, where it holds of each plan that the rule can make.
use Rattle.enforce_types.proofs.Vocabulary.{◌≡◌, ◌<◌, arith, ℕ, zero, suc, Bool, true, false, List, [], ◌++◌, Option, None, Some, Ok, Err, Contains, refl, subst, VarId, Formula, And, Not}
use Rattle.enforce_types.proofs.Vocabulary.{formula_place, IsTest, Plan, Either, TestOr, Guarded, Answer, LeafWhere, OverOne, OverTwo, OneOfTwo, IsGuardFor, ImplicationAnswer, Exclusion, WithEnd}
use Rattle.enforce_types.proofs.Vocabulary.{FromNow, Refusal}

pub made_is : (p q : Plan) → ◌≡◌ {A = Answer} (Ok p) (Ok q) → q ≡ p
made_is p q e = cc

pub not_refused : (p : Plan) (r : Refusal) → ◌≡◌ {A = Answer} (Ok p) (Err r) → ⊥
not_refused p r e = cc

pub with_end : (place : ℕ) (high : Option ℕ) (within : ℕ → Answer → Type 0) (p : Plan) → WithEnd place high within (Ok p) → (n : ℕ) × (high ≡ Some n) × within n (Ok p) × (0 < n)
with_end place None within p refused = absurd (not_refused p _ refused)
with_end place (Some zero) within p refused = absurd (not_refused p _ refused)
with_end place (Some (suc n)) within p holds = (suc n, refl, holds, omega arith)

pub from_now : (place low : ℕ) (high : Option ℕ) (within : ℕ → Answer → Type 0) (p : Plan) → FromNow place low high within (Ok p) → (n : ℕ) × (low ≡ 0) × (high ≡ Some n) × within n (Ok p) × (0 < n)
from_now place zero high within p holds = let found = with_end place high within p holds in (found.0, refl, found.1, found.2, found.3)
from_now place (suc low) high within p refused = absurd (not_refused p _ refused)

module _ (P : Plan → Type 0) (p : Plan) where
  pub by_made : (q : Plan) → ◌≡◌ {A = Answer} (Ok p) (Ok q) → P q → P p
  by_made q is holds = subst P (made_is p q is) holds

  pub by_leaf : (may : Bool) (place : ℕ) (leaf : Plan) → LeafWhere may place leaf (Ok p) → P leaf → P p
  by_leaf true place leaf is holds = by_made leaf is holds
  by_leaf false place leaf is holds = absurd (not_refused p _ is)

  pub by_one : (one : Answer → Type 0) (node : Plan → Plan) → OverOne one node (Ok p) → ((q : Plan) → one (Ok q) → P (node q)) → P p
  by_one one node (OverOne.operand_made q h is) each = by_made (node q) is (each q h)
  by_one one node (OverOne.operand_refused r h is) each = absurd (not_refused p r is)

  pub by_two : (first second : Answer → Type 0) (node : Plan → Plan → Plan) → OverTwo first second node (Ok p) → ((l r : Plan) → first (Ok l) → second (Ok r) → P (node l r)) → P p
  by_two first second node (OverTwo.two_made l r h k is) each = by_made (node l r) is (each l r h k)
  by_two first second node (OverTwo.first_refused r h is) each = absurd (not_refused p r is)
  by_two first second node (OverTwo.second_refused l r h k is) each = absurd (not_refused p r is)

  pub by_one_of_two : (scope : List VarId) (l r : Formula) (left right : Answer → Type 0)
      → OneOfTwo scope l r left right (Ok p) → ((q : Plan) → right (Ok q) → IsTest l (Contains scope)
      → P (TestOr 0 0 l q))
      → ((o q : Plan) → left (Ok o) → right (Ok q) → P (Either 0 o q)) → ((q : Plan) → left (Ok q) → IsTest r (Contains scope) → P (TestOr 0 0 r q)) → P p
  by_one_of_two scope l r left right (OneOfTwo.left_test q k t is) first both second = by_made (TestOr 0 0 l q) is (first q k t)
  by_one_of_two scope l r left right (OneOfTwo.either_made q o k n h is) first both second = by_made (Either 0 o q) is (both o q h k)
  by_one_of_two scope l r left right (OneOfTwo.left_refused q x k n h is) first both second = absurd (not_refused p x is)
  by_one_of_two scope l r left right (OneOfTwo.right_refused x k n is) first both second = absurd (not_refused p x is)
  by_one_of_two scope l r left right (OneOfTwo.right_test x q k t h is) first both second = by_made (TestOr 0 0 r q) is (second q h t)
  by_one_of_two scope l r left right (OneOfTwo.both_refused x y k t h is) first both second = absurd (not_refused p y is)

  pub by_exclusion : (place : ℕ) (scope xs : List VarId) (g : Formula) (down : List VarId → Answer → Type 0) → Exclusion place scope xs g down (Ok p)
      → ((q : Plan) → down (scope ++ xs) (Ok q) → IsGuardFor scope xs g → P (Guarded 0 xs 0 g q)) → P p
  by_exclusion place scope xs g down (Exclusion.exclusion_refused r h is) each = absurd (not_refused p r is)
  by_exclusion place scope xs g down (Exclusion.exclusion_unguarded q h n is) each = absurd (not_refused p _ is)
  by_exclusion place scope xs g down (Exclusion.exclusion_guarded q h guards is) each = by_made (Guarded 0 xs 0 g q) is (each q h guards)

  pub by_implication : (place arrow : ℕ) (scope xs : List VarId) (g h : Formula) (down up : List VarId → Answer → Type 0) → ImplicationAnswer place arrow scope xs g h down up (Ok p)
      → ((q : Plan) → up (scope ++ xs) (Ok q) → IsGuardFor scope xs g → P (Guarded 0 xs 0 g q))
      → ((o q : Plan) → down scope (Ok o) → up (scope ++ xs) (Ok q) → xs ≡ [] → P (Either 0 o q))
      → ((q : Plan) → down (scope ++ xs) (Ok q) → IsGuardFor scope xs g → IsTest h (Contains (scope ++ xs)) → P (Guarded 0 xs 0 (And arrow g (Not (formula_place h) h)) q))
      → ((q : Plan) → down (scope ++ xs) (Ok q) → IsTest h (Contains (scope ++ xs)) → xs ≡ [] → P (TestOr 0 0 h q)) → P p
  by_implication place arrow scope xs g h down up (ImplicationAnswer.implication_guarded q k guards is) first both denied test = by_made (Guarded 0 xs 0 g q) is (first q k guards)
  by_implication place arrow scope xs g h down up (ImplicationAnswer.implication_unguarded q k n m is) first both denied test = absurd (not_refused p _ is)
  by_implication place arrow scope xs g h down up (ImplicationAnswer.implication_either q o k n none i is) first both denied test = by_made (Either 0 o q) is (both o q i k none)
  by_implication place arrow scope xs g h down up (ImplicationAnswer.premise_refused q x k n none i is) first both denied test = absurd (not_refused p x is)
  by_implication place arrow scope xs g h down up (ImplicationAnswer.conclusion_refused r k n is) first both denied test = absurd (not_refused p r is)
  by_implication place arrow scope xs g h down up (ImplicationAnswer.implication_refused r x k t j is) first both denied test = absurd (not_refused p x is)
  by_implication place arrow scope xs g h down up (ImplicationAnswer.test_guarded r q k t j guards is) first both
      denied test = by_made (Guarded 0 xs 0 (And arrow g (Not (formula_place h) h)) q) is (denied q j guards t)
  by_implication place arrow scope xs g h down up (ImplicationAnswer.test_unguarded r q k t j n m is) first both denied test = absurd (not_refused p _ is)
  by_implication place arrow scope xs g h down up (ImplicationAnswer.implication_tested r q k t j n none is) first both denied test = by_made (TestOr 0 0 h q) is (test q j t none)
