-- Where nodes still lie once another came or went.
use Rattle.cursor_list.proofs.Vocabulary.{◌≡◌, refl, sym, ap, ◌∙◌, List, [], ◌∷◌, ◌++◌, ℕ, zero, suc, ◌<◌, ◌≤◌, arith, length, Link, links_of, place_of, link_at, place_of-is, KeepsPlaces}

module _ {Z : Type 0} where
  front_at : (ns ms : List (Link × Z)) (i : ℕ) → i < length ns → (link_at (links_of ns) i).0 ≡ (link_at (links_of (ns ++ ms)) i).0
  front_at [] ms i p = absurd (omega arith)
  front_at (n ∷ ns) ms zero p = refl
  front_at (n ∷ ns) ms (suc i) p = front_at ns ms i (omega arith)

  -- those in front stay where those after them go
  pub keeps_front : (ns ms : List (Link × Z)) (n : ℕ) → n ≤ length ns → KeepsPlaces n (links_of (ns ++ ms)) (links_of ns)
  keeps_front ns ms n p i q = place_of-is (links_of ns) i ∙ front_at ns ms i (omega arith) ∙ sym (place_of-is (links_of (ns ++ ms)) i)

  same_at : (ns : List (Link × Z)) (m w : Link × Z) (ms ws : List (Link × Z)) (i : ℕ) → w.0.0 ≡ m.0.0 → i < suc (length ns)
      → (link_at (links_of (ns ++ w ∷ ws)) i).0 ≡ (link_at (links_of (ns ++ m ∷ ms)) i).0
  same_at [] m w ms ws zero e p = e
  same_at [] m w ms ws (suc i) e p = absurd (omega arith)
  same_at (n ∷ ns) m w ms ws zero e p = refl
  same_at (n ∷ ns) m w ms ws (suc i) e p = same_at ns m w ms ws i e (omega arith)

  -- those in front and the one that is linked otherwise stay
  pub keeps_through : (ns : List (Link × Z)) (m w : Link × Z) (ms ws : List (Link × Z)) (n : ℕ) → w.0.0 ≡ m.0.0 → n ≤ suc (length ns)
      → KeepsPlaces n (links_of (ns ++ m ∷ ms)) (links_of (ns ++ w ∷ ws))
  keeps_through ns m w ms ws n e p i q = place_of-is (links_of (ns ++ w ∷ ws)) i ∙ same_at ns m w ms ws i e (omega arith) ∙ sym (place_of-is (links_of (ns ++ m ∷ ms)) i)

-- a list around the item at i, which is not the first
pub record Around {Y : Type 0} (xs : List Y) (i : ℕ) : Type 0 where
  pub front : List Y
  pub left : Y
  pub here : Y
  pub back : List Y
  pub is : xs ≡ front ++ left ∷ here ∷ back
  pub far : suc (length front) ≡ i

pub around : {Y : Type 0} (xs : List Y) (i : ℕ) → 0 < i → i < length xs → Around xs i
around [] i p q = absurd (omega arith)
around (x ∷ []) i p q = absurd (omega arith)
around (x ∷ y ∷ xs) zero p q = absurd (omega arith)
around (x ∷ y ∷ xs) (suc zero) p q = record { front = []; left = x; here = y; back = xs; is = refl; far = refl }
around (x ∷ y ∷ xs) (suc (suc i)) p q =
    let on = around (y ∷ xs) (suc i) (omega arith) (omega arith) in
    record { front = x ∷ on.front; left = on.left; here = on.here; back = on.back; is = ap (λ l. x ∷ l) on.is; far = ap suc on.far }

module _ {Z : Type 0} (l m : Link × Z) (ms : List (Link × Z)) where
  link_here : (ns : List (Link × Z)) (i : ℕ) → suc (length ns) ≡ i → (link_at (links_of (ns ++ l ∷ m ∷ ms)) i).0 ≡ m.0.0
  link_here [] zero e = absurd (omega arith)
  link_here [] (suc zero) e = refl
  link_here [] (suc (suc i)) e = absurd (omega arith)
  link_here (n ∷ ns) zero e = absurd (omega arith)
  link_here (n ∷ ns) (suc i) e = link_here ns i (omega arith)

  -- the node there lies where the list says
  pub here_at : (ns : List (Link × Z)) (i : ℕ) → suc (length ns) ≡ i → place_of (links_of (ns ++ l ∷ m ∷ ms)) i ≡ m.0.0
  here_at ns i e = place_of-is (links_of (ns ++ l ∷ m ∷ ms)) i ∙ link_here ns i e
