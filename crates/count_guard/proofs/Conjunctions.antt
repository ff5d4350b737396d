-- When all of some formulas hold, and when pairs of variables are equal.
use Rattle.count_guard.proofs.Vocabulary.{◌≡◌, ℕ, ◌↔◌, List, [], ◌∷◌, ◌++◌, Option, Some, length, map, drop, refl, sym, ap, subst, ◌∙◌, arith, AllByRecursion, Step, VarId, Value, Valuation}
use Rattle.count_guard.proofs.Vocabulary.{value_at, Formula, And, Sat, AreSameValues, all_of, conjoined_with, equal_pairs, Equal, Var, map_push, tree_of}
use Rattle.enf_formula.specs.declared.formulas.Formula.{Formula as Stored}

module _ (at : ℕ) (trace : List Step) (i : ℕ) (v : Valuation) where
  conjoined_holds : (f : Formula) (fs : List Formula) → Sat trace i v (conjoined_with at f fs) ↔ (Sat trace i v f × AllByRecursion (Sat trace i v) fs)
  conjoined_holds f [] = (λ s. (s, tt), λ s. s.0)
  conjoined_holds f (g ∷ fs) = let rest = conjoined_holds g fs in (λ s. (s.0, rest.0 s.1), λ s. (s.0, rest.1 s.1))

  pub all_of_holds : (fs : List Formula) → Sat trace i v (all_of at fs) ↔ AllByRecursion (Sat trace i v) fs
  all_of_holds [] = (λ s. s, λ s. s)
  all_of_holds (f ∷ fs) = conjoined_holds f fs

  -- variables with these values are equal where the values are
  pub pairs_hold : (xs ys : List VarId) (a b : List Value) → map (value_at v) xs ≡ map Some a → map (value_at v) ys ≡ map Some b → length ys ≡ length xs
      → AllByRecursion (Sat trace i v) (equal_pairs at xs ys) ↔ (a ≡ b)
  pairs_hold [] [] [] [] left right long = (λ all. refl, λ same. tt)
  pairs_hold [] [] [] (q ∷ b) left right long = absurd (cc)
  pairs_hold [] [] (p ∷ a) b left right long = absurd (cc)
  pairs_hold [] (y ∷ ys) a b left right long = absurd (omega (arith, long))
  pairs_hold (x ∷ xs) [] a b left right long = absurd (omega (arith, long))
  pairs_hold (x ∷ xs) (y ∷ ys) [] b left right long = absurd (cc)
  pairs_hold (x ∷ xs) (y ∷ ys) (p ∷ a) [] left right long = absurd (cc)
  pairs_hold (x ∷ xs) (y ∷ ys) (p ∷ a) (q ∷ b) left right long =
      let one : value_at v x ≡ Some p = cc in
      let other : value_at v y ≡ Some q = cc in
      let rest = pairs_hold xs ys a b (ap (λ (l : List (Option Value)). drop 1 l) left) (ap (λ (l : List (Option Value)). drop 1 l) right) (omega (arith, long)) in (
        λ all. let first : p ≡ q = subst (λ o. AreSameValues o (Some q)) one (subst (AreSameValues (value_at v x)) other all.0) in
            let more : a ≡ b = rest.0 all.1 in
            λ j. first j ∷ more j,
        λ same. let first : p ≡ q = cc in
            let more : a ≡ b = ap (λ (l : List Value). drop 1 l) same in
            (subst (λ o. AreSameValues o (value_at v y)) (sym one) (subst (AreSameValues (Some p)) (sym other) first), rest.1 more),
      )

-- the last of some formulas with one more
onto_last : (at : ℕ) (fs : List Formula) (f g h : Formula) → conjoined_with at h ((fs ++ f ∷ []) ++ g ∷ []) ≡ conjoined_with at h (fs ++ And at f g ∷ [])
onto_last at [] f g h = refl
onto_last at (k ∷ fs) f g h = ap (And at h) (onto_last at fs f g k)

pub all_push : (at : ℕ) (fs : List Formula) (f g : Formula) → all_of at ((fs ++ f ∷ []) ++ g ∷ []) ≡ all_of at (fs ++ And at f g ∷ [])
all_push at [] f g = refl
all_push at (h ∷ fs) f g = onto_last at fs f g h

-- pairs of one more variable
pub pairs_push : (at : ℕ) (xs ys : List VarId) (x y : VarId) → length xs ≡ length ys
    → equal_pairs at (xs ++ x ∷ []) (ys ++ y ∷ []) ≡ equal_pairs at xs ys ++ Equal at (Var x) (Var y) ∷ []
pairs_push at [] [] x y long = refl
pairs_push at [] (b ∷ ys) x y long = absurd (omega (arith, long))
pairs_push at (a ∷ xs) [] x y long = absurd (omega (arith, long))
pairs_push at (a ∷ xs) (b ∷ ys) x y long = ap (λ (fs : List Formula). Equal at (Var a) (Var b) ∷ fs) (pairs_push at xs ys x y (omega (arith, long)))

-- a formula of the program that was put last
pub push_trees : (items pushed : List Stored) (f : Stored) (trees : List Formula) → pushed ≡ items ++ f ∷ [] → map tree_of items ≡ trees
    → map tree_of pushed ≡ trees ++ tree_of f ∷ []
push_trees items pushed f trees is same = ap (map tree_of) is ∙ map_push tree_of items f ∙ ap (λ (fs : List Formula). fs ++ tree_of f ∷ []) same
