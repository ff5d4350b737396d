-- What stays in front, and what roots begin, one after another.
use Rattle.obligations.proofs.Vocabulary.{◌≡◌, Contains, ⊎_elim, ℕ, suc, ◌+◌, ◌<◌, List, [], ◌∷◌, ◌++◌, length, map, take, get_or, Some, refl, sym, ap, subst, arith, ◌∙◌, append_assoc, slice_get}
use Rattle.obligations.proofs.Vocabulary.{AllByRecursion, append-nil, length-map, length-take-le, map_more, AllByRecursion-append, AllByRecursion-contains, Contains-append, no_values, Step, Plan}
use Rattle.obligations.proofs.Vocabulary.{StandsIn, AddsAsked, IsBegunHere, IsNowOf, guards_now, Begun, ComesOfRoot, BegunByRoots, CanAskOf, Instance, Now}

-- one root more
roots_more : (trace : List Step) (rule : ℕ) (ps : List Plan) (p : Plan) (xs ys : List Instance) → BegunByRoots trace rule ps xs
    → Begun trace (rule + length ps) p no_values ys → BegunByRoots trace rule (ps ++ p ∷ []) (xs ++ ys)
roots_more trace rule [] p xs ys none begun = (
  ys,
  [],
  subst (λ n. Begun trace n p no_values ys) {x = rule + 0} {y = rule} (omega arith) begun,
  refl,
  ap (λ l. l ++ ys) none ∙ sym (append-nil ys),
)
roots_more trace rule (q ∷ ps) p xs ys (first, rest, one, others, are) begun = (
  first,
  rest ++ ys,
  one,
  roots_more trace (suc rule) ps p rest ys others (subst (λ n. Begun trace n p no_values ys) {x = rule + suc (length ps)} {y = suc rule + length ps} (omega arith) begun),
  ap (λ l. l ++ ys) are ∙ append_assoc first rest ys,
)

module _ {X : Type 0} (f : X → Plan) (xs : List X) (k : ℕ) (x : X) (within : k < length xs) (at : x ≡ get_or xs k x) where
  rule_is : k ≡ 0 + length (map f (take k xs))
  rule_is = omega (arith, length-map (take k xs) f, length-take-le k xs (omega (arith, within)))

  fronts : map f (take (k + 1) xs) ≡ map f (take k xs) ++ f x ∷ []
  fronts = map_more f xs k x within ∙ ap (λ y. map f (take k xs) ++ f y ∷ []) (sym at)

  module _ (now : Now) (before after : List Instance)
      (puts : AddsAsked now k (f x) (λ trace. Begun trace k (f x) no_values) before after) where
    pub root_more : ((trace : List Step) → IsNowOf now trace → BegunByRoots trace 0 (map f (take k xs)) before)
        → (trace : List Step) → IsNowOf now trace → BegunByRoots trace 0 (map f (take (k + 1) xs)) after
    root_more front trace is =
        subst (λ ps. BegunByRoots trace 0 ps after) (sym fronts)
        (subst (BegunByRoots trace 0 (map f (take k xs) ++ f x ∷ [])) (sym puts.adds.grown)
        (roots_more trace 0 (map f (take k xs)) (f x) before puts.adds.more (front trace is)
        (subst (λ n. Begun trace n (f x) no_values puts.adds.more) rule_is (puts.adds.are trace is))))

    pub root_asked : (plans : List Plan) → StandsIn plans k (f x) → AllByRecursion (CanAskOf (guards_now now) plans) before
        → AllByRecursion (CanAskOf (guards_now now) plans) after
    root_asked plans stands asked =
        subst (AllByRecursion (CanAskOf (guards_now now) plans)) (sym puts.adds.grown)
        (AllByRecursion-append (CanAskOf (guards_now now) plans) before puts.adds.more asked (puts.asked plans stands))

    pub root_comes : (plans : List Plan) → slice_get plans k ≡ Some (f x) → ((j : Instance) → Contains before j → ComesOfRoot now plans j)
        → (j : Instance) → Contains after j → ComesOfRoot now plans j
    root_comes plans found come j there =
        ⊎_elim (come j) (λ new. (k, f x, found, AllByRecursion-contains (IsBegunHere now k (f x)) puts.adds.more j puts.begun new))
        (Contains-append before puts.adds.more j (subst (λ (l : List Instance). Contains l j) puts.adds.grown there))
