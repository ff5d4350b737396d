use Rattle.sleepers.proofs.Vocabulary.{rules, ◌≡◌, ◌<◌, [], ◌∷◌, refl, arith, length, IsPlaceBefore, Place}
use Rattle.sleepers.proofs.places.+compare.Goals as goal

short_before : (p q : Place) → length p ≡ 0 → 0 < length q → IsPlaceBefore p q
short_before [] [] none some = absurd (omega (arith, some))
short_before [] (t ∷ q) none some = tt
short_before (s ∷ p) q none some = absurd (omega (arith, none))

pub returns-else-is_empty-clause-before : goal.returns-else-is_empty-clause-before
returns-else-is_empty-clause-before t c =
    ((λ less. short_before c.args.place.now c.args.other.now (search (rules, arith)) (grind (arith, c.if-is_empty.false))), λ before. refl)
