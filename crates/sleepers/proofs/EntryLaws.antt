-- Lists of entries that have one entry more or less.
use Rattle.sleepers.proofs.Vocabulary.{first_or_later, later, ⊎_elim, arith, subst, sym, Entry, ArePlaced, HasOneMoreEntry, entry_places, Place}
use Rattle.std.specs.Prelude.{List, [], ◌∷◌, ◌++◌, Contains}

module _ {T : Type 0} where
  in_more : (front back : List (Entry T)) (entry : Entry T) (q : Place) → Contains (entry_places (front ++ back)) q
      → Contains (entry_places (front ++ entry ∷ back)) q
  in_more [] back entry q there = later q entry.place (entry_places back) there
  in_more (f ∷ front) back entry q there =
      ⊎_elim (λ same. (0, omega arith, same))
      (λ on. later q f.place (entry_places (front ++ entry ∷ back)) (in_more front back entry q on))
      (first_or_later q f.place (entry_places (front ++ back)) there)

  pub without_placed : (front back : List (Entry T)) (entry : Entry T) → ArePlaced (front ++ entry ∷ back)
      → ArePlaced (front ++ back)
  without_placed [] back entry order = order.1
  without_placed (f ∷ front) back entry order =
      ((λ q there. order.0 q (in_more front back entry q there)), without_placed front back entry order.1)

  pub fewer_placed : (x : Entry T) (fewer more : List (Entry T)) → HasOneMoreEntry x fewer more → ArePlaced fewer
  fewer_placed x fewer more one =
      subst ArePlaced (sym one.fewer_is) (without_placed one.front one.back x (subst ArePlaced one.more_is one.placed))
