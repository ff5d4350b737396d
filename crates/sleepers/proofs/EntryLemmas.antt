-- Lists of entries in the order of their places.
use Rattle.sleepers.proofs.Vocabulary.{◌≡◌, List, [], ◌∷◌, ◌++◌, Contains, ◌⊎◌, inl, inr, ⊎_elim, refl, ap, arith, Bor, later, first_or_later, none_in_nil, entry_places, shown, Place, Entry}

module _ {T : Type 0} where
  -- ---- one entry more

  pub in_fewer : (front back : List (Entry T)) (entry : Entry T) (q : Place) → Contains (entry_places (front ++ entry ∷ back)) q
      → (entry.place ≡ q) ⊎ Contains (entry_places (front ++ back)) q
  in_fewer [] back entry q there = first_or_later q entry.place (entry_places back) there
  in_fewer (f ∷ front) back entry q there =
      ⊎_elim (λ same. inr (0, omega arith, same)) (λ on. ⊎_elim (λ same. inl same) (λ more. inr (later q f.place (entry_places (front ++ back)) more)) (in_fewer front back entry q on))
      (first_or_later q f.place (entry_places (front ++ entry ∷ back)) there)

  pub in_places : (entries : List (Entry T)) (entry : Entry T) → Contains entries entry → Contains (entry_places entries) entry.place
  in_places [] entry there = absurd (none_in_nil entry there)
  in_places (e ∷ entries) entry there =
      ⊎_elim (λ same. (0, omega arith, ap (λ (z : Entry T). z.place) same)) (λ on. later entry.place e.place (entry_places entries) (in_places entries entry on)) (first_or_later entry e entries there)

-- ---- references

module _ {X : Type 0} where
  pub shown_put : (references : List (Bor X)) (r : Bor X) → shown (references ++ r ∷ []) ≡ shown references ++ r.now ∷ []
  shown_put [] r = refl
  shown_put (q ∷ references) r = ap (λ (l : List X). q.now ∷ l) (shown_put references r)
