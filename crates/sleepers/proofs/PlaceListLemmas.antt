-- Lists that are put in the order of their places, and lists in this order.
use Rattle.sleepers.proofs.Vocabulary.{◌≡◌, ◌+◌, suc, Bool, true, false, cond, List, [], ◌∷◌, ◌++◌, Contains, ◌⊎◌, inl, inr, ⊎_elim, refl, sym, ap, subst, ◌∙◌, arith, length, length-append, is_lt}
use Rattle.sleepers.proofs.Vocabulary.{here, later, first_or_later, none_in_nil, HasNoRepeats, AllButThose, ArePlaced, HasOneMoreEntry, IsFreePlace, entry_places, HasIn, by_place, put_by_place}
use Rattle.sleepers.proofs.Vocabulary.{IsPlaceBefore, Place, place_cmp, Entry}
use Rattle.sleepers.proofs.EntryLemmas.{in_fewer, in_places}
use Rattle.sleepers.proofs.OrderLemmas.{before_else, before_on, not_back, not_itself}
use Rattle.sleepers.proofs.PlaceLemmas.{before_from_test, not_before_from_test}
use Rattle.sleepers.proofs.StepLemmas.{apart, in_middle, one_list, round_middle}
use Rattle.sleepers.proofs.EntryLaws.{without_placed}

module _ {T : Type 0} where
  -- ---- put in order

  pub in_put : (x : Entry T) (xs : List (Entry T)) (y : Entry T) → Contains (put_by_place x xs) y → (x ≡ y) ⊎ Contains xs y
  in_put x [] y there = first_or_later y x [] there
  in_put x (z ∷ xs) y there = by (is_lt (place_cmp x.place z.place)) (λ on. in_put x xs y on) there
    where
      by : (b : Bool) → (Contains (put_by_place x xs) y → (x ≡ y) ⊎ Contains xs y)
          → Contains (cond b (x ∷ z ∷ xs) (z ∷ put_by_place x xs)) y → (x ≡ y) ⊎ Contains (z ∷ xs) y
      by true rest among = first_or_later y x (z ∷ xs) among
      by false rest among =
          ⊎_elim (λ same. inr (0, omega arith, same)) (λ on. ⊎_elim (λ same. inl same) (λ more. inr (later y z xs more)) (rest on))
          (first_or_later y z (put_by_place x xs) among)

  put_has : (x : Entry T) (xs : List (Entry T)) (y : Entry T) → (x ≡ y) ⊎ Contains xs y → Contains (put_by_place x xs) y
  put_has x [] y there = ⊎_elim (λ same. (0, omega arith, same)) (λ on. absurd (none_in_nil y on)) there
  put_has x (z ∷ xs) y there = by (is_lt (place_cmp x.place z.place)) (λ on. put_has x xs y on)
    where
      by : (b : Bool) → ((x ≡ y) ⊎ Contains xs y → Contains (put_by_place x xs) y) → Contains (cond b (x ∷ z ∷ xs) (z ∷ put_by_place x xs)) y
      by true rest = ⊎_elim (λ same. (0, omega arith, same)) (λ on. later y x (z ∷ xs) on) there
      by false rest =
          ⊎_elim (λ same. later y z (put_by_place x xs) (rest (inl same)))
          (λ on. ⊎_elim (λ same. (0, omega arith, same)) (λ more. later y z (put_by_place x xs) (rest (inr more))) (first_or_later y z xs on)) there

  pub by_place_in : (xs : List (Entry T)) (y : Entry T) → Contains (by_place xs) y → Contains xs y
  by_place_in [] y there = there
  by_place_in (x ∷ xs) y there =
      ⊎_elim (λ same. (0, omega arith, same)) (λ on. later y x xs (by_place_in xs y on)) (in_put x (by_place xs) y there)

  pub by_place_has : (xs : List (Entry T)) (y : Entry T) → Contains xs y → Contains (by_place xs) y
  by_place_has [] y there = there
  by_place_has (x ∷ xs) y there =
      ⊎_elim (λ same. put_has x (by_place xs) y (inl same)) (λ on. put_has x (by_place xs) y (inr (by_place_has xs y on))) (first_or_later y x xs there)

  -- a place of one of the entries
  pub at_place : (xs : List (Entry T)) (q : Place) → Contains (entry_places xs) q → (x : Entry T) × Contains xs x × (x.place ≡ q)
  at_place [] q there = absurd (none_in_nil q there)
  at_place (x ∷ xs) q there =
      ⊎_elim (λ same. (x, here x xs, same)) (λ on. let more = at_place xs q on in (more.0, later more.0 x xs more.1, more.2)) (first_or_later q x.place (entry_places xs) there)

  put_placed : (x : Entry T) (xs : List (Entry T)) → ArePlaced xs → IsFreePlace x.place xs → ArePlaced (put_by_place x xs)
  put_placed x [] order free = ((λ q there. absurd (none_in_nil q there)), tt)
  put_placed x (z ∷ xs) order free =
      by (is_lt (place_cmp x.place z.place)) refl (put_placed x xs order.1 (λ there. free (later x.place z.place (entry_places xs) there)))
    where
      by : (b : Bool) → is_lt (place_cmp x.place z.place) ≡ b → ArePlaced (put_by_place x xs) → ArePlaced (cond b (x ∷ z ∷ xs) (z ∷ put_by_place x xs))
      by true is rest =
          let first = before_from_test x.place z.place is in (
            (λ q there. ⊎_elim (λ same. subst (λ (p : Place). IsPlaceBefore x.place p) same first) (λ on. before_on x.place z.place q first (order.0 q on))
                (first_or_later q z.place (entry_places xs) there)),
            order,
          )
      by false is rest =
          let behind = before_else x.place z.place (not_before_from_test x.place z.place is) (λ same. free (0, omega arith, sym same)) in (
            (λ q there.
                let (y, among, at) = at_place (put_by_place x xs) q there in
                ⊎_elim (λ same. subst (λ (p : Place). IsPlaceBefore z.place p) (ap (λ (e : Entry T). e.place) same ∙ at) behind)
                (λ on. subst (λ (p : Place). IsPlaceBefore z.place p) at (order.0 y.place (in_places xs y on))) (in_put x xs y among)),
            rest,
          )

  pub by_place_placed : (xs : List (Entry T)) → HasNoRepeats (entry_places xs) → ArePlaced (by_place xs)
  by_place_placed [] once = tt
  by_place_placed (x ∷ xs) once =
      put_placed x (by_place xs) (by_place_placed xs once.1)
      (λ there. let (y, among, at) = at_place (by_place xs) x.place there in once.0 (subst (λ (p : Place). Contains (entry_places xs) p) at (in_places xs y (by_place_in xs y among))))

  put_length : (x : Entry T) (xs : List (Entry T)) → length (put_by_place x xs) ≡ suc (length xs)
  put_length x [] = refl
  put_length x (z ∷ xs) = by (is_lt (place_cmp x.place z.place)) (put_length x xs)
    where
      by : (b : Bool) → length (put_by_place x xs) ≡ suc (length xs) → length (cond b (x ∷ z ∷ xs) (z ∷ put_by_place x xs)) ≡ suc (suc (length xs))
      by true rest = refl
      by false rest = ap suc rest

  pub by_place_length : (xs : List (Entry T)) → length (by_place xs) ≡ length xs
  by_place_length [] = refl
  by_place_length (x ∷ xs) = put_length x (by_place xs) ∙ ap suc (by_place_length xs)

  -- ---- one entry more

  pub in_of : (x : Entry T) (fewer more : List (Entry T)) (y : Entry T) → HasIn x fewer more → Contains more y → (x ≡ y) ⊎ Contains fewer y
  in_of x fewer more y one there =
      ⊎_elim (λ e. inl e) (λ on. inr (subst (λ (l : List (Entry T)). Contains l y) (sym one.fewer_is) on))
      (in_middle one.front one.back x y (subst (λ (l : List (Entry T)). Contains l y) one.more_is there))

  pub in_keeps : (x : Entry T) (fewer more : List (Entry T)) (y : Entry T) → HasIn x fewer more → Contains fewer y → Contains more y
  in_keeps x fewer more y one there =
      subst (λ (l : List (Entry T)). Contains l y) (sym one.more_is) (round_middle one.front one.back x y (subst (λ (l : List (Entry T)). Contains l y) one.fewer_is there))

  pub in_has : (x : Entry T) (fewer more : List (Entry T)) → HasIn x fewer more → Contains more x
  in_has x fewer more one = subst (λ (l : List (Entry T)). Contains l x) (sym one.more_is) (middle one.front one.back)
    where
      middle : (front back : List (Entry T)) → Contains (front ++ x ∷ back) x
      middle [] back = here x back
      middle (f ∷ front) back = later x f (front ++ x ∷ back) (middle front back)

  pub in_length : (x : Entry T) (fewer more : List (Entry T)) → HasIn x fewer more → length more ≡ length fewer + 1
  in_length x fewer more one =
      omega (arith, ap length one.fewer_is, ap length one.more_is, length-append one.front one.back, length-append one.front (x ∷ one.back))

  once_more : (front back : List (Entry T)) (x : Entry T) → HasNoRepeats (entry_places (front ++ back)) → IsFreePlace x.place (front ++ back)
      → HasNoRepeats (entry_places (front ++ x ∷ back))
  once_more [] back x once free = (free, once)
  once_more (f ∷ front) back x once free = (
    (λ there. ⊎_elim (λ same. free (0, omega arith, sym same)) once.0 (in_fewer front back x f.place there)),
    once_more front back x once.1 (λ there. free (later x.place f.place (entry_places (front ++ back)) there)),
  )

  once_fewer : (front back : List (Entry T)) (x : Entry T) → HasNoRepeats (entry_places (front ++ x ∷ back))
      → HasNoRepeats (entry_places (front ++ back)) × IsFreePlace x.place (front ++ back)
  once_fewer [] back x once = (once.1, once.0)
  once_fewer (f ∷ front) back x once =
      let on = once_fewer front back x once.1 in (
        ((λ there. once.0 (among front there)), on.0),
        (λ there. ⊎_elim (λ same. once.0 (subst (λ (p : Place). Contains (entry_places (front ++ x ∷ back)) p) (sym same) (in_places (front ++ x ∷ back) x (middle front)))) on.1
            (first_or_later x.place f.place (entry_places (front ++ back)) there)),
      )
    where
      middle : (front : List (Entry T)) → Contains (front ++ x ∷ back) x
      middle [] = here x back
      middle (g ∷ front) = later x g (front ++ x ∷ back) (middle front)

      among : (front : List (Entry T)) → Contains (entry_places (front ++ back)) f.place → Contains (entry_places (front ++ x ∷ back)) f.place
      among [] there = later f.place x.place (entry_places back) there
      among (g ∷ front) there =
          ⊎_elim (λ same. (0, omega arith, same)) (λ on. later f.place g.place (entry_places (front ++ x ∷ back)) (among front on))
          (first_or_later f.place g.place (entry_places (front ++ back)) there)

  pub apart_more : (x : Entry T) (fewer more : List (Entry T)) → HasIn x fewer more → HasNoRepeats (entry_places fewer) → IsFreePlace x.place fewer → HasNoRepeats (entry_places more)
  apart_more x fewer more one once free =
      subst (λ (l : List (Entry T)). HasNoRepeats (entry_places l)) (sym one.more_is)
      (once_more one.front one.back x (subst (λ (l : List (Entry T)). HasNoRepeats (entry_places l)) one.fewer_is once) (subst (IsFreePlace x.place) one.fewer_is free))

  pub apart_fewer : (x : Entry T) (fewer more : List (Entry T)) → HasIn x fewer more → HasNoRepeats (entry_places more)
      → HasNoRepeats (entry_places fewer) × IsFreePlace x.place fewer
  apart_fewer x fewer more one once =
      let on = once_fewer one.front one.back x (subst (λ (l : List (Entry T)). HasNoRepeats (entry_places l)) one.more_is once) in (
        subst (λ (l : List (Entry T)). HasNoRepeats (entry_places l)) (sym one.fewer_is) on.0,
        subst (IsFreePlace x.place) (sym one.fewer_is) on.1,
      )

  -- where an entry stands
  parts : (xs : List (Entry T)) (x : Entry T) → Contains xs x → (front : List (Entry T)) × (back : List (Entry T)) × (xs ≡ front ++ x ∷ back)
  parts [] x there = absurd (none_in_nil x there)
  parts (z ∷ xs) x there =
      ⊎_elim (λ same. ([], xs, ap (λ (y : Entry T). y ∷ xs) same))
      (λ on. let p = parts xs x on in (z ∷ p.0, p.1, ap (λ (l : List (Entry T)). z ∷ l) p.2)) (first_or_later x z xs there)

  -- of two lists in order one of which has an entry more
  pub one_more : (x : Entry T) (fewer more : List (Entry T)) → ArePlaced fewer → ArePlaced more → IsFreePlace x.place fewer
      → Contains more x → ((y : Entry T) → Contains more y → (x ≡ y) ⊎ Contains fewer y)
      → ((y : Entry T) → Contains fewer y → Contains more y) → HasOneMoreEntry x fewer more
  one_more x fewer more order order_more free there of keeps =
      let p = parts more x there in
      let front = p.0 in
      let back = p.1 in
      let placed : ArePlaced (front ++ x ∷ back) = subst ArePlaced p.2 order_more in
      let others = apart front back x placed in
      record {
        front = front;
        back = back;
        fewer_is = one_list fewer (front ++ back) order (without_placed front back x placed) (λ y. (
          (λ among.
              ⊎_elim (λ same. absurd (free (subst (λ (e : Entry T). Contains (entry_places fewer) e.place) (sym same) (in_places fewer y among)))) (λ on. on)
              (in_middle front back x y (subst (λ (l : List (Entry T)). Contains l y) p.2 (keeps y among)))),
          (λ among.
              ⊎_elim (λ same. absurd (others (subst (λ (e : Entry T). Contains (entry_places (front ++ back)) e.place) (sym same) (in_places (front ++ back) y among)))) (λ on. on)
              (of y (subst (λ (l : List (Entry T)). Contains l y) (sym p.2) (round_middle front back x y among)))),
        ));
        more_is = p.2;
        placed = order_more;
      }

  pub by_place_more : (x : Entry T) (fewer more : List (Entry T)) → HasIn x fewer more → HasNoRepeats (entry_places more)
      → HasOneMoreEntry x (by_place fewer) (by_place more)
  by_place_more x fewer more one once =
      let left = apart_fewer x fewer more one once in
      one_more x (by_place fewer) (by_place more) (by_place_placed fewer left.0) (by_place_placed more once)
      (λ there. let (y, among, at) = at_place (by_place fewer) x.place there in left.1 (subst (λ (p : Place). Contains (entry_places fewer) p) at (in_places fewer y (by_place_in fewer y among))))
      (by_place_has more x (in_has x fewer more one))
      (λ y there. ⊎_elim (λ same. inl same) (λ on. inr (by_place_has fewer y on)) (in_of x fewer more y one (by_place_in more y there)))
      (λ y there. by_place_has more y (in_keeps x fewer more y one (by_place_in fewer y there)))

  -- ---- all but some

  module _ (Q : Entry T → Type 0) where
    -- the first of all is the first of the rest
    first_same : (x y : Entry T) (all rest : List (Entry T)) → ArePlaced (x ∷ all) → ArePlaced (y ∷ rest) → Contains (x ∷ all) y → Contains (y ∷ rest) x → x ≡ y
    first_same x y all rest order order_rest one two =
        ⊎_elim (λ e. e)
        (λ behind. ⊎_elim (λ e. sym e) (λ back. absurd (not_back x.place y.place (order.0 y.place (in_places all y behind)) (order_rest.0 x.place (in_places rest x back))))
        (first_or_later x y rest two))
        (first_or_later y x all one)

    -- none after the first is the first
    not_first : (x z : Entry T) (xs : List (Entry T)) → ArePlaced (x ∷ xs) → Contains xs z → x ≡ z → ⊥
    not_first x z xs order there same =
        not_itself z.place (subst (λ (w : Entry T). IsPlaceBefore w.place z.place) same (order.0 z.place (in_places xs z there)))

    pub all_but : (all rest : List (Entry T)) → ArePlaced all → ArePlaced rest
        → ((x : Entry T) → Contains rest x → Contains all x × (Q x → ⊥)) → ((x : Entry T) → Contains all x → Contains rest x ⊎ Q x)
        → AllButThose Q all rest
    all_but [] [] order order_rest without others = refl
    all_but [] (y ∷ rest) order order_rest without others = absurd (none_in_nil y (without y (here y rest)).0)
    all_but (x ∷ all) [] order order_rest without others =
        inr (
          ⊎_elim (λ among. absurd (none_in_nil x among)) (λ holds. holds) (others x (here x all)),
          all_but all [] order.1 order_rest (λ z there. absurd (none_in_nil z there)) (λ z there. others z (later z x all there)),
        )
    all_but (x ∷ all) (y ∷ rest) order order_rest without others =
        ⊎_elim
        (λ among.
        let same : x ≡ y = first_same x y all rest order order_rest (without y (here y rest)).0 among in
        inl (
          rest,
          (without x among).1,
          all_but all rest order.1 order_rest.1 (λ z there. (
            ⊎_elim (λ e. absurd (not_first y z rest order_rest there (sym same ∙ e))) (λ on. on) (first_or_later z x all (without z (later z y rest there)).0),
            (without z (later z y rest there)).1,
          )) (λ z there.
              ⊎_elim (λ on. ⊎_elim (λ e. absurd (not_first x z all order there (same ∙ e))) (λ back. inl back) (first_or_later z y rest on)) (λ holds. inr holds)
              (others z (later z x all there))),
          ap (λ (w : Entry T). w ∷ rest) (sym same),
        ))
        (λ holds. inr (
          holds,
          all_but all (y ∷ rest) order.1 order_rest (λ z there. (
            ⊎_elim (λ same. absurd ((without z there).1 (subst Q same holds))) (λ on. on) (first_or_later z x all (without z there).0),
            (without z there).1,
          )) (λ z there. others z (later z x all there)),
        )) (others x (here x all))
