-- Steps over entries.
use Rattle.sleepers.proofs.Vocabulary.{◌≡◌, ◌↔◌, ℕ, suc, ◌<◌, Bool, true, false, true≢false, cond, List, [], ◌∷◌, ◌++◌, Contains, ◌⊎◌, inl, inr, ⊎_elim, refl, sym, ap, subst, subst₂, ◌∙◌, arith}
use Rattle.sleepers.proofs.Vocabulary.{length, length-append, map, drop, get_or, AllByRecursion, here, later, first_or_later, none_in_nil, Contains-append, AllByRecursion-contains}
use Rattle.sleepers.proofs.Vocabulary.{AllByRecursion-from_contains, HasNoRepeats, ArePlaced, HasOneMoreEntry, IsFreePlace, entry_places, ArePlacesInOrder, PlaceChange, IsPlaceBefore, Place, WasMade}
use Rattle.sleepers.proofs.Vocabulary.{places_behind, places_from, beginning_at, CanPutIn, OutcomeGoesOn, IsInOrder, IsOneOr, IsStep, EntryOutcome, PutsInEntries, TakesOutEntries, begun_entries}
use Rattle.sleepers.proofs.Vocabulary.{entries_behind, gone_entries, Entry, Beginning}
use Rattle.sleepers.proofs.EntryLemmas.{in_fewer, in_places}
use Rattle.sleepers.proofs.EntryLaws.{fewer_placed}
use Rattle.sleepers.proofs.OrderLemmas.{from_in_order, from_is, not_back, not_itself, steps_keep_order}

-- ---- lists

module _ {X : Type 0} where
  pub from_left : (xs ys : List X) (x : X) → Contains xs x → Contains (xs ++ ys) x
  from_left [] ys x there = absurd (none_in_nil x there)
  from_left (z ∷ xs) ys x there = ⊎_elim (λ e. (0, omega arith, e)) (λ on. later x z (xs ++ ys) (from_left xs ys x on)) (first_or_later x z xs there)

  pub from_right : (xs ys : List X) (x : X) → Contains ys x → Contains (xs ++ ys) x
  from_right [] ys x there = there
  from_right (z ∷ xs) ys x there = later x z (xs ++ ys) (from_right xs ys x there)

  pub in_middle : (front back : List X) (y x : X) → Contains (front ++ y ∷ back) x → (y ≡ x) ⊎ Contains (front ++ back) x
  in_middle front back y x there =
      ⊎_elim (λ f. inr (from_left front back x f)) (λ b. ⊎_elim (λ e. inl e) (λ on. inr (from_right front back x on)) (first_or_later x y back b))
      (Contains-append front (y ∷ back) x there)

  pub round_middle : (front back : List X) (y x : X) → Contains (front ++ back) x → Contains (front ++ y ∷ back) x
  round_middle front back y x there =
      ⊎_elim (λ f. from_left front (y ∷ back) x f) (λ b. from_right front (y ∷ back) x (later x y back b)) (Contains-append front back x there)

  pub apart_once : (xs ys : List X) → HasNoRepeats xs → HasNoRepeats ys → ((x : X) → Contains xs x → Contains ys x → ⊥) → HasNoRepeats (xs ++ ys)
  apart_once [] ys one two apart = two
  apart_once (x ∷ xs) ys one two apart = (
    (λ there. ⊎_elim one.0 (λ b. apart x (here x xs) b) (Contains-append xs ys x there)),
    apart_once xs ys one.1 two (λ z front back. apart z (later z x xs front) back),
  )

  pub map_append : {Y : Type 0} (f : X → Y) (xs ys : List X) → map f (xs ++ ys) ≡ map f xs ++ map f ys
  map_append f [] ys = refl
  map_append f (x ∷ xs) ys = ap (λ l. f x ∷ l) (map_append f xs ys)

  in_map : {Y : Type 0} (f : X → Y) (xs : List X) (y : Y) → Contains (map f xs) y → (x : X) × Contains xs x × (f x ≡ y)
  in_map f [] y there = absurd (none_in_nil y there)
  in_map f (x ∷ xs) y there =
      ⊎_elim (λ e. (x, here x xs, e)) (λ on. let more = in_map f xs y on in (more.0, later more.0 x xs more.1, more.2)) (first_or_later y (f x) (map f xs) there)

  of_map : {Y : Type 0} (f : X → Y) (xs : List X) (x : X) → Contains xs x → Contains (map f xs) (f x)
  of_map f [] x there = absurd (none_in_nil x there)
  of_map f (z ∷ xs) x there =
      ⊎_elim (λ e. (0, omega arith, ap f e)) (λ on. later (f x) (f z) (map f xs) (of_map f xs x on)) (first_or_later x z xs there)

  front_same : (p q : List X) (x y : X) → p ++ x ∷ [] ≡ q ++ y ∷ [] → p ≡ q
  front_same [] [] x y e = refl
  front_same [] (b ∷ q) x y e = absurd (omega (arith, ap length e, length-append q (y ∷ [])))
  front_same (a ∷ p) [] x y e = absurd (omega (arith, ap length e, length-append p (x ∷ [])))
  front_same (a ∷ p) (b ∷ q) x y e =
      let head : a ≡ b = ap (λ l. get_or l 0 a) e in
      let rest = front_same p q x y (ap (λ l. drop 1 l) e) in
      λ i. head i ∷ rest i

  last_holds : (P : X → Type 0) (p : List X) (x : X) → AllByRecursion P (p ++ x ∷ []) → P x
  last_holds P [] x all = all.0
  last_holds P (z ∷ p) x all = last_holds P p x all.1

pub order_once : (ps : List Place) → ArePlacesInOrder ps → HasNoRepeats ps
order_once [] order = tt
order_once (p ∷ ps) order = ((λ there. not_itself p (order.0 p there)), order_once ps order.1)

-- ---- one entry more

module _ {T : Type 0} where
  more_of : (x : Entry T) (fewer more : List (Entry T)) (y : Entry T) → HasOneMoreEntry x fewer more → Contains more y → (x ≡ y) ⊎ Contains fewer y
  more_of x fewer more y one there =
      ⊎_elim (λ e. inl e) (λ on. inr (subst (λ (l : List (Entry T)). Contains l y) (sym one.fewer_is) on))
      (in_middle one.front one.back x y (subst (λ (l : List (Entry T)). Contains l y) one.more_is there))

  more_has : (x : Entry T) (fewer more : List (Entry T)) → HasOneMoreEntry x fewer more → Contains more x
  more_has x fewer more one = subst (λ (l : List (Entry T)). Contains l x) (sym one.more_is) (from_right one.front (x ∷ one.back) x (here x one.back))

  more_keeps : (x : Entry T) (fewer more : List (Entry T)) (y : Entry T) → HasOneMoreEntry x fewer more → Contains fewer y → Contains more y
  more_keeps x fewer more y one there =
      subst (λ (l : List (Entry T)). Contains l y) (sym one.more_is) (round_middle one.front one.back x y (subst (λ (l : List (Entry T)). Contains l y) one.fewer_is there))

  pub apart : (front back : List (Entry T)) (x : Entry T) → ArePlaced (front ++ x ∷ back) → IsFreePlace x.place (front ++ back)
  apart [] back x order there = not_itself x.place (order.0 x.place there)
  apart (f ∷ front) back x order there =
      ⊎_elim (λ e. not_itself x.place (subst (λ (p : Place). IsPlaceBefore p x.place) e (order.0 x.place (in_places (front ++ x ∷ back) x (from_right front (x ∷ back) x (here x back))))))
      (λ on. apart front back x order.1 on) (first_or_later x.place f.place (entry_places (front ++ back)) there)

  fewer_free : (x : Entry T) (fewer more : List (Entry T)) → HasOneMoreEntry x fewer more → IsFreePlace x.place fewer
  fewer_free x fewer more one = subst (IsFreePlace x.place) (sym one.fewer_is) (apart one.front one.back x (subst ArePlaced one.more_is one.placed))

  more_places : (x : Entry T) (fewer more : List (Entry T)) (q : Place) → HasOneMoreEntry x fewer more → Contains (entry_places more) q
      → (x.place ≡ q) ⊎ Contains (entry_places fewer) q
  more_places x fewer more q one there =
      ⊎_elim (λ e. inl e) (λ on. inr (subst (λ (l : List (Entry T)). Contains (entry_places l) q) (sym one.fewer_is) on))
      (in_fewer one.front one.back x q (subst (λ (l : List (Entry T)). Contains (entry_places l) q) one.more_is there))

  -- of two entries with one place
  pub same_place : (all : List (Entry T)) (x y : Entry T) → ArePlaced all → Contains all x → Contains all y → x.place ≡ y.place → x ≡ y
  same_place [] x y order one two same = absurd (none_in_nil x one)
  same_place (z ∷ all) x y order one two same =
      ⊎_elim
      (λ e. ⊎_elim (λ f. sym e ∙ f) (λ b. absurd (not_itself y.place (subst (λ (p : Place). IsPlaceBefore p y.place) (ap (λ (w : Entry T). w.place) e ∙ same)
      (order.0 y.place (in_places all y b))))) (first_or_later y z all two))
      (λ a. ⊎_elim (λ f. absurd (not_itself x.place (subst (λ (p : Place). IsPlaceBefore p x.place) (ap (λ (w : Entry T). w.place) f ∙ sym same)
      (order.0 x.place (in_places all x a))))) (λ b. same_place all x y order.1 a b same) (first_or_later y z all two))
      (first_or_later x z all one)

  -- ---- many

  left_placed : (xs all left : List (Entry T)) → TakesOutEntries xs all left → ArePlaced all → ArePlaced left
  left_placed [] all left takes order = subst ArePlaced (sym takes) order
  left_placed (x ∷ xs) all left takes order = left_placed xs takes.0 left takes.2 (fewer_placed x takes.0 all takes.1)

  taken_or_left : (xs all left : List (Entry T)) (y : Entry T) → TakesOutEntries xs all left → Contains all y → Contains xs y ⊎ Contains left y
  taken_or_left [] all left y takes there = inr (subst (λ (l : List (Entry T)). Contains l y) (sym takes) there)
  taken_or_left (x ∷ xs) all left y takes there =
      ⊎_elim (λ e. inl (0, omega arith, e)) (λ on. ⊎_elim (λ a. inl (later y x xs a)) (λ b. inr b) (taken_or_left xs takes.0 left y takes.2 on))
      (more_of x takes.0 all y takes.1 there)

  left_there : (xs all left : List (Entry T)) (y : Entry T) → TakesOutEntries xs all left → Contains left y → Contains all y × (Contains xs y → ⊥)
  left_there [] all left y takes there = (subst (λ (l : List (Entry T)). Contains l y) takes there, none_in_nil y)
  left_there (x ∷ xs) all left y takes there =
      let on = left_there xs takes.0 left y takes.2 there in (
        more_keeps x takes.0 all y takes.1 on.0,
        λ among. ⊎_elim (λ e. fewer_free x takes.0 all takes.1 (subst (λ (p : Place). Contains (entry_places takes.0) p) (ap (λ (w : Entry T). w.place) (sym e))
            (in_places takes.0 y on.0))) on.1 (first_or_later y x xs among),
      )

  grown_placed : (xs all grown : List (Entry T)) → PutsInEntries xs all grown → ArePlaced all → ArePlaced grown
  grown_placed [] all grown puts order = subst ArePlaced (sym puts) order
  grown_placed (x ∷ xs) all grown puts order = let one = puts.1 in grown_placed xs puts.0 grown puts.2 one.placed

  put_or_there : (xs all grown : List (Entry T)) (y : Entry T) → PutsInEntries xs all grown → Contains grown y → Contains xs y ⊎ Contains all y
  put_or_there [] all grown y puts there = inr (subst (λ (l : List (Entry T)). Contains l y) puts there)
  put_or_there (x ∷ xs) all grown y puts there =
      ⊎_elim (λ a. inl (later y x xs a)) (λ b. ⊎_elim (λ e. inl (0, omega arith, e)) (λ on. inr on) (more_of x all puts.0 y puts.1 b))
      (put_or_there xs puts.0 grown y puts.2 there)

  grown_keeps : (xs all grown : List (Entry T)) (y : Entry T) → PutsInEntries xs all grown → Contains all y → Contains grown y
  grown_keeps [] all grown y puts there = subst (λ (l : List (Entry T)). Contains l y) (sym puts) there
  grown_keeps (x ∷ xs) all grown y puts there = grown_keeps xs puts.0 grown y puts.2 (more_keeps x all puts.0 y puts.1 there)

  grown_has : (xs all grown : List (Entry T)) (y : Entry T) → PutsInEntries xs all grown → Contains xs y → Contains grown y
  grown_has [] all grown y puts there = absurd (none_in_nil y there)
  grown_has (x ∷ xs) all grown y puts there =
      ⊎_elim (λ e. grown_keeps xs puts.0 grown y puts.2 (subst (λ (w : Entry T). Contains puts.0 w) e (more_has x all puts.0 puts.1)))
      (λ on. grown_has xs puts.0 grown y puts.2 on) (first_or_later y x xs there)

  can_put : (xs all : List (Entry T)) → ((x : Entry T) → Contains xs x → IsFreePlace x.place all) → HasNoRepeats (entry_places xs) → CanPutIn xs all
  can_put [] all free once = tt
  can_put (x ∷ xs) all free once = (
    free x (here x xs),
    λ more one. can_put xs more (λ y there taken.
        ⊎_elim (λ e. once.0 (subst (λ (p : Place). Contains (entry_places xs) p) (sym e) (in_places xs y there))) (λ on. free y (later y x xs there) on)
        (more_places x all more y.place one taken)) once.1,
  )

  -- ---- entries in order with the same entries are the same

  same_first : (x : Entry T) (xs : List (Entry T)) (y : Entry T) (ys : List (Entry T)) → ArePlaced (x ∷ xs) → ArePlaced (y ∷ ys)
      → Contains (y ∷ ys) x → Contains (x ∷ xs) y → x ≡ y
  same_first x xs y ys a b in_second in_first =
      ⊎_elim (λ e. sym e) (λ front. ⊎_elim (λ e. e) (λ back. absurd (not_back x.place y.place (a.0 y.place (in_places xs y back)) (b.0 x.place (in_places ys x front))))
      (first_or_later y x xs in_first))
      (first_or_later x y ys in_second)

  rest_of : (x : Entry T) (xs : List (Entry T)) (y : Entry T) (ys : List (Entry T)) (z : Entry T) → ArePlaced (x ∷ xs) → x ≡ y
      → Contains xs z → Contains (y ∷ ys) z → Contains ys z
  rest_of x xs y ys z a same there among =
      ⊎_elim (λ e. absurd (not_itself x.place (subst (λ (w : Entry T). IsPlaceBefore x.place w.place) (sym (same ∙ e)) (a.0 z.place (in_places xs z there))))) (λ on. on) (first_or_later z y ys among)

  pub one_list : (xs ys : List (Entry T)) → ArePlaced xs → ArePlaced ys → ((x : Entry T) → Contains xs x ↔ Contains ys x) → xs ≡ ys
  one_list [] [] a b same = refl
  one_list [] (y ∷ ys) a b same = absurd (none_in_nil y ((same y).1 (here y ys)))
  one_list (x ∷ xs) [] a b same = absurd (none_in_nil x ((same x).0 (here x xs)))
  one_list (x ∷ xs) (y ∷ ys) a b same =
      let first : x ≡ y = same_first x xs y ys a b ((same x).0 (here x xs)) ((same y).1 (here y ys)) in
      let rest = one_list xs ys a.1 b.1 (λ z. (
        (λ there. rest_of x xs y ys z a first there ((same z).0 (later z x xs there))),
        (λ there. rest_of y ys x xs z b (sym first) there ((same z).1 (later z y ys there))),
      )) in
      λ i. first i ∷ rest i

  -- ---- outcomes

  abbrev entry_of : EntryOutcome T → Entry T
  entry_of o = o.entry

  same_outcome : (outcomes : List (EntryOutcome T)) (o u : EntryOutcome T) → HasNoRepeats (map entry_of outcomes) → Contains outcomes o → Contains outcomes u
      → o.entry ≡ u.entry → o ≡ u
  same_outcome [] o u once one two same = absurd (none_in_nil o one)
  same_outcome (v ∷ outcomes) o u once one two same =
      ⊎_elim
      (λ e. ⊎_elim (λ f. sym e ∙ f) (λ b. absurd (once.0 (subst (λ (w : Entry T). Contains (map entry_of outcomes) w) (sym (ap entry_of e ∙ same))
      (of_map entry_of outcomes u b)))) (first_or_later u v outcomes two))
      (λ a. ⊎_elim (λ f. absurd (once.0 (subst (λ (w : Entry T). Contains (map entry_of outcomes) w) (sym (ap entry_of f ∙ sym same)) (of_map entry_of outcomes o a))))
      (λ b. same_outcome outcomes o u once.1 a b same) (first_or_later u v outcomes two))
      (first_or_later o v outcomes one)

  gone_is : (outcomes : List (EntryOutcome T)) (x : Entry T) → Contains (gone_entries outcomes) x → (o : EntryOutcome T) × Contains outcomes o × (o.stays ≡ false) × (o.entry ≡ x)
  gone_is [] x there = absurd (none_in_nil x there)
  gone_is (o ∷ outcomes) x there = by o.stays refl (λ on. let more = gone_is outcomes x on in (more.0, later more.0 o outcomes more.1, more.2, more.3)) there
    where
      by : (b : Bool) → o.stays ≡ b → (Contains (gone_entries outcomes) x → ((u : EntryOutcome T) × Contains (o ∷ outcomes) u × (u.stays ≡ false) × (u.entry ≡ x)))
          → Contains (cond b [] (o.entry ∷ []) ++ gone_entries outcomes) x → ((u : EntryOutcome T) × Contains (o ∷ outcomes) u × (u.stays ≡ false) × (u.entry ≡ x))
      by true is rest among = rest among
      by false is rest among = ⊎_elim (λ e. (o, here o outcomes, is, e)) rest (first_or_later x o.entry (gone_entries outcomes) among)

  gone_has : (outcomes : List (EntryOutcome T)) (o : EntryOutcome T) → Contains outcomes o → o.stays ≡ false → Contains (gone_entries outcomes) o.entry
  gone_has [] o there goes = absurd (none_in_nil o there)
  gone_has (u ∷ outcomes) o there goes =
      ⊎_elim (λ e. subst (λ (b : Bool). Contains (cond b [] (u.entry ∷ []) ++ gone_entries outcomes) o.entry) (sym (ap (λ (v : EntryOutcome T). v.stays) e ∙ goes)) (0, omega arith, ap entry_of e))
      (λ on. from_right (cond u.stays [] (u.entry ∷ [])) (gone_entries outcomes) o.entry (gone_has outcomes o on goes)) (first_or_later o u outcomes there)

  begun_is : (outcomes : List (EntryOutcome T)) (x : Entry T) → Contains (begun_entries outcomes) x → (o : EntryOutcome T) × Contains outcomes o × Contains o.begun x
  begun_is [] x there = absurd (none_in_nil x there)
  begun_is (o ∷ outcomes) x there =
      ⊎_elim (λ a. (o, here o outcomes, a)) (λ b. let more = begun_is outcomes x b in (more.0, later more.0 o outcomes more.1, more.2)) (Contains-append o.begun (begun_entries outcomes) x there)

  begun_has : (outcomes : List (EntryOutcome T)) (o : EntryOutcome T) (x : Entry T) → Contains outcomes o → Contains o.begun x → Contains (begun_entries outcomes) x
  begun_has [] o x there among = absurd (none_in_nil o there)
  begun_has (u ∷ outcomes) o x there among =
      ⊎_elim (λ e. from_left u.begun (begun_entries outcomes) x (subst (λ (v : EntryOutcome T). Contains v.begun x) (sym e) among))
      (λ on. from_right u.begun (begun_entries outcomes) x (begun_has outcomes o x on among)) (first_or_later o u outcomes there)

  abbrev part : EntryOutcome T → List (Entry T)
  part o = cond o.stays (o.entry ∷ []) [] ++ o.begun

  part_is : (o : EntryOutcome T) (x : Entry T) → Contains (part o) x → ((o.stays ≡ true) × (o.entry ≡ x)) ⊎ Contains o.begun x
  part_is o x there = by o.stays refl there
    where
      by : (b : Bool) → o.stays ≡ b → Contains (cond b (o.entry ∷ []) [] ++ o.begun) x → ((o.stays ≡ true) × (o.entry ≡ x)) ⊎ Contains o.begun x
      by true is among = ⊎_elim (λ e. inl (is, e)) (λ on. inr on) (first_or_later x o.entry o.begun among)
      by false is among = inr among

  behind_is : (outcomes : List (EntryOutcome T)) (x : Entry T) → Contains (entries_behind outcomes) x → (o : EntryOutcome T) × Contains outcomes o × Contains (part o) x
  behind_is [] x there = absurd (none_in_nil x there)
  behind_is (o ∷ outcomes) x there =
      ⊎_elim (λ a. (o, here o outcomes, a)) (λ b. let more = behind_is outcomes x b in (more.0, later more.0 o outcomes more.1, more.2)) (Contains-append (part o) (entries_behind outcomes) x there)

  behind_has : (outcomes : List (EntryOutcome T)) (o : EntryOutcome T) (x : Entry T) → Contains outcomes o → Contains (part o) x → Contains (entries_behind outcomes) x
  behind_has [] o x there among = absurd (none_in_nil o there)
  behind_has (u ∷ outcomes) o x there among =
      ⊎_elim (λ e. from_left (part u) (entries_behind outcomes) x (subst (λ (v : EntryOutcome T). Contains (part v) x) (sym e) among))
      (λ on. from_right (part u) (entries_behind outcomes) x (behind_has outcomes o x on among)) (first_or_later o u outcomes there)

  stays_has : (o : EntryOutcome T) → o.stays ≡ true → Contains (part o) o.entry
  stays_has o stays = subst (λ (b : Bool). Contains (cond b (o.entry ∷ []) [] ++ o.begun) o.entry) (sym stays) (here o.entry o.begun)

-- ---- a step

module _ (first after : ℕ) where
  -- a place that goes on now was not made before
  not_made : (p q : Place) (j : ℕ) → WasMade first after p → WasMade first after q → p ++ beginning_at after j ∷ [] ≡ q → ⊥
  not_made [] q j one two same = one
  not_made (s ∷ p) [] j one two same = two
  not_made (s ∷ p) (t ∷ q) j one two same =
      let above = last_holds (λ (u : Beginning). after < u.number) p (beginning_at after j) (subst (AllByRecursion (λ (u : Beginning). after < u.number)) (sym (ap (λ l. drop 1 l) same)) two.1) in
      omega (arith, above)

  not_first : (q : Place) (j : ℕ) → WasMade first after q → beginning_at first j ∷ [] ≡ q → ⊥
  not_first q j made same = let below = (subst (WasMade first after) (sym same) made).0 in omega (arith, below)

module _ {T : Type 0} (first after : ℕ) where
  begun_place : (outcomes : List (EntryOutcome T)) (x : Entry T) → AllByRecursion (OutcomeGoesOn after) outcomes → Contains (begun_entries outcomes) x
      → (o : EntryOutcome T) × Contains outcomes o × ((j : ℕ) × (o.entry.place ++ beginning_at after j ∷ [] ≡ x.place))
  begun_place outcomes x on there =
      let (o, among, has) = begun_is outcomes x there in
      let goes = AllByRecursion-contains (OutcomeGoesOn after) outcomes o on among in
      let f = from_is o.entry.place after 0 (length o.begun) x.place (subst (λ (l : List Place). Contains l x.place) goes (in_places o.begun x has)) in
      (o, among, (f.0, f.2))

  anew_place : (anew : List (Entry T)) (x : Entry T) → entry_places anew ≡ places_from [] first 0 (length anew) → Contains anew x
      → (j : ℕ) × (beginning_at first j ∷ [] ≡ x.place)
  anew_place anew x are there =
      let f = from_is [] first 0 (length anew) x.place (subst (λ (l : List Place). Contains l x.place) are (in_places anew x there)) in (f.0, f.2)

  begun_once : (all : List (Entry T)) (outcomes : List (EntryOutcome T)) → ArePlaced all → AllByRecursion (OutcomeGoesOn after) outcomes
      → ((x : Entry T) → Contains (map entry_of outcomes) x → Contains all x) → HasNoRepeats (map entry_of outcomes)
      → HasNoRepeats (entry_places (begun_entries outcomes))
  begun_once all [] order on among once = tt
  begun_once all (o ∷ outcomes) order on among once =
      subst HasNoRepeats (sym (map_append (λ (e : Entry T). e.place) o.begun (begun_entries outcomes)))
      (apart_once (entry_places o.begun) (entry_places (begun_entries outcomes)) (subst HasNoRepeats (sym on.0)
      (order_once (places_from o.entry.place after 0 (length o.begun)) (from_in_order o.entry.place after 0 (length o.begun))))
      (begun_once all outcomes order on.1 (λ x there. among x (later x o.entry (map entry_of outcomes) there)) once.1) (λ q front back.
      let f = from_is o.entry.place after 0 (length o.begun) q (subst (λ (l : List Place). Contains l q) on.0 front) in
      let (y, there, at) = in_map (λ (e : Entry T). e.place) (begun_entries outcomes) q back in
      let (u, has, goes) = begun_place outcomes y on.1 there in
      let in_rest = of_map entry_of outcomes u has in
      let same = same_place all o.entry u.entry order (among o.entry (here o.entry (map entry_of outcomes))) (among u.entry (later u.entry o.entry (map entry_of outcomes) in_rest))
      (front_same o.entry.place u.entry.place (beginning_at after f.0) (beginning_at after goes.0) (f.2 ∙ sym at ∙ sym goes.1)) in
      once.0 (subst (λ (e : Entry T). Contains (map entry_of outcomes) e) (sym same) in_rest)))

  made_in : (all : List (Entry T)) (x : Entry T) → AllByRecursion (λ (e : Entry T). WasMade first after e.place) all → Contains all x → WasMade first after x.place
  made_in all x made there = AllByRecursion-contains (λ (e : Entry T). WasMade first after e.place) all x made there

module _ {T : Type 0} (first after : ℕ) (Q : Entry T → Type 0) (all : List (Entry T)) (outcomes : List (EntryOutcome T)) (left anew : List (Entry T))
    (step : IsStep first after Q all outcomes left anew) where
  in_all : (x : Entry T) → Contains (map entry_of outcomes) x → Contains all x
  in_all x there = (step.looked_at.without x there).0

  awake : (o : EntryOutcome T) → Contains outcomes o → Q o.entry → ⊥
  awake o there = (step.looked_at.without o.entry (of_map entry_of outcomes o there)).1

  new_free : (x : Entry T) → Contains (begun_entries outcomes ++ anew) x → IsFreePlace x.place left
  new_free x there taken =
      let (y, in_left, at) = in_map (λ (e : Entry T). e.place) left x.place taken in
      let made = made_in first after all y step.made (left_there (gone_entries outcomes) all left y step.taken_out in_left).0 in
      ⊎_elim
      (λ b.
      let (o, has, goes) = begun_place first after outcomes x step.go_on b in
      not_made first after o.entry.place y.place goes.0 (made_in first after all o.entry step.made (in_all o.entry (of_map entry_of outcomes o has))) made (goes.1 ∙ sym at))
      (λ a. let f = anew_place first after anew x step.first_beginning a in not_first first after y.place f.0 made (f.1 ∙ sym at))
      (Contains-append (begun_entries outcomes) anew x there)

  new_once : HasNoRepeats (entry_places (begun_entries outcomes ++ anew))
  new_once =
      subst HasNoRepeats (sym (map_append (λ (e : Entry T). e.place) (begun_entries outcomes) anew))
      (apart_once (entry_places (begun_entries outcomes)) (entry_places anew) (begun_once first after all outcomes step.placed step.go_on in_all step.looked_at.once)
      (subst HasNoRepeats (sym step.first_beginning) (order_once (places_from [] first 0 (length anew)) (from_in_order [] first 0 (length anew)))) (λ q front back.
      let (x, in_begun, at) = in_map (λ (e : Entry T). e.place) (begun_entries outcomes) q front in
      let (o, has, goes) = begun_place first after outcomes x step.go_on in_begun in
      let (y, in_anew, here_too) = in_map (λ (e : Entry T). e.place) anew q back in
      let f = anew_place first after anew y step.first_beginning in_anew in
      not_alone o.entry.place (made_in first after all o.entry step.made (in_all o.entry (of_map entry_of outcomes o has))) goes.0 f.0 (goes.1 ∙ at ∙ sym here_too ∙ sym f.1)))
    where
      not_alone : (p : Place) → WasMade first after p → (j k : ℕ) → p ++ beginning_at after j ∷ [] ≡ beginning_at first k ∷ [] → ⊥
      not_alone [] made j k same = made
      not_alone (s ∷ p) made j k same = omega (arith, ap length same, length-append p (beginning_at after j ∷ []))

  pub can_put_in : CanPutIn (begun_entries outcomes ++ anew) left
  can_put_in = can_put (begun_entries outcomes ++ anew) left new_free new_once

-- ---- all outcomes in the order of the entries

module _ {T : Type 0} (Q : Entry T → Type 0) (outcomes : List (EntryOutcome T)) where
  every_of : (all : List (Entry T)) → ((x : Entry T) → Contains all x → Contains (map entry_of outcomes) x ⊎ Q x)
      → (every : List (EntryOutcome T)) × (map entry_of every ≡ all) × AllByRecursion (IsOneOr Q outcomes) every
  every_of [] others = ([], refl, tt)
  every_of (x ∷ all) others =
      let rest = every_of all (λ y there. others y (later y x all there)) in
      ⊎_elim
      (λ there. let found = in_map entry_of outcomes x there in let same = found.2 in let on = rest.1 in (found.0 ∷ rest.0, (λ i. same i ∷ on i), (inl found.1, rest.2)))
      (λ holds. (record { entry = x; stays = true; begun = [] } ∷ rest.0, ap (λ (l : List (Entry T)). x ∷ l) rest.1, (inr (holds, refl, refl), rest.2))) (others x (here x all))

  goes_every : (m : ℕ) (every : List (EntryOutcome T)) → AllByRecursion (OutcomeGoesOn m) outcomes → AllByRecursion (IsOneOr Q outcomes) every → AllByRecursion (OutcomeGoesOn m) every
  goes_every m [] on each = tt
  goes_every m (o ∷ every) on each = (
    ⊎_elim (λ there. AllByRecursion-contains (OutcomeGoesOn m) outcomes o on there) (λ c. subst (λ (l : List (Entry T)). entry_places l ≡ places_from o.entry.place m 0 (length l))
        (sym c.2) refl) each.0,
    goes_every m every on each.1,
  )

module _ {T : Type 0} (first m : ℕ) where
  abbrev change_of : EntryOutcome T → PlaceChange
  change_of o = record { place = o.entry.place; stays = o.stays; begun = length o.begun }

  part_places : (o : EntryOutcome T) → OutcomeGoesOn m o → entry_places (part o) ≡ cond o.stays (o.entry.place ∷ []) [] ++ places_from o.entry.place m 0 (length o.begun)
  part_places o goes = by o.stays
    where
      by : (b : Bool) → entry_places (cond b (o.entry ∷ []) [] ++ o.begun) ≡ cond b (o.entry.place ∷ []) [] ++ places_from o.entry.place m 0 (length o.begun)
      by true = ap (λ (l : List Place). o.entry.place ∷ l) goes
      by false = goes

  behind_places : (every : List (EntryOutcome T)) → AllByRecursion (OutcomeGoesOn m) every → entry_places (entries_behind every) ≡ places_behind m (map change_of every)
  behind_places [] on = refl
  behind_places (o ∷ every) on =
      let one = part_places o on.0 in
      let rest = behind_places every on.1 in
      map_append (λ (e : Entry T). e.place) (part o) (entries_behind every) ∙ (λ i. one i ++ rest i)

  change_places : (every : List (EntryOutcome T)) → map (λ (c : PlaceChange). c.place) (map change_of every) ≡ entry_places (map entry_of every)
  change_places [] = refl
  change_places (o ∷ every) = ap (λ (l : List Place). o.entry.place ∷ l) (change_places every)

  changes_made : (every : List (EntryOutcome T)) → AllByRecursion (λ (e : Entry T). WasMade first m e.place) (map entry_of every)
      → AllByRecursion (λ (c : PlaceChange). WasMade first m c.place) (map change_of every)
  changes_made [] made = tt
  changes_made (o ∷ every) made = (made.0, changes_made every made.1)

module _ {T : Type 0} (first m : ℕ) (Q : Entry T → Type 0) (all : List (Entry T)) (outcomes : List (EntryOutcome T)) (left anew grown : List (Entry T))
    (step : IsStep first m Q all outcomes left anew) (puts : PutsInEntries (begun_entries outcomes ++ anew) left grown)
    (every : List (EntryOutcome T)) (entries : map entry_of every ≡ all) (each : AllByRecursion (IsOneOr Q outcomes) every) where
  every_placed : ArePlaced (entries_behind every ++ anew)
  every_placed =
      let on = goes_every Q outcomes m every step.go_on each in
      let changes = change_places first m every ∙ ap entry_places entries in
      let made = subst (AllByRecursion (λ (e : Entry T). WasMade first m e.place)) (sym entries) step.made in
      let front = behind_places first m every on in
      let back = step.first_beginning in
      subst ArePlacesInOrder (sym (map_append (λ (e : Entry T). e.place) (entries_behind every) anew ∙ (λ i. front i ++ back i)))
      (steps_keep_order first m (length anew) (map (change_of first m) every) (subst ArePlacesInOrder (sym changes) step.placed) (changes_made first m every made))

  found : (x : Entry T) → Contains all x → (u : EntryOutcome T) × Contains every u × (u.entry ≡ x)
  found x there = in_map entry_of every x (subst (λ (l : List (Entry T)). Contains l x) (sym entries) there)

  one_or : (u : EntryOutcome T) → Contains every u → IsOneOr Q outcomes u
  one_or u there = AllByRecursion-contains (IsOneOr Q outcomes) every u each there

  from_begun : (x : Entry T) → Contains (begun_entries outcomes) x → Contains (entries_behind every) x
  from_begun x there =
      let (o, has, among) = begun_is outcomes x there in
      let (u, in_every, same) = found o.entry (in_all first m Q all outcomes left anew step o.entry (of_map entry_of outcomes o has)) in
      ⊎_elim
      (λ one. behind_has every u x in_every (subst (λ (v : EntryOutcome T). Contains (part v) x) (same_outcome outcomes o u step.looked_at.once has one (sym same))
      (from_right (cond o.stays (o.entry ∷ []) []) o.begun x among)))
      (λ c. absurd (awake first m Q all outcomes left anew step o has (subst Q same c.0))) (one_or u in_every)

  from_left_over : (x : Entry T) → Contains left x → Contains (entries_behind every) x
  from_left_over x there =
      let stayed = left_there (gone_entries outcomes) all left x step.taken_out there in
      let (u, in_every, same) = found x stayed.0 in
      let stays : u.stays ≡ true = ⊎_elim (λ one. by u.stays u.stays refl (λ goes. stayed.1
      (subst (λ (e : Entry T). Contains (gone_entries outcomes) e) same (gone_has outcomes u one goes)))) (λ c. c.1) (one_or u in_every) in
      subst (λ (e : Entry T). Contains (entries_behind every) e) same (behind_has every u u.entry in_every (stays_has u stays))
    where
      by : (b s : Bool) → s ≡ b → (s ≡ false → ⊥) → s ≡ true
      by true s is not = is
      by false s is not = absurd (not is)

  to_entry : (x : Entry T) (u : EntryOutcome T) → Contains every u → u.stays ≡ true → u.entry ≡ x → Contains grown x
  to_entry x u in_every stays same =
      let there = subst₂ (λ (l : List (Entry T)) (e : Entry T). Contains l e) entries same (of_map entry_of every u in_every) in
      ⊎_elim
      (λ g.
      let (o, has, goes, at) = gone_is outcomes x g in
      absurd (⊎_elim (λ one. true≢false (sym stays ∙ ap (λ (v : EntryOutcome T). v.stays) (sym (same_outcome outcomes o u step.looked_at.once has one (at ∙ sym same))) ∙ goes))
      (λ c. awake first m Q all outcomes left anew step o has (subst Q (same ∙ sym at) c.0)) (one_or u in_every)))
      (λ l. grown_keeps (begun_entries outcomes ++ anew) left grown x puts l) (taken_or_left (gone_entries outcomes) all left x step.taken_out there)

  to_begun : (x : Entry T) (u : EntryOutcome T) → Contains every u → Contains u.begun x → Contains grown x
  to_begun x u in_every among =
      ⊎_elim (λ one. grown_has (begun_entries outcomes ++ anew) left grown x puts (from_left (begun_entries outcomes) anew x (begun_has outcomes u x one among)))
      (λ c. absurd (none_in_nil x (subst (λ (l : List (Entry T)). Contains l x) c.2 among))) (one_or u in_every)

  same_members : (x : Entry T) → Contains grown x ↔ Contains (entries_behind every ++ anew) x
  same_members x = (
    (λ there. ⊎_elim (λ new. ⊎_elim (λ b. from_left (entries_behind every) anew x (from_begun x b)) (λ a. from_right (entries_behind every) anew x a)
        (Contains-append (begun_entries outcomes) anew x new)) (λ l. from_left (entries_behind every) anew x (from_left_over x l))
        (put_or_there (begun_entries outcomes ++ anew) left grown x puts there)),
    (λ there.
        ⊎_elim
        (λ b. let (u, in_every, among) = behind_is every x b in ⊎_elim (λ s. to_entry x u in_every s.0 s.1) (λ n. to_begun x u in_every n) (part_is u x among))
        (λ a. grown_has (begun_entries outcomes ++ anew) left grown x puts (from_right (begun_entries outcomes) anew x a)) (Contains-append (entries_behind every) anew x there)),
  )

  all_are : grown ≡ entries_behind every ++ anew
  all_are = one_list grown (entries_behind every ++ anew) (grown_placed (begun_entries outcomes ++ anew) left grown puts
      (left_placed (gone_entries outcomes) all left step.taken_out step.placed)) every_placed same_members

pub in_order : {T : Type 0} (first m : ℕ) (Q : Entry T → Type 0) (all : List (Entry T)) (outcomes : List (EntryOutcome T)) (left anew grown : List (Entry T))
    → IsStep first m Q all outcomes left anew → PutsInEntries (begun_entries outcomes ++ anew) left grown → IsInOrder Q all outcomes anew grown
in_order first m Q all outcomes left anew grown step puts =
    let e = every_of Q outcomes all step.looked_at.others in
    record { every = e.0; entries = e.1; each = e.2; are = all_are first m Q all outcomes left anew grown step puts e.0 e.1 e.2 }

-- ---- what is there after a step was made by then

module _ (first later next : ℕ) (below : next < later) where
  above_on : (place : Place) → AllByRecursion (λ (u : Beginning). later < u.number) place → AllByRecursion (λ (u : Beginning). next < u.number) place
  above_on [] above = tt
  above_on (t ∷ place) above = let l = above.0 in (omega (arith, l, below), above_on place above.1)

  above_goes : (place : Place) (j : ℕ) → AllByRecursion (λ (u : Beginning). later < u.number) place
      → AllByRecursion (λ (u : Beginning). next < u.number) (place ++ beginning_at later j ∷ [])
  above_goes [] j above = (below, tt)
  above_goes (t ∷ place) j above = let l = above.0 in (omega (arith, l, below), above_goes place j above.1)

  made_on : (place : Place) → WasMade first later place → WasMade (suc first) next place
  made_on [] made = made
  made_on (t ∷ place) made = let l = made.0 in (omega (arith, l), above_on place made.1)

  made_goes : (place : Place) (j : ℕ) → WasMade first later place → WasMade (suc first) next (place ++ beginning_at later j ∷ [])
  made_goes [] j made = absurd made
  made_goes (t ∷ place) j made = let l = made.0 in (omega (arith, l), above_goes place j made.1)

  made_new : (j : ℕ) → WasMade (suc first) next (beginning_at first j ∷ [])
  made_new j = (omega arith, tt)

  module _ {T : Type 0} (Q : Entry T → Type 0) (all : List (Entry T)) (outcomes : List (EntryOutcome T)) (left anew grown : List (Entry T))
      (step : IsStep first later Q all outcomes left anew) (puts : PutsInEntries (begun_entries outcomes ++ anew) left grown) where
    each_made : (x : Entry T) → Contains grown x → WasMade (suc first) next x.place
    each_made x there =
        ⊎_elim
        (λ new. ⊎_elim
        (λ b.
        let (o, has, goes) = begun_place first later outcomes x step.go_on b in
        subst (WasMade (suc first) next) goes.1 (made_goes o.entry.place goes.0 (made_in first later all o.entry step.made
        (in_all first later Q all outcomes left anew step o.entry (of_map entry_of outcomes o has)))))
        (λ a. let f = anew_place first later anew x step.first_beginning a in subst (WasMade (suc first) next) f.1 (made_new f.0))
        (Contains-append (begun_entries outcomes) anew x new))
        (λ l. made_on x.place (made_in first later all x step.made (left_there (gone_entries outcomes) all left x step.taken_out l).0))
        (put_or_there (begun_entries outcomes ++ anew) left grown x puts there)

    pub all_made : ArePlaced grown × AllByRecursion (λ (e : Entry T). WasMade (suc first) next e.place) grown
    all_made = (
      grown_placed (begun_entries outcomes ++ anew) left grown puts (left_placed (gone_entries outcomes) all left step.taken_out step.placed),
      AllByRecursion-from_contains (λ (e : Entry T). WasMade (suc first) next e.place) grown each_made,
    )
