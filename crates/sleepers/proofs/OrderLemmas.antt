-- The order of places, and what keeps it.
use Rattle.sleepers.proofs.Vocabulary.{◌≡◌, ◌↔◌, ℕ, zero, suc, ◌<◌, ◌≤◌, Bool, true, false, cond, List, [], ◌∷◌, ◌++◌, Contains, ◌⊎◌, inl, inr, ⊎_elim, refl, sym, ap, subst, ◌∙◌, arith, map}
use Rattle.sleepers.proofs.Vocabulary.{AllByRecursion, cases_order, here, later, first_or_later, none_in_nil, Contains-append, Beginning, beginning_at, Place, BeginsBefore, IsPlaceBefore}
use Rattle.sleepers.proofs.Vocabulary.{ArePlacesInOrder, WasMade, places_from, PlaceChange, places_of, places_behind}

-- ---- a strict order

beginning_not_itself : (t : Beginning) → BeginsBefore t t → ⊥
beginning_not_itself t before = ⊎_elim (λ b. omega (arith, b)) (λ b. let c = b.1 in omega (arith, c)) before

beginning_on : (r s t : Beginning) → BeginsBefore r s → BeginsBefore s t → BeginsBefore r t
beginning_on r s t a b =
    ⊎_elim (λ x. ⊎_elim (λ y. inl (omega (arith, x, y))) (λ y. let e = y.0 in inl (omega (arith, x, e))) b)
    (λ x. let d = x.0 in let u = x.1 in ⊎_elim (λ y. inl (omega (arith, d, y))) (λ y. let e = y.0 in let w = y.1 in inr (omega (arith, d, e), omega (arith, u, w))) b) a

pub not_itself : (p : Place) → IsPlaceBefore p p → ⊥
not_itself [] before = before
not_itself (t ∷ p) before = ⊎_elim (beginning_not_itself t) (λ b. not_itself p b.1) before

pub before_on : (p q r : Place) → IsPlaceBefore p q → IsPlaceBefore q r → IsPlaceBefore p r
before_on p q [] a b = b
before_on [] q (t ∷ r) a b = tt
before_on (s ∷ p) [] (t ∷ r) a b = absurd a
before_on (s ∷ p) (u ∷ q) (t ∷ r) a b =
    ⊎_elim
    (λ x. ⊎_elim (λ y. inl (beginning_on s u t x y)) (λ y. inl (subst (λ (w : Beginning). BeginsBefore s w) y.0 x)) b)
    (λ x. ⊎_elim (λ y. inl (subst (λ (w : Beginning). BeginsBefore w t) (sym x.0) y)) (λ y. inr (x.0 ∙ y.0, before_on p q r x.1 y.1)) b) a

pub not_back : (p q : Place) → IsPlaceBefore p q → IsPlaceBefore q p → ⊥
not_back p q a b = not_itself p (before_on p q p a b)

same_beginning : (s t : Beginning) → s.number ≡ t.number → s.among ≡ t.among → s ≡ t
same_beginning s t number among = λ i. record { number = number i; among = among i }

beginning_order : (s t : Beginning) → (s ≡ t) ⊎ (BeginsBefore s t ⊎ BeginsBefore t s)
beginning_order s t =
    ⊎_elim
    (λ e. ⊎_elim (λ f. inl (same_beginning s t e f)) (λ o. ⊎_elim (λ l. inr (inl (inr (e, l)))) (λ l. inr (inr (inr (sym e, l)))) o) (cases_order s.among t.among))
    (λ o. ⊎_elim (λ l. inr (inl (inl l))) (λ l. inr (inr (inl l))) o) (cases_order s.number t.number)

pub place_order : (p q : Place) → (p ≡ q) ⊎ (IsPlaceBefore p q ⊎ IsPlaceBefore q p)
place_order [] [] = inl refl
place_order [] (t ∷ q) = inr (inl tt)
place_order (s ∷ p) [] = inr (inr tt)
place_order (s ∷ p) (t ∷ q) =
    ⊎_elim
    (λ e. ⊎_elim (λ f. inl (λ i. e i ∷ f i)) (λ o. ⊎_elim (λ b. inr (inl (inr (e, b)))) (λ b. inr (inr (inr (sym e, b)))) o) (place_order p q))
    (λ o. ⊎_elim (λ b. inr (inl (inl b))) (λ b. inr (inr (inl b))) o) (beginning_order s t)

-- of two places that differ one stands before the other
pub before_else : (p q : Place) → (IsPlaceBefore p q → ⊥) → (p ≡ q → ⊥) → IsPlaceBefore q p
before_else p q not apart = ⊎_elim (λ e. absurd (apart e)) (λ o. ⊎_elim (λ b. absurd (not b)) (λ b. b) o) (place_order p q)

-- ---- lists in order

-- the first of a list in order is the first of any other with the same places
same_first : (p : Place) (ps : List Place) (q : Place) (qs : List Place) → ArePlacesInOrder (p ∷ ps) → ArePlacesInOrder (q ∷ qs)
    → Contains (q ∷ qs) p → Contains (p ∷ ps) q → p ≡ q
same_first p ps q qs a b in_second in_first =
    ⊎_elim (λ e. sym e) (λ front. ⊎_elim (λ e. e) (λ back. absurd (not_back p q (a.0 q back) (b.0 p front))) (first_or_later q p ps in_first)) (first_or_later p q qs in_second)

pub one_order : (ps qs : List Place) → ArePlacesInOrder ps → ArePlacesInOrder qs → ((p : Place) → Contains ps p ↔ Contains qs p) → ps ≡ qs
one_order [] [] a b same = refl
one_order [] (q ∷ qs) a b same = absurd (none_in_nil q ((same q).1 (here q qs)))
one_order (p ∷ ps) [] a b same = absurd (none_in_nil p ((same p).0 (here p ps)))
one_order (p ∷ ps) (q ∷ qs) a b same =
    let first : p ≡ q = same_first p ps q qs a b ((same p).0 (here p ps)) ((same q).1 (here q qs)) in
    let rest = one_order ps qs a.1 b.1 (λ r. (
      (λ there. ⊎_elim (λ e. absurd (not_itself p (subst (λ (z : Place). IsPlaceBefore p z) (sym (first ∙ e)) (a.0 r there)))) (λ on. on) (first_or_later r q qs ((same r).0 (later r p ps there)))),
      (λ there. ⊎_elim (λ e. absurd (not_itself q (subst (λ (z : Place). IsPlaceBefore q z) (sym (sym first ∙ e)) (b.0 r there)))) (λ on. on)
          (first_or_later r p ps ((same r).1 (later r q qs there)))),
    )) in
    λ i. first i ∷ rest i

-- one list after the other
joined : (ps qs : List Place) → ArePlacesInOrder ps → ArePlacesInOrder qs → ((p q : Place) → Contains ps p → Contains qs q → IsPlaceBefore p q) → ArePlacesInOrder (ps ++ qs)
joined [] qs a b across = b
joined (p ∷ ps) qs a b across = (
  (λ q there. ⊎_elim (λ front. a.0 q front) (λ back. across p q (here p ps) back) (Contains-append ps qs q there)),
  joined ps qs a.1 b (λ r q in_first in_second. across r q (later r p ps in_first) in_second),
)

-- ---- places that go on from others

-- at a beginning that comes before those of the other
goes_before : (p q : Place) (m k : ℕ) → IsPlaceBefore p q → AllByRecursion (λ (u : Beginning). m < u.number) q → IsPlaceBefore (p ++ beginning_at m k ∷ []) q
goes_before p [] m k before above = before
goes_before [] (t ∷ q) m k before above = inl (inl above.0)
goes_before (s ∷ p) (t ∷ q) m k before above = ⊎_elim (λ b. inl b) (λ b. inr (b.0, goes_before p q m k b.1 above.1)) before

-- the other goes on
before_goes : (p q : Place) (t : Beginning) → IsPlaceBefore p q → IsPlaceBefore p (q ++ t ∷ [])
before_goes p [] t before = absurd before
before_goes [] (u ∷ q) t before = tt
before_goes (s ∷ p) (u ∷ q) t before = ⊎_elim (λ b. inl b) (λ b. inr (b.0, before_goes p q t b.1)) before

front_before : (p : Place) (t : Beginning) → IsPlaceBefore p (p ++ t ∷ [])
front_before [] t = tt
front_before (s ∷ p) t = inr (refl, front_before p t)

next_before : (p : Place) (m j k : ℕ) → j < k → IsPlaceBefore (p ++ beginning_at m j ∷ []) (p ++ beginning_at m k ∷ [])
next_before [] m j k less = inl (inr (refl, less))
next_before (s ∷ p) m j k less = inr (refl, next_before p m j k less)

-- those that are begun at one place
pub from_is : (place : Place) (m k count : ℕ) (q : Place) → Contains (places_from place m k count) q → (j : ℕ) × (k ≤ j) × (place ++ beginning_at m j ∷ [] ≡ q)
from_is place m k zero q there = absurd (none_in_nil q there)
from_is place m k (suc count) q there =
    ⊎_elim (λ e. (k, omega arith, e)) (λ on. let more = from_is place m (suc k) count q on in let least = more.1 in (more.0, omega (arith, least), more.2))
    (first_or_later q (place ++ beginning_at m k ∷ []) (places_from place m (suc k) count) there)

pub from_in_order : (place : Place) (m k count : ℕ) → ArePlacesInOrder (places_from place m k count)
from_in_order place m k zero = tt
from_in_order place m k (suc count) = (
  (λ q there.
      let (j, least, is) = from_is place m (suc k) count q there in
      subst (λ (z : Place). IsPlaceBefore (place ++ beginning_at m k ∷ []) z) is (next_before place m k j (omega (arith, least)))),
  from_in_order place m (suc k) count,
)

-- what becomes of an entry is the entry's place, or goes on from it
stays_is : (place : Place) (m count : ℕ) (stays : Bool) (q : Place) → Contains (cond stays (place ∷ []) [] ++ places_from place m 0 count) q
    → (place ≡ q) ⊎ ((j : ℕ) × (place ++ beginning_at m j ∷ [] ≡ q))
stays_is place m count true q there = ⊎_elim (λ e. inl e) (λ on. let f = from_is place m 0 count q on in inr (f.0, f.2)) (first_or_later q place (places_from place m 0 count) there)
stays_is place m count false q there = let f = from_is place m 0 count q there in inr (f.0, f.2)

of_in_order : (place : Place) (m count : ℕ) (stays : Bool) → ArePlacesInOrder (cond stays (place ∷ []) [] ++ places_from place m 0 count)
of_in_order place m count true = (
  (λ q there. let (j, least, is) = from_is place m 0 count q there in subst (λ (z : Place). IsPlaceBefore place z) is (front_before place (beginning_at m j))),
  from_in_order place m 0 count,
)
of_in_order place m count false = from_in_order place m 0 count

goes : (first m : ℕ) (p q : Place) (k : ℕ) → WasMade first m p → WasMade first m q → IsPlaceBefore p q → IsPlaceBefore (p ++ beginning_at m k ∷ []) q
goes first m [] q k made other before = absurd made
goes first m (s ∷ p) [] k made other before = absurd other
goes first m (s ∷ p) (t ∷ q) k made other before = ⊎_elim (λ b. inl b) (λ b. inr (b.0, goes_before p q m k b.1 other.1)) before

-- p and all that goes on from it at the beginning come before q and all that goes on from that
across_places : (first m : ℕ) (p q : Place) → WasMade first m p → WasMade first m q → IsPlaceBefore p q → (a b : Place)
    → (p ≡ a) ⊎ ((j : ℕ) × (p ++ beginning_at m j ∷ [] ≡ a)) → (q ≡ b) ⊎ ((j : ℕ) × (q ++ beginning_at m j ∷ [] ≡ b)) → IsPlaceBefore a b
across_places first m p q made other before a b one two =
    let front : IsPlaceBefore a q = ⊎_elim (λ e. subst (λ (z : Place). IsPlaceBefore z q) e before) (λ g. subst (λ (z : Place). IsPlaceBefore z q) g.1 (goes first m p q g.0 made other before)) one in
    ⊎_elim (λ e. subst (λ (z : Place). IsPlaceBefore a z) e front) (λ g. subst (λ (z : Place). IsPlaceBefore a z) g.1 (before_goes a q (beginning_at m g.0) front)) two

behind_is : (m : ℕ) (changes : List PlaceChange) (q : Place) → Contains (places_behind m changes) q → (c : PlaceChange) × Contains changes c × Contains (places_of m c) q
behind_is m [] q there = absurd (none_in_nil q there)
behind_is m (c ∷ changes) q there =
    ⊎_elim (λ front. (c, here c changes, front)) (λ back. let more = behind_is m changes q back in (more.0, later more.0 c changes more.1, more.2))
    (Contains-append (places_of m c) (places_behind m changes) q there)

made_of : (first m : ℕ) (changes : List PlaceChange) (c : PlaceChange) → AllByRecursion (λ (d : PlaceChange). WasMade first m d.place) changes → Contains changes c → WasMade first m c.place
made_of first m [] c made there = absurd (none_in_nil c there)
made_of first m (d ∷ changes) c made there =
    ⊎_elim (λ e. subst (λ (z : PlaceChange). WasMade first m z.place) e made.0) (λ on. made_of first m changes c made.1 on) (first_or_later c d changes there)

placed : (changes : List PlaceChange) (c : PlaceChange) → Contains changes c → Contains (map (λ (d : PlaceChange). d.place) changes) c.place
placed [] c there = absurd (none_in_nil c there)
placed (d ∷ changes) c there =
    ⊎_elim (λ e. subst (λ (z : Place). Contains (d.place ∷ map (λ (f : PlaceChange). f.place) changes) z) (ap (λ (z : PlaceChange). z.place) e)
    (here d.place (map (λ (f : PlaceChange). f.place) changes)))
    (λ on. later c.place d.place (map (λ (f : PlaceChange). f.place) changes) (placed changes c on)) (first_or_later c d changes there)

behind_in_order : (first m : ℕ) (changes : List PlaceChange) → ArePlacesInOrder (map (λ (c : PlaceChange). c.place) changes) → AllByRecursion (λ (c : PlaceChange). WasMade first m c.place) changes
    → ArePlacesInOrder (places_behind m changes)
behind_in_order first m [] order made = tt
behind_in_order first m (c ∷ changes) order made =
    joined (places_of m c) (places_behind m changes) (of_in_order c.place m c.begun c.stays) (behind_in_order first m changes order.1 made.1) (λ p q one other.
    let found = behind_is m changes q other in
    let d = found.0 in
    across_places first m c.place d.place made.0 (made_of first m changes d made.1 found.1) (order.0 d.place (placed changes d found.1)) p q
    (stays_is c.place m c.begun c.stays p one) (stays_is d.place m d.begun d.stays q found.2))

-- what is begun anew comes last
before_new : (first m : ℕ) (p : Place) (k : ℕ) → WasMade first m p → (a : Place) → (p ≡ a) ⊎ ((j : ℕ) × (p ++ beginning_at m j ∷ [] ≡ a)) → IsPlaceBefore a (beginning_at first k ∷ [])
before_new first m [] k made a one = absurd made
before_new first m (t ∷ p) k made a one =
    let below = made.0 in
    ⊎_elim (λ e. subst (λ (z : Place). IsPlaceBefore z (beginning_at first k ∷ [])) e (inl (inl below)))
    (λ g. subst (λ (z : Place). IsPlaceBefore z (beginning_at first k ∷ [])) g.1 (inl (inl below))) one

pub steps_keep_order : (first m count : ℕ) (changes : List PlaceChange) → ArePlacesInOrder (map (λ (c : PlaceChange). c.place) changes)
    → AllByRecursion (λ (c : PlaceChange). WasMade first m c.place) changes → ArePlacesInOrder (places_behind m changes ++ places_from [] first 0 count)
steps_keep_order first m count changes order made =
    joined (places_behind m changes) (places_from [] first 0 count) (behind_in_order first m changes order made) (from_in_order [] first 0 count) (λ p q one other.
    let found = behind_is m changes p one in
    let c = found.0 in
    let new = from_is [] first 0 count q other in
    subst (λ (z : Place). IsPlaceBefore p z) new.2 (before_new first m c.place new.0 (made_of first m changes c made found.1) p (stays_is c.place m c.begun c.stays p found.2)))
