-- Where the places of points rise, the first refusal is the one with the least place.
use Rattle.formula_reader.proofs.Vocabulary.{◌≡◌, ◌==◌, Bool, true, false, cond, ℕ, ◌<◌, ◌≤◌, inl, inr, List, [], ◌∷◌, Option, None, Some, refl, sym, ap, ◌∙◌, arith, length, AllByRecursion, option_or}
use Rattle.formula_reader.proofs.Vocabulary.{VarId, NameEntry, Sort, Int, Text, PolicyRefusal, UnknownName, Arity, SortClash, FreeVariable, Rebound, Point, EventName, Binder, Use, entry_named}
use Rattle.formula_reader.proofs.Vocabulary.{event_name_refusal, binder_refusal, sort_clash, known_after, point_refusal, first_point_refusal, sort_of_term, wanted_sort, place_of_point, refusal_place}
use Rattle.formula_reader.proofs.Vocabulary.{PlacesRise, RefusalStands}

name_place : (place terms : ℕ) (entry : Option NameEntry) (refusal : PolicyRefusal) → event_name_refusal place terms entry ≡ Some refusal → refusal_place refusal ≡ place
name_place place terms None refusal e = let h : UnknownName place ≡ refusal = cc in ap refusal_place (sym h)
name_place place terms (Some entry) refusal e = by (length entry.sorts == terms) e
  where
    by : (b : Bool) → cond b None (Some (Arity place)) ≡ Some refusal → refusal_place refusal ≡ place
    by true f = cc
    by false f = let h : Arity place ≡ refusal = cc in ap refusal_place (sym h)

binder_place : (place : ℕ) (taken : Option VarId) (refusal : PolicyRefusal) → binder_refusal place taken ≡ Some refusal → refusal_place refusal ≡ place
binder_place place None refusal e = cc
binder_place place (Some x) refusal e = let h : Rebound place ≡ refusal = cc in ap refusal_place (sym h)

clash_place : (place : ℕ) (a b : Option Sort) (refusal : PolicyRefusal) → sort_clash place a b ≡ Some refusal → refusal_place refusal ≡ place
clash_place place None b refusal e = cc
clash_place place (Some Int) None refusal e = cc
clash_place place (Some Text) None refusal e = cc
clash_place place (Some Int) (Some Int) refusal e = cc
clash_place place (Some Text) (Some Text) refusal e = cc
clash_place place (Some Int) (Some Text) refusal e = let h : SortClash place ≡ refusal = cc in ap refusal_place (sym h)
clash_place place (Some Text) (Some Int) refusal e = let h : SortClash place ≡ refusal = cc in ap refusal_place (sym h)

-- a refusal is at the place of its point
pub point_place : (entries : List NameEntry) (known : VarId → Option Sort) (point : Point) (refusal : PolicyRefusal)
    → point_refusal entries known point ≡ Some refusal → refusal_place refusal ≡ place_of_point point
point_place entries known (EventName place name terms) refusal e = name_place place terms (entry_named entries name) refusal e
point_place entries known (Binder place taken) refusal e = binder_place place taken refusal e
point_place entries known (Use place None wanted) refusal e = let h : FreeVariable place ≡ refusal = cc in ap refusal_place (sym h)
point_place entries known (Use place (Some term) wanted) refusal e =
    clash_place place (sort_of_term known (Some term)) (wanted_sort known wanted) refusal e

-- what stands after a place is refused after it
behind : (entries : List NameEntry) (before points : List Point) (place : ℕ) (refusal : PolicyRefusal) → AllByRecursion (λ p. place < place_of_point p) points
    → RefusalStands entries before points refusal → place < refusal_place refusal
behind entries before [] place refusal a h = absurd h
behind entries before (point ∷ rest) place refusal a (inl e) =
    let h : refusal_place refusal ≡ place_of_point point = point_place entries (known_after before) point refusal e in
    let k : place < place_of_point point = a.0 in omega arith
behind entries before (point ∷ rest) place refusal a (inr h) = behind entries (point ∷ before) rest place refusal a.1 h

-- the first refusal stands
pub first_stands : (entries : List NameEntry) (before points : List Point) (refusal : PolicyRefusal)
    → first_point_refusal entries before points ≡ Some refusal → RefusalStands entries before points refusal
first_stands entries before [] refusal e = cc
first_stands entries before (point ∷ rest) refusal e =
    by (point_refusal entries (known_after before) point) refl e (first_stands entries (point ∷ before) rest refusal)
  where
    by : (r : Option PolicyRefusal) → point_refusal entries (known_after before) point ≡ r
        → option_or r (first_point_refusal entries (point ∷ before) rest) ≡ Some refusal
        → (first_point_refusal entries (point ∷ before) rest ≡ Some refusal → RefusalStands entries (point ∷ before) rest refusal)
        → RefusalStands entries before (point ∷ rest) refusal
    by None is f later = inr (later f)
    by (Some q) is f later = inl (is ∙ f)

-- and no refusal stands before it
pub first_least : (entries : List NameEntry) (before points : List Point) (refusal other : PolicyRefusal) → PlacesRise points
    → first_point_refusal entries before points ≡ Some refusal → RefusalStands entries before points other → refusal_place refusal ≤ refusal_place other
first_least entries before [] refusal other rises e h = absurd h
first_least entries before (point ∷ rest) refusal other rises e h =
    by (point_refusal entries (known_after before) point) refl e h (first_least entries (point ∷ before) rest refusal other rises.1)
  where
    by : (r : Option PolicyRefusal) → point_refusal entries (known_after before) point ≡ r
        → option_or r (first_point_refusal entries (point ∷ before) rest) ≡ Some refusal → RefusalStands entries before (point ∷ rest) other
        → (first_point_refusal entries (point ∷ before) rest ≡ Some refusal → RefusalStands entries (point ∷ before) rest other → refusal_place refusal ≤ refusal_place other)
        → refusal_place refusal ≤ refusal_place other
    by None is f (inl s) later = let n : None ≡ Some other = sym is ∙ s in absurd (cc)
    by None is f (inr s) later = later f s
    by (Some q) is f (inl s) later =
        let a : refusal_place refusal ≡ place_of_point point = point_place entries (known_after before) point refusal (is ∙ f) in
        let b : refusal_place other ≡ place_of_point point = point_place entries (known_after before) point other s in omega arith
    by (Some q) is f (inr s) later =
        let a : refusal_place refusal ≡ place_of_point point = point_place entries (known_after before) point refusal (is ∙ f) in
        let b : place_of_point point < refusal_place other = behind entries (point ∷ before) rest (place_of_point point) other rises.0 s in omega arith

-- what stands with the least place is the first refusal
pub least_first : (entries : List NameEntry) (before points : List Point) (refusal : PolicyRefusal) → PlacesRise points → RefusalStands entries before points refusal
    → ((other : PolicyRefusal) → RefusalStands entries before points other → refusal_place refusal ≤ refusal_place other)
    → first_point_refusal entries before points ≡ Some refusal
least_first entries before [] refusal rises h least = absurd h
least_first entries before (point ∷ rest) refusal rises h least =
    by (point_refusal entries (known_after before) point) refl h (least_first entries (point ∷ before) rest refusal rises.1)
  where
    by : (r : Option PolicyRefusal) → point_refusal entries (known_after before) point ≡ r → RefusalStands entries before (point ∷ rest) refusal
        → (RefusalStands entries (point ∷ before) rest refusal
        → ((other : PolicyRefusal) → RefusalStands entries (point ∷ before) rest other → refusal_place refusal ≤ refusal_place other)
        → first_point_refusal entries (point ∷ before) rest ≡ Some refusal)
        → option_or (point_refusal entries (known_after before) point) (first_point_refusal entries (point ∷ before) rest) ≡ Some refusal
    by None is (inl s) later = let n : None ≡ Some refusal = sym is ∙ s in cc
    by None is (inr s) later = rw is (later s (λ other t. least other (inr t)))
    by (Some q) is (inl s) later = rw is (sym is ∙ s)
    by (Some q) is (inr s) later =
        let a : refusal_place q ≡ place_of_point point = point_place entries (known_after before) point q is in
        let b : place_of_point point < refusal_place refusal = behind entries (point ∷ before) rest (place_of_point point) refusal rises.0 s in
        let c : refusal_place refusal ≤ refusal_place q = least q (inl is) in absurd (omega arith)

-- where no refusal is first none stands
pub none_stands : (entries : List NameEntry) (before points : List Point) (refusal : PolicyRefusal)
    → first_point_refusal entries before points ≡ None → RefusalStands entries before points refusal → ⊥
none_stands entries before [] refusal e h = h
none_stands entries before (point ∷ rest) refusal e h =
    by (point_refusal entries (known_after before) point) refl e h (none_stands entries (point ∷ before) rest refusal)
  where
    by : (r : Option PolicyRefusal) → point_refusal entries (known_after before) point ≡ r
        → option_or r (first_point_refusal entries (point ∷ before) rest) ≡ None → RefusalStands entries before (point ∷ rest) refusal
        → (first_point_refusal entries (point ∷ before) rest ≡ None → RefusalStands entries (point ∷ before) rest refusal → ⊥) → ⊥
    by None is f (inl s) later = let n : None ≡ Some refusal = sym is ∙ s in cc
    by None is f (inr s) later = later f s
    by (Some q) is f s later = cc
