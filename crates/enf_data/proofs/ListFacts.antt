-- What std leaves unsaid of lists, numbers, tests and results.
use Rattle.enf_data.proofs.Vocabulary.{◌≡◌, ℕ, ◌<◌, nat_lt, true, arith, ◌≤◌, nat_le, ◌==◌, ◌≢◌, false, refl, inl, inr, ⊎_elim, zero, suc, ap, Bool, ◌&&◌, IsTrue, sym, true≢false, not, Result, Ok}
use Rattle.enf_data.proofs.Vocabulary.{Err, OnErr, Some, IfOk, OnOk, List, [], ◌∷◌, length, Contains, ◌++◌, get_or, subst, flat_map, All, ◌↔◌, map, slice_get, ◌+◌, drop, ◌∙◌, drop-cons, cond}
use Rattle.enf_data.proofs.Vocabulary.{take_while, ◌-◌, take, length-append, drop_at, take_all, nat_tests, false≢true, Contains-append_left, Contains-append_right, Contains-get_or, All-contains}
use Rattle.enf_data.proofs.Vocabulary.{none-some, take_while-cons, result_ok, AllByRecursion, list_all}
use Rattle.std.proofs.Common.{is_lt, Ordering, Less, Equal, Greater, ◌⊎◌}
use Rattle.enf_data.proofs.Lists.{Contains-append, first_or_later, here, none_in_nil}

-- ---- tests

pub true_from_lt : (m n : ℕ) → m < n → nat_lt m n ≡ true
true_from_lt m n h = grind (arith, nat_tests)

pub true_from_le : (m n : ℕ) → m ≤ n → nat_le m n ≡ true
true_from_le m n h = grind (arith, nat_tests)

pub lt_from_true : (m n : ℕ) → nat_lt m n ≡ true → m < n
lt_from_true m n h = grind (arith, nat_tests)

pub le_from_true : (m n : ℕ) → nat_le m n ≡ true → m ≤ n
le_from_true m n h = grind (arith, nat_tests)

pub true_from_eq : (a b : ℕ) → a ≡ b → (a == b) ≡ true
true_from_eq a b e = grind (arith, nat_tests)

pub false_from_ne : (a b : ℕ) → a ≢ b → (a == b) ≡ false
false_from_ne a b apart = grind (arith, nat_tests)

pub Less_from_test : (r : Ordering) → is_lt r ≡ true → r ≡ Less
Less_from_test Less e = refl
Less_from_test Equal e = absurd (cc)
Less_from_test Greater e = absurd (cc)

pub cases_le : (a b : ℕ) → (a ≤ b) ⊎ (b < a)
cases_le zero b = inl (omega arith)
cases_le (suc a) zero = inr (omega arith)
cases_le (suc a) (suc b) = ⊎_elim (λ below. inl (omega (arith, below))) (λ past. inr (omega (arith, past))) (cases_le a b)

pub eq_from_neither_less : (m n : ℕ) → (m < n → ⊥) → (n < m → ⊥) → m ≡ n
eq_from_neither_less zero zero left right = refl
eq_from_neither_less zero (suc n) left right = absurd (left (omega arith))
eq_from_neither_less (suc m) zero left right = absurd (right (omega arith))
eq_from_neither_less (suc m) (suc n) left right = ap suc (eq_from_neither_less m n (λ less. left (omega (arith, less))) (λ less. right (omega (arith, less))))

pub both_true : (a b : Bool) → IsTrue (a && b) → IsTrue a × IsTrue b
both_true true b h = (refl, h)
both_true false b h = absurd (true≢false (sym h))

pub not_both : (b : Bool) → IsTrue (not b) → IsTrue b → ⊥
not_both true none so = false≢true none
not_both false none so = false≢true so

pub iff_then : {P Q R : Type 0} → P ↔ Q → Q ↔ R → P ↔ R
iff_then a b = (λ p. b.0 (a.0 p), λ r. a.1 (b.1 r))

-- ---- results

-- what holds anyway holds after a refusal
pub on_err_from : {T E P : Type 0} (r : Result T E) → P → OnErr r P
on_err_from (Ok x) p = tt
on_err_from (Err e) p = p

-- what `?` on what `ok` answers tells of the call before it
pub ok_some : {T E : Type 0} (r : Result T E) (x : T) → result_ok r ≡ Some x → r ≡ Ok x
ok_some (Ok y) x e = cc
ok_some (Err y) x e = cc

-- two facts of what is in an `Ok`
pub ok_both : {T E : Type 0} (r : Result T E) (P Q R : T → Type 0) → IfOk r P → IfOk r Q → ((x : T) → P x → Q x → R x) → IfOk r R
ok_both (Ok x) P Q R p q f = f x p q
ok_both (Err e) P Q R p q f = tt

-- where there is a value, two facts together
pub on_ok_both : {T E : Type 0} (r : Result T E) (P Q R : Type 0) → (P → Q → R) → OnOk r P → OnOk r Q → OnOk r R
on_ok_both (Ok x) P Q R both p q = both p q
on_ok_both (Err e) P Q R both p q = tt

pub if_ok_map : {A E : Type 0} {P Q : A → Type 0} (r : Result A E) → ((a : A) → P a → Q a) → IfOk r P → IfOk r Q
if_ok_map (Ok a) f h = f a h
if_ok_map (Err e) f h = tt

-- ---- what is in a list

pub nil_not_cons : {X : Type 0} (x : X) (xs : List X) → [] ≡ x ∷ xs → ⊥
nil_not_cons x xs same = let e : 0 ≡ length (x ∷ xs) = ap length same in omega arith

pub only_item : {X : Type 0} (a b : X) → Contains (a ∷ []) b → a ≡ b
only_item a b there = ⊎_elim (λ same. same) (λ behind. absurd (none_in_nil b behind)) (first_or_later b a [] there)

-- what stands in a list stands there with one more item in the middle
pub Contains-insert : {X : Type 0} (front back : List X) (x y : X) → Contains (front ++ back) y → Contains (front ++ x ∷ back) y
Contains-insert [] back x y there = (suc there.0, omega (arith, there.1), there.2)
Contains-insert (z ∷ front) back x y there = by there.0 there.1 there.2 (Contains-insert front back x y)
  where
    by : (k : ℕ) → k < length ((z ∷ front) ++ back) → get_or ((z ∷ front) ++ back) k y ≡ y → (Contains (front ++ back) y → Contains (front ++ x ∷ back) y) → Contains ((z ∷ front) ++ x ∷ back) y
    by zero within is rest = (0, omega arith, is)
    by (suc k) within is rest = let later = rest (k, omega (arith, within), is) in (suc later.0, omega (arith, later.1), later.2)

-- what is in one of the lists is in all of them joined
pub Contains-flat_map : {X Y : Type 0} (f : X → List Y) (xs : List X) (x : X) (y : Y) → Contains xs x → Contains (f x) y → Contains (flat_map f xs) y
Contains-flat_map f [] x y there inside = absurd (none_in_nil x there)
Contains-flat_map f (z ∷ xs) x y there inside =
    ⊎_elim (λ (same : z ≡ x). Contains-append_left (f z) (flat_map f xs) y (subst (λ w. Contains (f w) y) (sym same) inside))
    (λ (more : Contains xs x). Contains-append_right (f z) (flat_map f xs) y (Contains-flat_map f xs x y more inside)) (first_or_later x z xs there)

pub from_flat_map : {X Y : Type 0} (f : X → List Y) (xs : List X) (y : Y) → Contains (flat_map f xs) y
    → (x : X) × Contains xs x × Contains (f x) y
from_flat_map f [] y there = absurd (none_in_nil y there)
from_flat_map f (x ∷ xs) y there =
    ⊎_elim
    (λ front. (x, here x xs, front))
    (λ back. let found = from_flat_map f xs y back in (found.0, Contains-append_right (x ∷ []) xs found.0 found.1, found.2))
    (Contains-append (f x) (flat_map f xs) y there)

-- ---- what holds of each

pub all_from : {X : Type 0} (P : X → Type 0) (xs : List X) → ((x : X) → Contains xs x → P x) → All P xs
all_from P xs each k d below = each (get_or xs k d) (Contains-get_or xs k d below)

pub all_front : {X : Type 0} (P : X → Type 0) (xs ys : List X) → All P (xs ++ ys) → All P xs
all_front P xs ys all k d within = All-contains P (xs ++ ys) (get_or xs k d) all (Contains-append_left xs ys (get_or xs k d) (Contains-get_or xs k d within))

pub all_at_middle : {X : Type 0} (P : X → Type 0) (xs : List X) (x : X) (ys : List X) → AllByRecursion P (xs ++ x ∷ ys) → P x
all_at_middle P [] x ys all = all.0
all_at_middle P (y ∷ xs) x ys all = all_at_middle P xs x ys all.1

-- what holds of each image holds of the image of the item at a place
pub all_at : {X Y : Type 0} (P : Y → Type 0) (f : X → Y) (xs : List X) (k : ℕ) (x : X) → k < length xs → x ≡ get_or xs k x
    → AllByRecursion P (map f xs) → P (f x)
all_at P f [] k x within at all = absurd (omega (arith, within))
all_at P f (y ∷ ys) zero x within at all = subst (λ z. P (f z)) (sym at) all.0
all_at P f (y ∷ ys) (suc k) x within at all = all_at P f ys k x (omega (arith, within)) at all.1

-- ---- places

pub slice_get_at : {X : Type 0} (xs : List X) (i : ℕ) (x : X) → i < length xs → x ≡ get_or xs i x → slice_get xs i ≡ Some x
slice_get_at [] i x below is = absurd (omega (arith, below))
slice_get_at (y ∷ xs) zero x below is = λ j. Some (sym is j)
slice_get_at (y ∷ xs) (suc i) x below is = slice_get_at xs i x (omega (arith, below)) is

pub slice_get-map_at : {X Y : Type 0} (f : X → Y) (xs : List X) (k : ℕ) (x : X) → k < length xs → x ≡ get_or xs k x
    → slice_get (map f xs) k ≡ Some (f x)
slice_get-map_at f [] k x within at = absurd (omega (arith, within))
slice_get-map_at f (y ∷ ys) zero x within at = ap (λ z. Some (f z)) (sym at)
slice_get-map_at f (y ∷ ys) (suc k) x within at = slice_get-map_at f ys k x (omega (arith, within)) at

pub slice_get-append_left : {X : Type 0} (xs ys : List X) (i : ℕ) (x : X) → slice_get xs i ≡ Some x → slice_get (xs ++ ys) i ≡ Some x
slice_get-append_left [] ys i x e = absurd (none-some x e)
slice_get-append_left (y ∷ xs) ys zero x e = e
slice_get-append_left (y ∷ xs) ys (suc i) x e = slice_get-append_left xs ys i x e

-- from an item on a list is the item and what is after it
pub drop_at_item : {X : Type 0} (xs : List X) (k : ℕ) (x : X) → k < length xs → x ≡ get_or xs k x
    → drop k xs ≡ x ∷ drop (k + 1) xs
drop_at_item xs k x within at = subst (λ n. drop k xs ≡ x ∷ drop n xs) {x = suc k} {y = k + 1} (omega arith)
    (drop-cons xs k x within ∙ ap (λ y. y ∷ drop (suc k) xs) (sym at))

-- ---- fronts

pub front_passes : (kind : ℕ → Bool) (bytes : List ℕ) → list_all kind (take_while kind bytes) ≡ true
front_passes kind [] = refl
front_passes kind (byte ∷ bytes) = rw (take_while-cons kind byte bytes) (by (kind byte) refl (front_passes kind bytes))
  where
    by : (b : Bool) → kind byte ≡ b → list_all kind (take_while kind bytes) ≡ true → list_all kind (cond b (byte ∷ take_while kind bytes) []) ≡ true
    by true e rest = λ j. e j && rest j
    by false e rest = refl

-- what is after a front
pub behind_front : (front rest bytes : List ℕ) (n : ℕ) → bytes ≡ front ++ rest → n ≡ length front → take (length bytes - n) (drop n bytes) ≡ rest
behind_front front rest bytes n is long =
    ap (take (length bytes - n)) (ap (drop n) is ∙ drop_at front rest n (sym long))
    ∙ take_all (length bytes - n) rest (omega (arith, ap length is, length-append front rest, long))

pub cancel_front : (front a b : List ℕ) → front ++ a ≡ front ++ b → a ≡ b
cancel_front front a b e = sym (drop_at front a (length front) refl) ∙ ap (drop (length front)) e ∙ drop_at front b (length front) refl
