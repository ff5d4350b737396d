-- Sets of numbers and of pairs of numbers, as lists in order.
use Rattle.sleepers.proofs.Vocabulary.{Option, None, IsSome, length, ◌≡◌, ℕ, ◌<◌, ◌≤◌, ◌-◌, ◌^◌, Bool, true, false, true≢false, cond, not, ◌&&◌, List, [], ◌∷◌, ◌++◌, Contains, ◌⊎◌, inl, inr, ⊎_elim}
use Rattle.sleepers.proofs.Vocabulary.{refl, sym, ap, subst, subst₂, ◌∙◌, arith, is_at, IsLeBy, range_contains, insert_key, AllByRecursion, filter, is_some, is_eq, is_gt, is_le, is_lt, match_ordering}
use Rattle.sleepers.proofs.Vocabulary.{nat_cmp, ordering_then, remove_key, Ordering, Less, Equal, Greater, Included, Contains-append_left, Contains-push, Contains-push_cases, le_from_not_gt}
use Rattle.sleepers.proofs.Vocabulary.{sorted_head, sorted_tail, here, later, first_or_later, none_in_nil, AllByRecursion-contains, HasNoRepeats}
use Rattle.std.specs.List.Sorted.{IsStrictlySortedBy}

-- ---- a key that is put in

module _ {K : Type 0} (cmp : K → K → Ordering) where
  pub insert_keeps : (keys : List K) (k x : K) → Contains keys x → Contains (insert_key cmp keys k) x
  insert_keeps [] k x there = absurd (none_in_nil x there)
  insert_keeps (y ∷ keys) k x there = by (cmp k y) (λ on. insert_keeps keys k x on)
    where
      by : (o : Ordering) → (Contains keys x → Contains (insert_key cmp keys k) x)
          → Contains (match_ordering o (k ∷ y ∷ keys) (y ∷ keys) (y ∷ insert_key cmp keys k)) x
      by Less rest = later x k (y ∷ keys) there
      by Equal rest = there
      by Greater rest =
          ⊎_elim (λ same. (0, omega arith, same)) (λ on. later x y (insert_key cmp keys k) (rest on)) (first_or_later x y keys there)

  pub insert_has : ((x y : K) → cmp x y ≡ Equal → x ≡ y) → (keys : List K) (k : K) → Contains (insert_key cmp keys k) k
  insert_has one [] k = here k []
  insert_has one (y ∷ keys) k = by (cmp k y) refl (insert_has one keys k)
    where
      by : (o : Ordering) → cmp k y ≡ o → Contains (insert_key cmp keys k) k
          → Contains (match_ordering o (k ∷ y ∷ keys) (y ∷ keys) (y ∷ insert_key cmp keys k)) k
      by Less is rest = here k (y ∷ keys)
      by Equal is rest = (0, omega arith, sym (one k y is))
      by Greater is rest = later k y (insert_key cmp keys k) rest

  pub insert_each : (P : K → Type 0) (keys : List K) (k : K) → AllByRecursion P keys → P k → AllByRecursion P (insert_key cmp keys k)
  insert_each P [] k each one = (one, tt)
  insert_each P (y ∷ keys) k each one = by (cmp k y) (insert_each P keys k each.1 one)
    where
      by : (o : Ordering) → AllByRecursion P (insert_key cmp keys k)
          → AllByRecursion P (match_ordering o (k ∷ y ∷ keys) (y ∷ keys) (y ∷ insert_key cmp keys k))
      by Less rest = (one, each)
      by Equal rest = each
      by Greater rest = (each.0, rest)

-- ---- a key that is taken out

module _ {K : Type 0} (test : K → Bool) where
  pub remove_keeps : (keys : List K) (x : K) → Contains keys x → (test x ≡ true) ⊎ Contains (remove_key test keys) x
  remove_keeps [] x there = absurd (none_in_nil x there)
  remove_keeps (y ∷ keys) x there = by (test y) refl (λ on. remove_keeps keys x on)
    where
      by : (b : Bool) → test y ≡ b → (Contains keys x → (test x ≡ true) ⊎ Contains (remove_key test keys) x)
          → (test x ≡ true) ⊎ Contains (cond b keys (y ∷ remove_key test keys)) x
      by true is rest = ⊎_elim (λ same. inl (subst (λ (z : K). test z ≡ true) same is)) (λ on. inr on) (first_or_later x y keys there)
      by false is rest =
          ⊎_elim (λ same. inr (0, omega arith, same)) (λ on. ⊎_elim (λ t. inl t) (λ more. inr (later x y (remove_key test keys) more)) (rest on))
          (first_or_later x y keys there)

  pub remove_each : (P : K → Type 0) (keys : List K) → AllByRecursion P keys → AllByRecursion P (remove_key test keys)
  remove_each P [] each = tt
  remove_each P (y ∷ keys) each = by (test y) (remove_each P keys each.1)
    where
      by : (b : Bool) → AllByRecursion P (remove_key test keys) → AllByRecursion P (cond b keys (y ∷ remove_key test keys))
      by true rest = each.1
      by false rest = (each.0, rest)

  pub filter_has : (keys : List K) (x : K) → Contains keys x → test x ≡ true → Contains (filter test keys) x
  filter_has [] x there is = absurd (none_in_nil x there)
  filter_has (y ∷ keys) x there is = by (test y) refl (λ on. filter_has keys x on is)
    where
      by : (b : Bool) → test y ≡ b → (Contains keys x → Contains (filter test keys) x) → Contains (cond b (y ∷ filter test keys) (filter test keys)) x
      by true t rest = ⊎_elim (λ same. (0, omega arith, same)) (λ on. later x y (filter test keys) (rest on)) (first_or_later x y keys there)
      by false t rest =
          ⊎_elim (λ same. absurd (true≢false (sym (subst (λ (z : K). test z ≡ true) (sym same) is) ∙ t))) (λ on. rest on) (first_or_later x y keys there)

-- ---- numbers

pub number_is : (m n : ℕ) → nat_cmp m n ≡ Equal → m ≡ n
number_is m n equal = grind (arith, equal)

not_below_itself : (n : ℕ) → nat_cmp n n ≡ Less → ⊥
not_below_itself n less = grind (arith, less)

-- numbers that rise do not repeat
pub rising_once : (numbers : List ℕ) → IsStrictlySortedBy nat_cmp numbers → HasNoRepeats numbers
rising_once [] rising = tt
rising_once (n ∷ numbers) rising = (
  (λ there. not_below_itself n (AllByRecursion-contains (λ (m : ℕ). nat_cmp n m ≡ Less) numbers n (sorted_head nat_cmp n numbers rising) there)),
  rising_once numbers (sorted_tail nat_cmp n numbers rising),
)

-- numbers that are put last
pub push_on : (old new : List ℕ) (k x : ℕ) → new ≡ old ++ k ∷ [] → Contains old x → Contains new x
push_on old new k x is there = subst (λ (l : List ℕ). Contains l x) (sym is) (Contains-append_left old (k ∷ []) x there)

pub push_seen : (seen : List (ℕ × ℕ)) (next : ℕ × ℕ) (old new : List ℕ) → new ≡ old ++ next.1 ∷ []
    → ((pair : ℕ × ℕ) → Contains seen pair → Contains old pair.1) → (pair : ℕ × ℕ) → Contains (seen ++ next ∷ []) pair → Contains new pair.1
push_seen seen next old new is has pair there =
    ⊎_elim (λ on. push_on old new next.1 pair.1 is (has pair on))
    (λ same. subst (λ (p : ℕ × ℕ). Contains new p.1) same (subst (λ (l : List ℕ). Contains l next.1) (sym is) (Contains-push old next.1)))
    (Contains-push_cases seen next pair there)

-- ---- pairs

abbrev pub pair_cmp : ℕ × ℕ → ℕ × ℕ → Ordering
pair_cmp x y = ordering_then (nat_cmp x.0 y.0) (nat_cmp x.1 y.1)

pub pair_is : (x y : ℕ × ℕ) → pair_cmp x y ≡ Equal → x ≡ y
pair_is x y equal =
    let first : x.0 ≡ y.0 = number_is x.0 y.0 (first_equal (nat_cmp x.0 y.0) (nat_cmp x.1 y.1) equal) in
    let second : x.1 ≡ y.1 = number_is x.1 y.1 (second_equal (nat_cmp x.0 y.0) (nat_cmp x.1 y.1) equal) in
    λ i. (first i, second i)
  where
    first_equal : (a b : Ordering) → ordering_then a b ≡ Equal → a ≡ Equal
    first_equal Less b e = e
    first_equal Equal b e = refl
    first_equal Greater b e = e

    second_equal : (a b : Ordering) → ordering_then a b ≡ Equal → b ≡ Equal
    second_equal Less b e = cc
    second_equal Equal b e = e
    second_equal Greater b e = cc

pub pair_tested : (x y : ℕ × ℕ) → is_at (pair_cmp x) y ≡ true → x ≡ y
pair_tested x y tested = pair_is x y (equal_from_test (pair_cmp x y) tested)
  where
    equal_from_test : (o : Ordering) → is_eq o ≡ true → o ≡ Equal
    equal_from_test Less is = cc
    equal_from_test Equal is = refl
    equal_from_test Greater is = cc

-- the first of pairs in order has the least key
pub least_key : (first pair : ℕ × ℕ) → IsLeBy pair_cmp first pair → first.0 ≤ pair.0
least_key first pair least = le_from_not_gt first.0 pair.0 (not_gt (nat_cmp first.0 pair.0) (nat_cmp first.1 pair.1) least)
  where
    not_gt : (a b : Ordering) → is_gt (ordering_then a b) ≡ false → is_gt a ≡ false
    not_gt Less b e = refl
    not_gt Equal b e = refl
    not_gt Greater b e = e

pub none_in_short : {X Y : Type 0} (r : Option Y) (keys : List X) (x : X) → (IsSome r → 0 < length keys) × (0 < length keys → IsSome r) → r ≡ None → Contains keys x → ⊥
none_in_short r keys x tells none there =
    let within = there.1 in
    let some : is_some r ≡ true = tells.1 (omega (arith, within)) in
    true≢false (sym some ∙ ap is_some none)

not_greater : (m n : ℕ) → m ≤ n → nat_cmp m n ≡ Greater → ⊥
not_greater m n least greater = grind (arith, least, greater)

not_less : (m n : ℕ) → n ≤ m → nat_cmp m n ≡ Less → ⊥
not_less m n greatest less = grind (arith, greatest, less)

from_start : (first second : Ordering) → (first ≡ Greater → ⊥) → (second ≡ Greater → ⊥) → is_le (ordering_then first second) ≡ true
from_start Less second one two = refl
from_start Equal Less one two = refl
from_start Equal Equal one two = refl
from_start Equal Greater one two = absurd (two refl)
from_start Greater second one two = absurd (one refl)

to_end : (first second : Ordering) → (first ≡ Less → ⊥) → (second ≡ Less → ⊥) → is_lt (ordering_then first second) ≡ false
to_end Less second one two = absurd (one refl)
to_end Equal Less one two = absurd (two refl)
to_end Equal Equal one two = refl
to_end Equal Greater one two = refl
to_end Greater second one two = refl

-- a pair whose key is in a range is in the range of pairs
pub in_range : (least greatest : ℕ) (pair : ℕ × ℕ) → least ≤ pair.0 → pair.0 ≤ greatest → pair.1 < 2 ^ 64
    → range_contains pair_cmp (Included (least, 0)) (Included (greatest, 2 ^ 64 - 1)) pair ≡ true
in_range least greatest pair above below fits =
    let first = from_start (nat_cmp least pair.0) (nat_cmp 0 pair.1) (not_greater least pair.0 above) (not_greater 0 pair.1 (omega arith)) in
    let last = to_end (nat_cmp greatest pair.0) (nat_cmp (2 ^ 64 - 1) pair.1) (not_less greatest pair.0 below) (not_less (2 ^ 64 - 1) pair.1 (omega (arith, fits))) in
    subst₂ (λ (a b : Bool). (a && not b) ≡ true) (sym first) (sym last) refl
