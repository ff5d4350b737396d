-- Being in a list, what holds of each of its items, and lists without repeats.
use Rattle.enf_data.proofs.Vocabulary.{HasNoRepeats, sym, refl, ◌∙◌, false, true≢false, [], ◌∷◌, arith, inl, inr, ⊎_elim, subst, get_or, ltb, ap, drop, ◌-◌, Decides-like, Decides-by_or, nat_tests}
use Rattle.enf_data.proofs.Vocabulary.{Decides-contains, All-contains, All-from_recursion, Contains-push_cases, Contains-append_right, IsDistinct-head, IsDistinct-tail, same_Some, none-some, Decides}
use Rattle.enf_data.proofs.Vocabulary.{list_any, IsDistinct, AllByRecursion, find, position_or_len, filter, option_map, ◌⊎◌, position, Option, None}
use Rattle.std.specs.List.{slice_get}
use Rattle.std.specs.Prelude.{◌≡◌, Bool, List, Contains, suc, zero, ℕ, Some, ◌++◌, true, cond, ◌<◌, length, map}

-- a look-up by a test that tells equality tells whether the key is in the list
pub list_any-Decides : {K : Type 0} (eq : K → K → Bool) → ((x y : K) → Decides (eq x y) (x ≡ y))
    → (ks : List K) (k : K) → Decides (list_any (eq k) ks) (Contains ks k)
list_any-Decides eq decides ks k =
    Decides-contains ks k _ (Decides-by_or (eq k) (λ y. y ≡ k) (list_any (eq k))
    (λ y. Decides-like (eq k y) sym sym (decides k y)) refl (λ _ _. refl) ks)

pub HasNoRepeats-from_distinct : {K : Type 0} (eq : K → K → Bool) → ((x y : K) → Decides (eq x y) (x ≡ y))
    → (keys : List K) → IsDistinct eq keys → HasNoRepeats keys
HasNoRepeats-from_distinct eq decides [] distinct = tt
HasNoRepeats-from_distinct eq decides (x ∷ xs) distinct = (
  λ there. true≢false (sym ((decides x x).1 refl) ∙ All-contains (λ y. eq x y ≡ false) xs x
      (All-from_recursion (λ y. eq x y ≡ false) xs (IsDistinct-head eq x xs distinct)) there),
  HasNoRepeats-from_distinct eq decides xs (IsDistinct-tail eq x xs distinct),
)

-- ---- being in a list

pub here : {X : Type 0} (x : X) (xs : List X) → Contains (x ∷ xs) x
here x xs = (0, omega arith, refl)

pub later : {X : Type 0} (x y : X) (xs : List X) → Contains xs x → Contains (y ∷ xs) x
later x y xs there = (suc there.0, omega (arith, there.1), there.2)

pub first_or_later : {X : Type 0} (x y : X) (xs : List X) → Contains (y ∷ xs) x → (y ≡ x) ⊎ Contains xs x
first_or_later x y xs (zero, within, is) = inl is
first_or_later x y xs (suc k, within, is) = inr (k, omega (arith, within), is)

pub none_in_nil : {X : Type 0} (x : X) → Contains [] x → ⊥
none_in_nil x (k, within, is) = absurd (omega (arith, within))

pub there_from_get : {X : Type 0} (xs : List X) (k : ℕ) (x : X) → slice_get xs k ≡ Some x → Contains xs x
there_from_get [] k x e = absurd (none-some x e)
there_from_get (y ∷ ys) zero x e = (0, omega arith, same_Some y x e)
there_from_get (y ∷ ys) (suc k) x e = later x y ys (there_from_get ys k x e)

pub Contains-append : {X : Type 0} (xs ys : List X) (x : X) → Contains (xs ++ ys) x
    → Contains xs x ⊎ Contains ys x
Contains-append [] ys x there = inr there
Contains-append (y ∷ xs) ys x there =
    ⊎_elim (λ same. inl (
      0,
      omega arith,
      same,
    )) (λ behind. ⊎_elim (λ front. inl (later x y xs front)) (λ back. inr back)
    (Contains-append xs ys x behind)) (first_or_later x y (xs ++ ys) there)

-- ---- what holds of each item

pub AllByRecursion-append : {X : Type 0} (P : X → Type 0) (xs ys : List X) → AllByRecursion P xs
    → AllByRecursion P ys → AllByRecursion P (xs ++ ys)
AllByRecursion-append P [] ys left right = right
AllByRecursion-append P (x ∷ xs) ys left right = (left.0, AllByRecursion-append P xs ys left.1 right)

pub AllByRecursion-of_append : {X : Type 0} (P : X → Type 0) (xs ys : List X) → AllByRecursion P (xs ++ ys)
    → AllByRecursion P xs × AllByRecursion P ys
AllByRecursion-of_append P [] ys each = (tt, each)
AllByRecursion-of_append P (x ∷ xs) ys each =
    let rest = AllByRecursion-of_append P xs ys each.1 in ((each.0, rest.0), rest.1)

pub AllByRecursion-contains : {X : Type 0} (P : X → Type 0) (xs : List X) (x : X) → AllByRecursion P xs
    → Contains xs x → P x
AllByRecursion-contains P [] x each there = absurd (none_in_nil x there)
AllByRecursion-contains P (y ∷ ys) x each there =
    ⊎_elim (λ same. subst P same each.0) (λ behind. AllByRecursion-contains P ys x each.1 behind)
    (first_or_later x y ys there)

pub AllByRecursion-from_contains : {X : Type 0} (P : X → Type 0) (xs : List X) → ((x : X) → Contains xs x → P x)
    → AllByRecursion P xs
AllByRecursion-from_contains P [] each = tt
AllByRecursion-from_contains P (x ∷ xs) each =
    (each x (here x xs), AllByRecursion-from_contains P xs (λ y there. each y (later y x xs there)))

pub AllByRecursion-weaker : {X : Type 0} (P Q : X → Type 0) (xs : List X) → ((x : X) → P x → Q x)
    → AllByRecursion P xs → AllByRecursion Q xs
AllByRecursion-weaker P Q [] weaker each = tt
AllByRecursion-weaker P Q (x ∷ xs) weaker each = (weaker x each.0, AllByRecursion-weaker P Q xs weaker each.1)

-- the first item that passes a test is one of the list
pub AllByRecursion-find : {X : Type 0} (P : X → Type 0) (test : X → Bool) (xs : List X)
    (x : X) → AllByRecursion P xs
    → find test xs ≡ Some x → P x
AllByRecursion-find P test [] x each found = absurd (none-some x found)
AllByRecursion-find {X = X} P test (y ∷ ys) x each found =
    by (test y) found (λ later. AllByRecursion-find P test ys x each.1 later)
  where
    by : (b : Bool) → cond b (Some y) (find test ys) ≡ Some x → (find test ys ≡ Some x → P x) → P x
    by true is rest = subst P (same_Some y x is) each.0
    by false is rest = rest is

-- a new item put last makes none
pub HasNoRepeats-push : {X : Type 0} (xs : List X) (x : X)
    → HasNoRepeats xs → (Contains xs x → ⊥) → HasNoRepeats (xs ++ x ∷ [])
HasNoRepeats-push [] x distinct absent = (λ there. omega (arith, there.1), tt)
HasNoRepeats-push (y ∷ ys) x distinct absent = (
  λ there. ⊎_elim distinct.0 (λ same. absent (0, omega arith, sym same)) (Contains-push_cases ys x y there),
  HasNoRepeats-push ys x distinct.1 (λ there. absent (suc there.0, omega (arith, there.1), there.2)),
)

-- no item stands before itself
pub HasNoRepeats-middle : {X : Type 0} (xs ys : List X) (x : X)
    → HasNoRepeats (xs ++ x ∷ ys) → Contains xs x → ⊥
HasNoRepeats-middle [] ys x distinct there = omega (arith, there.1)
HasNoRepeats-middle {X = X} (first ∷ xs) ys x distinct there =
    by there.0 there.1 there.2 (HasNoRepeats-middle xs ys x distinct.1)
  where
    by : (k : ℕ) → k < length (first ∷ xs) → get_or (first ∷ xs) k x ≡ x → (Contains xs x → ⊥) → ⊥
    by zero within is rest =
        let there = Contains-append_right xs (x ∷ ys) x (0, omega arith, λ j. x) in
        distinct.0 (subst (Contains (xs ++ x ∷ ys)) (sym is) there)
    by (suc k) within is rest = rest (k, omega (arith, within), is)

-- the first item that passes is the first, or among the others
pub position-cons : {X : Type 0} (p : X → Bool) (x : X) (xs : List X)
    → position p (x ∷ xs) ≡ cond (p x) (Some 0) (option_map suc (position p xs))
position-cons p x xs = by (p x) (ltb (position_or_len p xs) (length xs)) refl refl
  where
    by : (b d : Bool) → p x ≡ b → ltb (position_or_len p xs) (length xs) ≡ d
        → position p (x ∷ xs) ≡ cond (p x) (Some 0) (option_map suc (position p xs))
    by true d e f = grind (arith, nat_tests)
    by false true e f = grind (arith, nat_tests)
    by false false e f = grind (arith, nat_tests)

pub Contains-filter : {X : Type 0} (p : X → Bool) (xs : List X) (x : X) → Contains xs x → p x ≡ true
    → Contains (filter p xs) x
Contains-filter p [] x there passes = absurd (none_in_nil x there)
Contains-filter p (y ∷ ys) x there passes =
    ⊎_elim
    (λ same. subst (λ l. Contains l x) (ap (λ b. cond b (y ∷ filter p ys) (filter p ys)) (sym (ap p same
    ∙ passes))) (0, omega arith, same))
    (λ behind. by (p y) (Contains-filter p ys x behind passes)) (first_or_later x y ys there)
  where
    by : (b : Bool) → Contains (filter p ys) x → Contains (cond b (y ∷ filter p ys) (filter p ys)) x
    by true kept = later x y (filter p ys) kept
    by false kept = kept

pub Contains-from_filter : {X : Type 0} (p : X → Bool) (xs : List X) (x : X) → Contains (filter p xs) x
    → Contains xs x × (p x ≡ true)
Contains-from_filter p [] x there = absurd (none_in_nil x there)
Contains-from_filter p (y ∷ ys) x there = by (p y) refl there (Contains-from_filter p ys x)
  where
    by : (b : Bool) → p y ≡ b → Contains (cond b (y ∷ filter p ys) (filter p ys)) x
        → (Contains (filter p ys) x
        → Contains ys x × (p x ≡ true)) → Contains (y ∷ ys) x × (p x ≡ true)
    by true e kept behind = ⊎_elim (λ same. (
      (0, omega arith, same),
      ap p (sym same)
          ∙ e,
    )) (λ k. (later x y ys (behind k).0, (behind k).1)) (first_or_later x y (filter p ys) kept)
    by false e kept behind = (later x y ys (behind kept).0, (behind kept).1)

pub HasNoRepeats-filter : {X : Type 0} (p : X → Bool) (xs : List X) → HasNoRepeats xs → HasNoRepeats (filter p xs)
HasNoRepeats-filter p [] d = tt
HasNoRepeats-filter p (x ∷ xs) d = by (p x) (HasNoRepeats-filter p xs d.1)
  where
    by : (b : Bool) → HasNoRepeats (filter p xs) → HasNoRepeats (cond b (x ∷ filter p xs) (filter p xs))
    by true rest = (λ there. d.0 (Contains-from_filter p xs x there).0, rest)
    by false rest = rest

pub HasNoRepeats-append : {X : Type 0} (xs ys : List X) → HasNoRepeats xs → HasNoRepeats ys → ((x : X)
    → Contains xs x → Contains ys x → ⊥) → HasNoRepeats (xs ++ ys)
HasNoRepeats-append [] ys d e apart = e
HasNoRepeats-append (x ∷ xs) ys d e apart = (
  λ there. ⊎_elim d.0 (apart x (here x xs)) (Contains-append xs ys x there),
  HasNoRepeats-append xs ys d.1 e (λ y front back. apart y (later y x xs front) back),
)

-- two functions that give the same list agree at each of its places, and the other way round
pub same_at : {X Y : Type 0} (f g : X → Y) (xs : List X) (x : X) → map f xs ≡ map g xs
    → Contains xs x → f x ≡ g x
same_at f g [] x same there = absurd (none_in_nil x there)
same_at f g (y ∷ ys) x same there =
    ⊎_elim (λ first. subst (λ z. f z ≡ g z) first (ap (λ l. get_or l 0 (f y)) same)) (λ behind. same_at f g ys x
    (ap (λ l. drop 1 l) same) behind) (first_or_later x y ys there)

pub same_lists_at : {X Y : Type 0} (f g : X → Y) (xs : List X) → ((x : X) → Contains xs x → f x ≡ g x)
    → map f xs ≡ map g xs
same_lists_at f g [] same = refl
same_lists_at f g (y ∷ ys) same =
    λ i. same y (here y ys) i ∷ same_lists_at f g ys (λ x there. same x (later x y ys there)) i

-- ---- what has a value or not, and what is equal or not

pub some_or_none : {X : Type 0} (o : Option X) → ((x : X) × (o ≡ Some x)) ⊎ (o ≡ None)
some_or_none None = inr refl
some_or_none (Some x) = inl (x, refl)

pub some_or_not : {X : Type 0} (P : X → Type 0) (xs : List X) → ((x : X) → P x ⊎ (P x → ⊥)) → ((x : X)
    × Contains xs x × P x) ⊎ (((x : X) × Contains xs x × P x) → ⊥)
some_or_not P [] either = inr (λ some. none_in_nil some.0 some.1)
some_or_not P (x ∷ xs) either = ⊎_elim
    (λ first. inl (x, here x xs, first))
    (λ n. ⊎_elim
    (λ some. inl (some.0, later some.0 x xs some.1, some.2))
    (λ none. inr (λ some. ⊎_elim (λ same. n (subst P (sym same) some.2))
    (λ behind. none (some.0, behind, some.2)) (first_or_later some.0 x xs some.1)))
    (some_or_not P xs either))
    (either x)

pub Contains-map : {X Y : Type 0} (f : X → Y) (xs : List X) (x : X) → Contains xs x → Contains (map f xs) (f x)
Contains-map f [] x there = absurd (none_in_nil x there)
Contains-map f (y ∷ xs) x there = ⊎_elim (λ same. (0, omega arith, ap f same))
    (λ behind. later (f x) (f y) (map f xs) (Contains-map f xs x behind)) (first_or_later x y xs there)

pub Contains-from_map : {X Y : Type 0} (f : X → Y) (xs : List X) (y : Y) → Contains (map f xs) y → (x : X)
    × Contains xs x × (f x ≡ y)
Contains-from_map f [] y there = absurd (none_in_nil y there)
Contains-from_map f (x ∷ xs) y there =
    ⊎_elim (λ same. (x, here x xs, same)) (λ behind. let got = Contains-from_map f xs y behind in
    (got.0, later got.0 x xs got.1, got.2)) (first_or_later y (f x) (map f xs) there)
