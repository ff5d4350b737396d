-- What the words of `IndexSet` say of its keys as a list, where `==` at the keys tells exactly whether they are equal.
use Rattle.enf_data.proofs.Vocabulary.{◌≡◌, ℕ, ◌<◌, ◌+◌, Bool, true, false, cond, not, ◌||◌, List, [], ◌∷◌, ◌++◌, length, get_or, take, Contains, refl, sym, ap, subst, ◌∙◌, append_assoc, append-nil}
use Rattle.enf_data.proofs.Vocabulary.{true≢false, arith, Result, Ok, Err, is_err, slice_get, remove, Some, IfOk, OnErr, MatchResult, if◌then◌else◌, suc, zero, Decides, list_any, IsErrAnd}
use Rattle.enf_data.proofs.Vocabulary.{Contains-get_or, take_more, insert_key, remove_key, HasNoRepeats, TakesOut, InsertsItem, InsertsEach, RemovesItem}
use Rattle.enf_data.proofs.Lists.{list_any-Decides, HasNoRepeats-middle}
use Rattle.enf_data.proofs.ListFacts.{Contains-insert}

-- what an `Ok` says stands when the error alone is changed
pub ok_through : {T E F : Type 0} (P : T → Type 0) (Q : E → F → Type 0) (r : Result T E) (s : Result T F) → MatchResult r (λ x. s ≡ Ok x) (λ e. IsErrAnd s (Q e)) → IfOk r P → IfOk s P
ok_through P Q (Ok x) s is p = subst (λ t. IfOk t P) (sym is) p
ok_through P Q (Err e) (Ok y) is p = absurd is
ok_through P Q (Err e) (Err f) is p = tt

-- and so does what an error says
pub err_through : {T E F : Type 0} (P : Type 0) (Q : E → F → Type 0) (r : Result T E) (s : Result T F) → MatchResult r (λ x. s ≡ Ok x) (λ e. IsErrAnd s (Q e)) → OnErr r P → OnErr s P
err_through P Q (Ok x) s is p = subst (λ t. OnErr t P) (sym is) tt
err_through P Q (Err e) (Ok y) is p = absurd is
err_through P Q (Err e) (Err f) is p = p

module _ {K : Type 0} (eq : K → K → Bool) (decides : (x y : K) → Decides (eq x y) (x ≡ y)) where
  pub no_Contains : (ks : List K) (k : K) → list_any (eq k) ks ≡ false → Contains ks k → ⊥
  no_Contains ks k none there = true≢false (sym ((list_any-Decides eq decides ks k).1 there) ∙ none)

  -- what an insertion does to the keys
  pub Inserts-insert_key : (ks after : List K) (k : K) (new : Bool) → new ≡ not (list_any (eq k) ks) → after ≡ insert_key eq ks k → InsertsItem k ks new after
  Inserts-insert_key ks after k new added is = by (list_any (eq k) ks) refl
    where
      by : (b : Bool) → list_any (eq k) ks ≡ b → InsertsItem k ks new after
      by true e = record {
        absent = λ t. absurd (true≢false (sym t ∙ added ∙ ap not e));
        present = λ f. ((list_any-Decides eq decides ks k).0 e, is ∙ ap (λ c. if c then ks else ks ++ k ∷ []) e);
      }
      by false e = record {
        absent = λ t. (no_Contains ks k e, is ∙ ap (λ c. if c then ks else ks ++ k ∷ []) e);
        present = λ f. absurd (true≢false (sym (added ∙ ap not e) ∙ f));
      }

  takes_out : (ks : List K) (k : K) → list_any (eq k) ks ≡ true → TakesOut k ks (remove_key (eq k) ks)
  takes_out [] k h = absurd (true≢false (sym h))
  takes_out (x ∷ xs) k h = by (eq k x) refl (λ e. takes_out xs k (sym (ap (λ c. c || list_any (eq k) xs) e) ∙ h))
    where
      by : (b : Bool) → eq k x ≡ b → (eq k x ≡ false → TakesOut k xs (remove_key (eq k) xs)) → TakesOut k (x ∷ xs) (cond b xs (x ∷ remove_key (eq k) xs))
      by true e rest = record { front = []; back = xs; was = ap (λ y. y ∷ xs) (sym ((decides k x).0 e)); is = refl }
      by false e rest =
          let r = rest e in
          record { front = x ∷ r.front; back = r.back; was = ap (λ l. x ∷ l) r.was; is = ap (λ l. x ∷ l) r.is }

  leaves : (ks : List K) (k : K) → list_any (eq k) ks ≡ false → remove_key (eq k) ks ≡ ks
  leaves [] k h = refl
  leaves (x ∷ xs) k h = by (eq k x) refl (λ e. leaves xs k (sym (ap (λ c. c || list_any (eq k) xs) e) ∙ h))
    where
      by : (b : Bool) → eq k x ≡ b → (eq k x ≡ false → remove_key (eq k) xs ≡ xs) → cond b xs (x ∷ remove_key (eq k) xs) ≡ x ∷ xs
      by true e rest = absurd (true≢false (sym (ap (λ c. c || list_any (eq k) xs) e) ∙ h))
      by false e rest = ap (λ l. x ∷ l) (rest e)

  -- what a removal does to the keys
  pub Removes-remove_key : (ks after : List K) (k : K) (found : Bool) → found ≡ list_any (eq k) ks → after ≡ remove_key (eq k) ks → RemovesItem k ks found after
  Removes-remove_key ks after k found seen is = record {
    present = λ t. subst (TakesOut k ks) (sym is) (takes_out ks k (sym seen ∙ t));
    absent = λ f. (no_Contains ks k (sym seen ∙ f), is ∙ leaves ks k (sym seen ∙ f));
  }

-- an item of a list without repeats is not among those before it
pub not_before : {X : Type 0} (xs : List X) (i : ℕ) (d : X) → HasNoRepeats xs → i < length xs → Contains (take i xs) (get_or xs i d) → ⊥
not_before [] i d distinct inside there = absurd (omega arith)
not_before (x ∷ xs) zero d distinct inside there = absurd (omega (arith, there.1))
not_before (x ∷ xs) (suc i) d distinct inside there =
    by there.0 there.1 there.2 (omega arith) (not_before xs i d distinct.1 (omega arith))
  where
    by : (k : ℕ) → k < length (take (suc i) (x ∷ xs)) → get_or (take (suc i) (x ∷ xs)) k (get_or xs i d) ≡ get_or xs i d → i < length xs → (Contains (take i xs) (get_or xs i d) → ⊥) → ⊥
    by zero l e within rest = distinct.0 (subst (Contains xs) (sym e) (Contains-get_or xs i d within))
    by (suc k) l e within rest = rest (k, omega (arith, l), e)

-- so an insertion of it puts it last
pub after_insert : {X : Type 0} (xs before after : List X) (i : ℕ) (d x : X) (new : Bool) → HasNoRepeats xs → i < length xs → before ≡ take i xs → x ≡ get_or xs i d
    → InsertsItem x before new after → after ≡ take (i + 1) xs
after_insert xs before after i d x true distinct inside front at inserted =
    (inserted.absent refl).1 ∙ (λ j. front j ++ at j ∷ []) ∙ sym (take_more xs i d inside)
after_insert xs before after i d x false distinct inside front at inserted =
    absurd (not_before xs i d distinct inside (subst (λ l. Contains l (get_or xs i d)) front (subst (Contains before) at (inserted.present refl).0)))

-- what an insertion that succeeds does where the item is not there
pub put_last : {X E : Type 0} (x : X) (before after : List X) (r : Result Bool E) → is_err r ≡ false → IfOk r (λ new. InsertsItem x before new after) → (Contains before x → ⊥)
    → after ≡ before ++ x ∷ []
put_last x before after (Ok true) good inserted absent = (inserted.absent refl).1
put_last x before after (Ok false) good inserted absent = absurd (absent (inserted.present refl).0)
put_last x before after (Err e) good inserted absent = absurd (true≢false good)

-- so without it none stands twice either
pub without_middle : {X : Type 0} (front back : List X) (x : X) → HasNoRepeats (front ++ x ∷ back) → HasNoRepeats (front ++ back)
without_middle [] back x distinct = distinct.1
without_middle (y ∷ front) back x distinct = (λ there. distinct.0 (Contains-insert front back x y there), without_middle front back x distinct.1)

-- the item at a place is taken out
pub taken_out : {X : Type 0} (xs : List X) (place : ℕ) (x : X) → slice_get xs place ≡ Some x → TakesOut x xs (remove xs place)
taken_out [] place x is = cc
taken_out (y ∷ xs) zero x is = record { front = []; back = xs; was = ap (λ z. z ∷ xs) (cc); is = refl }
taken_out (y ∷ xs) (suc place) x is =
    let later = taken_out xs place x is in
    record { front = y ∷ later.front; back = later.back; was = ap (λ l. y ∷ l) later.was; is = ap (λ l. y ∷ l) later.is }

-- what an insertion says where the item is there, and where it is not
pub stays : {X : Type 0} (x : X) (before : List X) → Contains before x → InsertsItem x before false before
stays x before there = record { absent = λ t. absurd (true≢false (sym t)); present = λ f. (there, refl) }

pub goes_last : {X : Type 0} (x : X) (before after : List X) → (Contains before x → ⊥) → after ≡ before ++ x ∷ [] → InsertsItem x before true after
goes_last x before after absent is = record { absent = λ t. (absent, is); present = λ f. absurd (true≢false f) }

-- items without repeats are all kept
pub distinct_kept : {X : Type 0} (before xs : List X) → HasNoRepeats (before ++ xs) → InsertsEach before xs (before ++ xs)
distinct_kept before [] distinct = append-nil before
distinct_kept before (x ∷ xs) distinct =
    let behind = append_assoc before (x ∷ []) xs in (
      true,
      before ++ x ∷ [],
      goes_last x before (before ++ x ∷ []) (HasNoRepeats-middle before xs x distinct) refl,
      subst (λ l. InsertsEach (before ++ x ∷ []) xs l) behind (distinct_kept (before ++ x ∷ []) xs (subst HasNoRepeats (sym behind) distinct)),
    )

-- an item more is put after those that are kept
pub firsts_more : {X : Type 0} (before xs middle after : List X) (x : X) (new : Bool) → InsertsEach before xs middle → InsertsItem x middle new after → InsertsEach before (xs ++ x ∷ []) after
firsts_more before [] middle after x new is inserts =
    (new, after, subst (λ l. InsertsItem x l new after) is inserts, refl)
firsts_more before (y ∷ xs) middle after x new (b, next, first, rest) inserts =
    (b, next, first, firsts_more next xs middle after x new rest inserts)
