-- Rows that are added, one set of valuations after another.
use Rattle.monitorable_guard.proofs.Vocabulary.{◌≡◌, ℕ, ◌+◌, ◌<◌, ◌⊎◌, inl, inr, ⊎_elim, List, [], ◌∷◌, ◌++◌, length, get_or, take, drop, map, Some, Result, Ok, Err, OnOk, Contains, sym, ap, subst}
use Rattle.monitorable_guard.proofs.Vocabulary.{◌∙◌, take_more, length-map, Contains-append_left, Contains-append_right, Contains-push, Contains-push_cases, All-contains, Valuation, value_at, VarId}
use Rattle.monitorable_guard.proofs.Vocabulary.{Value, all_from, Classically, here, first_or_later, none_in_nil, Contains-append, cell_here, cell_later, has_or_not, same_or_other, AgreesWithRow}
use Rattle.monitorable_guard.proofs.Vocabulary.{AgreeOnColumns, row_cell, AddsRows}

module _ (columns : List VarId) where
  pub adds_nothing : (rows : List (List Value)) (P : Valuation → Type 0) → ((w : Valuation) → P w → ⊥) → AddsRows columns rows rows P
  adds_nothing rows P none = record {
    fit = λ fit. fit;
    kept = λ w has. has;
    added = λ w p. absurd (none w p);
    only = λ w has. inl has;
  }

  pub adds_both : (before between after : List (List Value)) (P Q : Valuation → Type 0) → AddsRows columns before between P → AddsRows columns between after Q
      → AddsRows columns before after (λ w. P w ⊎ Q w)
  adds_both before between after P Q first second = record {
    fit = λ fit. second.fit (first.fit fit);
    kept = λ w has. second.kept w (first.kept w has);
    added = λ w either. ⊎_elim (λ p. second.kept w (first.added w p)) (λ q. second.added w q) either;
    only = λ w has. ⊎_elim (λ was. ⊎_elim (λ was. inl was) (λ p. inr (inl p)) (first.only w was)) (λ q. inr (inr q)) (second.only w has);
  }

  -- rows of one set are those of another where each of the one is of the other, and not none of the other of the one
  pub adds_as : (before after : List (List Value)) (P Q : Valuation → Type 0) → ((w : Valuation) → P w → Q w) → ((w : Valuation) → Q w → Classically (P w))
      → AddsRows columns before after P → AddsRows columns before after Q
  adds_as before after P Q to from adds = record {
    fit = adds.fit;
    kept = adds.kept;
    added = λ w q. ⊎_elim (λ has. has) (λ lacks. absurd (from w q (λ p. lacks (adds.added w p)))) (has_or_not (record { columns = columns; rows = after }) w);
    only = λ w has. ⊎_elim (λ was. inl was) (λ p. inr (to w p)) (adds.only w has);
  }

-- one of the items of a list has the property
abbrev pub SomeOf : {X : Type 0} → List X → (X → Type 0) → Type 0
SomeOf {X = X} xs P = (x : X) × Contains xs x × P x

module _ {X : Type 0} (columns : List VarId) (xs : List X) (P : X → Valuation → Type 0) where
  some_more : (i : ℕ) (x : X) (w : Valuation) → i < length xs → SomeOf (take i xs) (λ y. P y w) ⊎ P (get_or xs i x) w → SomeOf (take (i + 1) xs) (λ y. P y w)
  some_more i x w within either =
      subst (λ l. SomeOf l (λ y. P y w)) (sym (take_more xs i x within))
      (⊎_elim
      (λ some. (some.0, Contains-append_left (take i xs) (get_or xs i x ∷ []) some.0 some.1, some.2))
      (λ last. (get_or xs i x, Contains-append_right (take i xs) (get_or xs i x ∷ []) (get_or xs i x) (here (get_or xs i x) []), last))
      either)

  some_before : (i : ℕ) (x : X) (w : Valuation) → i < length xs → SomeOf (take (i + 1) xs) (λ y. P y w) → SomeOf (take i xs) (λ y. P y w) ⊎ P (get_or xs i x) w
  some_before i x w within some =
      ⊎_elim
      (λ front. inl (some.0, front, some.2))
      (λ back. inr (⊎_elim (λ same. subst (λ y. P y w) (sym same) some.2) (λ behind. absurd (none_in_nil some.0 behind)) (first_or_later some.0 (get_or xs i x) [] back)))
      (Contains-append (take i xs) (get_or xs i x ∷ []) some.0 (subst (λ l. Contains l some.0) (take_more xs i x within) some.1))

  -- a loop over the items adds the rows of one after another
  pub adds_more : (i : ℕ) (x : X) (before between after : List (List Value)) → i < length xs → AddsRows columns before between (λ w. SomeOf (take i xs) (λ y. P y w))
      → AddsRows columns between after (P (get_or xs i x)) → AddsRows columns before after (λ w. SomeOf (take (i + 1) xs) (λ y. P y w))
  adds_more i x before between after within first second =
      adds_as columns before after (λ w. SomeOf (take i xs) (λ y. P y w) ⊎ P (get_or xs i x) w) (λ w. SomeOf (take (i + 1) xs) (λ y. P y w))
      (λ w either. some_more i x w within either)
      (λ w some none. none (some_before i x w within some))
      (adds_both columns before between after (λ w. SomeOf (take i xs) (λ y. P y w)) (P (get_or xs i x)) first second)

-- ---- a row of values

row_long : (v : Valuation) (columns : List VarId) (row : List Value) → map Some row ≡ map (value_at v) columns → length row ≡ length columns
row_long v columns row e = sym (length-map row Some) ∙ ap length e ∙ length-map columns (value_at v)

row_agrees : (v : Valuation) (columns : List VarId) (row : List Value) → map Some row ≡ map (value_at v) columns → AgreesWithRow v columns row
row_agrees v [] row e x there = absurd (none_in_nil x there)
row_agrees v (column ∷ columns) [] e x there = absurd (cc)
row_agrees v (column ∷ columns) (value ∷ row) e x there =
    let first : Some value ≡ value_at v column = ap (λ l. get_or l 0 (Some value)) e in
    let rest : map Some row ≡ map (value_at v) columns = ap (λ l. drop 1 l) e in
    ⊎_elim
    (λ same. ap (value_at v) (sym same) ∙ sym first ∙ sym (cell_here column x columns value row same))
    (λ other. row_agrees v columns row rest x (⊎_elim (λ same. absurd (other same)) (λ behind. behind) (first_or_later x column columns there)) ∙ sym (cell_later column x columns value row other))
    (same_or_other column x)

pub adds_row : (v : Valuation) (columns : List VarId) (before : List (List Value)) (row : List Value) → map Some row ≡ map (value_at v) columns
    → AddsRows columns before (before ++ row ∷ []) (λ w. AgreeOnColumns columns w v)
adds_row v columns before row e = record {
  fit = λ fit. all_from (λ r. length r ≡ length columns) (before ++ row ∷ []) (λ r there. ⊎_elim
      (λ front. All-contains (λ r. length r ≡ length columns) before r fit front)
      (λ same. ap length (sym same) ∙ row_long v columns row e)
      (Contains-push_cases before row r there));
  kept = λ w has. (has.0, Contains-append_left before (row ∷ []) has.0 has.1, has.2);
  added = λ w agree. (row, Contains-push before row, λ x there. agree x there ∙ row_agrees v columns row e x there);
  only = λ w has. ⊎_elim
      (λ front. inl (has.0, front, has.2))
      (λ same. inr (λ x there. has.2 x there ∙ ap (λ r. row_cell columns r x) (sym same) ∙ sym (row_agrees v columns row e x there)))
      (Contains-push_cases before row has.0 has.1);
}

pub on_ok : {A E : Type 0} (r : Result A E) (P Q : Type 0) → (P → Q) → OnOk r P → OnOk r Q
on_ok (Ok a) P Q f p = f p
on_ok (Err e) P Q f p = tt
