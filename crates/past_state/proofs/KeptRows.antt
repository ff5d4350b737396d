-- The rows of a list under which a formula holds.
use Rattle.past_state.proofs.Vocabulary.{◌≡◌, ◌∙◌, ◌↔◌, ⊎_elim, ℕ, ◌+◌, ◌<◌, ◌≤◌, true, false, IsTrue, List, [], ◌∷◌, ◌++◌, length, take, get_or, All, Contains, refl, sym, ap, subst, false≢true}
use Rattle.past_state.proofs.Vocabulary.{take_more, take_all, Contains-append_cases, Contains-append_left, Contains-append_right, Contains-get_or, Formula, Valuation, no_values, valuation_of, Event}
use Rattle.past_state.proofs.Vocabulary.{VarId, Value, HoldsNow, first_or_later, none_in_nil, value_at-with_inside, table_row-length, Relation, IsTable, HasValuation, AgreesWithRow, AgreeOnColumns}
use Rattle.std.proofs.Common.{Bool}

-- w has the row's values
abbrev pub IsUnder : List VarId → List Value → Valuation → Type 0
IsUnder columns row w = AgreeOnColumns columns (valuation_of columns row) w

-- whether the formula holds under the row is told, for each valuation that has its values
abbrev pub Tells : List Event → List Relation → Formula → List VarId → List Value → Bool → Type 0
Tells events tables f columns row b = (w : Valuation) → IsUnder columns row w → IsTrue b ↔ HoldsNow events tables w f

pub record KeepsHolding (events : List Event) (tables : List Relation) (f : Formula) (columns : List VarId) (rows out : List (List Value)) : Type 0 where
  pub sound : (row : List Value) → Contains out row → Contains rows row × ((w : Valuation) → IsUnder columns row w → HoldsNow events tables w f)
  pub complete : (row : List Value) → Contains rows row → (w : Valuation) → IsUnder columns row w → HoldsNow events tables w f → Contains out row

module _ (events : List Event) (tables : List Relation) (f : Formula) (columns : List VarId) where
  last_row : (row other : List Value) → Contains (row ∷ []) other → row ≡ other
  last_row row other there = ⊎_elim (λ same. same) (λ behind. absurd (none_in_nil other behind)) (first_or_later other row [] there)

  pub kept_one_more : (rows out after : List (List Value)) (row : List Value) → Tells events tables f columns row true → KeepsHolding events tables f columns rows out
      → after ≡ out ++ row ∷ [] → KeepsHolding events tables f columns (rows ++ row ∷ []) after
  kept_one_more rows out after row tells kept e = record {
    sound = λ other there. ⊎_elim
        (λ before. let was = kept.sound other before in (Contains-append_left rows (row ∷ []) other was.0, was.1))
        (λ last. let same = last_row row other last in
        (Contains-append_right rows (row ∷ []) other last, λ w under. (tells w (subst (λ r. IsUnder columns r w) (sym same) under)).0 refl))
        (Contains-append_cases out (row ∷ []) other (subst (λ l. Contains l other) e there));
    complete = λ other there w under holds. subst (λ l. Contains l other) (sym e) (⊎_elim
        (λ before. Contains-append_left out (row ∷ []) other (kept.complete other before w under holds))
        (λ last. Contains-append_right out (row ∷ []) other last)
        (Contains-append_cases rows (row ∷ []) other there));
  }

  pub kept_no_more : (rows out : List (List Value)) (row : List Value) → Tells events tables f columns row false → KeepsHolding events tables f columns rows out
      → KeepsHolding events tables f columns (rows ++ row ∷ []) out
  kept_no_more rows out row tells kept = record {
    sound = λ other there. let was = kept.sound other there in (Contains-append_left rows (row ∷ []) other was.0, was.1);
    complete = λ other there w under holds. ⊎_elim
        (λ before. kept.complete other before w under holds)
        (λ last. let same = last_row row other last in absurd (false≢true ((tells w (subst (λ r. IsUnder columns r w) (sym same) under)).1 holds)))
        (Contains-append_cases rows (row ∷ []) other there);
  }

  -- just the rows up to a place of a list were kept under which the formula holds
  pub kept_at : (rows out : List (List Value)) (i : ℕ) (row : List Value) → i < length rows → row ≡ get_or rows i row
      → KeepsHolding events tables f columns (take i rows ++ row ∷ []) out → KeepsHolding events tables f columns (take (i + 1) rows) out
  kept_at rows out i row below is kept = subst (λ l. KeepsHolding events tables f columns l out) (ap (λ r. take i rows ++ r ∷ []) is ∙ sym (take_more rows i row below)) kept

  pub kept_all : (rows out : List (List Value)) (i : ℕ) → length rows ≤ i → KeepsHolding events tables f columns (take i rows) out → KeepsHolding events tables f columns rows out
  kept_all rows out i all kept = subst (λ l. KeepsHolding events tables f columns l out) (take_all i rows all) kept

-- the step of the loop, whose list and columns are the table's
module _ (events : List Event) (tables : List Relation) (f : Formula) (rows : Relation) (items : List (List Value)) (columns : List VarId)
    (same : items ≡ rows.rows) (named : columns ≡ rows.columns) (out : List (List Value)) (i : ℕ) (row : List Value) (b : Bool) (below : i < length items) (is : row ≡ get_or items i row)
    (tells : Tells events tables f columns row b) (kept : KeepsHolding events tables f rows.columns (take i rows.rows) out) where
  at_row : row ≡ get_or rows.rows i row
  at_row = is ∙ ap (λ l. get_or l i row) same

  within : i < length rows.rows
  within = subst (λ l. i < length l) same below

  told : Tells events tables f rows.columns row b
  told = subst (λ l. Tells events tables f l row b) named tells

  pub looped_more : (after : List (List Value)) → b ≡ true → after ≡ out ++ row ∷ [] → KeepsHolding events tables f rows.columns (take (i + 1) rows.rows) after
  looped_more after held e = kept_at events tables f rows.columns rows.rows after i row within at_row
      (kept_one_more events tables f rows.columns (take i rows.rows) out after row (subst (Tells events tables f rows.columns row) held told) kept e)

  pub looped_no_more : (after : List (List Value)) → b ≡ false → after ≡ out → KeepsHolding events tables f rows.columns (take (i + 1) rows.rows) after
  looped_no_more after not_it e = subst (KeepsHolding events tables f rows.columns (take (i + 1) rows.rows)) (sym e) (kept_at events tables f rows.columns rows.rows out i row within at_row
      (kept_no_more events tables f rows.columns (take i rows.rows) out row (subst (Tells events tables f rows.columns row) not_it told) kept))

under : (t : Relation) (row : List Value) (v : Valuation) → IsTable t → Contains t.rows row → AgreesWithRow v t.columns row → IsUnder t.columns row v
under t row v table there agrees x column = value_at-with_inside t.columns row no_values x table.distinct (table_row-length t row table there) column ∙ sym (agrees x column)

-- a table of the rows that are kept
pub kept_has : (events : List Event) (tables : List Relation) (f : Formula) (rows t : Relation) (out : List (List Value)) → IsTable rows → KeepsHolding events tables f rows.columns rows.rows out
    → t.columns ≡ rows.columns → ((row : List Value) → Contains t.rows row ↔ Contains out row)
    → (v : Valuation) → HasValuation t v ↔ (HasValuation rows v × HoldsNow events tables v f)
kept_has events tables f rows t out table kept columns same v = (
  λ h.
      let was = kept.sound h.0 ((same h.0).0 h.1) in
      let agrees : AgreesWithRow v rows.columns h.0 = subst (λ l. AgreesWithRow v l h.0) columns h.2 in
      ((h.0, was.0, agrees), was.1 v (under rows h.0 v table was.0 agrees)),
  λ both.
      let h = both.0 in
      (h.0, (same h.0).1 (kept.complete h.0 h.1 v (under rows h.0 v table h.1 h.2) both.1), subst (λ l. AgreesWithRow v l h.0) (sym columns) h.2),
)

pub kept_fit : (events : List Event) (tables : List Relation) (f : Formula) (rows : Relation) (out : List (List Value)) → IsTable rows → KeepsHolding events tables f rows.columns rows.rows out
    → All (λ row. length row ≡ length rows.columns) out
kept_fit events tables f rows out table kept k d below = table_row-length rows (get_or out k d) table (kept.sound (get_or out k d) (Contains-get_or out k d below)).0
