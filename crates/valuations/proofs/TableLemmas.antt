-- The valuations that tables have.
use Rattle.valuations.proofs.Vocabulary.{◌≡◌, ℕ, ◌+◌, ◌⊎◌, inl, inr, ⊎_elim, List, ◌++◌, length, map, All, Contains, ◌↔◌, sym, ap, subst, ◌∙◌, length-append, Result, Ok, Err, IfOk, length-map}
use Rattle.valuations.proofs.Vocabulary.{Contains-append_left, Contains-append_right, HasNoRepeats, Valuation, value_at, valuation_of, VarId, Value, all_from as each, row_key, row_part, ArePlaces}
use Rattle.valuations.proofs.Vocabulary.{AreJoinedRows, AreSingleRows, Relation, IsTable, HasValuation, AgreesWithRow, row_cell, columns_shared, columns_unshared, AreSameColumns, AgreeOnColumns}
use Rattle.valuations.proofs.Vocabulary.{same_at, same_lists_at, Contains-append, HasNoRepeats-append, HasNoRepeats-filter, Contains-map, Contains-from_map}
use Rattle.valuations.proofs.ColumnLaws.{among_or_not, shared_in, in_shared, not_shared_in, in_not_shared}
use Rattle.valuations.proofs.RowLaws.{cell_front, cell_back, table_row-length}
use Rattle.valuations.proofs.CellLemmas.{key_cells, IsPart, part_cells}
pub use Rattle.valuations.proofs.RowLaws.{value_at-bound, value_at-other, value_at-with_outside, value_at-with_inside, agrees_itself, agrees_once, contains_valuation, contains_from_valuation}

-- ---- columns

pub shared_left : (a b : List VarId) → All (Contains a) (columns_shared a b)
shared_left a b = each (Contains a) (columns_shared a b) (λ x there. (shared_in a b x there).0)

pub shared_right : (a b : List VarId) → All (Contains b) (columns_shared a b)
shared_right a b = each (Contains b) (columns_shared a b) (λ x there. (shared_in a b x there).1)

pub not_shared_right : (a b : List VarId) → All (Contains b) (columns_unshared a b)
not_shared_right a b = each (Contains b) (columns_unshared a b) (λ x there. (not_shared_in a b x there).1)

pub joined_distinct : (a b : List VarId) → HasNoRepeats a → HasNoRepeats b → HasNoRepeats (a ++ columns_unshared a b)
joined_distinct a b da db = HasNoRepeats-append a (columns_unshared a b) da (HasNoRepeats-filter _ b db) (λ x left right. (not_shared_in a b x right).0 left)

pub places_long : (columns wanted : List VarId) (places : List ℕ) → ArePlaces columns wanted places → length places ≡ length wanted
places_long columns wanted places are = sym (length-map places _) ∙ ap length are ∙ length-map wanted _

-- ---- joins

pub record AreJoinParts (a b : Relation) (left right rest : List ℕ) (out : List (List Value)) : Type 0 where
  pub a_table : IsTable a
  pub b_table : IsTable b
  pub left_places : ArePlaces a.columns (columns_shared a.columns b.columns) left
  pub right_places : ArePlaces b.columns (columns_shared a.columns b.columns) right
  pub rest_places : ArePlaces b.columns (columns_unshared a.columns b.columns) rest
  pub joined : AreJoinedRows left right rest a.rows b.rows out

pub joined_others : (left right rest : List ℕ) (rows others these out : List (List Value)) → ((row : List Value) → Contains others row ↔ Contains these row)
    → AreJoinedRows left right rest rows others out → AreJoinedRows left right rest rows these out
joined_others left right rest rows others these out same joined = record {
  sound = λ row there. let was = joined.sound row there in (was.0, was.1, was.2, (same was.1).0 was.3, was.4, was.5);
  complete = λ a b in_a in_b. joined.complete a b in_a ((same b).1 in_b);
}

pub single_others : (left right : List ℕ) (rows others these out : List (List Value)) → ((row : List Value) → Contains others row ↔ Contains these row)
    → AreSingleRows left right rows others out → AreSingleRows left right rows these out
single_others left right rows others these out same single = record {
  sound = λ row there. let was = single.sound row there in (was.0, λ other in_these. was.1 other ((same other).1 in_these));
  complete = λ row there apart. single.complete row there (λ other in_others. apart other ((same other).0 in_others));
}

module _ (a b : Relation) (left right rest : List ℕ) (out : List (List Value)) (parts : AreJoinParts a b left right rest out) where
  new_part : (row : List Value) → Contains b.rows row → IsPart b.columns (columns_unshared a.columns b.columns) row (row_part row rest)
  new_part row there = part_cells b.columns (columns_unshared a.columns b.columns) rest row parts.rest_places parts.b_table.distinct (table_row-length b row parts.b_table there)

  left_key : (row : List Value) → Contains a.rows row → row_key row left ≡ map (row_cell a.columns row) (columns_shared a.columns b.columns)
  left_key row there = key_cells a.columns (columns_shared a.columns b.columns) left row parts.left_places parts.a_table.distinct (table_row-length a row parts.a_table there)

  right_key : (row : List Value) → Contains b.rows row → row_key row right ≡ map (row_cell b.columns row) (columns_shared a.columns b.columns)
  right_key row there = key_cells b.columns (columns_shared a.columns b.columns) right row parts.right_places parts.b_table.distinct (table_row-length b row parts.b_table there)

  pub join_fits : All (λ row. length row ≡ length (a.columns ++ columns_unshared a.columns b.columns)) out
  join_fits = each (λ row. length row ≡ length (a.columns ++ columns_unshared a.columns b.columns)) out (λ row there.
      let was = parts.joined.sound row there in
      ap length was.5 ∙ length-append was.0 (row_part was.1 rest) ∙ (λ i. table_row-length a was.0 parts.a_table was.2 i + (new_part was.1 was.3).long i) ∙ sym
      (length-append a.columns (columns_unshared a.columns b.columns)))

  pub join_has : (t : Relation) → t.columns ≡ a.columns ++ columns_unshared a.columns b.columns → ((row : List Value) → Contains t.rows row ↔ Contains out row) → (v : Valuation)
      → HasValuation t v ↔ (HasValuation a v × HasValuation b v)
  join_has t columns rows v = (
    λ has.
        let was = parts.joined.sound has.0 ((rows has.0).0 has.1) in
        let long = table_row-length a was.0 parts.a_table was.2 in
        let agrees : AgreesWithRow v (a.columns ++ columns_unshared a.columns b.columns) (was.0 ++ row_part was.1 rest) = subst
        (AgreesWithRow v (a.columns ++ columns_unshared a.columns b.columns)) was.5 (subst (λ cs. AgreesWithRow v cs has.0) columns has.2) in
        let with_a : AgreesWithRow v a.columns was.0 = λ x there. agrees x (Contains-append_left a.columns (columns_unshared a.columns b.columns) x there) ∙ cell_front a.columns
        (columns_unshared a.columns b.columns) was.0 (row_part was.1 rest) x long there in
        let equal : map (row_cell b.columns was.1) (columns_shared a.columns b.columns)
        ≡ map (row_cell a.columns was.0) (columns_shared a.columns b.columns) = sym (right_key was.1 was.3) ∙ was.4 ∙ left_key was.0 was.2 in (
          (was.0, was.2, with_a),
          (
            was.1,
            was.3,
            λ x there. ⊎_elim
                (λ both. with_a x both ∙ sym (same_at (row_cell b.columns was.1) (row_cell a.columns was.0) (columns_shared a.columns b.columns) x equal (in_shared a.columns b.columns x both there)))
                (λ new. let behind = in_not_shared a.columns b.columns x new there in
                agrees x (Contains-append_right a.columns (columns_unshared a.columns b.columns) x behind) ∙ cell_back a.columns (columns_unshared a.columns b.columns) was.0
                (row_part was.1 rest) x long new ∙ (new_part was.1 was.3).cells x behind)
                (among_or_not a.columns x),
          ),
        ),
    λ both.
        let one = both.0 in
        let other = both.1 in
        let long = table_row-length a one.0 parts.a_table one.1 in
        let same : row_key other.0 right ≡ row_key one.0 left = right_key other.0 other.1
        ∙ same_lists_at (row_cell b.columns other.0) (row_cell a.columns one.0) (columns_shared a.columns b.columns)
        (λ x there. sym (other.2 x (shared_in a.columns b.columns x there).1) ∙ one.2 x (shared_in a.columns b.columns x there).0)
        ∙ sym (left_key one.0 one.1) in
        let agrees : AgreesWithRow v (a.columns ++ columns_unshared a.columns b.columns) (one.0 ++ row_part other.0 rest) = λ x there. ⊎_elim
        (λ front. one.2 x front ∙ sym (cell_front a.columns (columns_unshared a.columns b.columns) one.0 (row_part other.0 rest) x long front))
        (λ back. let new = not_shared_in a.columns b.columns x back in
        other.2 x new.1 ∙ sym ((new_part other.0 other.1).cells x back) ∙ sym (cell_back a.columns (columns_unshared a.columns b.columns) one.0 (row_part other.0 rest) x long new.0))
        (Contains-append a.columns (columns_unshared a.columns b.columns) x there) in
        (one.0 ++ row_part other.0 rest, (rows _).1 (parts.joined.complete one.0 other.0 one.1 other.1 same), subst (λ cs. AgreesWithRow v cs (one.0 ++ row_part other.0 rest)) (sym columns) agrees),
  )

-- ---- rows without a partner

pub record AreAntijoinParts (a b : Relation) (left right : List ℕ) (out : List (List Value)) : Type 0 where
  pub a_table : IsTable a
  pub b_table : IsTable b
  pub within : (x : VarId) → Contains b.columns x → Contains a.columns x
  pub left_places : ArePlaces a.columns b.columns left
  pub right_places : ArePlaces b.columns b.columns right
  pub single : AreSingleRows left right a.rows b.rows out

module _ (a b : Relation) (left right : List ℕ) (out : List (List Value)) (parts : AreAntijoinParts a b left right out) where
  one_key : (row : List Value) → Contains a.rows row → row_key row left ≡ map (row_cell a.columns row) b.columns
  one_key row there = key_cells a.columns b.columns left row parts.left_places parts.a_table.distinct (table_row-length a row parts.a_table there)

  other_key : (row : List Value) → Contains b.rows row → row_key row right ≡ map (row_cell b.columns row) b.columns
  other_key row there = key_cells b.columns b.columns right row parts.right_places parts.b_table.distinct (table_row-length b row parts.b_table there)

  pub antijoin_fits : All (λ row. length row ≡ length a.columns) out
  antijoin_fits = each (λ row. length row ≡ length a.columns) out (λ row there. table_row-length a row parts.a_table (parts.single.sound row there).0)

  pub antijoin_has : (t : Relation) → t.columns ≡ a.columns → ((row : List Value) → Contains t.rows row ↔ Contains out row) → (v : Valuation)
      → HasValuation t v ↔ (HasValuation a v × (HasValuation b v → ⊥))
  antijoin_has t columns rows v = (
    λ has.
        let was = parts.single.sound has.0 ((rows has.0).0 has.1) in
        let agrees : AgreesWithRow v a.columns has.0 = subst (λ cs. AgreesWithRow v cs has.0) columns has.2 in (
          (has.0, was.0, agrees),
          λ paired. was.1 paired.0 paired.1 (other_key paired.0 paired.1
              ∙ same_lists_at (row_cell b.columns paired.0) (row_cell a.columns has.0) b.columns (λ x there. sym (paired.2 x there) ∙ agrees x (parts.within x there))
              ∙ sym (one_key has.0 was.0)),
        ),
    λ both.
        let one = both.0 in (
          one.0,
          (rows one.0).1 (parts.single.complete one.0 one.1 (λ other there same. both.1 (
            other,
            there,
            λ x column.
                one.2 x (parts.within x column) ∙ sym (same_at (row_cell b.columns other) (row_cell a.columns one.0) b.columns x (sym (other_key other there) ∙ same ∙ one_key one.0 one.1) column),
          ))),
          subst (λ cs. AgreesWithRow v cs one.0) (sym columns) one.2,
        ),
  )

-- ---- parts of rows

module _ (t : Relation) (wanted : List VarId) (places : List ℕ) (table : IsTable t) (within : (x : VarId) → Contains wanted x → Contains t.columns x) (are : ArePlaces t.columns wanted places) where
  piece : (row : List Value) → Contains t.rows row → IsPart t.columns wanted row (row_part row places)
  piece row there = part_cells t.columns wanted places row are table.distinct (table_row-length t row table there)

  pub parts_fit : All (λ row. length row ≡ length wanted) (map (λ row. row_part row places) t.rows)
  parts_fit = each (λ row. length row ≡ length wanted) (map (λ row. row_part row places) t.rows) (λ row there.
      let was = Contains-from_map (λ r. row_part r places) t.rows row there in
      ap length (sym was.2) ∙ (piece was.0 was.1).long)

  -- a valuation has the values of a part of a row where it has those of the row, of these variables
  pub part_has : (v : Valuation) (row : List Value) → Contains (map (λ r. row_part r places) t.rows) row → AgreesWithRow v wanted row → (whole : List Value) × Contains t.rows whole
      × ((x : VarId) → Contains wanted x → value_at v x ≡ row_cell t.columns whole x)
  part_has v row there agrees =
      let was = Contains-from_map (λ r. row_part r places) t.rows row there in
      (was.0, was.1, λ x column. agrees x column ∙ ap (λ r. row_cell wanted r x) (sym was.2) ∙ (piece was.0 was.1).cells x column)

  pub has_part : (v : Valuation) (whole : List Value) → Contains t.rows whole → ((x : VarId) → Contains wanted x → value_at v x ≡ row_cell t.columns whole x)
      → Contains (map (λ r. row_part r places) t.rows) (row_part whole places) × AgreesWithRow v wanted (row_part whole places)
  has_part v whole there same = (Contains-map (λ r. row_part r places) t.rows whole there, λ x column. same x column ∙ sym ((piece whole there).cells x column))

  pub project_has : (p : Relation) → p.columns ≡ wanted → ((row : List Value) → Contains p.rows row ↔ Contains (map (λ r. row_part r places) t.rows) row) → (v : Valuation)
      → HasValuation p v ↔ ((w : Valuation) × HasValuation t w × AgreeOnColumns wanted v w)
  project_has p columns rows v = (
    λ has.
        let got = part_has v has.0 ((rows has.0).0 has.1) (subst (λ cs. AgreesWithRow v cs has.0) columns has.2) in
        let whole = agrees_itself t.columns got.0 table.distinct (table_row-length t got.0 table got.1) in
        (valuation_of t.columns got.0, (got.0, got.1, whole), λ x column. got.2 x column ∙ sym (whole x (within x column))),
    λ some.
        let got = has_part v some.1.0 some.1.1 (λ x column. some.2 x column ∙ some.1.2 x (within x column)) in
        (row_part some.1.0 places, (rows _).1 got.0, subst (λ cs. AgreesWithRow v cs (row_part some.1.0 places)) (sym columns) got.1),
  )

-- ---- unions

pub union_has : (a b : Relation) (places : List ℕ) → IsTable a → IsTable b → AreSameColumns a.columns b.columns → ArePlaces b.columns a.columns places → (t : Relation)
    → t.columns ≡ a.columns → ((row : List Value) → Contains t.rows row ↔ Contains (a.rows ++ map (λ r. row_part r places) b.rows) row) → (v : Valuation)
    → HasValuation t v ↔ (HasValuation a v ⊎ HasValuation b v)
union_has a b places a_table b_table same are t columns rows v = (
  λ has.
      let agrees : AgreesWithRow v a.columns has.0 = subst (λ cs. AgreesWithRow v cs has.0) columns has.2 in
      ⊎_elim
      (λ left. inl (has.0, left, agrees))
      (λ right. let got = part_has b a.columns places b_table same.0 are v has.0 right agrees in inr (got.0, got.1, λ x there. got.2 x (same.1 x there)))
      (Contains-append a.rows (map (λ r. row_part r places) b.rows) has.0 ((rows has.0).0 has.1)),
  λ either. ⊎_elim
      (λ left. (left.0, (rows left.0).1 (Contains-append_left a.rows (map (λ r. row_part r places) b.rows) left.0 left.1), subst (λ cs. AgreesWithRow v cs left.0) (sym columns) left.2))
      (λ right. let got = has_part b a.columns places b_table same.0 are v right.0 right.1 (λ x there. right.2 x (same.0 x there)) in (
        row_part right.0 places,
        (rows _).1 (Contains-append_right a.rows (map (λ r. row_part r places) b.rows) _ got.0),
        subst (λ cs. AgreesWithRow v cs (row_part right.0 places))
            (sym columns) got.1,
      ))
      either,
)

-- ---- what the calls of a join's body give

pub contains_by : {X : Type 0} (these wanted columns variables : List X) → these ≡ columns → wanted ≡ variables → All (Contains columns) variables → All (Contains these) wanted
contains_by these wanted columns variables e f h = subst (λ l. All (Contains l) wanted) (sym e) (subst (All (Contains columns)) (sym f) h)

pub places_by : (these wanted columns variables : List VarId) (places : List ℕ) → these ≡ columns → wanted ≡ variables → ArePlaces these wanted places → ArePlaces columns variables places
places_by these wanted columns variables places e f are = subst (λ l. ArePlaces l variables places) e (subst (λ l. ArePlaces these l places) f are)

pub joined_by : (l r s left right rest : List ℕ) (these others rows out : List (List Value)) → l ≡ left → r ≡ right → s ≡ rest → these ≡ rows
    → AreJoinedRows l r s these others out → AreJoinedRows left right rest rows others out
joined_by l r s left right rest these others rows out p q u e h =
    subst (λ x. AreJoinedRows x right rest rows others out) p (subst (λ x. AreJoinedRows l x rest rows others out) q
    (subst (λ x. AreJoinedRows l r x rows others out) u (subst (λ x. AreJoinedRows l r s x others out) e h)))

pub single_by : (l r left right : List ℕ) (these others rows out : List (List Value)) → l ≡ left → r ≡ right → these ≡ rows → AreSingleRows l r these others out
    → AreSingleRows left right rows others out
single_by l r left right these others rows out p q e h = subst (λ x. AreSingleRows x right rows others out) p
    (subst (λ x. AreSingleRows l x rows others out) q (subst (λ x. AreSingleRows l r x others out) e h))

pub fits_by : (columns these : List VarId) (rows out : List (List Value)) → these ≡ columns → rows ≡ out → All (λ row. length row ≡ length columns) out → All (λ row. length row ≡ length these) rows
fits_by columns these rows out e f h = subst (λ l. All (λ row. length row ≡ length l) rows) (sym e) (subst (All (λ row. length row ≡ length columns)) (sym f) h)

-- a fact of each with table these columns and rows holds of an `Ok`
pub ok_relation : {E : Type 0} (r : Result Relation E) (columns : List VarId) (rows : List (List Value)) (P : Relation → Type 0) → IfOk r (λ t. t.columns ≡ columns)
    → IfOk r (λ t. (row : List Value) → Contains t.rows row ↔ Contains rows row) → ((t : Relation) → t.columns ≡ columns
    → ((row : List Value) → Contains t.rows row ↔ Contains rows row) → P t) → IfOk r P
ok_relation (Ok t) columns rows P c r holds = holds t c r
ok_relation (Err e) columns rows P c r holds = tt

pub pushed_parts : (old front out these rows : List (List Value)) (ps places : List ℕ) → old ≡ front → ps ≡ places → these ≡ rows → out
    ≡ old ++ map (λ r. row_part r ps) these → out ≡ front ++ map (λ r. row_part r places) rows
pushed_parts old front out these rows ps places e p r grown =
    grown ∙ ap (λ l. l ++ map (λ r. row_part r ps) these) e ∙ ap (λ q. front ++ map (λ r. row_part r q) these) p ∙ ap (λ l. front ++ map (λ r. row_part r places) l) r
