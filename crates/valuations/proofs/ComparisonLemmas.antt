-- Comparisons decided, and the valuations that a comparison and a binding keep.
use Rattle.valuations.proofs.Vocabulary.{◌≡◌, ℕ, ◌≤◌, ◌<ℤ◌, ◌≤ℤ◌, ℤ, Bool, true, false, ◌&&◌, ⊎_elim, List, [], ◌∷◌, length, map, drop, min, Option, None, Some, All, Contains, ◌↔◌, refl, sym, ap}
use Rattle.valuations.proofs.Vocabulary.{subst, ◌∙◌, arith, Decides, filter, int_cmp, is_lt, is_le, is_eq, MatchOrdering, int_ranked, Equal-is, tied_itself, Ordering, Less, Equal, Greater, false≢true}
use Rattle.valuations.proofs.Vocabulary.{cases_lt, ints, Decides-like, Decides-and, drop_all, All-filter, same_Some, HasNoRepeats, value_cmp, Valuation, value_at, value_of_term, Term, Var, Const}
use Rattle.valuations.proofs.Vocabulary.{VarId, Value, Num, Text, ComparesValues, compares_values, is_bound_value, is_row_as_bound, IsColumnOf, ReadsTerm, operand_value, Relation, IsTable}
use Rattle.valuations.proofs.Vocabulary.{HasValuation, AgreesWithRow, IsBoundSame, AgreesWhereBound, Compare, Operand, Cell, Fixed, Nowhere, value_cmp_total, value_cmp_exact, none_in_nil, here, later}
use Rattle.valuations.proofs.Vocabulary.{first_or_later, Contains-filter, Contains-from_filter}
use Rattle.valuations.proofs.RowLaws.{cell_here, cell_later, cell_at, table_row-length}
use Rattle.valuations.specs.declared.comparing.Compare.TheVariants as kinds

-- a list of bounds or a row that is used up
no_row : (bounds : List (Option Value)) → is_row_as_bound bounds [] ≡ true
no_row [] = refl
no_row (bound ∷ bounds) = refl

pub used_up : {X : Type 0} (f : X → Option Value) (bounds : List X) (row : List Value) (n : ℕ) → n ≡ min (length bounds) (length row) → is_row_as_bound (map f (drop n bounds)) (drop n row) ≡ true
used_up f bounds row n is =
    ⊎_elim
    (λ lt. let row_short : length row ≤ n = omega arith in ap (is_row_as_bound (map f (drop n bounds))) (drop_all n row row_short) ∙ no_row (map f (drop n bounds)))
    (λ le. let bounds_short : length bounds ≤ n = omega arith in ap (λ l. is_row_as_bound (map f l) (drop n row)) (drop_all n bounds bounds_short))
    (cases_lt (length row) (length bounds))

-- ---- the tests mean what they say

same_values : (a b : Value) → Decides (is_eq (value_cmp a b)) (a ≡ b)
same_values a b = (
  λ e. value_cmp_exact a b ((Equal-is (value_cmp a b)).0 e),
  λ e. (Equal-is (value_cmp a b)).1 (ap (λ c. value_cmp a c) (sym e) ∙ tied_itself value_cmp_total a),
)

less_by : (x y : ℤ) (r : Ordering) → MatchOrdering r (x <ℤ y) (x ≡ y) (y <ℤ x) → Decides (is_lt r) (x <ℤ y)
less_by x y Less m = (λ _. m, λ _. refl)
less_by x y Equal m = (λ e. absurd (false≢true e), λ lt. absurd (omega (arith, ints)))
less_by x y Greater m = (λ e. absurd (false≢true e), λ lt. absurd (omega (arith, ints)))

at_most_by : (x y : ℤ) (r : Ordering) → MatchOrdering r (x <ℤ y) (x ≡ y) (y <ℤ x) → Decides (is_le r) (x ≤ℤ y)
at_most_by x y Less m = (λ _. omega (arith, ints), λ _. refl)
at_most_by x y Equal m = (λ _. omega (arith, ints), λ _. refl)
at_most_by x y Greater m = (λ e. absurd (false≢true e), λ le. absurd (omega (arith, ints)))

never : Decides false ⊥
never = (λ e. absurd (false≢true e), λ x. absurd x)

pub compares-Decides : (kind : Compare) (a b : Option Value) → Decides (compares_values kind a b) (ComparesValues kind a b)
compares-Decides kinds.Equal None b = never
compares-Decides kinds.Equal (Some a) None = never
compares-Decides kinds.Equal (Some a) (Some b) = same_values a b
compares-Decides kinds.Less None b = never
compares-Decides kinds.Less (Some (Num x)) None = never
compares-Decides kinds.Less (Some (Num x)) (Some (Num y)) = less_by x y (int_cmp x y) (int_ranked x y (int_cmp x y) refl)
compares-Decides kinds.Less (Some (Num x)) (Some (Text t)) = never
compares-Decides kinds.Less (Some (Text s)) b = never
compares-Decides kinds.AtMost None b = never
compares-Decides kinds.AtMost (Some (Num x)) None = never
compares-Decides kinds.AtMost (Some (Num x)) (Some (Num y)) = at_most_by x y (int_cmp x y) (int_ranked x y (int_cmp x y) refl)
compares-Decides kinds.AtMost (Some (Num x)) (Some (Text t)) = never
compares-Decides kinds.AtMost (Some (Text s)) b = never

-- ---- what a test of the rows keeps

pub kept_fits : (t : Relation) (test : List Value → Bool) → IsTable t → All (λ row. length row ≡ length t.columns) (filter test t.rows)
kept_fits t test table = All-filter test (λ row. length row ≡ length t.columns) t.rows table.fits

pub kept_has : (t p : Relation) (test : List Value → Bool) (Q : Valuation → Type 0) → p.columns ≡ t.columns
    → ((row : List Value) → Contains p.rows row ↔ Contains (filter test t.rows) row) →
    ((v : Valuation) (row : List Value) → Contains t.rows row → AgreesWithRow v t.columns row → Decides (test row) (Q v)) → (v : Valuation)
    → HasValuation p v ↔ (HasValuation t v × Q v)
kept_has t p test Q columns rows decides v = (
  λ has.
      let was = Contains-from_filter test t.rows has.0 ((rows has.0).0 has.1) in
      let agrees : AgreesWithRow v t.columns has.0 = subst (λ cs. AgreesWithRow v cs has.0) columns has.2 in
      ((has.0, was.0, agrees), (decides v has.0 was.0 agrees).0 was.1),
  λ both.
      let one = both.0 in
      (one.0, (rows one.0).1 (Contains-filter test t.rows one.0 one.1 ((decides v one.0 one.1 one.2).1 both.1)), subst (λ cs. AgreesWithRow v cs one.0) (sym columns) one.2),
)

-- ---- comparisons

pub operand_reads : (columns : List VarId) (row : List Value) (v : Valuation) (term : Term) (operand : Operand) → HasNoRepeats columns → length row ≡ length columns
    → AgreesWithRow v columns row → IsColumnOf columns term → ReadsTerm columns term operand → operand_value operand row ≡ value_of_term v term
operand_reads columns row v (Var x) (Cell place) distinct long agrees is reads = cell_at columns row place x distinct long reads ∙ sym (agrees x is)
operand_reads columns row v (Var x) (Fixed value) distinct long agrees is reads = absurd reads
operand_reads columns row v (Var x) Nowhere distinct long agrees is reads = absurd (reads is)
operand_reads columns row v (Const value) (Cell place) distinct long agrees is reads = absurd reads
operand_reads columns row v (Const value) (Fixed held) distinct long agrees is reads = ap Some reads
operand_reads columns row v (Const value) Nowhere distinct long agrees is reads = absurd reads

pub select_has : (t : Relation) (left right : Term) (l r : Operand) (kind : Compare) → IsTable t → IsColumnOf t.columns left → IsColumnOf t.columns right
    → ReadsTerm t.columns left l → ReadsTerm t.columns right r → (p : Relation) → p.columns ≡ t.columns
    → ((row : List Value) → Contains p.rows row ↔ Contains (filter (λ row. compares_values kind (operand_value l row) (operand_value r row)) t.rows) row) → (v : Valuation)
    → HasValuation p v ↔ (HasValuation t v × ComparesValues kind (value_of_term v left) (value_of_term v right))
select_has t left right l r kind table is_left is_right reads_left reads_right p columns rows =
    kept_has t p (λ row. compares_values kind (operand_value l row) (operand_value r row)) (λ v. ComparesValues kind (value_of_term v left) (value_of_term v right)) columns rows
    (λ v row there agrees.
    let a = operand_reads t.columns row v left l table.distinct (table_row-length t row table there) agrees is_left reads_left in
    let b = operand_reads t.columns row v right r table.distinct (table_row-length t row table there) agrees is_right reads_right in
    subst (λ x. Decides (compares_values kind (operand_value l row) (operand_value r row)) (ComparesValues kind x (value_of_term v right))) a
    (subst (λ y. Decides (compares_values kind (operand_value l row) (operand_value r row)) (ComparesValues kind (operand_value l row) y)) b
    (compares-Decides kind (operand_value l row) (operand_value r row))))

-- ---- agreement with a valuation

bound_decides : (bound : Option Value) (value : Value) → Decides (is_bound_value bound value) (IsBoundSame bound (Some value))
bound_decides None value = (λ _. tt, λ _. refl)
bound_decides (Some bound) value = (λ e. ap Some (sym ((same_values bound value).0 e)), λ e. (same_values bound value).1 (sym (same_Some value bound e)))

as_bound_decides : (columns : List VarId) (row : List Value) (v w : Valuation) → HasNoRepeats columns → length row ≡ length columns → AgreesWithRow w columns row
    → Decides (is_row_as_bound (map (value_at v) columns) row) (AgreesWhereBound columns v w)
as_bound_decides [] row v w distinct long agrees = (λ _ x there. absurd (none_in_nil x there), λ _. refl)
as_bound_decides (column ∷ columns) [] v w distinct long agrees = absurd (omega (arith, long))
as_bound_decides (column ∷ columns) (value ∷ row) v w distinct long agrees =
    let rest = as_bound_decides columns row v w distinct.1 (omega (arith, long)) (λ x there. agrees x (later x column columns there) ∙ cell_later column x columns value row
    (λ same. distinct.0 (subst (Contains columns) (sym same) there))) in
    let first : Decides (is_bound_value (value_at v column) value) (IsBoundSame (value_at v column) (value_at w column)) = subst
    (λ o. Decides (is_bound_value (value_at v column) value) (IsBoundSame (value_at v column) o))
    (sym (agrees column (here column columns) ∙ cell_here column column columns value row refl)) (bound_decides (value_at v column) value) in
    Decides-like (is_bound_value (value_at v column) value && is_row_as_bound (map (value_at v) columns) row)
    (λ both x there. ⊎_elim (λ same. subst (λ y. IsBoundSame (value_at v y) (value_at w y)) same both.0) (λ behind. both.1 x behind) (first_or_later x column columns there))
    (λ all. (all column (here column columns), λ x there. all x (later x column columns there)))
    (Decides-and (is_bound_value (value_at v column) value) (is_row_as_bound (map (value_at v) columns) row) first rest)

pub under_has : (t : Relation) (v : Valuation) (bounds : List (Option Value)) → IsTable t → bounds ≡ map (value_at v) t.columns → (p : Relation) → p.columns ≡ t.columns
    → ((row : List Value) → Contains p.rows row ↔ Contains (filter (λ row. is_row_as_bound bounds row) t.rows) row) → (w : Valuation)
    → HasValuation p w ↔ (HasValuation t w × AgreesWhereBound t.columns v w)
under_has t v bounds table is p columns rows =
    kept_has t p (λ row. is_row_as_bound bounds row) (λ w. AgreesWhereBound t.columns v w) columns rows
    (λ w row there agrees. subst (λ l. Decides (is_row_as_bound l row) (AgreesWhereBound t.columns v w)) (sym is)
    (as_bound_decides t.columns row v w table.distinct (table_row-length t row table there) agrees))
