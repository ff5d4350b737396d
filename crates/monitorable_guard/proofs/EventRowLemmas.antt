-- Rows that are the arguments of events.
use Rattle.monitorable_guard.proofs.Vocabulary.{◌≡◌, ℕ, suc, ◌+◌, ◌<◌, true, List, [], ◌∷◌, length, get_or, map, All, Contains, Option, None, Some, ◌↔◌, refl, sym, ap, subst, ◌∙◌, inl, ⊎_elim, arith}
use Rattle.monitorable_guard.proofs.Vocabulary.{IfSome, Bor, IsTotalOrder, AllByRecursion, is_lt, Ordering, All-contains, same_Some, none-some, HasNoRepeats, row_cmp, Valuation, onto_values, value_at}
use Rattle.monitorable_guard.proofs.Vocabulary.{values_of_terms, Event, NameId, Term, Var, VarId, Value, Less_from_test, Formula, Atom, IsEventAmong, first_or_later, here, later, none_in_nil}
use Rattle.monitorable_guard.proofs.Vocabulary.{Contains-map, Contains-from_map, row_cmp_total, cell_here, cell_later, same_or_other, Relation, HasValuation, AgreesWithRow, IsTable, row_cell}
use Rattle.monitorable_guard.proofs.Vocabulary.{HasKnownValues, AreHoldingRows, shown_events, arguments}
use Rattle.std.specs.List.Sorted.{IsStrictlySortedBy}
use Rattle.std.specs.declared.cmp.Ordering.TheVariants.{Less}

-- ---- each before the next

module _ {K X : Type 0} {R : K → K → Ordering} (o : IsTotalOrder R) (key : X → K) where
  abbrev EachBefore : List X → Type 0
  EachBefore xs = (k : ℕ) (d : X) → suc k < length xs → R (key (get_or xs k d)) (key (get_or xs (suc k) d)) ≡ Less

  before_too : (x y : X) (zs : List K) → R (key x) (key y) ≡ Less → AllByRecursion (λ z. R (key y) z ≡ Less) zs → AllByRecursion (λ z. R (key x) z ≡ Less) zs
  before_too x y [] less all = tt
  before_too x y (z ∷ zs) less all = (o.trans (key x) (key y) z less all.0, before_too x y zs less all.1)

  before_rest : (x : X) (ys : List X) → EachBefore (x ∷ ys) → AllByRecursion (λ z. R (key x) z ≡ Less) (map key ys)
  before_rest x [] each = tt
  before_rest x (y ∷ ys) each =
      let first : R (key x) (key y) ≡ Less = each 0 x (omega arith) in
      (first, before_too x y (map key ys) first (before_rest y ys (λ k d within. each (suc k) d (omega (arith, within)))))

  pub rises : (xs : List X) → EachBefore xs → IsStrictlySortedBy R (map key xs)
  unfolding IsStrictlySortedBy
  rises [] each = tt
  rises (x ∷ ys) each = (before_rest x ys each, rises ys (λ k d within. each (suc k) d (omega (arith, within))))

pub arguments_rise : (events : List (Bor Event)) → ((k : ℕ) (d : Bor Event) → k + 1 < length events → true ≡ is_lt (row_cmp (get_or events k d).now.args (get_or events (k + 1) d).now.args))
    → IsStrictlySortedBy row_cmp (arguments events)
arguments_rise events each = rises row_cmp_total (λ e. e.now.args) events (λ k d within.
    let at : k + 1 ≡ suc k = omega arith in
    Less_from_test _ (sym (subst (λ n. true ≡ is_lt (row_cmp (get_or events k d).now.args (get_or events n d).now.args)) at (each k d (omega (arith, within))))))

-- ---- rows that may be there

pub some_is : (rows : Option Relation) (t : Relation) (P : Relation → Type 0) → IfSome rows (λ r. r ≡ t) → IfSome rows IsTable → (IsTable t → P t) → IfSome rows P
some_is None t P is table to = tt
some_is (Some r) t P is table to = subst P (sym is) (to (subst IsTable is table))

-- ---- the values of variables

-- a valuation that has the values of a row has them for the variables as terms
pub values_from : (w : Valuation) (columns : List VarId) (row : List Value) → HasNoRepeats columns → length row ≡ length columns → AgreesWithRow w columns row
    → values_of_terms w (map Var columns) ≡ Some row
values_from w [] [] distinct long agrees = refl
values_from w [] (value ∷ row) distinct long agrees = absurd (omega (arith, long))
values_from w (x ∷ columns) [] distinct long agrees = absurd (omega (arith, long))
values_from w (x ∷ columns) (value ∷ row) distinct long agrees =
    let first : value_at w x ≡ Some value = agrees x (here x columns) ∙ cell_here x x columns value row refl in
    let rest = values_from w columns row distinct.1 (omega (arith, long)) (λ y there. agrees y (later y x columns there) ∙ cell_later x y columns value row
    (λ same. distinct.0 (subst (Contains columns) (sym same) there))) in
    λ i. onto_values (first i) (rest i)

pub agrees_from : (w : Valuation) (columns : List VarId) (row : List Value) → values_of_terms w (map Var columns) ≡ Some row → AgreesWithRow w columns row
agrees_from w [] row e x there = absurd (none_in_nil x there)
agrees_from w (y ∷ columns) row e x there = by (value_at w y) (values_of_terms w (map Var columns)) refl refl e (λ rest is behind. agrees_from w columns rest is x behind)
  where
    by : (o : Option Value) (r : Option (List Value)) → value_at w y ≡ o → values_of_terms w (map Var columns) ≡ r → onto_values o r ≡ Some row
        → ((rest : List Value) → values_of_terms w (map Var columns) ≡ Some rest → Contains columns x → value_at w x ≡ row_cell columns rest x) → value_at w x ≡ row_cell (y ∷ columns) row x
    by None r at is onto below = absurd (none-some row onto)
    by (Some a) None at is onto below = absurd (none-some row onto)
    by (Some a) (Some rest) at is onto below =
        subst (λ l. value_at w x ≡ row_cell (y ∷ columns) l x) (same_Some (a ∷ rest) row onto)
        (⊎_elim
        (λ same. ap (value_at w) (sym same) ∙ at ∙ sym (cell_here y x columns a rest same))
        (λ other. below rest is (⊎_elim (λ same. absurd (other same)) (λ behind. behind) (first_or_later x y columns there)) ∙ sym (cell_later y x columns a rest other))
        (same_or_other y x))

-- ---- the events of a name

module _ (events : List Event) (told : List (Bor Event)) (name : NameId) (columns : List VarId)
    (named : (event : Event) → Contains (shown_events told) event ↔ (Contains events event × (event.name ≡ name))) where
  abbrev pub told_rows : Relation
  told_rows = record { columns = columns; rows = arguments told }

  there_named : (row : List Value) → Contains (arguments told) row → Contains events (record { name = name; args = row })
  there_named row there =
      let found = Contains-from_map (λ e. e.now.args) told row there in
      let is = (named found.0.now).0 (Contains-map (λ e. e.now) told found.0 found.1) in
      subst (λ n. Contains events (record { name = n; args = row })) is.1 (subst (λ args. Contains events (record { name = found.0.now.name; args = args })) found.2 is.0)

  pub told_known : (tables : List Relation) (f : Formula) (bound : List VarId) (v : Valuation) → HasKnownValues events tables f bound v told_rows
  told_known tables f bound v row there value within = inl (record { name = name; args = row }, there_named row there, within)

  module _ (distinct : HasNoRepeats columns) (fit : All (λ row. length row ≡ length columns) (arguments told)) where
    among_from : (w : Valuation) (row : List Value) → Contains (arguments told) row → AgreesWithRow w columns row → IsEventAmong events name (values_of_terms w (map Var columns))
    among_from w row there agrees =
        let long = All-contains (λ r. length r ≡ length columns) (arguments told) row fit there in
        subst (IsEventAmong events name) (sym (values_from w columns row distinct long agrees)) (there_named row there)

    has_from : (w : Valuation) (args : Option (List Value)) → values_of_terms w (map Var columns) ≡ args → IsEventAmong events name args → HasValuation told_rows w
    has_from w None e among = absurd among
    has_from w (Some args) e among =
        let found = Contains-from_map (λ e. e.now) told (record { name = name; args = args }) ((named (record { name = name; args = args })).1 (among, refl)) in
        (args, subst (Contains (arguments told)) (ap (λ e. e.args) found.2) (Contains-map (λ e. e.now.args) told found.0 found.1), agrees_from w columns args e)

    pub told_hold : (place : ℕ) (terms : List Term) → terms ≡ map Var columns → (tables : List Relation) (bound : List VarId) (v : Valuation)
        → AreHoldingRows events tables (Atom place name terms) bound v told_rows
    told_hold place terms are tables bound v w agree binds =
        subst (λ l. HasValuation told_rows w ↔ IsEventAmong events name (values_of_terms w l)) (sym are)
        (λ has. among_from w has.0 has.1 has.2, λ among. has_from w (values_of_terms w (map Var columns)) refl among)
