-- The rows of a table that is made of rows that were added.
use Rattle.monitorable_guard.proofs.Vocabulary.{◌≡◌, ◌↔◌, List, [], length, Result, Ok, Err, IfOk, Contains, sym, subst, ⊎_elim, all_from, none_in_nil, Valuation, VarId, Value, AgreesWithRow}
use Rattle.monitorable_guard.proofs.Vocabulary.{HasValuation, Relation, AddsRows, AmongRows, RowsFitColumns}

module _ (columns : List VarId) (found : List (List Value)) (P : Valuation → Type 0) (adds : AddsRows columns [] found P) where
  pub added_fit : RowsFitColumns columns found
  added_fit = adds.fit (all_from (λ row. length row ≡ length columns) [] (λ row there. absurd (none_in_nil row there)))

  among_added : (w : Valuation) → AmongRows columns found w ↔ P w
  among_added w = (λ has. ⊎_elim (λ none. absurd (none_in_nil none.0 none.1)) (λ is. is) (adds.only w has), λ is. adds.added w is)

  pub has_added : (t : Relation) → t.columns ≡ columns → ((row : List Value) → Contains t.rows row ↔ Contains found row)
      → (w : Valuation) → HasValuation t w ↔ P w
  has_added t same rows w = (
    λ has. (among_added w).0 (has.0, (rows has.0).0 has.1, subst (λ l. AgreesWithRow w l has.0) same has.2),
    λ is. let has = (among_added w).1 is in (has.0, (rows has.0).1 has.1, subst (λ l. AgreesWithRow w l has.0) (sym same) has.2),
  )

  pub ok_added : {E : Type 0} (r : Result Relation E) → IfOk r (λ t. t.columns ≡ columns)
      → IfOk r (λ t. (row : List Value) → Contains t.rows row ↔ Contains found row) → IfOk r (λ t. (w : Valuation) → HasValuation t w ↔ P w)
  ok_added (Ok t) same rows = has_added t same rows
  ok_added (Err e) same rows = tt
