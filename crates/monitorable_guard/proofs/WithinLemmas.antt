-- The answers of a formula that are in a table, from those under each row of it.
use Rattle.monitorable_guard.proofs.Vocabulary.{◌≡◌, ◌↔◌, ◌∙◌, inl, inr, ⊎_elim, List, [], None, Result, Ok, Err, IfOk, Contains, sym, subst, Valuation, value_at, Event, VarId, Value, Formula}
use Rattle.monitorable_guard.proofs.Vocabulary.{table_row-length, filled_from_row, HasValuation, IsTable, Relation, AddsRows, AreBoundOrFree, AreOpenUnder, CanAskFormula, IsBoundBy, IsBoundOrFree}
use Rattle.monitorable_guard.proofs.Vocabulary.{IsGuardAnswer}
use Rattle.monitorable_guard.proofs.AddedTables.{has_added}
use Rattle.monitorable_guard.proofs.EvaluationLemmas.{absent_from, bound_on, bound_or_not, extends_filled, filled_agrees, filled_below, filled_binds, filled_binds_only, not_bound, same_on}
use Rattle.monitorable_guard.proofs.PartLemmas.{fresh_within}
use Rattle.monitorable_guard.proofs.RowsLemmas.{SomeOf}
use Rattle.monitorable_guard.proofs.SafetyGrowth.{safe_grows, AreKnown}
use Rattle.monitorable_guard.specs.machine.Answers.{HasAnswersIn}

module _ (events : List Event) (tables : List Relation) (v : Valuation) (f : Formula) (columns : List VarId) (opens : AreOpenUnder v f columns) (within : Relation)
    (table : IsTable within) (inside : (x : VarId) → Contains within.columns x → Contains columns x) where
  abbrev filled : List Value → Valuation
  filled row = filled_from_row v within.columns row

  unbound : (x : VarId) → Contains within.columns x → value_at v x ≡ None
  unbound x there = absent_from v x ((opens.exact x).0 (inside x there)).1

  bound_known : (u : Valuation) → AreKnown (IsBoundBy u)
  bound_known u x = ⊎_elim (λ bound. inl bound) (λ none. inr (not_bound u x none)) (bound_or_not u x)

  pub row_ask : CanAskFormula v tables f → (row : List Value) → Contains within.rows row → CanAskFormula (filled row) tables f
  row_ask can row there = record {
    safe = safe_grows None f (IsBoundBy v) (IsBoundBy (filled row)) (λ x bound. bound_on v (filled row) x (extends_filled v within.columns row) bound) (bound_known (filled row)) can.safe;
    fresh = fresh_within f (IsBoundOrFree v f) (IsBoundOrFree (filled row) f)
        (λ x either. ⊎_elim
        (λ bound. ⊎_elim (λ before. inl before) (λ column. inr ((opens.exact x).0 (inside x column)).0) (filled_binds_only v within.columns row x bound))
        (λ free. inr free)
        either)
        can.fresh;
    tabled = can.tabled;
  }

  pub row_scope : (row : List Value) → Contains within.rows row → AreBoundOrFree columns (filled row) f
  row_scope row there x column = inr ((opens.exact x).0 column).0

  abbrev pub UnderRows : Valuation → Type 0
  UnderRows w = SomeOf within.rows (λ row. IsGuardAnswer events tables (filled row) f columns w)

  in_to : (w : Valuation) → UnderRows w → IsGuardAnswer events tables v f columns w × HasValuation within w
  in_to w (row, there, (u, is, agree)) = (
    (
      u,
      record { extends = λ x value at. is.extends x value (extends_filled v within.columns row x value at); binds = is.binds; holds = is.holds },
      agree,
    ),
    (
      row,
      there,
      λ x column.
          let long = table_row-length within row table there in
          agree x (inside x column) ∙ sym (same_on (filled row) u x is.extends (filled_binds v within.columns row x long (inr column)))
          ∙ filled_agrees v within.columns row unbound long x column,
    ),
  )

  in_from : (w : Valuation) → IsGuardAnswer events tables v f columns w → HasValuation within w → UnderRows w
  in_from w (u, is, agree) (row, there, agrees) = (
    row,
    there,
    (
      u,
      record {
        extends = filled_below v u within.columns row is.extends (table_row-length within row table there)
            (λ x column. sym (agree x (inside x column)) ∙ agrees x column);
        binds = is.binds;
        holds = is.holds;
      },
      agree,
    ),
  )

  pub ok_in : {E : Type 0} (found : List (List Value)) → AddsRows columns [] found UnderRows → (r : Result Relation E) → IfOk r (λ t. t.columns ≡ columns)
      → IfOk r (λ t. (row : List Value) → Contains t.rows row ↔ Contains found row) → IfOk r (HasAnswersIn within events tables v f)
  ok_in found adds (Ok t) same rows = λ w.
      let is = has_added columns found UnderRows adds t same rows w in
      subst (λ l. HasValuation t w ↔ (IsGuardAnswer events tables v f l w × HasValuation within w)) (sym same) (
        λ has. in_to w (is.0 has),
        λ both. is.1 (in_from w both.0 both.1),
      )
  ok_in found adds (Err e) same rows = tt
