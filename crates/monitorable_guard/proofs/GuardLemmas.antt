-- What a guard's evaluation gives, from that of its formula under the bound variables.
use Rattle.monitorable_guard.proofs.Vocabulary.{◌↔◌, Bool, IsTrue, ◌⊎◌, inl, inr, ⊎_elim, List, None, Result, Ok, Err, IfOk, Contains, refl, sym, ◌∙◌, none-some, Valuation, BindsColumns, Event, VarId}
use Rattle.monitorable_guard.proofs.Vocabulary.{Formula, IsFree, among_or_not, IsPartOfValuation, Relation, AreOpenUnder, CanAskFormula, HasAnswers, IsBoundBy, IsBoundOrFree, AreOpen, CanEvaluate}
use Rattle.monitorable_guard.proofs.Vocabulary.{FitOperators, AreHoldingRows, HoldsNow, outermost, FreeWithin, Safe, AgreeOnColumns, IsGuardAnswer}
use Rattle.monitorable_guard.proofs.AgreementLemmas.{now_agrees}
use Rattle.monitorable_guard.proofs.PartLemmas.{fresh_within}
use Rattle.monitorable_guard.proofs.EvaluationLemmas.{value_from, bound_from, bound_as, same_on}
use Rattle.monitorable_guard.proofs.SafetyLemmas.{Same, safe_same}
use Rattle.monitorable_guard.specs.machine.Answers.{HasAnswersIn}
use Rattle.monitorable_guard.specs.machine.Evaluation.{AreHoldingRowsIn}

module _ (f : Formula) (bound : List VarId) (v scope : Valuation) (part : IsPartOfValuation v bound scope) (binds : BindsColumns v bound) where
  -- the scope has values for just the bound variables
  scope_bound : Same (Contains bound) (IsBoundBy scope)
  scope_bound x = (
    λ there. bound_as v scope x (sym (part.inside x there)) (binds x there),
    λ has. ⊎_elim (λ there. there) (λ absent. let known = value_from scope x has in absurd (none-some known.0 (sym (part.outside x absent) ∙ known.1))) (among_or_not bound x),
  )

  pub can_ask : (tables : List Relation) → Safe f (Contains bound) → CanEvaluate f bound tables v → CanAskFormula scope tables f
  can_ask tables safe can = record {
    safe = safe_same None f (Contains bound) (IsBoundBy scope) scope_bound safe;
    fresh = fresh_within f (λ x. Contains bound x ⊎ IsFree x f) (IsBoundOrFree scope f) (λ x in_scope. ⊎_elim (λ has. inl ((scope_bound x).1 has)) (λ free. inr free) in_scope) can.fresh;
    tabled = can.tabled;
  }

  pub closed : FreeWithin f (Contains bound) → FreeWithin f (IsBoundBy scope)
  closed within x free = (scope_bound x).0 (within x free)

  pub opens_under : (columns : List VarId) → AreOpen f bound columns → AreOpenUnder scope f columns
  opens_under columns opens = record {
    rising = opens.rising;
    exact = λ x. (
      λ there. let got = (opens.exact x).0 there in (got.0, λ has. got.1 ((scope_bound x).1 has)),
      λ both. (opens.exact x).1 (both.0, λ is_bound. both.1 ((scope_bound x).0 is_bound)),
    );
  }

  are_open : (columns : List VarId) → AreOpenUnder scope f columns → AreOpen f bound columns
  are_open columns opens = record {
    rising = opens.rising;
    exact = λ x. (
      λ there. let got = (opens.exact x).0 there in (got.0, λ is_bound. got.1 ((scope_bound x).0 is_bound)),
      λ both. (opens.exact x).1 (both.0, λ has. both.1 ((scope_bound x).1 has)),
    );
  }

  pub ok_columns : {E : Type 0} (r : Result Relation E) → IfOk r (λ t. AreOpenUnder scope f t.columns) → IfOk r (λ t. AreOpen f bound t.columns)
  ok_columns (Ok t) opens = are_open t.columns opens
  ok_columns (Err e) opens = tt

  module _ (events : List Event) (tables : List Relation) (fit : FitOperators (outermost f) tables) where
    answer_holds : (columns : List VarId) → AreOpenUnder scope f columns → (w : Valuation) → AgreeOnColumns bound v w → BindsColumns w columns
        → IsGuardAnswer events tables scope f columns w ↔ HoldsNow events tables w f
    answer_holds columns opens w agree has_columns = (
      λ found.
          now_agrees events tables f found.0 w fit (λ x free. ⊎_elim
          (λ there. sym (same_on scope found.0 x found.1.extends ((scope_bound x).0 there)) ∙ part.inside x there ∙ agree x there)
          (λ absent. sym (found.2 x ((opens.exact x).1 (free, λ has. absent ((scope_bound x).1 has)))))
          (among_or_not bound x)) found.1.holds,
      λ holds. (
        w,
        record {
          extends = λ x value at.
              let there = (scope_bound x).1 (bound_from scope x value at) in
              sym (agree x there) ∙ sym (part.inside x there) ∙ at;
          binds = λ x free. ⊎_elim
              (λ there. bound_as v w x (agree x there) (binds x there))
              (λ absent. has_columns x ((opens.exact x).1 (free, λ has. absent ((scope_bound x).1 has))))
              (among_or_not bound x);
          holds = holds;
        },
        λ x there. refl,
      ),
    )

    pub ok_rows_in : {E : Type 0} (within : Relation) (r : Result Relation E) → IfOk r (λ t. AreOpenUnder scope f t.columns)
        → IfOk r (HasAnswersIn within events tables scope f) → IfOk r (AreHoldingRowsIn within events tables f bound v)
    ok_rows_in within (Ok t) opens answers = λ w agree columns.
        let is = answer_holds t.columns opens w agree columns in (
          λ has. let both = (answers w).0 has in (is.0 both.0, both.1),
          λ both. (answers w).1 (is.1 both.0, both.1),
        )
    ok_rows_in within (Err e) opens answers = tt

    pub ok_rows : {E : Type 0} (r : Result Relation E) → IfOk r (λ t. AreOpenUnder scope f t.columns) → IfOk r (HasAnswers events tables scope f) → IfOk r (AreHoldingRows events tables f bound v)
    ok_rows (Ok t) opens answers = λ w agree columns.
        let is = answer_holds t.columns opens w agree columns in (
          λ has. is.0 ((answers w).0 has),
          λ holds. (answers w).1 (is.1 holds),
        )
    ok_rows (Err e) opens answers = tt

    pub ok_holds : {E : Type 0} (r : Result Bool E) → FreeWithin f (Contains bound) → IfOk r (λ b. IsTrue b ↔ HoldsNow events tables scope f) → IfOk r (λ b. IsTrue b ↔ HoldsNow events tables v f)
    ok_holds (Ok b) within is = (
      λ t. now_agrees events tables f scope v fit (λ x free. part.inside x (within x free)) (is.0 t),
      λ holds. is.1 (now_agrees events tables f v scope fit (λ x free. sym (part.inside x (within x free))) holds),
    )
    ok_holds (Err e) within is = tt
