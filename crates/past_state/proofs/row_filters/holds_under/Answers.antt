use Rattle.past_state.proofs.Vocabulary.{◌≡◌, ◌∙◌, ◌↔◌, IsTrue, ap, sym, subst, Contains, IfOk-weaker, tree_of, Valuation, value_at, BindsColumns, valuation_of, iff_then, CanEvaluate, HoldsNow}
use Rattle.past_state.proofs.Vocabulary.{FreeWithin, filled_from_row, AgreeOnColumns}
use Rattle.past_state.proofs.RowLemmas.{row_over_nothing, row_binds}
use Rattle.past_state.proofs.row_filters.holds_under.Goals as goal

pub holds-requires-clause-can : goal.holds-requires-clause-can
holds-requires-clause-can g c =
    let v = filled_from_row c.empty-none.result c.args.columns.now c.as_slice.result.now in
    let same : v ≡ valuation_of c.args.columns.now c.args.row.now = ap (filled_from_row c.empty-none.result c.args.columns.now) c.as_slice.ensures ∙ row_over_nothing c.args.columns.now
    c.args.row.now c.empty-none.result c.empty-none.ensures c.requires.distinct in
    subst (λ b. CanEvaluate (tree_of b.formula) b.bound (g.P.Past.tables c.args.past.now) v) (sym c.guard.ensures) (record {
      fresh = c.requires.fresh;
      tabled = c.requires.tabled;
      binds = subst (BindsColumns v) (sym c.requires.bound) (subst (λ w. BindsColumns w c.args.columns.now) (sym same)
          (row_binds c.args.columns.now c.args.row.now c.requires.distinct c.requires.fits));
    })

pub holds-requires-clause-test : goal.holds-requires-clause-test
holds-requires-clause-test g c =
    subst (λ b. FreeWithin (tree_of b.formula) (Contains b.bound)) (sym c.guard.ensures) (λ x free. subst (λ l. Contains l x) (sym c.requires.bound) (c.requires.free x free))

pub returns : goal.returns
returns g c =
    let v = filled_from_row c.empty-none.result c.args.columns.now c.as_slice.result.now in
    let same : v ≡ valuation_of c.args.columns.now c.args.row.now = ap (filled_from_row c.empty-none.result c.args.columns.now) c.as_slice.ensures ∙ row_over_nothing c.args.columns.now
    c.args.row.now c.empty-none.result c.empty-none.ensures c.requires.distinct in
    let tables = g.P.Past.tables c.args.past.now in
    let f = tree_of c.args.guard.now.formula in
    IfOk-weaker c.holds.result _ (λ holds. (w : Valuation) → AgreeOnColumns c.args.columns.now (valuation_of c.args.columns.now c.args.row.now) w
    → IsTrue holds ↔ HoldsNow c.args.events.now tables w f)
    (λ holds told w agree. iff_then (subst (λ b. IsTrue holds ↔ HoldsNow c.args.events.now tables v (tree_of b.formula)) c.guard.ensures told)
    (c.free_variables_decide_now.ensures c.args.events.now tables v w f c.requires.tabled (λ x free. ap (λ u. value_at u x) same ∙ agree x (c.requires.free x free)))) c.holds.ensures
