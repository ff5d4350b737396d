use Rattle.past_state.proofs.Vocabulary.{◌≡◌, ◌∙◌, ◌↔◌, ◌≤◌, ap, sym, subst, Contains, length, All, [], ◌∷◌, ◌++◌, IfOk-weaker, tree_of, Valuation, HoldsNow, HasValuation, ok_relation}
use Rattle.past_state.proofs.KeptRows.{looped_more, looped_no_more, kept_all, kept_has, kept_fit}
use Rattle.past_state.proofs.row_filters.surviving_rows.Goals.{then-branch+in_ok-duplicate+in_ok-push, else-branch}
use Rattle.past_state.proofs.row_filters.surviving_rows.Goals as goal

pub holds_under-requires-clause-free : goal.holds_under-requires-clause-free
holds_under-requires-clause-free g c = λ x free. subst (λ l. Contains l x) (sym (c.as_slice.ensures ∙ c.columns-columns.ensures.columns)) (c.requires.free x free)

pub loop-row-preserved : goal.loop-row-preserved
loop-row-preserved g c =
    elim c.if-branch.branch [
      | then-branch+in_ok-duplicate+in_ok-push w ↦ looped_more _ _ _ c.args.rows.now c.rows-row-items.result.now c.as_slice.result.now c.rows-row-items.ensures.rows
          (c.as_slice.ensures ∙ c.columns-columns.ensures.columns) c.loop-row.surviving.items c.loop-row.row-index c.row-item.result c.in_ok-holds_under.field-0 c.loop-row-test.true
          c.row-item.is c.in_ok-holds_under.ensures c.loop-row.invariant _ w.if-branch.true
          (ap (λ v. v.items) w.surviving-is ∙ w.in_ok-push.ensures.items ∙ ap (λ r. c.loop-row.surviving.items ++ r ∷ []) w.in_ok-duplicate.ensures)
      | else-branch w ↦ looped_no_more _ _ _ c.args.rows.now c.rows-row-items.result.now c.as_slice.result.now c.rows-row-items.ensures.rows
          (c.as_slice.ensures ∙ c.columns-columns.ensures.columns) c.loop-row.surviving.items c.loop-row.row-index c.row-item.result c.in_ok-holds_under.field-0 c.loop-row-test.true
          c.row-item.is c.in_ok-holds_under.ensures c.loop-row.invariant _ w.if-branch.false (ap (λ v. v.items) w.surviving-is)
    ]

pub from_rows-requires-clause-fits : goal.from_rows-requires-clause-fits
from_rows-requires-clause-fits g c = subst (λ l. All (λ row. length row ≡ length l) c.loop-row.surviving.items) (sym (c.in_ok-duplicate-2.ensures ∙ c.columns-columns.ensures.columns))
    (kept_fit c.args.events.now (g.P.Past.tables c.args.past.now) (tree_of c.args.guard.now.formula) c.args.rows.now c.loop-row.surviving.items c.columns-columns.ensures.table
    (kept_all c.args.events.now (g.P.Past.tables c.args.past.now) (tree_of c.args.guard.now.formula) c.args.rows.now.columns c.args.rows.now.rows c.loop-row.surviving.items c.loop-row.row-index
    (subst (λ l. length l ≤ c.loop-row.row-index) c.rows-row-items.ensures.rows c.loop-row-test.false) c.loop-row.invariant))

pub returns-clause-rows : goal.returns-clause-rows
returns-clause-rows g c =
    ok_relation c.from_rows.result c.args.rows.now.columns c.loop-row.surviving.items (λ t. (v : Valuation)
    → HasValuation t v ↔ (HasValuation c.args.rows.now v × HoldsNow c.args.events.now (g.P.Past.tables c.args.past.now) v (tree_of c.args.guard.now.formula)))
    (IfOk-weaker c.from_rows.result _ (λ t. t.columns ≡ c.args.rows.now.columns) (λ t e. e ∙ c.in_ok-duplicate-2.ensures ∙ c.columns-columns.ensures.columns)
    c.from_rows.ensures.columns) c.from_rows.ensures.rows
    (λ t columns same. kept_has c.args.events.now (g.P.Past.tables c.args.past.now) (tree_of c.args.guard.now.formula) c.args.rows.now t c.loop-row.surviving.items c.columns-columns.ensures.table
    (kept_all c.args.events.now (g.P.Past.tables c.args.past.now) (tree_of c.args.guard.now.formula) c.args.rows.now.columns c.args.rows.now.rows c.loop-row.surviving.items c.loop-row.row-index
    (subst (λ l. length l ≤ c.loop-row.row-index) c.rows-row-items.ensures.rows c.loop-row-test.false) c.loop-row.invariant) columns same)
