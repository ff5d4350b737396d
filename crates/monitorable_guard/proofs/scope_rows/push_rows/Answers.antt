use Rattle.monitorable_guard.proofs.Vocabulary.{◌≡◌, ◌<◌, ◌≤◌, List, length, get_or, Contains, sym, subst, ◌∙◌, take_all, Value, Valuation, table_row-length, bound_in, filled_from_row, AgreeOnColumns}
use Rattle.monitorable_guard.proofs.Vocabulary.{AddsRows, IsBoundBy}
use Rattle.monitorable_guard.proofs.EvaluationLemmas.{filled_binds}
use Rattle.monitorable_guard.proofs.RowsLemmas.{SomeOf, adds_more}
use Rattle.monitorable_guard.proofs.scope_rows.push_rows.Goals as goal

pub push_row-requires : goal.push_row-requires
push_row-requires c =
    let rows = c.rows-row-items.result.now in
    let row = c.row-item.result in
    let there : Contains c.args.table.now.rows row = subst (λ l. Contains l row) c.rows-row-items.ensures.rows (c.loop-row.row-index, c.loop-row-test.true, sym c.row-item.is) in
    let inner : filled_from_row (bound_in c.args.scope.now) c.as_slice.result.now c.as_slice-in-loop-row.result.now
    ≡ filled_from_row (bound_in c.args.scope.now) c.args.table.now.columns row = (λ i. filled_from_row (bound_in c.args.scope.now)
    ((c.as_slice.ensures ∙ c.columns.ensures.columns) i) (c.as_slice-in-loop-row.ensures i)) in
    λ x column. subst (λ v. IsBoundBy v x) (sym inner) (filled_binds (bound_in c.args.scope.now) c.args.table.now.columns row x
    (table_row-length c.args.table.now row c.requires.table there) (c.requires.within x column))

pub loop-row-preserved : goal.loop-row-preserved
loop-row-preserved c =
    let row = c.row-item.result in
    let all : c.rows-row-items.result.now ≡ c.args.table.now.rows = c.rows-row-items.ensures.rows in
    let inner : filled_from_row (bound_in c.args.scope.now) c.as_slice.result.now c.as_slice-in-loop-row.result.now
    ≡ filled_from_row (bound_in c.args.scope.now) c.args.table.now.columns row = (λ i. filled_from_row (bound_in c.args.scope.now)
    ((c.as_slice.ensures ∙ c.columns.ensures.columns) i) (c.as_slice-in-loop-row.ensures i)) in
    let at : row ≡ get_or c.args.table.now.rows c.loop-row.row-index row = subst (λ l. row ≡ get_or l c.loop-row.row-index row) all c.row-item.is in
    adds_more c.args.columns.now c.args.table.now.rows (λ r w. AgreeOnColumns c.args.columns.now w (filled_from_row (bound_in c.args.scope.now) c.args.table.now.columns r))
    c.loop-row.row-index row _ _ _ (subst (λ (l : List (List Value)). c.loop-row.row-index < length l) all c.loop-row-test.true) c.loop-row.invariant
    (subst (λ (r : List Value). AddsRows c.args.columns.now c.loop-row.out.items c.push_row.new.out.items
    (λ w. AgreeOnColumns c.args.columns.now w (filled_from_row (bound_in c.args.scope.now) c.args.table.now.columns r))) at
    (subst (λ (v : Valuation). AddsRows c.args.columns.now c.loop-row.out.items c.push_row.new.out.items (λ w. AgreeOnColumns c.args.columns.now w v)) inner c.in_ok-push_row.ensures))

pub returns : goal.returns
returns c =
    let all : c.rows-row-items.result.now ≡ c.args.table.now.rows = c.rows-row-items.ensures.rows in
    subst (λ (l : List (List Value)). AddsRows c.args.columns.now c.args.out.now.items c.loop-row.out.items
    (λ w. SomeOf l (λ row. AgreeOnColumns c.args.columns.now w (filled_from_row (bound_in c.args.scope.now) c.args.table.now.columns row))))
    (take_all c.loop-row.row-index c.args.table.now.rows (subst (λ (l : List (List Value)). length l ≤ c.loop-row.row-index) all c.loop-row-test.false)) c.loop-row.invariant
