use Rattle.monitorable_guard.proofs.Vocabulary.{sym, subst, AgreeOnColumns, AddsRows}
use Rattle.monitorable_guard.proofs.RowsLemmas.{adds_row}
use Rattle.monitorable_guard.proofs.scope_rows.push_row.Goals as goal

pub returns : goal.returns
returns g c =
    subst (λ after. AddsRows c.args.columns.now c.args.out.now.items after (λ w. AgreeOnColumns c.args.columns.now w (g.V.Lookup.valuation c.args.scope.now))) (sym c.in_ok-push.ensures.items)
    (adds_row (g.V.Lookup.valuation c.args.scope.now) c.args.columns.now c.args.out.now.items c.in_ok-row.row c.in_ok-row.ensures)
