use Rattle.monitorable_guard.proofs.Vocabulary.{IsTrue, AgreeOnColumns, bound_in}
use Rattle.monitorable_guard.proofs.RowsLemmas.{adds_as, on_ok}
use Rattle.monitorable_guard.proofs.scope_rows.push_if.Goals as goal

pub returns-then-test : goal.returns-then-test
returns-then-test c =
    on_ok c.push_row.result _ _
    (adds_as c.args.columns.now _ _ (λ w. AgreeOnColumns c.args.columns.now w (bound_in c.args.scope.now))
    (λ w. IsTrue c.args.test × AgreeOnColumns c.args.columns.now w (bound_in c.args.scope.now)) (λ w agree. (c.if-test.true, agree)) (λ w both none. none both.1))
    c.push_row.ensures
