use Rattle.monitorable_guard.proofs.Vocabulary.{AgreeOnColumns, IsValued, bound_in}
use Rattle.monitorable_guard.proofs.LeastLemmas.{least_value, value_binds, value_to, value_from}
use Rattle.monitorable_guard.proofs.RowsLemmas.{adds_as, on_ok}
use Rattle.monitorable_guard.proofs.atoms.gather_value.Goals as goal

pub push_row-requires : goal.push_row-requires
push_row-requires c = value_binds (bound_in c.args.scope.now) c.in-Some.inner c.args.columns.now c.args.term.now c.args.value.now
    (least_value c.args.term.now c.args.value.now c.over.result (bound_in c.args.scope.now) c.in_ok-inner.field-0 c.in-Some.inner c.over.ensures c.in-Some.is c.in_ok-inner.ensures.some)
    c.requires

pub returns-in-Some : goal.returns-in-Some
returns-in-Some c =
    let least = (least_value c.args.term.now c.args.value.now c.over.result (bound_in c.args.scope.now) c.in_ok-inner.field-0 c.in-Some.inner c.over.ensures c.in-Some.is c.in_ok-inner.ensures.some) in
    on_ok c.push_row.result _ _
    (adds_as c.args.columns.now _ _ (λ w. AgreeOnColumns c.args.columns.now w c.in-Some.inner) (IsValued c.args.term.now c.args.value.now (bound_in c.args.scope.now) c.args.columns.now)
    (value_to (bound_in c.args.scope.now) c.in-Some.inner c.args.columns.now c.args.term.now c.args.value.now least c.requires)
    (value_from (bound_in c.args.scope.now) c.in-Some.inner c.args.columns.now c.args.term.now c.args.value.now least c.requires))
    c.push_row.ensures
