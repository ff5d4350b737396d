use Rattle.monitorable_guard.proofs.Vocabulary.{sym, ap, ◌∙◌, option_copied, IsEquated, IsValued, bound_in}
use Rattle.monitorable_guard.proofs.LeastLemmas.{left_to, left_from, right_to, right_from}
use Rattle.monitorable_guard.proofs.RowsLemmas.{adds_as, on_ok}
use Rattle.monitorable_guard.proofs.atoms.gather_equal.Goals as goal

pub returns-in-Some-default : goal.returns-in-Some-default
returns-in-Some-default c =
    let is = sym c.value_in.ensures ∙ ap option_copied c.in-Some-default.is-0 in
    on_ok c.gather_value.result _ _
    (adds_as c.args.columns.now _ _ (IsValued c.args.t.now c.in-Some-default.value.now (bound_in c.args.scope.now) c.args.columns.now)
    (IsEquated c.args.s.now c.args.t.now (bound_in c.args.scope.now) c.args.columns.now)
    (left_to (bound_in c.args.scope.now) c.args.columns.now c.args.s.now c.args.t.now c.in-Some-default.value.now is)
    (left_from (bound_in c.args.scope.now) c.args.columns.now c.args.s.now c.args.t.now c.in-Some-default.value.now is))
    c.gather_value.ensures

pub returns-in-None-Some : goal.returns-in-None-Some
returns-in-None-Some c =
    let is = sym c.value_in-2.ensures ∙ ap option_copied c.in-None-Some.is-1 in
    on_ok c.gather_value-in-None-Some.result _ _
    (adds_as c.args.columns.now _ _ (IsValued c.args.s.now c.in-None-Some.value.now (bound_in c.args.scope.now) c.args.columns.now)
    (IsEquated c.args.s.now c.args.t.now (bound_in c.args.scope.now) c.args.columns.now)
    (right_to (bound_in c.args.scope.now) c.args.columns.now c.args.s.now c.args.t.now c.in-None-Some.value.now is)
    (right_from (bound_in c.args.scope.now) c.args.columns.now c.args.s.now c.args.t.now c.in-None-Some.value.now is))
    c.gather_value-in-None-Some.ensures
