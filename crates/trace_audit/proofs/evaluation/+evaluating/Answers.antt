use Rattle.trace_audit.proofs.Vocabulary.{rules, ◌≡◌, ◌<◌, ◌∙◌, List, length, get_or, ap, sym, subst, ⊎_elim, true≢false, AllByRecursion, IfOk-weaker, Valuation, Step, Value, tree_of, plan_of, AtEach}
use Rattle.trace_audit.proofs.Vocabulary.{bound_in, filled_from_row, CanEvaluatePlan, IsAskable, IsBegunWaiting, TellsRest, moment_of, guards_at, WaitingAsks, PlanHoldsAt}
use Rattle.trace_audit.proofs.AskLemmas.{binds_bound, body_can, is_test, rows_hold, test_is, within}
use Rattle.trace_audit.proofs.EvaluationLemmas.{TellsOf, always_begins, eventually_begins, eventually_is_early, eventually_wakes, tells_any, tells_as, tells_row, test_fails, test_met, until_begins}
use Rattle.trace_audit.proofs.EvaluationLemmas.{until_is_early, until_wakes}
use Rattle.trace_audit.specs.declared.residuals.Residual.TheVariants as stored
use Rattle.trace_audit.proofs.evaluation.+evaluating.Goals as goal

pub evaluate-holds_under-requires-clause-test : goal.evaluate-holds_under-requires-clause-test
evaluate-holds_under-requires-clause-test t c =
    let can = subst (λ p. AtEach (IsAskable (guards_at c.args.now.now.tables.now)) (plan_of p) c.requires.can.scope) c.in-TestOr.is c.requires.can.can in
    is_test c.args.now.now.tables.now c.in-TestOr.guard (tree_of c.in-TestOr.test.value) c.requires.can.scope can.0.listed can.0.scoped

pub evaluate-returns-then-branch : goal.evaluate-returns-then-branch
evaluate-returns-then-branch t c =
    let m = moment_of c.args.now.now in
    let v = bound_in c.args.v.now in
    let can = subst (λ p. AtEach (IsAskable (guards_at c.args.now.now.tables.now)) (plan_of p) c.requires.can.scope) c.in-TestOr.is c.requires.can.can in
    subst (λ p. TellsOf m v (plan_of p) stored.Met) (sym c.in-TestOr.is)
    (test_met m v c.in-TestOr.node c.in-TestOr.guard (tree_of c.in-TestOr.test.value) (plan_of c.in-TestOr.body.value)
    (λ trace is. (test_is m trace c.in-TestOr.guard (tree_of c.in-TestOr.test.value) c.requires.can.scope can.0.listed can.0.scoped is v c.requires.can.fits.binds
    c.in_ok-holds_under-in-TestOr.field-0 c.in_ok-holds_under-in-TestOr.ensures.evaluated).0 c.if-branch.true))

pub evaluate-rows_under-requires-clause-within : goal.evaluate-rows_under-requires-clause-within
evaluate-rows_under-requires-clause-within t c =
    let can = subst (λ p. AtEach (IsAskable (guards_at c.args.now.now.tables.now)) (plan_of p) c.requires.can.scope) c.in-Guarded.is c.requires.can.can in
    within c.args.now.now.tables.now c.in-Guarded.guard (tree_of c.in-Guarded.test.value) c.requires.can.scope can.0.listed

pub evaluate-rows_under-requires-clause-binds : goal.evaluate-rows_under-requires-clause-binds
evaluate-rows_under-requires-clause-binds t c =
    let can = subst (λ p. AtEach (IsAskable (guards_at c.args.now.now.tables.now)) (plan_of p) c.requires.can.scope) c.in-Guarded.is c.requires.can.can in
    binds_bound c.args.now.now.tables.now c.in-Guarded.guard (tree_of c.in-Guarded.test.value) c.requires.can.scope can.0.listed (bound_in c.args.v.now) c.requires.can.fits.binds

pub evaluate-evaluate_under-requires : goal.evaluate-evaluate_under-requires
evaluate-evaluate_under-requires t c =
    let guards = guards_at c.args.now.now.tables.now in
    let v = bound_in c.args.v.now in
    let can = subst (λ p. AtEach (IsAskable guards) (plan_of p) c.requires.can.scope) c.in-Guarded.is c.requires.can.can in
    let e = c.in_ok-rows-in-Guarded.ensures in (
      search rules,
      (
        λ row there. subst (λ p. CanEvaluatePlan guards (plan_of p) (filled_from_row v c.in_ok-rows-in-Guarded.rows.columns row)) (sym c.deref-in-Guarded.ensures)
            (body_can c.columns_are_variables.ensures (moment_of c.args.now.now) c.in-Guarded.node c.in-Guarded.guard (tree_of c.in-Guarded.test.value) (plan_of c.in-Guarded.body.value)
            c.requires.can.scope c.in-Guarded.vars can.0 v c.requires.can.fits c.in_ok-rows-in-Guarded.rows e.table e.columns e.evaluated guards can.1 row there),
        c.requires.in_time,
      ),
    )

pub evaluate-returns-in_ok-right-in-Either : goal.evaluate-returns-in_ok-right-in-Either
evaluate-returns-in_ok-right-in-Either t c =
    let m = moment_of c.args.now.now in
    let v = bound_in c.args.v.now in
    IfOk-weaker c.any.result _ (TellsOf m v (plan_of c.args.plan.now)) (λ rest one.
    subst (λ p. TellsOf m v (plan_of p) rest) (sym c.in-Either.is)
    (tells_any m (λ (trace : List Step). PlanHoldsAt trace v (plan_of c.in-Either.left.value) m.position) (λ (trace : List Step). PlanHoldsAt trace v (plan_of c.in-Either.right.value) m.position)
    c.in_ok-left-in-Either.left c.in_ok-right-in-Either.right rest
    (subst (λ p. TellsOf m v (plan_of p) c.in_ok-left-in-Either.left) c.deref-in-Either.ensures c.in_ok-left-in-Either.ensures)
    (subst (λ p. TellsOf m v (plan_of p) c.in_ok-right-in-Either.right) c.deref-in-Either-2.ensures c.in_ok-right-in-Either.ensures) one)) c.any.ensures

pub evaluate-returns-else-branch : goal.evaluate-returns-else-branch
evaluate-returns-else-branch t c =
    let m = moment_of c.args.now.now in
    let v = bound_in c.args.v.now in
    let can = subst (λ p. AtEach (IsAskable (guards_at c.args.now.now.tables.now)) (plan_of p) c.requires.can.scope) c.in-TestOr.is c.requires.can.can in
    IfOk-weaker c.evaluate-in-TestOr.result _ (TellsOf m v (plan_of c.args.plan.now)) (λ rest tells.
    subst (λ p. TellsOf m v (plan_of p) rest) (sym c.in-TestOr.is)
    (test_fails m v c.is_classical.ensures c.in-TestOr.node c.in-TestOr.guard (tree_of c.in-TestOr.test.value) (plan_of c.in-TestOr.body.value) rest
    (λ trace is holds. true≢false (sym ((test_is m trace c.in-TestOr.guard (tree_of c.in-TestOr.test.value) c.requires.can.scope can.0.listed can.0.scoped is v c.requires.can.fits.binds
    c.in_ok-holds_under-in-TestOr.field-0 c.in_ok-holds_under-in-TestOr.ensures.evaluated).1 holds) ∙ c.if-branch.false))
    (subst (λ p. TellsOf m v (plan_of p) rest) c.deref-in-TestOr.ensures tells))) c.evaluate-in-TestOr.ensures

pub evaluate-returns-in_ok-rows-in-Guarded : goal.evaluate-returns-in_ok-rows-in-Guarded
evaluate-returns-in_ok-rows-in-Guarded t c =
    let m = moment_of c.args.now.now in
    let v = bound_in c.args.v.now in
    let guards = guards_at c.args.now.now.tables.now in
    let can = subst (λ p. AtEach (IsAskable guards) (plan_of p) c.requires.can.scope) c.in-Guarded.is c.requires.can.can in
    let e = c.in_ok-rows-in-Guarded.ensures in
    let rows = c.in_ok-rows-in-Guarded.rows in
    IfOk-weaker c.evaluate_under.result _ (TellsOf m v (plan_of c.args.plan.now)) (λ rest tells.
    subst (λ p. TellsOf m v (plan_of p) rest) (sym c.in-Guarded.is)
    (tells_as m (λ (trace : List Step). AllByRecursion (λ (row : List Value). PlanHoldsAt trace (filled_from_row v rows.columns row) (plan_of c.in-Guarded.body.value) m.position) rows.rows) _ rest
    (λ trace is. rows_hold c.columns_are_variables.ensures m c.in-Guarded.node c.in-Guarded.guard (tree_of c.in-Guarded.test.value) (plan_of c.in-Guarded.body.value)
    c.requires.can.scope c.in-Guarded.vars can.0 v c.requires.can.fits rows e.table e.columns e.evaluated trace is)
    (subst (λ p. TellsRest m (λ (trace : List Step). AllByRecursion (λ (row : List Value). PlanHoldsAt trace (filled_from_row v rows.columns row) (plan_of p) m.position) rows.rows) rest)
    c.deref-in-Guarded.ensures tells))) c.evaluate_under.ensures

pub evaluate-returns-in_ok-waiting-in-Eventually :
    goal.evaluate-returns-in_ok-waiting-in-Eventually
evaluate-returns-in_ok-waiting-in-Eventually t c =
    let m = moment_of c.args.now.now in
    let v = bound_in c.args.v.now in
    let w = c.in_ok-waiting-in-Eventually.waiting in
    let low = c.in-Eventually.low in
    let high = c.in-Eventually.high in
    let begun = c.in_ok-waiting-in-Eventually.ensures in
    IfOk-weaker c.wake.result _ (TellsOf m v (plan_of c.args.plan.now)) (λ rest tells. ⊎_elim
    (λ k. subst (λ p. TellsOf m v (plan_of p) rest) (sym k.3)
    (eventually_begins m c.is_classical.ensures w v low high k.0 k.1 (plan_of k.2.value) (subst (λ p. IsBegunWaiting m (plan_of p) v low high w) k.3 begun) rest tells))
    (λ others. ⊎_elim
    (λ k. subst (λ p. TellsOf m v (plan_of p) rest) (sym k.3)
    (always_begins m c.is_classical.ensures w v low high k.0 k.1 (plan_of k.2.value) (subst (λ p. IsBegunWaiting m (plan_of p) v low high w) k.3 begun) rest tells))
    (λ k. subst (λ p. TellsOf m v (plan_of p) rest) (sym k.4)
    (until_begins m c.is_classical.ensures w v low high k.0 k.1 (plan_of k.2.value) (plan_of k.3.value) (subst (λ p. IsBegunWaiting m (plan_of p) v low high w) k.4 begun) rest tells))
    others)
    c.in-Eventually.is) c.wake.ensures

pub evaluate_under-loop-row-preserved : goal.evaluate_under-loop-row-preserved
evaluate_under-loop-row-preserved t c =
    let m = moment_of c.args.now.now in
    let v = bound_in c.args.v.now in
    let row = c.row-item.result in
    let all : c.rows-row-items.result.now ≡ c.args.rows.now.rows = c.rows-row-items.ensures.rows in
    let inner : filled_from_row v c.as_slice.result.now c.as_slice-in-loop-row.result.now
    ≡ filled_from_row v c.args.rows.now.columns row = (λ i. filled_from_row v ((c.as_slice.ensures ∙ c.columns.ensures.columns) i) (c.as_slice-in-loop-row.ensures i)) in
    tells_row m (λ (r : List Value) (trace : List Step). PlanHoldsAt trace (filled_from_row v c.args.rows.now.columns r) (plan_of c.args.body.now) m.position) c.args.rows.now.rows
    c.loop-row.row-index row
    (subst (λ (l : List (List Value)). c.loop-row.row-index < length l) all c.loop-row-test.true) (subst (λ l. row ≡ get_or l c.loop-row.row-index row) all c.row-item.is)
    c.loop-row.rest c.in_ok-next.next c.in_ok-rest.rest c.loop-row.invariant
    (subst (λ (u : Valuation). TellsOf m u (plan_of c.args.body.now) c.in_ok-next.next) inner c.in_ok-next.ensures) c.in_ok-rest.ensures

pub wake-returns-then-now-waiting-2 : goal.wake-returns-then-now-waiting-2
wake-returns-then-now-waiting-2 t c =
    eventually_is_early (moment_of c.args.now.now) c.is_classical.ensures c.args.waiting c.requires.can
    c.in-Eventually.node c.in-Eventually.place c.in-Eventually.low c.in-Eventually.high (plan_of c.in-Eventually.body.value) (ap plan_of c.in-Eventually.is) c.if-now-waiting-2.true

pub wake-returns-in-Eventually : goal.wake-returns-in-Eventually
wake-returns-in-Eventually t c =
    let m = moment_of c.args.now.now in
    let w = c.args.waiting in
    let present = c.in_ok-present-in-Eventually.present in
    IfOk-weaker c.any.result _ (TellsRest m (λ (trace : List Step). WaitingAsks trace m.position w)) (λ rest one.
    eventually_wakes m c.is_classical.ensures w c.requires.can
    c.in-Eventually.node c.in-Eventually.place c.in-Eventually.low c.in-Eventually.high (plan_of c.in-Eventually.body.value) (ap plan_of c.in-Eventually.is)
    c.if-now-waiting-2.false c.if-now-waiting.false present rest
    (subst (λ p. TellsOf m w.valuation (plan_of p) present) c.deref.ensures c.in_ok-present-in-Eventually.ensures) one) c.any.ensures

pub wake-returns-then-now-waiting-6 : goal.wake-returns-then-now-waiting-6
wake-returns-then-now-waiting-6 t c =
    let m = moment_of c.args.now.now in
    let w = c.args.waiting in
    let before = c.in_ok-before-in-Until.before in
    IfOk-weaker c.all-then-now-waiting-6.result _ (TellsRest m (λ (trace : List Step). WaitingAsks trace m.position w)) (λ rest both.
    until_is_early m c.is_classical.ensures w c.requires.can
    c.in-Until.node c.in-Until.place c.in-Until.low c.in-Until.high (plan_of c.in-Until.left.value) (plan_of c.in-Until.right.value) (ap plan_of c.in-Until.is)
    c.if-now-waiting-6.true before rest
    (subst (λ p. TellsOf m w.valuation (plan_of p) before) c.deref-in-Until.ensures c.in_ok-before-in-Until.ensures) both) c.all-then-now-waiting-6.ensures

pub wake-returns-in-Until : goal.wake-returns-in-Until
wake-returns-in-Until t c =
    let m = moment_of c.args.now.now in
    let w = c.args.waiting in
    let before = c.in_ok-before-in-Until.before in
    let present = c.in_ok-present-in-Until.present in
    IfOk-weaker c.any-in-Until.result _ (TellsRest m (λ (trace : List Step). WaitingAsks trace m.position w)) (λ rest one.
    until_wakes m c.is_classical.ensures w c.requires.can
    c.in-Until.node c.in-Until.place c.in-Until.low c.in-Until.high (plan_of c.in-Until.left.value) (plan_of c.in-Until.right.value) (ap plan_of c.in-Until.is)
    c.if-now-waiting-6.false c.if-now-waiting-5.false before present c.in_ok-waits-in-Until.waits rest
    (subst (λ p. TellsOf m w.valuation (plan_of p) before) c.deref-in-Until.ensures c.in_ok-before-in-Until.ensures)
    (subst (λ p. TellsOf m w.valuation (plan_of p) present) c.deref-in-Until-2.ensures c.in_ok-present-in-Until.ensures)
    c.in_ok-waits-in-Until.ensures one) c.any-in-Until.ensures
