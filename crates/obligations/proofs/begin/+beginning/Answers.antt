use Rattle.obligations.proofs.Vocabulary.{rules, ◌≡◌, ◌<◌, ◌≤◌, List, [], length, take, refl, ⊎_elim, sym, ap, subst, arith, AllByRecursion, option_copied, option_map, take_all, get_or_from_slice_get}
use Rattle.obligations.proofs.Vocabulary.{on_ok_weaker, Valuation, Value, on_ok_both, tree_of, EndsInTime, nodes, CausePlan, SuppressPlan, Both, Either, UntilPlan, plan_of, bound_in, filled_from_row}
use Rattle.obligations.proofs.Vocabulary.{AddsAsked, TellsNothing, IsSideTaken, TakesSide, CanAskPlan, CanAskIn, guards_now, Begun, Gathers}
use Rattle.std.specs.Prelude.{true, false, None, ◌+◌}
use Rattle.obligations.proofs.AdditionLemmas.{body_can, gathers_one_more}
use Rattle.obligations.proofs.AskablePlanLemmas.{binds_bound, is_test, within}
use Rattle.obligations.proofs.BegunLemmas.{Puts, all_inside, always_at_once, always_later, asked_both, asked_nothing, both_begun, left_smaller, right_smaller, eventually_at_once, eventually_waits}
use Rattle.obligations.proofs.BegunLemmas.{neither_begun, next_begun, rows_begun, side_asked, side_begun, side_inside, side_smaller, test_begins, test_begins_nothing, until_at_once, until_waits}
use Rattle.obligations.proofs.WantedLiteralLemmas.{in_left, in_right}
use Rattle.obligations.proofs.begin.+beginning.Goals.{begin_later-else-low-eq0-via-then-low-eq0+in_ok-misses_nothing-in-Eventually+else-branch, begin_later-else-low-eq0-via-else-low-eq0}
use Rattle.obligations.proofs.begin.+beginning.Goals.{begin_later-else-low-eq0-2-via-then-low-eq0-2+in_ok-misses_nothing-in-Until+else-branch-2, begin_later-else-low-eq0-2-via-else-low-eq0-2}
use Rattle.obligations.proofs.begin.+beginning.Goals as goal

pub begin_behind-begin_behind-requires-in-Both : goal.begin_behind-begin_behind-requires-in-Both
begin_behind-begin_behind-requires-in-Both t c =
    let can = subst (λ p. CanAskIn (guards_now c.args.now.now) (plan_of p) c.requires.asked.scope) c.in-Both.is c.requires.asked.can in
    let smaller : length (nodes (plan_of c.deref-in-Both.result.now)) < length (nodes (plan_of c.args.plan.now)) =
    subst (λ p. length (nodes (plan_of p)) < length (nodes (plan_of c.args.plan.now))) (sym c.deref-in-Both.ensures)
    (subst (λ p. length (nodes (plan_of c.in-Both.right.value)) < length (nodes (plan_of p))) (sym c.in-Both.is)
    (right_smaller (Both c.in-Both.node (plan_of c.in-Both.left.value) (plan_of c.in-Both.right.value)) (plan_of c.in-Both.left.value) (plan_of c.in-Both.right.value))) in (
      omega (arith, smaller),
      (
        subst (λ p. CanAskPlan (guards_now c.args.now.now) (plan_of p) (bound_in c.args.v.now)) (sym c.deref-in-Both.ensures)
            (record { scope = c.requires.asked.scope; can = can.2; fits = c.requires.asked.fits }),
        (
          subst (λ p. AllByRecursion EndsInTime (nodes (plan_of p))) (sym c.deref-in-Both.ensures)
              (all_inside EndsInTime (plan_of c.in-Both.right.value) (Both c.in-Both.node (plan_of c.in-Both.left.value) (plan_of c.in-Both.right.value))
              (in_right (Both c.in-Both.node (plan_of c.in-Both.left.value) (plan_of c.in-Both.right.value)) (plan_of c.in-Both.left.value) (plan_of c.in-Both.right.value))
              (subst (λ p. AllByRecursion EndsInTime (nodes (plan_of p))) c.in-Both.is c.requires.ends)),
          c.requires.in_time,
        ),
      ),
    )

pub begin_behind-begin_behind-requires-in-Some : goal.begin_behind-begin_behind-requires-in-Some
begin_behind-begin_behind-requires-in-Some t c =
    let side = plan_of c.in-Some.side.now in
    let taken : IsSideTaken c.args.now.now (plan_of c.in-Either.left.value) (plan_of c.in-Either.right.value) (bound_in c.args.v.now) side =
    subst (λ p. IsSideTaken c.args.now.now (plan_of p) (plan_of c.in-Either.right.value) (bound_in c.args.v.now) side) c.deref-in-Either.ensures
    (subst (λ p. IsSideTaken c.args.now.now (plan_of c.deref-in-Either.result.now) (plan_of p) (bound_in c.args.v.now) side) c.deref-in-Either-2.ensures
    (subst (λ o. TakesSide c.args.now.now (plan_of c.deref-in-Either.result.now) (plan_of c.deref-in-Either-2.result.now) (bound_in c.args.v.now) (option_map plan_of (option_copied o)))
    c.in-Some.is c.in_ok-side-in-Either.ensures)) in
    let smaller : length (nodes side) < length (nodes (plan_of c.args.plan.now)) =
    subst (λ p. length (nodes side) < length (nodes (plan_of p))) (sym c.in-Either.is)
    (side_smaller c.args.now.now c.args.rule (bound_in c.args.v.now) c.in-Either.node (plan_of c.in-Either.left.value) (plan_of c.in-Either.right.value) side taken.one) in (
      omega (arith, smaller),
      (
        side_asked c.args.now.now c.args.rule (bound_in c.args.v.now) c.in-Either.node (plan_of c.in-Either.left.value) (plan_of c.in-Either.right.value) side taken.one
            (subst (λ p. CanAskPlan (guards_now c.args.now.now) (plan_of p) (bound_in c.args.v.now)) c.in-Either.is c.requires.asked),
        (
          all_inside EndsInTime side (Either c.in-Either.node (plan_of c.in-Either.left.value) (plan_of c.in-Either.right.value))
              (side_inside c.args.now.now c.args.rule (bound_in c.args.v.now) c.in-Either.node (plan_of c.in-Either.left.value) (plan_of c.in-Either.right.value) side taken.one)
              (subst (λ p. AllByRecursion EndsInTime (nodes (plan_of p))) c.in-Either.is c.requires.ends),
          c.requires.in_time,
        ),
      ),
    )

pub begin_behind-holds_under-requires-clause-within : goal.begin_behind-holds_under-requires-clause-within
begin_behind-holds_under-requires-clause-within t c =
    let can = subst (λ p. CanAskIn (guards_now c.args.now.now) (plan_of p) c.requires.asked.scope) c.in-TestOr.is c.requires.asked.can in
    within c.args.now.now c.in-TestOr.guard (tree_of c.in-TestOr.test.value) c.requires.asked.scope can.0.0

pub begin_behind-holds_under-requires-clause-binds : goal.begin_behind-holds_under-requires-clause-binds
begin_behind-holds_under-requires-clause-binds t c =
    let can = subst (λ p. CanAskIn (guards_now c.args.now.now) (plan_of p) c.requires.asked.scope) c.in-TestOr.is c.requires.asked.can in
    binds_bound c.args.now.now c.in-TestOr.guard (tree_of c.in-TestOr.test.value) c.requires.asked.scope can.0.0 (bound_in c.args.v.now) c.requires.asked.fits.binds

pub begin_behind-holds_under-requires-clause-test : goal.begin_behind-holds_under-requires-clause-test
begin_behind-holds_under-requires-clause-test t c =
    let can = subst (λ p. CanAskIn (guards_now c.args.now.now) (plan_of p) c.requires.asked.scope) c.in-TestOr.is c.requires.asked.can in
    is_test c.args.now.now c.in-TestOr.guard (tree_of c.in-TestOr.test.value) c.requires.asked.scope can.0.0 can.0.1

pub begin_behind-returns-then-branch : goal.begin_behind-returns-then-branch
begin_behind-returns-then-branch t c =
    let can = subst (λ p. CanAskIn (guards_now c.args.now.now) (plan_of p) c.requires.asked.scope) c.in-TestOr.is c.requires.asked.can in
    subst (λ p. Puts c.args.now.now c.args.rule (bound_in c.args.v.now) (plan_of p) c.args.into.now.items c.args.into.now.items) (sym c.in-TestOr.is)
    (test_begins_nothing c.args.now.now c.args.rule (bound_in c.args.v.now) c.in-TestOr.guard (tree_of c.in-TestOr.test.value) c.requires.asked.scope can.0.0 c.requires.asked.fits.binds
    can.0.1 c.in_ok-holds_under-in-TestOr.field-0 c.in_ok-holds_under-in-TestOr.ensures.evaluated c.in-TestOr.node (plan_of c.in-TestOr.body.value) c.if-branch.true
    c.args.into.now.items)

pub begin_behind-told_under-requires-clause-within : goal.begin_behind-told_under-requires-clause-within
begin_behind-told_under-requires-clause-within t c =
    let can = subst (λ p. CanAskIn (guards_now c.args.now.now) (plan_of p) c.requires.asked.scope) c.in-Guarded.is c.requires.asked.can in
    within c.args.now.now c.in-Guarded.guard (tree_of c.in-Guarded.test.value) c.requires.asked.scope can.0.0

pub begin_behind-told_under-requires-clause-binds : goal.begin_behind-told_under-requires-clause-binds
begin_behind-told_under-requires-clause-binds t c =
    let can = subst (λ p. CanAskIn (guards_now c.args.now.now) (plan_of p) c.requires.asked.scope) c.in-Guarded.is c.requires.asked.can in
    binds_bound c.args.now.now c.in-Guarded.guard (tree_of c.in-Guarded.test.value) c.requires.asked.scope can.0.0 (bound_in c.args.v.now) c.requires.asked.fits.binds

pub begin_behind-begin_under-requires : goal.begin_behind-begin_under-requires
begin_behind-begin_under-requires t c =
    let can = subst (λ p. CanAskIn (guards_now c.args.now.now) (plan_of p) c.requires.asked.scope) c.in-Guarded.is c.requires.asked.can in
    let e = c.in_ok-rows-in-Guarded.ensures in (
      search rules,
      (
        λ row there. subst (λ p. CanAskPlan (guards_now c.args.now.now) (plan_of p) (filled_from_row (bound_in c.args.v.now) c.in_ok-rows-in-Guarded.rows.columns row))
            (sym c.deref-in-Guarded.ensures)
            (body_can c.args.now.now c.in-Guarded.guard (tree_of c.in-Guarded.test.value) c.requires.asked.scope c.in-Guarded.vars can.0.0 can.0.1 can.0.2 (bound_in c.args.v.now)
            c.requires.asked.fits c.in_ok-rows-in-Guarded.rows e.table e.columns
            (guards_now c.args.now.now) (plan_of c.in-Guarded.body.value) can.1 row there),
        (
          subst (λ p. AllByRecursion EndsInTime (nodes (plan_of p))) (sym c.deref-in-Guarded.ensures) (subst (λ p. AllByRecursion EndsInTime (nodes (plan_of p))) c.in-Guarded.is c.requires.ends).1,
          c.requires.in_time,
        ),
      ),
    )

pub begin_later-returns-then-branch : goal.begin_later-returns-then-branch
begin_later-returns-then-branch t c =
    on_ok_weaker c.begin_behind.result (λ puts.
    subst (λ p. Puts c.args.now.now c.args.rule (bound_in c.args.v.now) (plan_of p) c.args.into.now.items c.begin_behind.new.into.items) (sym c.in-Eventually.is)
    (eventually_at_once c.args.now.now c.args.rule (bound_in c.args.v.now) c.in-Eventually.node c.in-Eventually.place c.in-Eventually.low c.in-Eventually.high
    (plan_of c.in-Eventually.body.value) (omega (arith, c.if-low-eq0.true))
    (subst (λ p. TellsNothing c.args.now.now (plan_of p) (bound_in c.args.v.now) true) c.deref.ensures
    (subst (λ b. TellsNothing c.args.now.now (plan_of c.deref.result.now) (bound_in c.args.v.now) b) c.if-branch.true c.in_ok-misses_nothing-in-Eventually.ensures))
    c.args.into.now.items c.begin_behind.new.into.items (subst (λ p. Puts c.args.now.now c.args.rule (bound_in c.args.v.now) (plan_of p) c.args.into.now.items
    c.begin_behind.new.into.items) c.deref-then-branch.ensures puts)))
    c.begin_behind.ensures

pub begin_later-returns-then-low-gt0 : goal.begin_later-returns-then-low-gt0
begin_later-returns-then-low-gt0 t c =
    subst (λ p. Puts c.args.now.now c.args.rule (bound_in c.args.v.now) (plan_of p) c.args.into.now.items c.push_begun-in-Always.new.into.items) (sym c.in-Always.is)
    (always_later c.args.now.now c.args.rule (bound_in c.args.v.now) c.in-Always.node c.in-Always.place c.in-Always.low c.in-Always.high (plan_of c.in-Always.body.value) c.if-low-gt0.true
    (subst (λ p. CanAskPlan (guards_now c.args.now.now) (plan_of p) (bound_in c.args.v.now)) c.in-Always.is c.requires.asked)
    (subst (λ p. AllByRecursion EndsInTime (nodes (plan_of p))) c.in-Always.is c.requires.ends) c.args.into.now.items c.push_begun-in-Always.new.into.items
    c.in_ok-push_begun-in-Always.ensures)

pub begin_later-begin_behind-requires-then-branch-2 : goal.begin_later-begin_behind-requires-then-branch-2
begin_later-begin_behind-requires-then-branch-2 t c =
    let can = subst (λ p. CanAskIn (guards_now c.args.now.now) (plan_of p) c.requires.asked.scope) c.in-Until.is c.requires.asked.can in
    let smaller : length (nodes (plan_of c.deref-then-branch-2.result.now)) < length (nodes (plan_of c.args.plan.now)) =
    subst (λ p. length (nodes (plan_of p)) < length (nodes (plan_of c.args.plan.now))) (sym c.deref-then-branch-2.ensures)
    (subst (λ p. length (nodes (plan_of c.in-Until.right.value)) < length (nodes (plan_of p))) (sym c.in-Until.is)
    (right_smaller (UntilPlan c.in-Until.node c.in-Until.place c.in-Until.low c.in-Until.high (plan_of c.in-Until.left.value) (plan_of c.in-Until.right.value))
    (plan_of c.in-Until.left.value) (plan_of c.in-Until.right.value))) in (
      omega (arith, smaller),
      (
        subst (λ p. CanAskPlan (guards_now c.args.now.now) (plan_of p) (bound_in c.args.v.now)) (sym c.deref-then-branch-2.ensures)
            (record { scope = c.requires.asked.scope; can = can.2; fits = c.requires.asked.fits }),
        (
          subst (λ p. AllByRecursion EndsInTime (nodes (plan_of p))) (sym c.deref-then-branch-2.ensures)
              (all_inside EndsInTime (plan_of c.in-Until.right.value) (UntilPlan c.in-Until.node c.in-Until.place c.in-Until.low c.in-Until.high (plan_of c.in-Until.left.value)
              (plan_of c.in-Until.right.value)) (in_right (UntilPlan c.in-Until.node c.in-Until.place c.in-Until.low c.in-Until.high (plan_of c.in-Until.left.value)
              (plan_of c.in-Until.right.value)) (plan_of c.in-Until.left.value) (plan_of c.in-Until.right.value))
              (subst (λ p. AllByRecursion EndsInTime (nodes (plan_of p))) c.in-Until.is c.requires.ends)),
          c.requires.in_time,
        ),
      ),
    )

pub begin_later-returns-then-branch-2 : goal.begin_later-returns-then-branch-2
begin_later-returns-then-branch-2 t c =
    on_ok_weaker c.begin_behind-then-branch-2.result (λ puts.
    subst (λ p. Puts c.args.now.now c.args.rule (bound_in c.args.v.now) (plan_of p) c.args.into.now.items c.begin_behind-then-branch-2.new.into.items) (sym c.in-Until.is)
    (until_at_once c.args.now.now c.args.rule (bound_in c.args.v.now) c.in-Until.node c.in-Until.place c.in-Until.low c.in-Until.high (plan_of c.in-Until.left.value)
    (plan_of c.in-Until.right.value) (omega (arith, c.if-low-eq0-2.true))
    (subst (λ p. TellsNothing c.args.now.now (plan_of p) (bound_in c.args.v.now) true) c.deref-then-low-eq0-2.ensures
    (subst (λ b. TellsNothing c.args.now.now (plan_of c.deref-then-low-eq0-2.result.now) (bound_in c.args.v.now) b) c.if-branch-2.true c.in_ok-misses_nothing-in-Until.ensures))
    c.args.into.now.items c.begin_behind-then-branch-2.new.into.items (subst (λ p. Puts c.args.now.now c.args.rule (bound_in c.args.v.now) (plan_of p) c.args.into.now.items
    c.begin_behind-then-branch-2.new.into.items) c.deref-then-branch-2.ensures puts)))
    c.begin_behind-then-branch-2.ensures

pub begin_later-begin_behind-requires-in-Until : goal.begin_later-begin_behind-requires-in-Until
begin_later-begin_behind-requires-in-Until t c =
    let can = subst (λ p. CanAskIn (guards_now c.args.now.now) (plan_of p) c.requires.asked.scope) c.in-Until.is c.requires.asked.can in
    let smaller : length (nodes (plan_of c.deref-in-Until.result.now)) < length (nodes (plan_of c.args.plan.now)) =
    subst (λ p. length (nodes (plan_of p)) < length (nodes (plan_of c.args.plan.now))) (sym c.deref-in-Until.ensures)
    (subst (λ p. length (nodes (plan_of c.in-Until.left.value)) < length (nodes (plan_of p))) (sym c.in-Until.is)
    (left_smaller (UntilPlan c.in-Until.node c.in-Until.place c.in-Until.low c.in-Until.high (plan_of c.in-Until.left.value) (plan_of c.in-Until.right.value))
    (plan_of c.in-Until.left.value) (plan_of c.in-Until.right.value))) in (
      omega (arith, smaller),
      (
        subst (λ p. CanAskPlan (guards_now c.args.now.now) (plan_of p) (bound_in c.args.v.now)) (sym c.deref-in-Until.ensures)
            (record { scope = c.requires.asked.scope; can = can.1; fits = c.requires.asked.fits }),
        (
          subst (λ p. AllByRecursion EndsInTime (nodes (plan_of p))) (sym c.deref-in-Until.ensures)
              (all_inside EndsInTime (plan_of c.in-Until.left.value) (UntilPlan c.in-Until.node c.in-Until.place c.in-Until.low c.in-Until.high (plan_of c.in-Until.left.value)
              (plan_of c.in-Until.right.value)) (in_left (UntilPlan c.in-Until.node c.in-Until.place c.in-Until.low c.in-Until.high (plan_of c.in-Until.left.value)
              (plan_of c.in-Until.right.value)) (plan_of c.in-Until.left.value) (plan_of c.in-Until.right.value))
              (subst (λ p. AllByRecursion EndsInTime (nodes (plan_of p))) c.in-Until.is c.requires.ends)),
          c.requires.in_time,
        ),
      ),
    )

pub begin_behind-returns-in_ok-begin_behind-in-Both : goal.begin_behind-returns-in_ok-begin_behind-in-Both
begin_behind-returns-in_ok-begin_behind-in-Both t c =
    on_ok_weaker c.begin_behind-in-Both.result (λ puts.
    subst (λ p. Puts c.args.now.now c.args.rule (bound_in c.args.v.now) (plan_of p) c.args.into.now.items c.begin_behind-in-Both.new.into.items) (sym c.in-Both.is)
    (both_begun c.args.now.now c.args.rule (bound_in c.args.v.now) c.in-Both.node (plan_of c.in-Both.left.value) (plan_of c.in-Both.right.value) c.args.into.now.items
    c.begin_behind.new.into.items c.begin_behind-in-Both.new.into.items
    (subst (λ p. Puts c.args.now.now c.args.rule (bound_in c.args.v.now) (plan_of p) c.args.into.now.items c.begin_behind.new.into.items) c.deref.ensures c.in_ok-begin_behind-in-Both.ensures)
    (subst (λ p. Puts c.args.now.now c.args.rule (bound_in c.args.v.now) (plan_of p) c.begin_behind.new.into.items c.begin_behind-in-Both.new.into.items) c.deref-in-Both.ensures puts)))
    c.begin_behind-in-Both.ensures

pub begin_behind-returns-in-Some : goal.begin_behind-returns-in-Some
begin_behind-returns-in-Some t c =
    let side = plan_of c.in-Some.side.now in
    let taken : IsSideTaken c.args.now.now (plan_of c.in-Either.left.value) (plan_of c.in-Either.right.value) (bound_in c.args.v.now) side =
    subst (λ p. IsSideTaken c.args.now.now (plan_of p) (plan_of c.in-Either.right.value) (bound_in c.args.v.now) side) c.deref-in-Either.ensures
    (subst (λ p. IsSideTaken c.args.now.now (plan_of c.deref-in-Either.result.now) (plan_of p) (bound_in c.args.v.now) side) c.deref-in-Either-2.ensures
    (subst (λ o. TakesSide c.args.now.now (plan_of c.deref-in-Either.result.now) (plan_of c.deref-in-Either-2.result.now) (bound_in c.args.v.now) (option_map plan_of (option_copied o)))
    c.in-Some.is c.in_ok-side-in-Either.ensures)) in
    on_ok_weaker c.begin_behind-in-Some.result (λ puts.
    subst (λ p. Puts c.args.now.now c.args.rule (bound_in c.args.v.now) (plan_of p) c.args.into.now.items c.begin_behind-in-Some.new.into.items) (sym c.in-Either.is)
    (side_begun c.args.now.now c.args.rule (bound_in c.args.v.now) c.in-Either.node (plan_of c.in-Either.left.value) (plan_of c.in-Either.right.value) side taken c.args.into.now.items
    c.begin_behind-in-Some.new.into.items puts))
    c.begin_behind-in-Some.ensures

pub begin_behind-returns-in-None : goal.begin_behind-returns-in-None
begin_behind-returns-in-None t c =
    subst (λ p. Puts c.args.now.now c.args.rule (bound_in c.args.v.now) (plan_of p) c.args.into.now.items c.args.into.now.items) (sym c.in-Either.is)
    (neither_begun c.args.now.now c.args.rule (bound_in c.args.v.now) c.in-Either.node (plan_of c.in-Either.left.value) (plan_of c.in-Either.right.value)
    (subst (λ p. TakesSide c.args.now.now (plan_of p) (plan_of c.in-Either.right.value) (bound_in c.args.v.now) None) c.deref-in-Either.ensures
    (subst (λ p. TakesSide c.args.now.now (plan_of c.deref-in-Either.result.now) (plan_of p) (bound_in c.args.v.now) None) c.deref-in-Either-2.ensures
    (subst (λ o. TakesSide c.args.now.now (plan_of c.deref-in-Either.result.now) (plan_of c.deref-in-Either-2.result.now) (bound_in c.args.v.now) (option_map plan_of (option_copied o)))
    c.in-None.is c.in_ok-side-in-Either.ensures))) c.args.into.now.items)

pub begin_behind-returns-else-branch : goal.begin_behind-returns-else-branch
begin_behind-returns-else-branch t c =
    let can = subst (λ p. CanAskIn (guards_now c.args.now.now) (plan_of p) c.requires.asked.scope) c.in-TestOr.is c.requires.asked.can in
    on_ok_weaker c.begin_behind-in-TestOr.result (λ puts.
    subst (λ p. Puts c.args.now.now c.args.rule (bound_in c.args.v.now) (plan_of p) c.args.into.now.items c.begin_behind-in-TestOr.new.into.items) (sym c.in-TestOr.is)
    (test_begins c.args.now.now c.args.rule (bound_in c.args.v.now) c.in-TestOr.guard (tree_of c.in-TestOr.test.value) c.requires.asked.scope can.0.0 c.requires.asked.fits.binds can.0.1
    c.in_ok-holds_under-in-TestOr.field-0 c.in_ok-holds_under-in-TestOr.ensures.evaluated c.in-TestOr.node (plan_of c.in-TestOr.body.value) c.if-branch.false c.args.into.now.items
    c.begin_behind-in-TestOr.new.into.items (subst (λ p. Puts c.args.now.now c.args.rule (bound_in c.args.v.now) (plan_of p) c.args.into.now.items
    c.begin_behind-in-TestOr.new.into.items) c.deref-in-TestOr.ensures puts)))
    c.begin_behind-in-TestOr.ensures

pub begin_behind-returns-in_ok-rows-in-Guarded : goal.begin_behind-returns-in_ok-rows-in-Guarded
begin_behind-returns-in_ok-rows-in-Guarded t c =
    let can = subst (λ p. CanAskIn (guards_now c.args.now.now) (plan_of p) c.requires.asked.scope) c.in-Guarded.is c.requires.asked.can in
    let e = c.in_ok-rows-in-Guarded.ensures in
    on_ok_both c.begin_under.result _ _ _ (λ puts none.
    subst (λ p. Puts c.args.now.now c.args.rule (bound_in c.args.v.now) (plan_of p) c.args.into.now.items c.begin_under.new.into.items) (sym c.in-Guarded.is)
    (rows_begun c.args.now.now c.in-Guarded.guard (tree_of c.in-Guarded.test.value) c.requires.asked.scope c.in-Guarded.vars can.0.0 can.0.1 can.0.2 (bound_in c.args.v.now)
    c.requires.asked.fits c.in_ok-rows-in-Guarded.rows e.table e.columns e.evaluated
    c.args.rule c.in-Guarded.node (plan_of c.in-Guarded.body.value) c.args.into.now.items c.begin_under.new.into.items
    (subst (λ p. AddsAsked c.args.now.now c.args.rule (plan_of p) (λ trace. Gathers (λ row. Begun trace c.args.rule (plan_of p)
    (filled_from_row (bound_in c.args.v.now) c.in_ok-rows-in-Guarded.rows.columns row)) c.in_ok-rows-in-Guarded.rows.rows) c.args.into.now.items c.begin_under.new.into.items)
    c.deref-in-Guarded.ensures puts) none))
    c.begin_under.ensures.puts c.begin_under.ensures.none

pub begin_later-returns-else-low-eq0 : goal.begin_later-returns-else-low-eq0
begin_later-returns-else-low-eq0 t c =
    on_ok_weaker c.push_begun.result (λ grown.
    subst (λ p. Puts c.args.now.now c.args.rule (bound_in c.args.v.now) (plan_of p) c.args.into.now.items c.push_begun.new.into.items) (sym c.in-Eventually.is)
    (eventually_waits c.args.now.now c.args.rule (bound_in c.args.v.now) c.in-Eventually.node c.in-Eventually.place c.in-Eventually.low c.in-Eventually.high (plan_of c.in-Eventually.body.value)
    (λ at_once. elim c.else-low-eq0.branch [
      | begin_later-else-low-eq0-via-then-low-eq0+in_ok-misses_nothing-in-Eventually+else-branch w ↦
          (subst (λ p. TellsNothing c.args.now.now (plan_of p) (bound_in c.args.v.now) false) w.deref.ensures
          (subst (λ b. TellsNothing c.args.now.now (plan_of w.deref.result.now) (bound_in c.args.v.now) b) w.if-branch.false w.in_ok-misses_nothing-in-Eventually.ensures))
      | begin_later-else-low-eq0-via-else-low-eq0 w ↦ absurd (omega (arith, at_once, w.if-low-eq0.false))
    ])
    (subst (λ p. CanAskPlan (guards_now c.args.now.now) (plan_of p) (bound_in c.args.v.now)) c.in-Eventually.is c.requires.asked)
    (subst (λ p. AllByRecursion EndsInTime (nodes (plan_of p))) c.in-Eventually.is c.requires.ends) c.args.into.now.items c.push_begun.new.into.items grown))
    c.push_begun.ensures

pub begin_later-returns-else-low-gt0 : goal.begin_later-returns-else-low-gt0
begin_later-returns-else-low-gt0 t c =
    on_ok_weaker c.begin_behind-in-Always.result (λ puts.
    subst (λ p. Puts c.args.now.now c.args.rule (bound_in c.args.v.now) (plan_of p) c.args.into.now.items c.begin_behind-in-Always.new.into.items) (sym c.in-Always.is)
    (always_at_once c.args.now.now c.args.rule (bound_in c.args.v.now) c.in-Always.node c.in-Always.place c.in-Always.low c.in-Always.high (plan_of c.in-Always.body.value)
    (λ later. absurd (omega (arith, later, c.if-low-gt0.false)))
    (subst (λ p. CanAskPlan (guards_now c.args.now.now) (plan_of p) (bound_in c.args.v.now)) c.in-Always.is c.requires.asked)
    (subst (λ p. AllByRecursion EndsInTime (nodes (plan_of p))) c.in-Always.is c.requires.ends) c.args.into.now.items c.push_begun-in-Always.new.into.items
    c.begin_behind-in-Always.new.into.items c.in_ok-push_begun-in-Always.ensures (subst
    (λ p. Puts c.args.now.now c.args.rule (bound_in c.args.v.now) (plan_of p) c.push_begun-in-Always.new.into.items c.begin_behind-in-Always.new.into.items) c.deref-in-Always.ensures
    puts)))
    c.begin_behind-in-Always.ensures

pub begin_later-returns-in_ok-push_begun-in-Until : goal.begin_later-returns-in_ok-push_begun-in-Until
begin_later-returns-in_ok-push_begun-in-Until t c =
    on_ok_weaker c.begin_behind-in-Until.result (λ puts.
    subst (λ p. Puts c.args.now.now c.args.rule (bound_in c.args.v.now) (plan_of p) c.args.into.now.items c.begin_behind-in-Until.new.into.items) (sym c.in-Until.is)
    (until_waits c.args.now.now c.args.rule (bound_in c.args.v.now) c.in-Until.node c.in-Until.place c.in-Until.low c.in-Until.high (plan_of c.in-Until.left.value) (plan_of c.in-Until.right.value)
    (λ at_once. elim c.else-low-eq0-2.branch [
      | begin_later-else-low-eq0-2-via-then-low-eq0-2+in_ok-misses_nothing-in-Until+else-branch-2 w ↦
          (subst (λ p. TellsNothing c.args.now.now (plan_of p) (bound_in c.args.v.now) false) w.deref-then-low-eq0-2.ensures
          (subst (λ b. TellsNothing c.args.now.now (plan_of w.deref-then-low-eq0-2.result.now) (bound_in c.args.v.now) b) w.if-branch-2.false w.in_ok-misses_nothing-in-Until.ensures))
      | begin_later-else-low-eq0-2-via-else-low-eq0-2 w ↦ absurd (omega (arith, at_once, w.if-low-eq0-2.false))
    ])
    (subst (λ p. CanAskPlan (guards_now c.args.now.now) (plan_of p) (bound_in c.args.v.now)) c.in-Until.is c.requires.asked)
    (subst (λ p. AllByRecursion EndsInTime (nodes (plan_of p))) c.in-Until.is c.requires.ends) c.args.into.now.items c.push_begun-in-Until.new.into.items
    c.begin_behind-in-Until.new.into.items c.in_ok-push_begun-in-Until.ensures (subst
    (λ p. Puts c.args.now.now c.args.rule (bound_in c.args.v.now) (plan_of p) c.push_begun-in-Until.new.into.items c.begin_behind-in-Until.new.into.items) c.deref-in-Until.ensures
    puts)))
    c.begin_behind-in-Until.ensures

pub begin_later-returns-in-Next : goal.begin_later-returns-in-Next
begin_later-returns-in-Next t c =
    on_ok_weaker c.push_begun-in-Next.result (λ grown.
    subst (λ p. Puts c.args.now.now c.args.rule (bound_in c.args.v.now) (plan_of p) c.args.into.now.items c.push_begun-in-Next.new.into.items) (sym c.in-Next.is)
    (next_begun c.args.now.now c.args.rule (bound_in c.args.v.now) c.in-Next.node c.in-Next.place c.in-Next.high (plan_of c.in-Next.body.value)
    (subst (λ p. CanAskPlan (guards_now c.args.now.now) (plan_of p) (bound_in c.args.v.now)) c.in-Next.is c.requires.asked)
    (subst (λ p. AllByRecursion EndsInTime (nodes (plan_of p))) c.in-Next.is c.requires.ends) c.args.into.now.items c.push_begun-in-Next.new.into.items grown))
    c.push_begun-in-Next.ensures

pub begin_behind-returns-in-Cause : goal.begin_behind-returns-in-Cause
begin_behind-returns-in-Cause t c =
    ⊎_elim
    (λ k. subst (λ p. Puts c.args.now.now c.args.rule (bound_in c.args.v.now) (plan_of p) c.args.into.now.items c.args.into.now.items) (sym k.4)
    (asked_nothing c.args.now.now c.args.rule (CausePlan k.0 k.1 k.2 k.3) (λ trace. Begun trace c.args.rule (CausePlan k.0 k.1 k.2 k.3) (bound_in c.args.v.now)) c.args.into.now.items
    (λ trace is. refl)))
    (λ k. subst (λ p. Puts c.args.now.now c.args.rule (bound_in c.args.v.now) (plan_of p) c.args.into.now.items c.args.into.now.items) (sym k.4)
    (asked_nothing c.args.now.now c.args.rule (SuppressPlan k.0 k.1 k.2 k.3) (λ trace. Begun trace c.args.rule (SuppressPlan k.0 k.1 k.2 k.3) (bound_in c.args.v.now)) c.args.into.now.items
    (λ trace is. refl)))
    c.in-Cause.is

pub begin_behind-returns-in-Cause-2 : goal.begin_behind-returns-in-Cause-2
begin_behind-returns-in-Cause-2 t c =
    ⊎_elim
    (λ k. subst (λ p. Puts c.args.now.now c.args.rule (bound_in c.args.v.now) (plan_of p) c.args.into.now.items c.args.into.now.items) (sym k.4)
    (asked_nothing c.args.now.now c.args.rule (CausePlan k.0 k.1 k.2 k.3) (λ trace. Begun trace c.args.rule (CausePlan k.0 k.1 k.2 k.3) (bound_in c.args.v.now)) c.args.into.now.items
    (λ trace is. refl)))
    (λ k. subst (λ p. Puts c.args.now.now c.args.rule (bound_in c.args.v.now) (plan_of p) c.args.into.now.items c.args.into.now.items) (sym k.4)
    (asked_nothing c.args.now.now c.args.rule (SuppressPlan k.0 k.1 k.2 k.3) (λ trace. Begun trace c.args.rule (SuppressPlan k.0 k.1 k.2 k.3) (bound_in c.args.v.now)) c.args.into.now.items
    (λ trace is. refl)))
    c.in-Cause.is

pub begin_under-loop-place-init : goal.begin_under-loop-place-init
begin_under-loop-place-init t c = record {
  puts = asked_nothing c.args.now.now c.args.rule (plan_of c.args.body.now) (λ trace. Gathers
      (λ r. Begun trace c.args.rule (plan_of c.args.body.now) (filled_from_row (bound_in c.args.v.now) c.args.rows.now.columns r)) []) c.args.into.now.items (λ trace is. refl);
  none = λ none. refl;
}

pub begin_under-loop-place-preserved : goal.begin_under-loop-place-preserved
begin_under-loop-place-preserved t c =
    let row = c.row.result.now in
    let long : c.len-place-end.result ≡ length c.args.rows.now.rows = c.len-place-end.ensures in
    let inner : filled_from_row (bound_in c.args.v.now) c.columns.result.now row ≡ filled_from_row (bound_in c.args.v.now) c.args.rows.now.columns row =
    (λ i. filled_from_row (bound_in c.args.v.now) (c.columns.ensures i) row) in
    let puts = asked_both c.args.now.now c.args.rule (plan_of c.args.body.now) (plan_of c.args.body.now) (plan_of c.args.body.now) (λ n there. there) (λ end is. is) (λ n there. there) (λ end is. is)
    (λ trace. Gathers (λ r. Begun trace c.args.rule (plan_of c.args.body.now) (filled_from_row (bound_in c.args.v.now) c.args.rows.now.columns r)) (take c.loop-place.place c.args.rows.now.rows))
    (λ trace. Begun trace c.args.rule (plan_of c.args.body.now) (filled_from_row (bound_in c.args.v.now) c.args.rows.now.columns row))
    (λ trace. Gathers (λ r. Begun trace c.args.rule (plan_of c.args.body.now) (filled_from_row (bound_in c.args.v.now) c.args.rows.now.columns r)) (take (c.loop-place.place + 1) c.args.rows.now.rows))
    c.args.into.now.items c.loop-place.into.items c.begin_behind.new.into.items
    (λ trace xs ys before is. gathers_one_more (λ r. Begun trace c.args.rule (plan_of c.args.body.now) (filled_from_row (bound_in c.args.v.now) c.args.rows.now.columns r))
    c.args.rows.now.rows c.loop-place.place row xs ys
    (subst (λ n. c.loop-place.place < n) long c.loop-place-test.true) (sym (get_or_from_slice_get c.args.rows.now.rows c.loop-place.place row row c.row.ensures)) before is)
    c.loop-place.invariant.puts
    (subst (λ (v : Valuation). AddsAsked c.args.now.now c.args.rule (plan_of c.args.body.now) (λ trace. Begun trace c.args.rule (plan_of c.args.body.now) v) c.loop-place.into.items
    c.begin_behind.new.into.items) inner c.in_ok-begin_behind.ensures) in
    let some : c.loop-place.place < length c.args.rows.now.rows = subst (λ n. c.loop-place.place < n) long c.loop-place-test.true in
    record {
      puts = puts;
      none = λ none. let no : length c.args.rows.now.rows ≡ 0 = ap length none in absurd (omega (arith, some, no));
    }

pub begin_under-returns-clause-puts : goal.begin_under-returns-clause-puts
begin_under-returns-clause-puts t c =
    let long : c.len-place-end.result ≡ length c.args.rows.now.rows = c.len-place-end.ensures in
    subst (λ (l : List (List Value)). AddsAsked c.args.now.now c.args.rule (plan_of c.args.body.now)
    (λ trace. Gathers (λ r. Begun trace c.args.rule (plan_of c.args.body.now) (filled_from_row (bound_in c.args.v.now) c.args.rows.now.columns r)) l) c.args.into.now.items
    c.loop-place.into.items)
    (take_all c.loop-place.place c.args.rows.now.rows (subst (λ n. n ≤ c.loop-place.place) long c.loop-place-test.false)) c.loop-place.invariant.puts
