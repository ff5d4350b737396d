use Rattle.obligations.proofs.Vocabulary.{rules, ◌≡◌, ◌<◌, ◌≤◌, List, length, take, inl, inr, sym, subst, arith, take_all, get_or_from_slice_get, on_ok_weaker, there_from_get, Valuation, Value}
use Rattle.obligations.proofs.Vocabulary.{tree_of, CausePlan, SuppressPlan, Both, Either, TestOr, AlwaysPlan, UntilPlan, plan_of, bound_in, filled_from_row, AddsList, AddsOf, TellsNothing, CanAskIn}
use Rattle.obligations.proofs.Vocabulary.{IsWanted, IsWantedUnder, guards_now, Missing, Gathers}
use Rattle.std.specs.Prelude.{true, false, ◌+◌, refl}
use Rattle.obligations.specs.machine.GuardedRows.{IsGuardedBy}
use Rattle.obligations.proofs.AdditionLemmas.{adds_as, adds_both, cause_listed, either_nothing, either_right, gathers_one_more, suppress_listed, test_body, test_nothing, until_left, until_nothing}
use Rattle.obligations.proofs.AskablePlanLemmas.{binds_bound, is_test, within}
use Rattle.obligations.proofs.WantedLiteralLemmas.{adds_found, adds_more, adds_of, cause_wanted, in_body, in_left, in_right, suppress_wanted, wanted_in}
use Rattle.obligations.proofs.missing_all.+listing.Goals.{push_missing-else-low-eq0-via-then-low-eq0+in_ok-misses_nothing-in-Until+else-branch-3, push_missing-else-low-eq0-via-else-low-eq0}
use Rattle.obligations.proofs.missing_all.+listing.Goals as goal

pub push_missing-returns-then-branch-clause-listed : goal.push_missing-returns-then-branch-clause-listed
push_missing-returns-then-branch-clause-listed t c =
    subst (λ p. AddsList c.args.now.now (λ trace. Missing trace (plan_of p) (bound_in c.args.v.now)) c.args.out.now.items c.args.out.now.items) (sym c.in-Either.is)
    (either_nothing c.args.now.now (bound_in c.args.v.now) c.in-Either.node (plan_of c.in-Either.left.value) (plan_of c.in-Either.right.value) c.args.out.now.items
    (subst (λ p. TellsNothing c.args.now.now (plan_of p) (bound_in c.args.v.now) true) c.deref-in-Either.ensures
    (subst (λ b. TellsNothing c.args.now.now (plan_of c.deref-in-Either.result.now) (bound_in c.args.v.now) b) c.if-branch.true c.in_ok-misses_nothing-in-Either.ensures)))

pub push_missing-holds_under-requires-clause-within : goal.push_missing-holds_under-requires-clause-within
push_missing-holds_under-requires-clause-within t c =
    let can = subst (λ p. CanAskIn (guards_now c.args.now.now) (plan_of p) c.requires.scope) c.in-TestOr.is c.requires.can in
    within c.args.now.now c.in-TestOr.guard (tree_of c.in-TestOr.test.value) c.requires.scope can.0.0

pub push_missing-holds_under-requires-clause-binds : goal.push_missing-holds_under-requires-clause-binds
push_missing-holds_under-requires-clause-binds t c =
    let can = subst (λ p. CanAskIn (guards_now c.args.now.now) (plan_of p) c.requires.scope) c.in-TestOr.is c.requires.can in
    binds_bound c.args.now.now c.in-TestOr.guard (tree_of c.in-TestOr.test.value) c.requires.scope can.0.0 (bound_in c.args.v.now) c.requires.fits.binds

pub push_missing-holds_under-requires-clause-test : goal.push_missing-holds_under-requires-clause-test
push_missing-holds_under-requires-clause-test t c =
    let can = subst (λ p. CanAskIn (guards_now c.args.now.now) (plan_of p) c.requires.scope) c.in-TestOr.is c.requires.can in
    is_test c.args.now.now c.in-TestOr.guard (tree_of c.in-TestOr.test.value) c.requires.scope can.0.0 can.0.1

pub push_missing-returns-then-branch-2-clause-listed : goal.push_missing-returns-then-branch-2-clause-listed
push_missing-returns-then-branch-2-clause-listed t c =
    let can = subst (λ p. CanAskIn (guards_now c.args.now.now) (plan_of p) c.requires.scope) c.in-TestOr.is c.requires.can in
    subst (λ p. AddsList c.args.now.now (λ trace. Missing trace (plan_of p) (bound_in c.args.v.now)) c.args.out.now.items c.args.out.now.items) (sym c.in-TestOr.is)
    (test_nothing c.args.now.now (bound_in c.args.v.now) c.in-TestOr.guard (tree_of c.in-TestOr.test.value) c.requires.scope can.0.0 c.requires.fits.binds
    c.in-TestOr.node (plan_of c.in-TestOr.body.value) c.args.out.now.items can.0.1 c.in_ok-holds_under-in-TestOr.field-0 c.in_ok-holds_under-in-TestOr.ensures.evaluated c.if-branch-2.true)

pub push_missing-returns-then-branch-3-clause-listed : goal.push_missing-returns-then-branch-3-clause-listed
push_missing-returns-then-branch-3-clause-listed t c =
    subst (λ p. AddsList c.args.now.now (λ trace. Missing trace (plan_of p) (bound_in c.args.v.now)) c.args.out.now.items c.args.out.now.items) (sym c.in-Until.is)
    (until_nothing c.args.now.now (bound_in c.args.v.now) c.in-Until.node c.in-Until.place c.in-Until.low c.in-Until.high (plan_of c.in-Until.left.value) (plan_of c.in-Until.right.value)
    c.args.out.now.items (omega (arith, c.if-low-eq0.true))
    (subst (λ p. TellsNothing c.args.now.now (plan_of p) (bound_in c.args.v.now) true) c.deref-then-low-eq0.ensures
    (subst (λ b. TellsNothing c.args.now.now (plan_of c.deref-then-low-eq0.result.now) (bound_in c.args.v.now) b) c.if-branch-3.true c.in_ok-misses_nothing-in-Until.ensures)))

pub push_missing-returns-in-Cause-clause-listed : goal.push_missing-returns-in-Cause-clause-listed
push_missing-returns-in-Cause-clause-listed t c =
    on_ok_weaker c.push_cause.result (λ found.
    subst (λ p. AddsList c.args.now.now (λ trace. Missing trace (plan_of p) (bound_in c.args.v.now)) c.args.out.now.items c.push_cause.new.out.items) (sym c.in-Cause.is)
    (cause_listed c.args.now.now (bound_in c.args.v.now) c.in-Cause.node c.in-Cause.place c.in-Cause.name c.in-Cause.terms found.0 c.args.out.now.items c.push_cause.new.out.items found.1 found.2))
    c.push_cause.ensures

pub push_missing-returns-in-Suppress-clause-listed : goal.push_missing-returns-in-Suppress-clause-listed
push_missing-returns-in-Suppress-clause-listed t c =
    on_ok_weaker c.push_suppress.result (λ found.
    subst (λ p. AddsList c.args.now.now (λ trace. Missing trace (plan_of p) (bound_in c.args.v.now)) c.args.out.now.items c.push_suppress.new.out.items) (sym c.in-Suppress.is)
    (suppress_listed c.args.now.now (bound_in c.args.v.now) c.in-Suppress.node c.in-Suppress.place c.in-Suppress.name c.in-Suppress.terms found.0 c.args.out.now.items
    c.push_suppress.new.out.items found.1 found.2))
    c.push_suppress.ensures

pub push_missing-returns-else-branch-clause-listed : goal.push_missing-returns-else-branch-clause-listed
push_missing-returns-else-branch-clause-listed t c =
    on_ok_weaker c.push_missing-in-Either.result (λ adds.
    subst (λ p. AddsList c.args.now.now (λ trace. Missing trace (plan_of p) (bound_in c.args.v.now)) c.args.out.now.items c.push_missing-in-Either.new.out.items) (sym c.in-Either.is)
    (either_right c.args.now.now (bound_in c.args.v.now) c.in-Either.node (plan_of c.in-Either.left.value) (plan_of c.in-Either.right.value) c.args.out.now.items c.push_missing-in-Either.new.out.items
    (subst (λ p. TellsNothing c.args.now.now (plan_of p) (bound_in c.args.v.now) false) c.deref-in-Either.ensures
    (subst (λ b. TellsNothing c.args.now.now (plan_of c.deref-in-Either.result.now) (bound_in c.args.v.now) b) c.if-branch.false c.in_ok-misses_nothing-in-Either.ensures))
    (subst (λ p. AddsList c.args.now.now (λ trace. Missing trace (plan_of p) (bound_in c.args.v.now)) c.args.out.now.items c.push_missing-in-Either.new.out.items) c.deref-in-Either-2.ensures adds)))
    c.push_missing-in-Either.ensures.listed

pub push_missing-returns-else-branch-2-clause-listed : goal.push_missing-returns-else-branch-2-clause-listed
push_missing-returns-else-branch-2-clause-listed t c =
    let can = subst (λ p. CanAskIn (guards_now c.args.now.now) (plan_of p) c.requires.scope) c.in-TestOr.is c.requires.can in
    on_ok_weaker c.push_missing-in-TestOr.result (λ adds.
    subst (λ p. AddsList c.args.now.now (λ trace. Missing trace (plan_of p) (bound_in c.args.v.now)) c.args.out.now.items c.push_missing-in-TestOr.new.out.items) (sym c.in-TestOr.is)
    (test_body c.args.now.now (bound_in c.args.v.now) c.in-TestOr.guard (tree_of c.in-TestOr.test.value) c.requires.scope can.0.0 c.requires.fits.binds
    c.in-TestOr.node (plan_of c.in-TestOr.body.value) c.args.out.now.items c.push_missing-in-TestOr.new.out.items can.0.1 c.in_ok-holds_under-in-TestOr.field-0
    c.in_ok-holds_under-in-TestOr.ensures.evaluated c.if-branch-2.false
    (subst (λ p. AddsList c.args.now.now (λ trace. Missing trace (plan_of p) (bound_in c.args.v.now)) c.args.out.now.items c.push_missing-in-TestOr.new.out.items) c.deref-in-TestOr.ensures adds)))
    c.push_missing-in-TestOr.ensures.listed

pub push_missing-returns-else-low-eq0-clause-listed : goal.push_missing-returns-else-low-eq0-clause-listed
push_missing-returns-else-low-eq0-clause-listed t c =
    on_ok_weaker c.push_missing-in-Until.result (λ adds.
    subst (λ p. AddsList c.args.now.now (λ trace. Missing trace (plan_of p) (bound_in c.args.v.now)) c.args.out.now.items c.push_missing-in-Until.new.out.items) (sym c.in-Until.is)
    (until_left c.args.now.now (bound_in c.args.v.now) c.in-Until.node c.in-Until.place c.in-Until.low c.in-Until.high (plan_of c.in-Until.left.value) (plan_of c.in-Until.right.value)
    c.args.out.now.items c.push_missing-in-Until.new.out.items
    (λ at_once. elim c.else-low-eq0.branch [
      | push_missing-else-low-eq0-via-then-low-eq0+in_ok-misses_nothing-in-Until+else-branch-3 w ↦
          subst (λ p. TellsNothing c.args.now.now (plan_of p) (bound_in c.args.v.now) false) w.deref-then-low-eq0.ensures
          (subst (λ b. TellsNothing c.args.now.now (plan_of w.deref-then-low-eq0.result.now) (bound_in c.args.v.now) b) w.if-branch-3.false w.in_ok-misses_nothing-in-Until.ensures)
      | push_missing-else-low-eq0-via-else-low-eq0 w ↦ absurd (omega (arith, at_once, w.if-low-eq0.false))
    ])
    (subst (λ p. AddsList c.args.now.now (λ trace. Missing trace (plan_of p) (bound_in c.args.v.now)) c.args.out.now.items c.push_missing-in-Until.new.out.items) c.deref-in-Until.ensures adds)))
    c.push_missing-in-Until.ensures.listed

pub push_under-loop-place-preserved : goal.push_under-loop-place-preserved
push_under-loop-place-preserved t c =
    let row = c.row.result.now in
    let long : c.len-place-end.result ≡ length c.args.rows.now.rows = c.len-place-end.ensures in
    let inner : filled_from_row (bound_in c.args.v.now) c.columns.result.now row ≡ filled_from_row (bound_in c.args.v.now) c.args.rows.now.columns row =
    (λ i. filled_from_row (bound_in c.args.v.now) (c.columns.ensures i) row) in (
      adds_both c.args.now.now
          (λ trace. Gathers (λ r. Missing trace (plan_of c.args.body.now) (filled_from_row (bound_in c.args.v.now) c.args.rows.now.columns r)) (take c.loop-place.place c.args.rows.now.rows))
          (λ trace. Missing trace (plan_of c.args.body.now) (filled_from_row (bound_in c.args.v.now) c.args.rows.now.columns row))
          (λ trace. Gathers (λ r. Missing trace (plan_of c.args.body.now) (filled_from_row (bound_in c.args.v.now) c.args.rows.now.columns r)) (take (c.loop-place.place + 1) c.args.rows.now.rows))
          c.args.out.now.items c.loop-place.out.items c.push_missing.new.out.items
          (λ trace xs ys before is. gathers_one_more (λ r. Missing trace (plan_of c.args.body.now) (filled_from_row (bound_in c.args.v.now) c.args.rows.now.columns r))
          c.args.rows.now.rows c.loop-place.place row xs ys
          (subst (λ n. c.loop-place.place < n) long c.loop-place-test.true) (sym (get_or_from_slice_get c.args.rows.now.rows c.loop-place.place row row c.row.ensures)) before is)
          c.loop-place.invariant.0
          (subst (λ (v : Valuation). AddsList c.args.now.now (λ trace. Missing trace (plan_of c.args.body.now) v) c.loop-place.out.items c.push_missing.new.out.items) inner
          c.in_ok-push_missing.ensures.listed),
      adds_more (IsWantedUnder c.args.now.now (plan_of c.args.body.now) (bound_in c.args.v.now) c.args.rows.now) c.args.out.now.items c.loop-place.out.items c.push_missing.new.out.items
          c.loop-place.invariant.1
          (adds_of (IsWanted c.args.now.now (plan_of c.args.body.now) (filled_from_row (bound_in c.args.v.now) c.args.rows.now.columns row))
          (IsWantedUnder c.args.now.now (plan_of c.args.body.now) (bound_in c.args.v.now) c.args.rows.now) c.loop-place.out.items c.push_missing.new.out.items
          (λ l wanted. record { row = row; there = there_from_get c.args.rows.now.rows c.loop-place.place row c.row.ensures; wanted = wanted })
          (subst (λ (v : Valuation). AddsOf (IsWanted c.args.now.now (plan_of c.args.body.now) v) c.loop-place.out.items c.push_missing.new.out.items) inner c.in_ok-push_missing.ensures.wanted)),
    )

pub push_under-returns-clause-listed : goal.push_under-returns-clause-listed
push_under-returns-clause-listed t c =
    let long : c.len-place-end.result ≡ length c.args.rows.now.rows = c.len-place-end.ensures in
    subst (λ (l : List (List Value)). AddsList c.args.now.now (λ trace. Gathers (λ r. Missing trace (plan_of c.args.body.now)
    (filled_from_row (bound_in c.args.v.now) c.args.rows.now.columns r)) l) c.args.out.now.items c.loop-place.out.items)
    (take_all c.loop-place.place c.args.rows.now.rows (subst (λ n. n ≤ c.loop-place.place) long c.loop-place-test.false)) c.loop-place.invariant.0

pub push_missing-returns-in-Cause-clause-wanted : goal.push_missing-returns-in-Cause-clause-wanted
push_missing-returns-in-Cause-clause-wanted t c =
    on_ok_weaker c.push_cause.result (λ found.
    subst (λ p. AddsOf (IsWanted c.args.now.now (plan_of p) (bound_in c.args.v.now)) c.args.out.now.items c.push_cause.new.out.items) (sym c.in-Cause.is)
    (adds_found (IsWanted c.args.now.now (CausePlan c.in-Cause.node c.in-Cause.place c.in-Cause.name c.in-Cause.terms) (bound_in c.args.v.now)) found.0 c.args.out.now.items
    c.push_cause.new.out.items found.2 (cause_wanted c.args.now.now (bound_in c.args.v.now) c.in-Cause.node c.in-Cause.place c.in-Cause.name c.in-Cause.terms found.0 found.1)))
    c.push_cause.ensures

pub push_missing-returns-in-Suppress-clause-wanted : goal.push_missing-returns-in-Suppress-clause-wanted
push_missing-returns-in-Suppress-clause-wanted t c =
    on_ok_weaker c.push_suppress.result (λ found.
    subst (λ p. AddsOf (IsWanted c.args.now.now (plan_of p) (bound_in c.args.v.now)) c.args.out.now.items c.push_suppress.new.out.items) (sym c.in-Suppress.is)
    (adds_found (IsWanted c.args.now.now (SuppressPlan c.in-Suppress.node c.in-Suppress.place c.in-Suppress.name c.in-Suppress.terms) (bound_in c.args.v.now)) found.0 c.args.out.now.items
    c.push_suppress.new.out.items found.2 (suppress_wanted c.args.now.now (bound_in c.args.v.now) c.in-Suppress.node c.in-Suppress.place c.in-Suppress.name c.in-Suppress.terms found.0
    found.1)))
    c.push_suppress.ensures

pub push_missing-returns-else-branch-clause-wanted : goal.push_missing-returns-else-branch-clause-wanted
push_missing-returns-else-branch-clause-wanted t c =
    on_ok_weaker c.push_missing-in-Either.result (λ adds.
    subst (λ p. AddsOf (IsWanted c.args.now.now (plan_of p) (bound_in c.args.v.now)) c.args.out.now.items c.push_missing-in-Either.new.out.items) (sym c.in-Either.is)
    (adds_of (IsWanted c.args.now.now (plan_of c.in-Either.right.value) (bound_in c.args.v.now))
    (IsWanted c.args.now.now (Either c.in-Either.node (plan_of c.in-Either.left.value) (plan_of c.in-Either.right.value)) (bound_in c.args.v.now)) c.args.out.now.items
    c.push_missing-in-Either.new.out.items (wanted_in c.args.now.now (plan_of c.in-Either.right.value)
    (Either c.in-Either.node (plan_of c.in-Either.left.value) (plan_of c.in-Either.right.value)) (bound_in c.args.v.now)
    (in_right (Either c.in-Either.node (plan_of c.in-Either.left.value) (plan_of c.in-Either.right.value)) (plan_of c.in-Either.left.value) (plan_of c.in-Either.right.value))
    (λ leaf is. inr (inr is)))
    (subst (λ p. AddsOf (IsWanted c.args.now.now (plan_of p) (bound_in c.args.v.now)) c.args.out.now.items c.push_missing-in-Either.new.out.items) c.deref-in-Either-2.ensures adds)))
    c.push_missing-in-Either.ensures.wanted

pub push_missing-returns-else-branch-2-clause-wanted : goal.push_missing-returns-else-branch-2-clause-wanted
push_missing-returns-else-branch-2-clause-wanted t c =
    on_ok_weaker c.push_missing-in-TestOr.result (λ adds.
    subst (λ p. AddsOf (IsWanted c.args.now.now (plan_of p) (bound_in c.args.v.now)) c.args.out.now.items c.push_missing-in-TestOr.new.out.items) (sym c.in-TestOr.is)
    (adds_of (IsWanted c.args.now.now (plan_of c.in-TestOr.body.value) (bound_in c.args.v.now))
    (IsWanted c.args.now.now (TestOr c.in-TestOr.node c.in-TestOr.guard (tree_of c.in-TestOr.test.value) (plan_of c.in-TestOr.body.value)) (bound_in c.args.v.now)) c.args.out.now.items
    c.push_missing-in-TestOr.new.out.items (wanted_in c.args.now.now (plan_of c.in-TestOr.body.value)
    (TestOr c.in-TestOr.node c.in-TestOr.guard (tree_of c.in-TestOr.test.value) (plan_of c.in-TestOr.body.value)) (bound_in c.args.v.now)
    (in_body (TestOr c.in-TestOr.node c.in-TestOr.guard (tree_of c.in-TestOr.test.value) (plan_of c.in-TestOr.body.value)) (plan_of c.in-TestOr.body.value)) (λ leaf is. inr is))
    (subst (λ p. AddsOf (IsWanted c.args.now.now (plan_of p) (bound_in c.args.v.now)) c.args.out.now.items c.push_missing-in-TestOr.new.out.items) c.deref-in-TestOr.ensures adds)))
    c.push_missing-in-TestOr.ensures.wanted

pub push_missing-returns-else-low-gt0-clause-wanted : goal.push_missing-returns-else-low-gt0-clause-wanted
push_missing-returns-else-low-gt0-clause-wanted t c =
    on_ok_weaker c.push_missing-in-Always.result (λ adds.
    subst (λ p. AddsOf (IsWanted c.args.now.now (plan_of p) (bound_in c.args.v.now)) c.args.out.now.items c.push_missing-in-Always.new.out.items) (sym c.in-Always.is)
    (adds_of (IsWanted c.args.now.now (plan_of c.in-Always.body.value) (bound_in c.args.v.now))
    (IsWanted c.args.now.now (AlwaysPlan c.in-Always.node c.in-Always.place c.in-Always.low c.in-Always.high (plan_of c.in-Always.body.value)) (bound_in c.args.v.now))
    c.args.out.now.items c.push_missing-in-Always.new.out.items (wanted_in c.args.now.now (plan_of c.in-Always.body.value)
    (AlwaysPlan c.in-Always.node c.in-Always.place c.in-Always.low c.in-Always.high (plan_of c.in-Always.body.value)) (bound_in c.args.v.now)
    (in_body (AlwaysPlan c.in-Always.node c.in-Always.place c.in-Always.low c.in-Always.high (plan_of c.in-Always.body.value)) (plan_of c.in-Always.body.value)) (λ leaf is. inr is))
    (subst (λ p. AddsOf (IsWanted c.args.now.now (plan_of p) (bound_in c.args.v.now)) c.args.out.now.items c.push_missing-in-Always.new.out.items) c.deref-in-Always.ensures adds)))
    c.push_missing-in-Always.ensures.wanted

pub push_missing-returns-else-low-eq0-clause-wanted : goal.push_missing-returns-else-low-eq0-clause-wanted
push_missing-returns-else-low-eq0-clause-wanted t c =
    on_ok_weaker c.push_missing-in-Until.result (λ adds.
    subst (λ p. AddsOf (IsWanted c.args.now.now (plan_of p) (bound_in c.args.v.now)) c.args.out.now.items c.push_missing-in-Until.new.out.items) (sym c.in-Until.is)
    (adds_of (IsWanted c.args.now.now (plan_of c.in-Until.left.value) (bound_in c.args.v.now))
    (IsWanted c.args.now.now (UntilPlan c.in-Until.node c.in-Until.place c.in-Until.low c.in-Until.high (plan_of c.in-Until.left.value) (plan_of c.in-Until.right.value))
    (bound_in c.args.v.now)) c.args.out.now.items c.push_missing-in-Until.new.out.items
    (wanted_in c.args.now.now (plan_of c.in-Until.left.value) (UntilPlan c.in-Until.node c.in-Until.place c.in-Until.low c.in-Until.high (plan_of c.in-Until.left.value)
    (plan_of c.in-Until.right.value)) (bound_in c.args.v.now) (in_left (UntilPlan c.in-Until.node c.in-Until.place c.in-Until.low c.in-Until.high (plan_of c.in-Until.left.value)
    (plan_of c.in-Until.right.value)) (plan_of c.in-Until.left.value) (plan_of c.in-Until.right.value)) (λ leaf is. inr (inl is)))
    (subst (λ p. AddsOf (IsWanted c.args.now.now (plan_of p) (bound_in c.args.v.now)) c.args.out.now.items c.push_missing-in-Until.new.out.items) c.deref-in-Until.ensures adds)))
    c.push_missing-in-Until.ensures.wanted

pub push_under-returns-clause-wanted : goal.push_under-returns-clause-wanted
push_under-returns-clause-wanted t c = c.loop-place.invariant.1

pub push_missing-returns-in_ok-push_missing-in-Both-clause-wanted : goal.push_missing-returns-in_ok-push_missing-in-Both-clause-wanted
push_missing-returns-in_ok-push_missing-in-Both-clause-wanted t c =
    on_ok_weaker c.push_missing-in-Both.result (λ adds.
    subst (λ p. AddsOf (IsWanted c.args.now.now (plan_of p) (bound_in c.args.v.now)) c.args.out.now.items c.push_missing-in-Both.new.out.items) (sym c.in-Both.is)
    (adds_more (IsWanted c.args.now.now (Both c.in-Both.node (plan_of c.in-Both.left.value) (plan_of c.in-Both.right.value)) (bound_in c.args.v.now)) c.args.out.now.items
    c.push_missing.new.out.items c.push_missing-in-Both.new.out.items
    (adds_of (IsWanted c.args.now.now (plan_of c.in-Both.left.value) (bound_in c.args.v.now))
    (IsWanted c.args.now.now (Both c.in-Both.node (plan_of c.in-Both.left.value) (plan_of c.in-Both.right.value)) (bound_in c.args.v.now)) c.args.out.now.items
    c.push_missing.new.out.items (wanted_in c.args.now.now (plan_of c.in-Both.left.value) (Both c.in-Both.node (plan_of c.in-Both.left.value) (plan_of c.in-Both.right.value))
    (bound_in c.args.v.now) (in_left (Both c.in-Both.node (plan_of c.in-Both.left.value) (plan_of c.in-Both.right.value)) (plan_of c.in-Both.left.value) (plan_of c.in-Both.right.value))
    (λ leaf is. inr (inl is)))
    (subst (λ p. AddsOf (IsWanted c.args.now.now (plan_of p) (bound_in c.args.v.now)) c.args.out.now.items c.push_missing.new.out.items) c.deref.ensures c.in_ok-push_missing-in-Both.ensures.wanted))
    (adds_of (IsWanted c.args.now.now (plan_of c.in-Both.right.value) (bound_in c.args.v.now))
    (IsWanted c.args.now.now (Both c.in-Both.node (plan_of c.in-Both.left.value) (plan_of c.in-Both.right.value)) (bound_in c.args.v.now)) c.push_missing.new.out.items
    c.push_missing-in-Both.new.out.items (wanted_in c.args.now.now (plan_of c.in-Both.right.value) (Both c.in-Both.node (plan_of c.in-Both.left.value) (plan_of c.in-Both.right.value))
    (bound_in c.args.v.now) (in_right (Both c.in-Both.node (plan_of c.in-Both.left.value) (plan_of c.in-Both.right.value)) (plan_of c.in-Both.left.value)
    (plan_of c.in-Both.right.value)) (λ leaf is. inr (inr is)))
    (subst (λ p. AddsOf (IsWanted c.args.now.now (plan_of p) (bound_in c.args.v.now)) c.push_missing.new.out.items c.push_missing-in-Both.new.out.items) c.deref-in-Both.ensures adds))))
    c.push_missing-in-Both.ensures.wanted

-- ---- below a guard

pub push_missing-rows_to_ask-requires : goal.push_missing-rows_to_ask-requires
push_missing-rows_to_ask-requires t c =
    let is : IsGuardedBy c.args.now.now c.in-Guarded.guard (tree_of c.deref-in-Guarded.result.now) c.in-Guarded.vars (plan_of c.deref-in-Guarded-2.result.now) (bound_in c.args.v.now) (plan_of c.args.plan.now) =
    record {
      node = c.in-Guarded.node;
      is = rw (c.in-Guarded.is, c.deref-in-Guarded.ensures, c.deref-in-Guarded-2.ensures) refl;
      can = c.requires;
    } in
    (plan_of c.args.plan.now, is)

pub push_missing-push_under-requires : goal.push_missing-push_under-requires
push_missing-push_under-requires t c =
    let is : IsGuardedBy c.args.now.now c.in-Guarded.guard (tree_of c.deref-in-Guarded.result.now) c.in-Guarded.vars (plan_of c.deref-in-Guarded-2.result.now) (bound_in c.args.v.now) (plan_of c.args.plan.now) =
    record {
      node = c.in-Guarded.node;
      is = rw (c.in-Guarded.is, c.deref-in-Guarded.ensures, c.deref-in-Guarded-2.ensures) refl;
      can = c.requires;
    } in
    (search rules, rw (c.deref-in-Guarded-3.ensures, ← c.deref-in-Guarded-2.ensures) (c.in_ok-rows-in-Guarded.ensures (plan_of c.args.plan.now) is).asked)

pub push_missing-returns-in_ok-rows-in-Guarded-clause-listed : goal.push_missing-returns-in_ok-rows-in-Guarded-clause-listed
push_missing-returns-in_ok-rows-in-Guarded-clause-listed t c =
    let is : IsGuardedBy c.args.now.now c.in-Guarded.guard (tree_of c.deref-in-Guarded.result.now) c.in-Guarded.vars (plan_of c.deref-in-Guarded-2.result.now) (bound_in c.args.v.now) (plan_of c.args.plan.now) =
    record {
      node = c.in-Guarded.node;
      is = rw (c.in-Guarded.is, c.deref-in-Guarded.ensures, c.deref-in-Guarded-2.ensures) refl;
      can = c.requires;
    } in
    let now = c.args.now.now in
    let v = bound_in c.args.v.now in
    let rows = c.in_ok-rows-in-Guarded.rows in
    on_ok_weaker c.push_under.result
    (adds_as now (λ trace. Gathers (λ row. Missing trace (plan_of c.deref-in-Guarded-3.result.now) (filled_from_row v rows.columns row)) rows.rows)
    (λ trace. Missing trace (plan_of c.args.plan.now) v) c.args.out.now.items c.push_under.new.out.items
    (rw (c.deref-in-Guarded-3.ensures, ← c.deref-in-Guarded-2.ensures) (c.in_ok-rows-in-Guarded.ensures (plan_of c.args.plan.now) is).missed))
    c.push_under.ensures.listed

pub push_missing-returns-in_ok-rows-in-Guarded-clause-wanted : goal.push_missing-returns-in_ok-rows-in-Guarded-clause-wanted
push_missing-returns-in_ok-rows-in-Guarded-clause-wanted t c =
    let is : IsGuardedBy c.args.now.now c.in-Guarded.guard (tree_of c.deref-in-Guarded.result.now) c.in-Guarded.vars (plan_of c.deref-in-Guarded-2.result.now) (bound_in c.args.v.now) (plan_of c.args.plan.now) =
    record {
      node = c.in-Guarded.node;
      is = rw (c.in-Guarded.is, c.deref-in-Guarded.ensures, c.deref-in-Guarded-2.ensures) refl;
      can = c.requires;
    } in
    let now = c.args.now.now in
    let v = bound_in c.args.v.now in
    let rows = c.in_ok-rows-in-Guarded.rows in
    on_ok_weaker c.push_under.result
    (adds_of (IsWantedUnder now (plan_of c.deref-in-Guarded-3.result.now) v rows) (IsWanted now (plan_of c.args.plan.now) v) c.args.out.now.items c.push_under.new.out.items
    (rw (c.deref-in-Guarded-3.ensures, ← c.deref-in-Guarded-2.ensures) (c.in_ok-rows-in-Guarded.ensures (plan_of c.args.plan.now) is).wanted))
    c.push_under.ensures.wanted
