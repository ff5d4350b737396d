use Rattle.obligations.proofs.Vocabulary.{IfSome, not, rules, ◌≡◌, ◌<◌, ◌≤◌, List, [], length, inl, inr, sym, subst, arith, take_all, get_or_from_slice_get, IfOk-weaker, Value, tree_of, Both, Either}
use Rattle.obligations.proofs.Vocabulary.{TestOr, AlwaysPlan, UntilPlan, plan_of, bound_in, filled_from_row, TellsNothing, CanAskIn, IsWanted, IsWantedUnder, guards_now, Missing, Gathers, FirstOf, IsNowOf, Literal, Step}
use Rattle.std.specs.Prelude.{None, Some, false, refl}
use Rattle.obligations.specs.machine.GuardedRows.{IsGuardedBy}
use Rattle.obligations.proofs.AdditionLemmas.{gathers_one_more}
use Rattle.obligations.proofs.AskablePlanLemmas.{is_test, leaf_binds}
use Rattle.obligations.proofs.FirstMissingLemmas.{First, cause_first, first_as, cause_tells, either_first, gathers_first, left_first, right_first, suppress_first, suppress_tells, test_first}
use Rattle.obligations.proofs.FirstMissingLemmas.{test_none, until_first}
use Rattle.obligations.proofs.WantedLiteralLemmas.{cause_wanted, if_some, in_body, in_left, in_right, suppress_wanted, wanted_in}
use Rattle.obligations.proofs.missing_first.+finding.Goals.{find_missing-else-low-eq0-via-then-low-eq0+in_ok-misses_nothing-in-Until+else-branch-3, find_missing-else-low-eq0-via-else-low-eq0}
use Rattle.obligations.proofs.missing_first.+finding.Goals as goal

pub find_missing-holds_under-requires-clause-test : goal.find_missing-holds_under-requires-clause-test
find_missing-holds_under-requires-clause-test t c =
    let can = subst (λ p. CanAskIn (guards_now c.args.now.now) (plan_of p) c.requires.scope) c.in-TestOr.is c.requires.can in
    is_test c.args.now.now c.in-TestOr.guard (tree_of c.in-TestOr.test.value) c.requires.scope can.0.0 can.0.1

pub find_missing-returns-then-branch-2-clause-first : goal.find_missing-returns-then-branch-2-clause-first
find_missing-returns-then-branch-2-clause-first t c =
    let can = subst (λ p. CanAskIn (guards_now c.args.now.now) (plan_of p) c.requires.scope) c.in-TestOr.is c.requires.can in
    subst (λ p. First c.args.now.now (bound_in c.args.v.now) (plan_of p) None) (sym c.in-TestOr.is)
    (test_none c.args.now.now (bound_in c.args.v.now) c.in-TestOr.guard (tree_of c.in-TestOr.test.value) c.requires.scope can.0.0 c.requires.fits.binds c.in-TestOr.node
    (plan_of c.in-TestOr.body.value) can.0.1 c.in_ok-holds_under-in-TestOr.field-0 c.in_ok-holds_under-in-TestOr.ensures.evaluated c.if-branch-2.true)

pub find_missing-returns-in-Cause-clause-first : goal.find_missing-returns-in-Cause-clause-first
find_missing-returns-in-Cause-clause-first t c =
    IfOk-weaker c.cause_missing.result _ (First c.args.now.now (bound_in c.args.v.now) (plan_of c.args.plan.now)) (λ found missing.
    subst (λ p. First c.args.now.now (bound_in c.args.v.now) (plan_of p) found) (sym c.in-Cause.is)
    (cause_first c.args.now.now (bound_in c.args.v.now) c.in-Cause.node c.in-Cause.place c.in-Cause.name c.in-Cause.terms found missing)) c.cause_missing.ensures

pub find_missing-returns-in-Cause-clause-wanted : goal.find_missing-returns-in-Cause-clause-wanted
find_missing-returns-in-Cause-clause-wanted t c =
    IfOk-weaker c.cause_missing.result _ (λ found. IfSome found (IsWanted c.args.now.now (plan_of c.args.plan.now) (bound_in c.args.v.now))) (λ found missing.
    subst (λ p. IfSome found (IsWanted c.args.now.now (plan_of p) (bound_in c.args.v.now))) (sym c.in-Cause.is)
    (cause_wanted c.args.now.now (bound_in c.args.v.now) c.in-Cause.node c.in-Cause.place c.in-Cause.name c.in-Cause.terms found missing)) c.cause_missing.ensures

pub find_missing-returns-in-Suppress-clause-first : goal.find_missing-returns-in-Suppress-clause-first
find_missing-returns-in-Suppress-clause-first t c =
    IfOk-weaker c.suppress_missing.result _ (First c.args.now.now (bound_in c.args.v.now) (plan_of c.args.plan.now)) (λ found missing.
    subst (λ p. First c.args.now.now (bound_in c.args.v.now) (plan_of p) found) (sym c.in-Suppress.is)
    (suppress_first c.args.now.now (bound_in c.args.v.now) c.in-Suppress.node c.in-Suppress.place c.in-Suppress.name c.in-Suppress.terms found missing)) c.suppress_missing.ensures

pub find_missing-returns-in-Suppress-clause-wanted : goal.find_missing-returns-in-Suppress-clause-wanted
find_missing-returns-in-Suppress-clause-wanted t c =
    IfOk-weaker c.suppress_missing.result _ (λ found. IfSome found (IsWanted c.args.now.now (plan_of c.args.plan.now) (bound_in c.args.v.now))) (λ found missing.
    subst (λ p. IfSome found (IsWanted c.args.now.now (plan_of p) (bound_in c.args.v.now))) (sym c.in-Suppress.is)
    (suppress_wanted c.args.now.now (bound_in c.args.v.now) c.in-Suppress.node c.in-Suppress.place c.in-Suppress.name c.in-Suppress.terms found missing)) c.suppress_missing.ensures

pub find_missing-returns-in-Some-clause-first : goal.find_missing-returns-in-Some-clause-first
find_missing-returns-in-Some-clause-first t c =
    let can = subst (λ p. CanAskIn (guards_now c.args.now.now) (plan_of p) c.requires.scope) c.in-Both.is c.requires.can in
    let first = subst (λ p. First c.args.now.now (bound_in c.args.v.now) (plan_of p) (Some c.in-Some.literal)) c.deref.ensures
    (subst (First c.args.now.now (bound_in c.args.v.now) (plan_of c.deref.result.now)) c.in-Some.is c.in_ok-literal-in-Both.ensures.first) in
    subst (λ p. First c.args.now.now (bound_in c.args.v.now) (plan_of p) (Some c.in-Some.literal)) (sym c.in-Both.is)
    (left_first c.args.now.now (bound_in c.args.v.now) c.missing_exists.ensures.missing (guards_now c.args.now.now) c.in-Both.node (plan_of c.in-Both.left.value)
    (plan_of c.in-Both.right.value) (record { scope = c.requires.scope; can = can.2; fits = c.requires.fits }) c.in-Some.literal first)

pub find_missing-returns-in-Some-clause-wanted : goal.find_missing-returns-in-Some-clause-wanted
find_missing-returns-in-Some-clause-wanted t c =
    let wanted = subst (λ p. IsWanted c.args.now.now (plan_of p) (bound_in c.args.v.now) c.in-Some.literal) c.deref.ensures
    (subst (λ found. IfSome found (IsWanted c.args.now.now (plan_of c.deref.result.now) (bound_in c.args.v.now))) c.in-Some.is c.in_ok-literal-in-Both.ensures.wanted) in
    subst (λ p. IsWanted c.args.now.now (plan_of p) (bound_in c.args.v.now) c.in-Some.literal) (sym c.in-Both.is)
    (wanted_in c.args.now.now (plan_of c.in-Both.left.value) (Both c.in-Both.node (plan_of c.in-Both.left.value) (plan_of c.in-Both.right.value)) (bound_in c.args.v.now)
    (in_left (Both c.in-Both.node (plan_of c.in-Both.left.value) (plan_of c.in-Both.right.value)) (plan_of c.in-Both.left.value) (plan_of c.in-Both.right.value))
    (λ leaf is. inr (inl is)) c.in-Some.literal wanted)

pub find_missing-returns-in-None-clause-first : goal.find_missing-returns-in-None-clause-first
find_missing-returns-in-None-clause-first t c =
    let nothing = subst (λ p. First c.args.now.now (bound_in c.args.v.now) (plan_of p) None) c.deref.ensures
    (subst (First c.args.now.now (bound_in c.args.v.now) (plan_of c.deref.result.now)) c.in-None.is c.in_ok-literal-in-Both.ensures.first) in
    IfOk-weaker c.find_missing-in-None.result _ (First c.args.now.now (bound_in c.args.v.now) (plan_of c.args.plan.now)) (λ found first.
    subst (λ p. First c.args.now.now (bound_in c.args.v.now) (plan_of p) found) (sym c.in-Both.is)
    (right_first c.args.now.now (bound_in c.args.v.now) c.in-Both.node (plan_of c.in-Both.left.value) (plan_of c.in-Both.right.value) found nothing
    (subst (λ p. First c.args.now.now (bound_in c.args.v.now) (plan_of p) found) c.deref-in-None.ensures first))) c.find_missing-in-None.ensures.first

pub find_missing-returns-in-None-clause-wanted : goal.find_missing-returns-in-None-clause-wanted
find_missing-returns-in-None-clause-wanted t c =
    IfOk-weaker c.find_missing-in-None.result _ (λ found. IfSome found (IsWanted c.args.now.now (plan_of c.args.plan.now) (bound_in c.args.v.now))) (λ found wanted.
    subst (λ p. IfSome found (IsWanted c.args.now.now (plan_of p) (bound_in c.args.v.now))) (sym c.in-Both.is)
    (if_some found (IsWanted c.args.now.now (plan_of c.in-Both.right.value) (bound_in c.args.v.now))
    (IsWanted c.args.now.now (Both c.in-Both.node (plan_of c.in-Both.left.value) (plan_of c.in-Both.right.value)) (bound_in c.args.v.now))
    (wanted_in c.args.now.now (plan_of c.in-Both.right.value) (Both c.in-Both.node (plan_of c.in-Both.left.value) (plan_of c.in-Both.right.value)) (bound_in c.args.v.now)
    (in_right (Both c.in-Both.node (plan_of c.in-Both.left.value) (plan_of c.in-Both.right.value)) (plan_of c.in-Both.left.value) (plan_of c.in-Both.right.value))
    (λ leaf is. inr (inr is)))
    (subst (λ p. IfSome found (IsWanted c.args.now.now (plan_of p) (bound_in c.args.v.now))) c.deref-in-None.ensures wanted))) c.find_missing-in-None.ensures.wanted

pub find_missing-returns-else-branch-clause-first : goal.find_missing-returns-else-branch-clause-first
find_missing-returns-else-branch-clause-first t c =
    IfOk-weaker c.find_missing-in-Either.result _ (First c.args.now.now (bound_in c.args.v.now) (plan_of c.args.plan.now)) (λ found first.
    subst (λ p. First c.args.now.now (bound_in c.args.v.now) (plan_of p) found) (sym c.in-Either.is)
    (either_first c.args.now.now (bound_in c.args.v.now) c.in-Either.node (plan_of c.in-Either.left.value) (plan_of c.in-Either.right.value) found
    (subst (λ p. TellsNothing c.args.now.now (plan_of p) (bound_in c.args.v.now) false) c.deref-in-Either.ensures
    (subst (λ b. TellsNothing c.args.now.now (plan_of c.deref-in-Either.result.now) (bound_in c.args.v.now) b) c.if-branch.false c.in_ok-misses_nothing-in-Either.ensures))
    (subst (λ p. First c.args.now.now (bound_in c.args.v.now) (plan_of p) found) c.deref-in-Either-2.ensures first))) c.find_missing-in-Either.ensures.first

pub find_missing-returns-else-branch-clause-wanted : goal.find_missing-returns-else-branch-clause-wanted
find_missing-returns-else-branch-clause-wanted t c =
    IfOk-weaker c.find_missing-in-Either.result _ (λ found. IfSome found (IsWanted c.args.now.now (plan_of c.args.plan.now) (bound_in c.args.v.now))) (λ found wanted.
    subst (λ p. IfSome found (IsWanted c.args.now.now (plan_of p) (bound_in c.args.v.now))) (sym c.in-Either.is)
    (if_some found (IsWanted c.args.now.now (plan_of c.in-Either.right.value) (bound_in c.args.v.now))
    (IsWanted c.args.now.now (Either c.in-Either.node (plan_of c.in-Either.left.value) (plan_of c.in-Either.right.value)) (bound_in c.args.v.now))
    (wanted_in c.args.now.now (plan_of c.in-Either.right.value) (Either c.in-Either.node (plan_of c.in-Either.left.value) (plan_of c.in-Either.right.value)) (bound_in c.args.v.now)
    (in_right (Either c.in-Either.node (plan_of c.in-Either.left.value) (plan_of c.in-Either.right.value)) (plan_of c.in-Either.left.value) (plan_of c.in-Either.right.value))
    (λ leaf is. inr (inr is)))
    (subst (λ p. IfSome found (IsWanted c.args.now.now (plan_of p) (bound_in c.args.v.now))) c.deref-in-Either-2.ensures wanted))) c.find_missing-in-Either.ensures.wanted

pub find_missing-returns-else-branch-2-clause-first : goal.find_missing-returns-else-branch-2-clause-first
find_missing-returns-else-branch-2-clause-first t c =
    let can = subst (λ p. CanAskIn (guards_now c.args.now.now) (plan_of p) c.requires.scope) c.in-TestOr.is c.requires.can in
    IfOk-weaker c.find_missing-in-TestOr.result _ (First c.args.now.now (bound_in c.args.v.now) (plan_of c.args.plan.now)) (λ found first.
    subst (λ p. First c.args.now.now (bound_in c.args.v.now) (plan_of p) found) (sym c.in-TestOr.is)
    (test_first c.args.now.now (bound_in c.args.v.now) c.in-TestOr.guard (tree_of c.in-TestOr.test.value) c.requires.scope can.0.0 c.requires.fits.binds c.in-TestOr.node
    (plan_of c.in-TestOr.body.value) found can.0.1 c.in_ok-holds_under-in-TestOr.field-0 c.in_ok-holds_under-in-TestOr.ensures.evaluated c.if-branch-2.false
    (subst (λ p. First c.args.now.now (bound_in c.args.v.now) (plan_of p) found) c.deref-in-TestOr.ensures first))) c.find_missing-in-TestOr.ensures.first

pub find_missing-returns-else-branch-2-clause-wanted : goal.find_missing-returns-else-branch-2-clause-wanted
find_missing-returns-else-branch-2-clause-wanted t c =
    IfOk-weaker c.find_missing-in-TestOr.result _ (λ found. IfSome found (IsWanted c.args.now.now (plan_of c.args.plan.now) (bound_in c.args.v.now))) (λ found wanted.
    subst (λ p. IfSome found (IsWanted c.args.now.now (plan_of p) (bound_in c.args.v.now))) (sym c.in-TestOr.is)
    (if_some found (IsWanted c.args.now.now (plan_of c.in-TestOr.body.value) (bound_in c.args.v.now))
    (IsWanted c.args.now.now (TestOr c.in-TestOr.node c.in-TestOr.guard (tree_of c.in-TestOr.test.value) (plan_of c.in-TestOr.body.value)) (bound_in c.args.v.now))
    (wanted_in c.args.now.now (plan_of c.in-TestOr.body.value) (TestOr c.in-TestOr.node c.in-TestOr.guard (tree_of c.in-TestOr.test.value) (plan_of c.in-TestOr.body.value))
    (bound_in c.args.v.now) (in_body (TestOr c.in-TestOr.node c.in-TestOr.guard (tree_of c.in-TestOr.test.value) (plan_of c.in-TestOr.body.value)) (plan_of c.in-TestOr.body.value))
    (λ leaf is. inr is))
    (subst (λ p. IfSome found (IsWanted c.args.now.now (plan_of p) (bound_in c.args.v.now))) c.deref-in-TestOr.ensures wanted))) c.find_missing-in-TestOr.ensures.wanted

pub find_missing-returns-else-low-gt0-clause-wanted : goal.find_missing-returns-else-low-gt0-clause-wanted
find_missing-returns-else-low-gt0-clause-wanted t c =
    IfOk-weaker c.find_missing-in-Always.result _ (λ found. IfSome found (IsWanted c.args.now.now (plan_of c.args.plan.now) (bound_in c.args.v.now))) (λ found wanted.
    subst (λ p. IfSome found (IsWanted c.args.now.now (plan_of p) (bound_in c.args.v.now))) (sym c.in-Always.is)
    (if_some found (IsWanted c.args.now.now (plan_of c.in-Always.body.value) (bound_in c.args.v.now))
    (IsWanted c.args.now.now (AlwaysPlan c.in-Always.node c.in-Always.place c.in-Always.low c.in-Always.high (plan_of c.in-Always.body.value)) (bound_in c.args.v.now))
    (wanted_in c.args.now.now (plan_of c.in-Always.body.value) (AlwaysPlan c.in-Always.node c.in-Always.place c.in-Always.low c.in-Always.high (plan_of c.in-Always.body.value))
    (bound_in c.args.v.now) (in_body (AlwaysPlan c.in-Always.node c.in-Always.place c.in-Always.low c.in-Always.high (plan_of c.in-Always.body.value)) (plan_of c.in-Always.body.value))
    (λ leaf is. inr is))
    (subst (λ p. IfSome found (IsWanted c.args.now.now (plan_of p) (bound_in c.args.v.now))) c.deref-in-Always.ensures wanted))) c.find_missing-in-Always.ensures.wanted

pub find_missing-returns-else-low-eq0-clause-first : goal.find_missing-returns-else-low-eq0-clause-first
find_missing-returns-else-low-eq0-clause-first t c =
    IfOk-weaker c.find_missing-in-Until.result _ (First c.args.now.now (bound_in c.args.v.now) (plan_of c.args.plan.now)) (λ found first.
    subst (λ p. First c.args.now.now (bound_in c.args.v.now) (plan_of p) found) (sym c.in-Until.is)
    (until_first c.args.now.now (bound_in c.args.v.now) c.in-Until.node c.in-Until.place c.in-Until.low c.in-Until.high (plan_of c.in-Until.left.value) (plan_of c.in-Until.right.value) found
    (λ at_once. elim c.else-low-eq0.branch [
      | find_missing-else-low-eq0-via-then-low-eq0+in_ok-misses_nothing-in-Until+else-branch-3 w ↦
          subst (λ p. TellsNothing c.args.now.now (plan_of p) (bound_in c.args.v.now) false) w.deref-then-low-eq0.ensures
          (subst (λ b. TellsNothing c.args.now.now (plan_of w.deref-then-low-eq0.result.now) (bound_in c.args.v.now) b) w.if-branch-3.false w.in_ok-misses_nothing-in-Until.ensures)
      | find_missing-else-low-eq0-via-else-low-eq0 w ↦ absurd (omega (arith, at_once, w.if-low-eq0.false))
    ]) (subst (λ p. First c.args.now.now (bound_in c.args.v.now) (plan_of p) found) c.deref-in-Until.ensures first))) c.find_missing-in-Until.ensures.first

pub find_missing-returns-else-low-eq0-clause-wanted : goal.find_missing-returns-else-low-eq0-clause-wanted
find_missing-returns-else-low-eq0-clause-wanted t c =
    IfOk-weaker c.find_missing-in-Until.result _ (λ found. IfSome found (IsWanted c.args.now.now (plan_of c.args.plan.now) (bound_in c.args.v.now))) (λ found wanted.
    subst (λ p. IfSome found (IsWanted c.args.now.now (plan_of p) (bound_in c.args.v.now))) (sym c.in-Until.is)
    (if_some found (IsWanted c.args.now.now (plan_of c.in-Until.left.value) (bound_in c.args.v.now))
    (IsWanted c.args.now.now (UntilPlan c.in-Until.node c.in-Until.place c.in-Until.low c.in-Until.high (plan_of c.in-Until.left.value) (plan_of c.in-Until.right.value))
    (bound_in c.args.v.now)) (wanted_in c.args.now.now (plan_of c.in-Until.left.value)
    (UntilPlan c.in-Until.node c.in-Until.place c.in-Until.low c.in-Until.high (plan_of c.in-Until.left.value) (plan_of c.in-Until.right.value)) (bound_in c.args.v.now)
    (in_left (UntilPlan c.in-Until.node c.in-Until.place c.in-Until.low c.in-Until.high (plan_of c.in-Until.left.value) (plan_of c.in-Until.right.value)) (plan_of c.in-Until.left.value)
    (plan_of c.in-Until.right.value)) (λ leaf is. inr (inl is)))
    (subst (λ p. IfSome found (IsWanted c.args.now.now (plan_of p) (bound_in c.args.v.now))) c.deref-in-Until.ensures wanted))) c.find_missing-in-Until.ensures.wanted

pub find_under-returns-in-Some-clause-first : goal.find_under-returns-in-Some-clause-first
find_under-returns-in-Some-clause-first t c =
    let row = c.row.result.now in
    let long : c.len-place-end.result ≡ length c.args.rows.now.rows = c.len-place-end.ensures in
    let inner : filled_from_row (bound_in c.args.v.now) c.columns.result.now row ≡ filled_from_row (bound_in c.args.v.now) c.args.rows.now.columns row =
    (λ i. filled_from_row (bound_in c.args.v.now) (c.columns.ensures i) row) in
    let below = subst (λ n. c.loop-place.place < n) long c.loop-place-test.true in
    let at = sym (get_or_from_slice_get c.args.rows.now.rows c.loop-place.place row row c.row.ensures) in
    λ trace is. gathers_first (λ row. Missing trace (plan_of c.args.body.now) (filled_from_row (bound_in c.args.v.now) c.args.rows.now.columns row)) c.args.rows.now.rows
    c.loop-place.place row c.in-Some.literal below at
    (λ r there. c.missing_exists.ensures.missing (guards_now c.args.now.now) trace (plan_of c.args.body.now) (filled_from_row (bound_in c.args.v.now) c.args.rows.now.columns r)
    (c.requires r there))
    (c.loop-place.invariant trace is)
    (subst (λ v. FirstOf (Missing trace (plan_of c.args.body.now) v) (Some c.in-Some.literal)) inner
    (subst (FirstOf (Missing trace (plan_of c.args.body.now) (filled_from_row (bound_in c.args.v.now) c.columns.result.now row))) c.in-Some.is (c.in_ok-literal.ensures.first trace is)))

pub find_under-loop-place-preserved : goal.find_under-loop-place-preserved
find_under-loop-place-preserved t c =
    let row = c.row.result.now in
    let long : c.len-place-end.result ≡ length c.args.rows.now.rows = c.len-place-end.ensures in
    let inner : filled_from_row (bound_in c.args.v.now) c.columns.result.now row ≡ filled_from_row (bound_in c.args.v.now) c.args.rows.now.columns row =
    (λ i. filled_from_row (bound_in c.args.v.now) (c.columns.ensures i) row) in
    let below = subst (λ n. c.loop-place.place < n) long c.loop-place-test.true in
    let at = sym (get_or_from_slice_get c.args.rows.now.rows c.loop-place.place row row c.row.ensures) in
    λ trace is. gathers_one_more (λ row. Missing trace (plan_of c.args.body.now) (filled_from_row (bound_in c.args.v.now) c.args.rows.now.columns row)) c.args.rows.now.rows
    c.loop-place.place row [] [] below at (c.loop-place.invariant trace is)
    (subst (λ v. Missing trace (plan_of c.args.body.now) v []) inner (subst (FirstOf (Missing trace (plan_of c.args.body.now)
    (filled_from_row (bound_in c.args.v.now) c.columns.result.now row))) c.in_default.is (c.in_ok-literal.ensures.first trace is)))

pub find_under-returns-clause-first : goal.find_under-returns-clause-first
find_under-returns-clause-first t c =
    let long : c.len-place-end.result ≡ length c.args.rows.now.rows = c.len-place-end.ensures in
    λ trace is. subst (λ (l : List (List Value)). Gathers (λ row. Missing trace (plan_of c.args.body.now) (filled_from_row (bound_in c.args.v.now) c.args.rows.now.columns row)) l [])
    (take_all c.loop-place.place c.args.rows.now.rows (subst (λ n. n ≤ c.loop-place.place) long c.loop-place-test.false)) (c.loop-place.invariant trace is)

pub misses_nothing-returns-in-Cause : goal.misses_nothing-returns-in-Cause
misses_nothing-returns-in-Cause t c =
    let v = bound_in c.args.v.now in
    let now = c.args.now.now in
    let can = subst (λ p. CanAskIn (guards_now now) (plan_of p) c.requires.scope) c.in-Cause.is c.requires.can in
    IfOk-weaker c.is_there.result _ (TellsNothing now (plan_of c.args.plan.now) v) (λ there is.
    subst (λ p. TellsNothing now (plan_of p) v there) (sym c.in-Cause.is)
    (cause_tells now v c.in-Cause.node c.in-Cause.place c.in-Cause.name c.in-Cause.terms
    (leaf_binds c.requires.scope c.in-Cause.terms v can c.requires.fits.binds) there is)) c.is_there.ensures

pub misses_nothing-returns-in_ok-is_there-in-Suppress : goal.misses_nothing-returns-in_ok-is_there-in-Suppress
misses_nothing-returns-in_ok-is_there-in-Suppress t c =
    let v = bound_in c.args.v.now in
    let now = c.args.now.now in
    let can = subst (λ p. CanAskIn (guards_now now) (plan_of p) c.requires.scope) c.in-Suppress.is c.requires.can in
    subst (λ p. TellsNothing now (plan_of p) v (not c.in_ok-is_there-in-Suppress.field-0)) (sym c.in-Suppress.is)
    (suppress_tells now v c.in-Suppress.node c.in-Suppress.place c.in-Suppress.name c.in-Suppress.terms
    (leaf_binds c.requires.scope c.in-Suppress.terms v can c.requires.fits.binds) c.in_ok-is_there-in-Suppress.field-0 c.in_ok-is_there-in-Suppress.ensures)

-- ---- below a guard

pub find_missing-rows_to_ask-requires : goal.find_missing-rows_to_ask-requires
find_missing-rows_to_ask-requires t c =
    let is : IsGuardedBy c.args.now.now c.in-Guarded.guard (tree_of c.deref-in-Guarded.result.now) c.in-Guarded.vars (plan_of c.deref-in-Guarded-2.result.now) (bound_in c.args.v.now) (plan_of c.args.plan.now) =
    record {
      node = c.in-Guarded.node;
      is = rw (c.in-Guarded.is, c.deref-in-Guarded.ensures, c.deref-in-Guarded-2.ensures) refl;
      can = c.requires;
    } in
    (plan_of c.args.plan.now, is)

pub find_missing-find_under-requires : goal.find_missing-find_under-requires
find_missing-find_under-requires t c =
    let is : IsGuardedBy c.args.now.now c.in-Guarded.guard (tree_of c.deref-in-Guarded.result.now) c.in-Guarded.vars (plan_of c.deref-in-Guarded-2.result.now) (bound_in c.args.v.now) (plan_of c.args.plan.now) =
    record {
      node = c.in-Guarded.node;
      is = rw (c.in-Guarded.is, c.deref-in-Guarded.ensures, c.deref-in-Guarded-2.ensures) refl;
      can = c.requires;
    } in
    (search rules, rw (c.deref-in-Guarded-3.ensures, ← c.deref-in-Guarded-2.ensures) (c.in_ok-rows-in-Guarded.ensures (plan_of c.args.plan.now) is).asked)

pub find_missing-returns-in_ok-rows-in-Guarded-clause-first : goal.find_missing-returns-in_ok-rows-in-Guarded-clause-first
find_missing-returns-in_ok-rows-in-Guarded-clause-first t c =
    let is : IsGuardedBy c.args.now.now c.in-Guarded.guard (tree_of c.deref-in-Guarded.result.now) c.in-Guarded.vars (plan_of c.deref-in-Guarded-2.result.now) (bound_in c.args.v.now) (plan_of c.args.plan.now) =
    record {
      node = c.in-Guarded.node;
      is = rw (c.in-Guarded.is, c.deref-in-Guarded.ensures, c.deref-in-Guarded-2.ensures) refl;
      can = c.requires;
    } in
    let v = bound_in c.args.v.now in
    let rows = c.in_ok-rows-in-Guarded.rows in
    let missed : (trace : List Step) → IsNowOf c.args.now.now trace → (literals : List Literal)
    → Gathers (λ row. Missing trace (plan_of c.deref-in-Guarded-3.result.now) (filled_from_row v rows.columns row)) rows.rows literals
    → Missing trace (plan_of c.args.plan.now) v literals =
    rw (c.deref-in-Guarded-3.ensures, ← c.deref-in-Guarded-2.ensures) (c.in_ok-rows-in-Guarded.ensures (plan_of c.args.plan.now) is).missed in
    IfOk-weaker c.find_under.result _ (First c.args.now.now v (plan_of c.args.plan.now)) (λ found first trace now_of.
    first_as (Gathers (λ row. Missing trace (plan_of c.deref-in-Guarded-3.result.now) (filled_from_row v rows.columns row)) rows.rows)
    (Missing trace (plan_of c.args.plan.now) v) (missed trace now_of) found (first trace now_of)) c.find_under.ensures.first

pub find_missing-returns-in_ok-rows-in-Guarded-clause-wanted : goal.find_missing-returns-in_ok-rows-in-Guarded-clause-wanted
find_missing-returns-in_ok-rows-in-Guarded-clause-wanted t c =
    let is : IsGuardedBy c.args.now.now c.in-Guarded.guard (tree_of c.deref-in-Guarded.result.now) c.in-Guarded.vars (plan_of c.deref-in-Guarded-2.result.now) (bound_in c.args.v.now) (plan_of c.args.plan.now) =
    record {
      node = c.in-Guarded.node;
      is = rw (c.in-Guarded.is, c.deref-in-Guarded.ensures, c.deref-in-Guarded-2.ensures) refl;
      can = c.requires;
    } in
    let now = c.args.now.now in
    let v = bound_in c.args.v.now in
    let rows = c.in_ok-rows-in-Guarded.rows in
    IfOk-weaker c.find_under.result _ (λ found. IfSome found (IsWanted now (plan_of c.args.plan.now) v)) (λ found under.
    if_some found (IsWantedUnder now (plan_of c.deref-in-Guarded-3.result.now) v rows) (IsWanted now (plan_of c.args.plan.now) v)
    (rw (c.deref-in-Guarded-3.ensures, ← c.deref-in-Guarded-2.ensures) (c.in_ok-rows-in-Guarded.ensures (plan_of c.args.plan.now) is).wanted) under) c.find_under.ensures.wanted
