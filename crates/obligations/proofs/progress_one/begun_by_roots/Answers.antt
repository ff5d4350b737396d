use Rattle.obligations.proofs.Vocabulary.{map, sym, subst, all_at, slice_get-map_at, plan_of, AddsAsked, CanAskPlan, CanAskRoot, guards_now, Begun}
use Rattle.obligations.proofs.RootLemmas.{root_asked, root_comes, root_more}
use Rattle.obligations.proofs.progress_one.begun_by_roots.Goals as goal

pub begin_ahead-requires-clause-asked : goal.begin_ahead-requires-clause-asked
begin_ahead-requires-clause-asked c =
    subst (CanAskPlan (guards_now c.args.now.now) (plan_of c.index-plans-rule.result)) (sym c.empty-none.ensures)
    (all_at (CanAskRoot (guards_now c.args.now.now)) plan_of c.args.plans.now c.loop-rule.rule c.index-plans-rule.result c.loop-rule-test.true c.index-plans-rule.is c.requires.roots).0

pub begin_ahead-requires-clause-ends : goal.begin_ahead-requires-clause-ends
begin_ahead-requires-clause-ends c =
    (all_at (CanAskRoot (guards_now c.args.now.now)) plan_of c.args.plans.now c.loop-rule.rule c.index-plans-rule.result c.loop-rule-test.true c.index-plans-rule.is c.requires.roots).1

pub loop-rule-preserved : goal.loop-rule-preserved
loop-rule-preserved c =
    let now = c.args.now.now in
    let plans = c.args.plans.now in
    let rule = c.loop-rule.rule in
    let plan = c.index-plans-rule.result in
    let within = c.loop-rule-test.true in
    let at = c.index-plans-rule.is in
    let puts = subst (λ v. AddsAsked now rule (plan_of plan) (λ trace. Begun trace rule (plan_of plan) v) c.loop-rule.begun.items c.begin_ahead.new.into.items) c.empty-none.ensures
    c.in_ok-begin_ahead.ensures in (
      root_more plan_of plans rule plan within at now c.loop-rule.begun.items c.begin_ahead.new.into.items puts c.loop-rule.invariant.0,
      root_asked plan_of plans rule plan within at now c.loop-rule.begun.items c.begin_ahead.new.into.items puts (map plan_of plans)
          (c.requires.named rule (plan_of plan) (slice_get-map_at plan_of plans rule plan within at)) c.loop-rule.invariant.1,
      root_comes plan_of plans rule plan within at now c.loop-rule.begun.items c.begin_ahead.new.into.items puts (map plan_of plans)
          (slice_get-map_at plan_of plans rule plan within at) c.loop-rule.invariant.2,
    )
