use Rattle.trace_audit.proofs.Vocabulary.{List, map, sym, subst, no_values, Step, all_at, slice_get-map_at, plan_of, CanEvaluatePlan, rule_at, TellsRest, moment_of, guards_at, PlanHoldsAt}
use Rattle.trace_audit.proofs.JudgementLemmas.{begins_next, can_put}
use Rattle.trace_audit.proofs.followed_rules.begin_each.Goals as goal

pub evaluate-requires-clause-can : goal.evaluate-requires-clause-can
evaluate-requires-clause-can c =
    subst (CanEvaluatePlan (guards_at c.args.now.now.tables.now) (plan_of c.index-plans-rule.result)) (sym c.empty-none.ensures)
    (all_at (λ plan. CanEvaluatePlan (guards_at c.args.now.now.tables.now) plan no_values) plan_of c.args.plans.now c.loop-rule.rule c.index-plans-rule.result
    c.loop-rule-test.true c.index-plans-rule.is c.requires.roots)

pub loop-rule-preserved : goal.loop-rule-preserved
loop-rule-preserved c =
    let m = moment_of c.args.now.now in
    let plan = plan_of c.index-plans-rule.result in
    let tells = subst (λ v. TellsRest m (λ (trace : List Step). PlanHoldsAt trace v plan m.position) c.in_ok-rest.rest) c.empty-none.ensures c.in_ok-rest.ensures in (
      begins_next m (map plan_of c.args.plans.now) c.args.followed.now c.loop-rule.rule plan c.in_ok-rest.rest c.loop-rule.followed c.put_in.new.followed
          (slice_get-map_at plan_of c.args.plans.now c.loop-rule.rule c.index-plans-rule.result c.loop-rule-test.true c.index-plans-rule.is)
          c.loop-rule.invariant.0 (c.is_before.ensures.0 c.if-not-is_before.false) tells c.in_ok-put_in.ensures.ok,
      can_put (guards_at c.args.now.now.tables.now) (rule_at c.loop-rule.rule c.args.now.now.position) c.in_ok-rest.rest c.loop-rule.followed c.put_in.new.followed
          tells.can c.in_ok-put_in.ensures.ok c.loop-rule.invariant.1,
    )
