use Rattle.enforce_types.proofs.Vocabulary.{◌+◌, ◌≤◌, length, map, sym, arith, length-map, tree_of, formula_size, plan_of, MOST_NODES, guard_of, guards_of, node_count, guard_count, HasPlan}
use Rattle.enforce_types.proofs.RulePlanLemmas.{has_plan, has_refusal, rule_safe, nodes_few, guards_few, few_more, size_at, planned_more, refused_at, rule_refused}
use Rattle.enforce_types.proofs.rule_plans.plan_rules.Goals as goal

pub push-requires-clause-safe : goal.push-requires-clause-safe
push-requires-clause-safe c =
    rule_safe c.args.signature.now (tree_of c.rule-item.result.formula) (plan_of c.in_ok-plan.plan)
    (has_plan c.args.signature.now (tree_of c.rule-item.result.formula) _ (plan_of c.in_ok-plan.plan) c.new-none.ensures c.in_ok-plan.ensures)

pub push-requires-clause-nodes_fit : goal.push-requires-clause-nodes_fit
push-requires-clause-nodes_fit c =
    let f = tree_of c.rule-item.result.formula in
    let has : HasPlan c.args.signature.now f (plan_of c.in_ok-plan.plan) = has_plan c.args.signature.now f _ (plan_of c.in_ok-plan.plan) c.new-none.ensures c.in_ok-plan.ensures in
    let small : formula_size f ≤ MOST_NODES = size_at c.args.rules.now c.loop-rule.rule-index c.rule-item.result c.loop-rule-test.true c.rule-item.is c.requires.few_nodes in
    let few : node_count (plan_of c.in_ok-plan.plan) ≤ MOST_NODES = nodes_few c.args.signature.now f (plan_of c.in_ok-plan.plan) has small in
    omega arith

pub push-requires-clause-guards_fit : goal.push-requires-clause-guards_fit
push-requires-clause-guards_fit c =
    let f = tree_of c.rule-item.result.formula in
    let has : HasPlan c.args.signature.now f (plan_of c.in_ok-plan.plan) = has_plan c.args.signature.now f _ (plan_of c.in_ok-plan.plan) c.new-none.ensures c.in_ok-plan.ensures in
    let small : formula_size f ≤ MOST_NODES = size_at c.args.rules.now c.loop-rule.rule-index c.rule-item.result c.loop-rule-test.true c.rule-item.is c.requires.few_nodes in
    let few : guard_count (plan_of c.in_ok-plan.plan) ≤ MOST_NODES = guards_few c.args.signature.now f (plan_of c.in_ok-plan.plan) has small in
    let within : c.loop-rule.rule-index + 1 ≤ length c.args.rules.now = omega (arith, c.loop-rule-test.true) in
    omega (arith, c.loop-rule.invariant.few, c.requires.few_rules)

pub returns-in_err-plan-clause-refused : goal.returns-in_err-plan-clause-refused
returns-in_err-plan-clause-refused c =
    let f = tree_of c.rule-item.result.formula in
    rule_refused _ _ _ _ c.from_residual.ensures.1 c.in_err-plan.ensures
    (λ why no. refused_at c.args.rules.now c.loop-rule.rule-index c.rule-item.result c.loop-rule-test.true
    c.rule-item.is c.args.signature.now _ _ why c.loop-rule.invariant.planned
    (has_refusal c.args.signature.now f _ why c.new-none.ensures no))

pub loop-rule-preserved : goal.loop-rule-preserved
loop-rule-preserved c =
    let f = tree_of c.rule-item.result.formula in
    let has : HasPlan c.args.signature.now f (plan_of c.in_ok-plan.plan) = has_plan c.args.signature.now f _ (plan_of c.in_ok-plan.plan) c.new-none.ensures c.in_ok-plan.ensures in
    let small : formula_size f ≤ MOST_NODES = size_at c.args.rules.now c.loop-rule.rule-index c.rule-item.result c.loop-rule-test.true c.rule-item.is c.requires.few_nodes in
    record {
      planned = planned_more c.args.rules.now c.loop-rule.rule-index c.rule-item.result c.loop-rule-test.true
          c.rule-item.is c.args.signature.now (map plan_of c.loop-rule.made.plans.items)
          (map plan_of c.push.new.self.plans.items) (guards_of c.loop-rule.made.guards.items)
          (guards_of c.push.new.self.guards.items) (length c.loop-rule.made.guards.items) (plan_of c.in_ok-plan.plan)
          (sym (length-map c.loop-rule.made.guards.items guard_of)) c.loop-rule.invariant.planned has
          c.in_ok-push.ensures.plans c.in_ok-push.ensures.guards;
      few = few_more c.loop-rule.made.guards.items c.push.new.self.guards.items (plan_of c.in_ok-plan.plan)
          c.loop-rule.rule-index c.in_ok-push.ensures.guards
          (guards_few c.args.signature.now f (plan_of c.in_ok-plan.plan) has small) c.loop-rule.invariant.few;
    }
