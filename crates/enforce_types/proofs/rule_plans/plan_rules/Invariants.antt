use Rattle.enforce_types.proofs.Vocabulary.{◌*◌, ◌≤◌, length, map, take, guards_of, ArePlanned, stored_rule_formulas, plan_of, MOST_NODES}
use Rattle.enforce_types.proofs.rule_plans.plan_rules.Given as goal

abbrev pub invariant-loop-rule : goal.invariant-loop-rule
invariant-loop-rule l = record {
  planned : ArePlanned l.signature (stored_rule_formulas (take l.rule-index l.rules)) (map plan_of l.made.plans.items) (guards_of l.made.guards.items);
  few : length l.made.guards.items ≤ MOST_NODES * l.rule-index;
}
