use Rattle.choice_step.proofs.Vocabulary.{◌≡◌, map, take, option_map, plan_of, waking_names}
use Rattle.choice_step.proofs.rule_triggers.all_names.Given as goal

abbrev pub invariant-loop-plan : goal.invariant-loop-plan
invariant-loop-plan l =
    map (option_map (λ names. names.items)) l.all.items ≡ map waking_names (map plan_of (take l.plan-index l.plans))
