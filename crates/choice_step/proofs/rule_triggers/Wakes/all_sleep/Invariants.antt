use Rattle.choice_step.proofs.Vocabulary.{map, take, option_map, AllSleep}
use Rattle.choice_step.proofs.rule_triggers.Wakes.all_sleep.Given as goal

abbrev pub invariant-loop-names : goal.invariant-loop-names
invariant-loop-names l = AllSleep (map (option_map (λ all. all.items)) (take l.names-index l.names-items)) l.events
