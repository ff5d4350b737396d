use Rattle.save_codec.proofs.Vocabulary.{map, take, plan_of, KnowRules}
use Rattle.save_codec.proofs.knowing.known_in_rules.Given as goal

abbrev pub invariant-loop-plan : goal.invariant-loop-plan
invariant-loop-plan l = KnowRules l.signature (map plan_of (take l.plan-index l.plans)) l.known.items
