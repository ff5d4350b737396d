use Rattle.save_codec.proofs.Vocabulary.{map, take, plan_of, KnowsJust, GuardTells}
use Rattle.save_codec.proofs.knowing.known_in_guard.Given as goal

abbrev pub invariant-loop-plan : goal.invariant-loop-plan
invariant-loop-plan l = KnowsJust (GuardTells l.signature (map plan_of (take l.plan-index l.plans)) l.guard) l.known
