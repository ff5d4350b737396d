use Rattle.choice_step.proofs.Vocabulary.{length, situation_plans}
use Rattle.choice_step.specs.machine.StillToAsk.{PassesUnmoved}
use Rattle.choice_step.proofs.apply_actions.pass_unmoved.Given as goal

abbrev pub invariant-loop-instance : goal.invariant-loop-instance
invariant-loop-instance l = PassesUnmoved (situation_plans l.situation) l.kind l.name l.fn.asking l.asking

abbrev pub decreases-loop-instance : goal.decreases-loop-instance
decreases-loop-instance l = length l.asking.ahead
