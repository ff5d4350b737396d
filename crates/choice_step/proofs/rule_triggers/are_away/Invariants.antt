use Rattle.choice_step.proofs.Vocabulary.{All, take, IsAway}
use Rattle.choice_step.proofs.rule_triggers.are_away.Given as goal

abbrev pub invariant-loop-name : goal.invariant-loop-name
invariant-loop-name l = All (IsAway l.events) (take l.name-index l.names)
