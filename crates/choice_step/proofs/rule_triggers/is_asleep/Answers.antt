use Rattle.choice_step.proofs.Vocabulary.{All, subst, IsAway}
use Rattle.choice_step.proofs.rule_triggers.is_asleep.Goals as goal

pub returns-in-Some : goal.returns-in-Some
returns-in-Some c away =
    rw c.in-Some.is (subst (All (IsAway c.args.events.now)) c.as_slice.ensures.value (c.are_away.ensures away))
