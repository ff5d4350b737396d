use Rattle.choice_step.proofs.Vocabulary.{◌≡◌, [], List, Event, drop, guard_names, SituationLeads}
use Rattle.choice_step.specs.machine.StillToAsk.{IsMissedAtRoot, IsUnaskedAt}
use Rattle.choice_step.specs.machine.Turns.{GoesStale}
use Rattle.choice_step.proofs.apply_actions.act_on.Given as goal

abbrev pub invariant-loop-literal : goal.invariant-loop-literal
invariant-loop-literal l =
    ((given : List Event) → IsMissedAtRoot l.situation given l.fn.events l.rule l.literals
    → SituationLeads l.situation given l.fn.events l.fn.actions l.events l.actions
    × IsMissedAtRoot l.situation given l.events l.rule (drop l.literal-index l.literals))
    × IsUnaskedAt l.situation l.events l.actions l.unasked
    × (l.unasked.asking.ahead ≡ []) × (l.unasked.from ≡ l.fn.unasked.from)
    × GoesStale (guard_names l.situation.past.now.guards) l.fn.stale.items l.fn.events l.stale.items l.events
