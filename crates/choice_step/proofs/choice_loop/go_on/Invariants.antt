use Rattle.choice_step.proofs.Vocabulary.{◌+◌, ◌-◌, ◌<◌, length, situation_plans}
use Rattle.choice_step.specs.machine.StillToAsk.{IsDecidedAt, IsFirstNext, IsNextFor, IsUnaskedAt}
use Rattle.choice_step.proofs.KnownValueLemmas.{possible}
use Rattle.choice_step.proofs.NextLemmas.{HasActed}
use Rattle.choice_step.proofs.TurnLemmas.{IsOn}
use Rattle.choice_step.proofs.choice_loop.go_on.Given as goal

abbrev pub invariant-loop-next : goal.invariant-loop-next
invariant-loop-next l = IsOn l.situation l.given l.fn.actions l.present l.stale.items l.actions
    × IsUnaskedAt l.situation l.present l.actions l.unasked
    × IsNextFor l.situation l.given l.present l.stale.items (IsDecidedAt l.situation l.present l.stale.items) l.next
    × IsFirstNext l.unasked l.next
    × HasActed (length l.fn.actions < length l.actions) l.next

-- the events on which one could act, less those on which one did
abbrev pub decreases-loop-next : goal.decreases-loop-next
decreases-loop-next l =
    (length (possible (situation_plans l.situation) l.situation.pending.now.instances l.situation.past.now l.given) + length l.fn.actions) - length l.actions
