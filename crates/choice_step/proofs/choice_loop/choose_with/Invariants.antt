use Rattle.choice_step.proofs.Vocabulary.{◌-◌, length, map, plan_of}
use Rattle.choice_step.specs.machine.StillToAsk.{IsUnaskedAt}
use Rattle.choice_step.proofs.LoopLemmas.{Keeps}
use Rattle.choice_step.proofs.KnownValueLemmas.{possible}
use Rattle.choice_step.proofs.choice_loop.choose_with.Given as goal

abbrev pub invariant-loop-actions : goal.invariant-loop-actions
invariant-loop-actions l =
    Keeps (map plan_of l.plans) l.pending.instances l.past l.inserted l.time l.position l.fn.events l.actions l.events
    × IsUnaskedAt l.situation l.events l.actions l.unasked

-- the events on which one could act, less those on which one did
abbrev pub decreases-loop-actions : goal.decreases-loop-actions
decreases-loop-actions l =
    length (possible (map plan_of l.plans) l.pending.instances l.past l.fn.events) - length l.actions
