use Rattle.pending.proofs.Vocabulary.{map, plan_of}
use Rattle.pending.proofs.AskingLemmas.{GoneBack}
use Rattle.obligations.specs.machine.MovedPlans.{IsUnmovedOf}
use Rattle.pending.proofs.asking.put_back.Given as goal

abbrev pub invariant-loop-at : goal.invariant-loop-at
invariant-loop-at l = GoneBack (IsUnmovedOf (map plan_of l.plans) l.kind l.name) l.fn.asked.items l.fn.agenda l.asked.items l.agenda l.at
