use Rattle.sleepers.proofs.AgendaLemmas.{PutSome}
use Rattle.sleepers.proofs.agenda.Agenda.put_each.Given as goal

abbrev pub invariant-loop-entry : goal.invariant-loop-entry
invariant-loop-entry g l = PutSome l.fn.self l.entries l.entry-index l.self
