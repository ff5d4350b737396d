use Rattle.monitorable_guard.proofs.Vocabulary.{ap, arith, subst, sym, take_all, Contains, NameId}
use Rattle.monitorable_guard.proofs.NeededEventLemmas.{none_more}
use Rattle.monitorable_guard.proofs.needed_events.has_named.Goals as goal

pub loop-event-preserved : goal.loop-event-preserved
loop-event-preserved c =
    none_more c.args.events.now c.args.name c.loop-event.event-index c.event-item.result c.loop-event-test.true c.event-item.is
    (λ is. let n = ap (λ (m : NameId). m.0) is in grind (arith, c.eq.ensures, c.if-eq.false, n)) c.loop-event.invariant

pub returns : goal.returns
returns c = λ event there same.
    absurd (c.loop-event.invariant event (subst (λ l. Contains l event) (sym (take_all c.loop-event.event-index c.args.events.now c.loop-event-test.false)) there) same)
