use Rattle.obligations.proofs.Vocabulary.{◌≡◌, List, map, ap, arith, subst, sym, AllByRecursion, take_all, Event, NameId, all_at}
use Rattle.obligations.proofs.ItemLemmas.{all_one_more}
use Rattle.obligations.proofs.present_events.has_named.Goals as goal

pub loop-event-preserved : goal.loop-event-preserved
loop-event-preserved c =
    all_one_more (λ (n : NameId). n ≡ c.args.name → ⊥) (λ (e : Event). e.name) c.args.events.now c.loop-event.event-index c.event-item.result
    c.loop-event-test.true c.event-item.is
    c.loop-event.invariant (λ is. let n = ap (λ (m : NameId). m.0) is in grind (arith, c.eq.ensures, c.if-eq.false, n))

pub returns : goal.returns
returns c = λ event there same.
    let all = take_all c.loop-event.event-index c.args.events.now c.loop-event-test.false in
    absurd (all_at (λ (n : NameId). n ≡ c.args.name → ⊥) (λ (e : Event). e.name) c.args.events.now there.0 event there.1 (sym there.2)
    (subst (λ (l : List Event). AllByRecursion (λ (n : NameId). n ≡ c.args.name → ⊥) (map (λ (e : Event). e.name) l)) all c.loop-event.invariant) same)
