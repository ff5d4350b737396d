use Rattle.sleepers.proofs.Vocabulary.{List, sym, subst, take, take_all, Event}
use Rattle.sleepers.specs.machine.Groups.{AreAwakeBy}
use Rattle.sleepers.proofs.EachEventLemmas.{by_all, by_none}
use Rattle.sleepers.proofs.LoopLemmas.{one_more}
use Rattle.sleepers.proofs.awake_groups.awake_by_each.Goals as goal

pub loop-event-init : goal.loop-event-init
loop-event-init g c = by_none c.args.time c.args.events.now c.args.groups.now c.in_ok-numbers.numbers.items c.in_ok-numbers.ensures

pub loop-event-preserved : goal.loop-event-preserved
loop-event-preserved g c =
    let events = c.args.events.now in
    let i = c.loop-event.event-index in
    let event = c.event-item.result in
    subst (λ (l : List Event). AreAwakeBy events l c.args.time c.args.groups.now c.push_awake.new.numbers.items)
    (sym (one_more events i event c.loop-event-test.true c.event-item.is))
    (c.in_ok-push_awake.ensures events (take i events) (i, c.loop-event-test.true, sym c.event-item.is) c.loop-event.invariant)

pub returns : goal.returns
returns g c =
    let events = c.args.events.now in
    let old = c.loop-event.numbers.items in
    by_all c.args.time events c.args.groups.now old c.keep_each_once.new.numbers.items c.keep_each_once.ensures.once c.keep_each_once.ensures.same
    c.keep_each_once.ensures.among
    (subst (λ (l : List Event). AreAwakeBy events l c.args.time c.args.groups.now old) (take_all c.loop-event.event-index events c.loop-event-test.false)
    c.loop-event.invariant)
