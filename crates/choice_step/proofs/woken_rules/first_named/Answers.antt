use Rattle.choice_step.proofs.Vocabulary.{◌≡◌, ◌≤◌, ℕ, List, All, Contains, take, subst, arith, take_all, All-contains, All-more, All-weaker, Event, Woken}
use Rattle.choice_step.proofs.woken_rules.first_named.Goals as goal

-- the number is at most each rule from one on that the event wakes
abbrev IsFirst : List Woken → (from first : ℕ) → Event → Type 0
IsFirst woken from first event = (entry : Woken) → Contains woken entry → entry.name ≡ event.name → from ≤ entry.rule → first ≤ entry.rule

pub loop-event-preserved : goal.loop-event-preserved
loop-event-preserved c =
    let woken = c.args.woken.now in
    let from = c.args.from in
    let within = c.least_woken-first.ensures.within in
    let was = c.loop-event.invariant in (
      within.0,
      omega (arith, within.1, was.1),
      All-more (IsFirst woken from c.least_woken-first.result) c.args.events.now c.loop-event.event-index c.event-item.result c.loop-event-test.true
          (All-weaker (IsFirst woken from c.loop-event.first) (IsFirst woken from c.least_woken-first.result)
          (λ event first entry there named le. omega (arith, within.1, first entry there named le)) (take c.loop-event.event-index c.args.events.now) was.2)
          (subst (IsFirst woken from c.least_woken-first.result) c.event-item.is
          (λ entry there named le. c.least_woken-first.ensures.least entry (c.of_name.ensures entry there named) le)),
    )

pub returns-clause-least : goal.returns-clause-least
returns-clause-least c event among =
    All-contains (IsFirst c.args.woken.now c.args.from c.loop-event.first) c.args.events.now event
    (subst (All (IsFirst c.args.woken.now c.args.from c.loop-event.first)) (take_all c.loop-event.event-index c.args.events.now c.loop-event-test.false) c.loop-event.invariant.2) among
