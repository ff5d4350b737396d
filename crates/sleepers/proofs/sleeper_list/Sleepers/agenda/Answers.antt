use Rattle.sleepers.proofs.Vocabulary.{subst, sym, AllButThose, IsAsleep, by_place, held, shown}
use Rattle.sleepers.proofs.AgendaLemmas.{awake_placed}
use Rattle.sleepers.proofs.PlaceListLemmas.{by_place_placed}
use Rattle.sleepers.proofs.SortedEntryLemmas.{woken_in_order}
use Rattle.sleepers.proofs.sleeper_list.Sleepers.agenda.Goals as goal

pub of-requires : goal.of-requires
of-requires g c =
    let groups = c.self.inside.groups in
    let of = c.in_ok-woken.ensures in
    let after = c.sort_by_place.new.entries.items in
    awake_placed (IsAsleep c.args.events.now c.args.time) (by_place (held groups)) (shown after) (by_place_placed (held groups) c.self.invariant.apart)
    (woken_in_order c.args.events.now c.args.time groups of.numbers c.in_ok-woken.woken.items after c.sort_by_place.ensures.same c.sort_by_place.ensures.order of.are of.awake
    c.self.invariant.apart)

pub returns : goal.returns
returns g c =
    let groups = c.self.inside.groups in
    let of = c.in_ok-woken.ensures in
    let after = c.sort_by_place.new.entries.items in
    subst (λ s. AllButThose (IsAsleep c.args.events.now c.args.time) s.entries c.of.result) c.self.view_is
    (subst (AllButThose (IsAsleep c.args.events.now c.args.time) (by_place (held groups))) (sym c.of.ensures)
    (woken_in_order c.args.events.now c.args.time groups of.numbers c.in_ok-woken.woken.items after c.sort_by_place.ensures.same c.sort_by_place.ensures.order of.are of.awake
    c.self.invariant.apart))
