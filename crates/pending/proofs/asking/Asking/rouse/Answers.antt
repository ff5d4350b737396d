use Rattle.pending.proofs.Vocabulary.{on_ok_weaker, refl, subst}
use Rattle.pending.specs.machine.AskedEntries.{AskingList, RousesAsking, entries_asked}
use Rattle.pending.proofs.asking.Asking.rouse.Goals as goal

pub rouse-requires : goal.rouse-requires
rouse-requires c = c.self.invariant.0.ahead

pub invariant_of-self : goal.invariant_of-self
invariant_of-self c = (record { placed = c.self.invariant.0.placed; ahead = c.rouse.ensures.among; asked = c.self.invariant.0.asked }, c.self.invariant.1)

pub returns : goal.returns
returns c =
    let after : AskingList =
    record { all = c.self.inside.sleepers.now.entries; ahead = c.rouse.new.agenda; asked = entries_asked c.self.inside.asked.items } in
    on_ok_weaker c.rouse.result
    (λ rouses. subst (λ a. RousesAsking c.args.event.now a after) c.self.view_is (record { all = refl; ahead = rouses.kept; asked = refl; roused = rouses.roused })) c.rouse.ensures.ok
