use Rattle.pending.proofs.Vocabulary.{map, on_ok_both, plan_of, refl, subst}
use Rattle.pending.proofs.AskingLemmas.{moved_kept, own_of}
use Rattle.pending.specs.machine.AskedEntries.{AskingList, AsksMoved, entries_asked}
use Rattle.pending.proofs.asking.Asking.ask_moved.Goals as goal

pub put_back-requires-clause-places : goal.put_back-requires-clause-places
put_back-requires-clause-places c =
    own_of c.self.inside.sleepers.now.entries c.self.inside.agenda (entries_asked c.self.inside.asked.items) c.self.invariant.0

pub put_back-requires-clause-nodes : goal.put_back-requires-clause-nodes
put_back-requires-clause-nodes c = c.self.invariant.1

pub invariant_of-self : goal.invariant_of-self
invariant_of-self c = (
  moved_kept c.self.inside.sleepers.now.entries c.self.inside.agenda (entries_asked c.self.inside.asked.items) c.put_back.new.agenda (entries_asked c.put_back.new.asked.items)
      c.put_back.ensures.among c.put_back.ensures.fewer c.self.invariant.0,
  c.put_back.ensures.nodes,
)

pub returns : goal.returns
returns c =
    let after : AskingList =
    record { all = c.self.inside.sleepers.now.entries; ahead = c.put_back.new.agenda; asked = entries_asked c.put_back.new.asked.items } in
    on_ok_both c.put_back.result _ _ _
    (λ kept asked. subst (λ a. AsksMoved (map plan_of c.args.plans.now) c.args.kind c.args.name a after) c.self.view_is (record { all = refl; ahead = kept; asked = asked }))
    c.put_back.ensures.kept c.put_back.ensures.asked
