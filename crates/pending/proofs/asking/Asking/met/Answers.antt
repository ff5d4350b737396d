use Rattle.pending.proofs.Vocabulary.{ap, refl, sym, subst, ◌∙◌}
use Rattle.pending.proofs.AskingLemmas.{met_kept, met_none, met_passes, noted_kept}
use Rattle.pending.specs.machine.AskedEntries.{AreAskedOf, AskingList, PassesFirst, entries_asked}
use Rattle.pending.proofs.asking.Asking.met.Goals as goal

pub returns-in_default : goal.returns-in_default
returns-in_default c = met_none c.args.self.now (sym (ap (λ a. a.ahead) c.self.view_is) ∙ c.in_default.ensures.none.0 refl)

-- without memory
pub invariant_of-self : goal.invariant_of-self
invariant_of-self c = (
  noted_kept c.self.inside.sleepers.now.entries c.self.inside.agenda (entries_asked c.self.inside.asked.items) (entries_asked c.note.new.asked.items) c.in-Some.entry.now
      c.in-Some.ensures.some c.note.ensures.among c.self.invariant.0,
  c.note.ensures.nodes,
)

pub invariant_of-self-2 : goal.invariant_of-self-2
invariant_of-self-2 c = (
  subst (λ ahead. AreAskedOf c.self.inside.sleepers.now.entries ahead (entries_asked c.note.new.asked.items)) (sym c.pass.ensures)
      (met_kept c.self.inside.sleepers.now.entries c.self.inside.agenda (entries_asked c.self.inside.asked.items) (entries_asked c.note.new.asked.items) c.in-Some.entry.now
      c.in-Some.ensures.some c.note.ensures.among c.self.invariant.0),
  c.note.ensures.nodes,
)

pub returns : goal.returns
returns c =
    let before : AskingList =
    record { all = c.self.inside.sleepers.now.entries; ahead = c.self.inside.agenda; asked = entries_asked c.self.inside.asked.items } in
    let after : AskingList =
    record { all = c.self.inside.sleepers.now.entries; ahead = c.pass.new.self; asked = entries_asked c.note.new.asked.items } in
    subst (λ a. PassesFirst a after) c.self.view_is
    (met_passes before after c.in-Some.entry.now c.in-Some.ensures.some refl c.pass.ensures c.note.ensures.kept c.in_ok-note.ensures.has)
