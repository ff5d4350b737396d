use Rattle.sleepers.proofs.Vocabulary.{rules, ◌≡◌, refl, sym, ap, subst, ◌∙◌, arith, held}
use Rattle.sleepers.proofs.GroupChangeLemmas.{rewound_held}
use Rattle.sleepers.proofs.groups.Groups.rewind.Goals.{in-Some, in_default}
use Rattle.sleepers.proofs.groups.Groups.rewind.Goals as goal

pub returns-clause-held : goal.returns-clause-held
returns-clause-held g c =
    let groups = c.self.inside.lists.items in
    let before = c.args.self.now in
    elim c.match-get_mut.branch [
      | in-Some w ↦ subst (λ i. held i.lists.items ≡ held before) (sym w.self-inside-is)
          (rewound_held groups c.args.number w.in-Some.list.now w.rewind.new.self (omega (arith, (w.in-Some.ensures.variant).0 refl, c.self.inside.lists.ok.0)) w.in-Some.ensures.value
          w.rewind.ensures.before w.rewind.ensures.after
          ∙ ap held c.self.view_is)
      | in_default w ↦ subst (λ i. held i.lists.items ≡ held before) (sym w.self-inside-is) (search (rules, c.self.view_is))
    ]
