use Rattle.sleepers.proofs.Vocabulary.{OnOk, set, refl, sym, subst, subst₂, arith, on_ok_weaker, HasIn, entries_at, held}
use Rattle.sleepers.proofs.GroupChangeLemmas.{put_group, put_held}
use Rattle.sleepers.proofs.groups.Groups.put.Goals.{in-Some, in-None}
use Rattle.sleepers.proofs.groups.Groups.put.Goals as goal

pub returns-clause-ok : goal.returns-clause-ok
returns-clause-ok g c =
    let groups = c.self.inside.lists.items in
    let before = c.args.self.now in
    let entry = c.args.entry in
    elim c.match-get_mut.branch [
      | in-Some w ↦ subst₂ (λ r i. OnOk r (HasIn entry (held before) (held i.lists.items))) (sym w.result-is) (sym w.self-inside-is)
          (on_ok_weaker w.push_back.result (λ after. subst (λ l. HasIn entry (held l) (held (set groups c.args.number w.push_back.new.self))) c.self.view_is
          (put_held groups c.args.number w.in-Some.list.now w.push_back.new.self (omega (arith, (w.in-Some.ensures.variant).0 refl, c.self.inside.lists.ok.0)) w.in-Some.ensures.value entry
          w.push_back.ensures.before after)) w.push_back.ensures.ok)
      | in-None w ↦ subst (λ r. OnOk r (HasIn entry (held before) (held c.match-get_mut.self-inside.lists.items))) (sym w.result-is) tt
    ]

pub returns-clause-group : goal.returns-clause-group
returns-clause-group g c =
    let groups = c.self.inside.lists.items in
    let before = c.args.self.now in
    let entry = c.args.entry in
    elim c.match-get_mut.branch [
      | in-Some w ↦ subst₂ (λ r i. OnOk r (HasIn entry (entries_at before c.args.number) (entries_at i.lists.items c.args.number))) (sym w.result-is) (sym w.self-inside-is)
          (on_ok_weaker w.push_back.result (λ after. subst (λ l. HasIn entry (entries_at l c.args.number) (entries_at (set groups c.args.number w.push_back.new.self) c.args.number)) c.self.view_is
          (put_group groups c.args.number w.in-Some.list.now w.push_back.new.self (omega (arith, (w.in-Some.ensures.variant).0 refl, c.self.inside.lists.ok.0)) w.in-Some.ensures.value entry
          w.push_back.ensures.before after)) w.push_back.ensures.ok)
      | in-None w ↦ subst (λ r. OnOk r (HasIn entry (entries_at before c.args.number) (entries_at c.match-get_mut.self-inside.lists.items c.args.number))) (sym w.result-is) tt
    ]
