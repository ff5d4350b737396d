use Rattle.sleepers.proofs.Vocabulary.{◌≡◌, ◌+◌, ap, arith, reverse, sym, subst, subst₂, ◌∙◌, HasOneMoreEntry, IsFreePlace, AreKept, by_place, held}
use Rattle.sleepers.proofs.NotedGroupLemmas.{kept_put, kept_stay}
use Rattle.sleepers.proofs.PlaceListLemmas.{by_place_more}
use Rattle.sleepers.proofs.sleeper_list.Sleepers.put.Goals as goal

pub invariant_of-self-in-Ok : goal.invariant_of-self-in-Ok
invariant_of-self-in-Ok g c =
    let first = c.self.inside.groups in
    let old = c.group_for.new.groups in
    let new = c.put.new.self in
    let noted = c.group_for.new.index in
    let count = c.self.inside.count in
    let entry = c.args.entry in
    let kept = kept_stay first old c.self.inside.index noted count (reverse c.self.inside.walk.items) c.group_for.ensures.stay c.group_for.ensures.noted c.self.invariant in
    let free : IsFreePlace entry.place (by_place (held old)) =
    subst (λ l. IsFreePlace entry.place (by_place l)) (sym c.group_for.ensures.stay.all) (subst (λ s. IsFreePlace entry.place s.entries) (sym c.self.view_is) c.requires) in
    let more : count + 1 ≡ c.in-Some.more = omega (arith, c.in-Some.ensures) in
    subst₂ (AreKept new noted) more (sym (ap reverse c.clear.ensures.items))
    (kept_put old new noted count c.in_ok-number.number _ entry c.in_ok-number.ensures.ok c.put.ensures.others c.in-Ok.ensures.group c.in-Ok.ensures.ok free kept)

pub returns-in-Ok-clause-ok : goal.returns-in-Ok-clause-ok
returns-in-Ok-clause-ok g c =
    let old = c.group_for.new.groups in
    let new = c.put.new.self in
    let entry = c.args.entry in
    subst (λ l. HasOneMoreEntry entry l (by_place (held new))) (ap by_place c.group_for.ensures.stay.all ∙ ap (λ s. s.entries) c.self.view_is)
    (by_place_more entry (held old) (held new) c.in-Ok.ensures.ok (invariant_of-self-in-Ok g c).apart)
