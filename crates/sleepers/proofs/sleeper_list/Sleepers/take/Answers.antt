use Rattle.sleepers.proofs.Vocabulary.{◌-◌, ◌∷◌, Some, ap, reverse, sym, subst, ◌∙◌, HasOneMoreEntry, AreKept, AreNoted, ahead_of, by_place, held}
use Rattle.sleepers.proofs.GroupLemmas.{ahead_same}
use Rattle.sleepers.proofs.NotedGroupLemmas.{kept_on}
use Rattle.sleepers.proofs.BackwardLemmas.{last_front}
use Rattle.sleepers.proofs.GroupWalkLemmas.{left_ahead, some_ahead, take_kept, taken_ahead, taken_more, taken_noted}
use Rattle.sleepers.proofs.sleeper_list.Sleepers.take.Goals as goal

pub returns-in_err-entry-clause-none : goal.returns-in_err-entry-clause-none
returns-in_err-entry-clause-none g c =
    let walk = reverse c.self.inside.walk.items in
    let number = c.in_ok-number.number in
    let is = last_front c.deref.result.now c.self.inside.walk.items number c.deref.ensures.value (sym c.last.ensures.value ∙ sym c.copied.ensures ∙ c.in_ok-number.was) in
    absurd (some_ahead c.self.inside.groups c.take.new.self c.self.inside.index c.self.inside.count number walk is c.take.ensures.others c.self.invariant c.in_err-entry.ensures.none.0)

pub invariant_of-self-2 : goal.invariant_of-self-2
invariant_of-self-2 g c =
    let old = c.self.inside.groups in
    let new = c.take.new.self in
    let walk = reverse c.self.inside.walk.items in
    let number = c.in_ok-number.number in
    let entry = c.in_ok-entry.entry in
    let index = c.self.inside.index in
    let count = c.self.inside.count in
    let is = last_front c.deref.result.now c.self.inside.walk.items number c.deref.ensures.value (sym c.last.ensures.value ∙ sym c.copied.ensures ∙ c.in_ok-number.was) in
    let noted = c.release.ensures.noted (taken_noted old new index count number walk is c.take.ensures.others entry c.self.invariant c.in_ok-entry.ensures.group) in
    let kept = subst (λ l. AreKept l c.release.new.index (count - 1) (reverse c.leave.new.walk.items)) (sym c.release.ensures.groups)
    (take_kept old new index count number walk is c.take.ensures.others (reverse c.leave.new.walk.items) c.leave.ensures.over c.leave.ensures.on entry c.self.invariant
    c.in_ok-entry.ensures.some c.release.new.index
    (subst (λ l. AreNoted l c.release.new.index) c.release.ensures.groups noted)) in
    kept_on c.release.new.groups c.renew.new.groups c.release.new.index c.renew.new.index (count - 1) (reverse c.leave.new.walk.items)
    c.renew.ensures.stay (c.renew.ensures.noted kept.index) kept

pub returns-clause-ahead : goal.returns-clause-ahead
returns-clause-ahead g c =
    let old = c.self.inside.groups in
    let new = c.take.new.self in
    let walk = reverse c.self.inside.walk.items in
    let number = c.in_ok-number.number in
    let index = c.self.inside.index in
    let count = c.self.inside.count in
    let entry = c.in_ok-entry.entry in
    let is = last_front c.deref.result.now c.self.inside.walk.items number c.deref.ensures.value (sym c.last.ensures.value ∙ sym c.copied.ensures ∙ c.in_ok-number.was) in
    let left = left_ahead old new index count number walk is c.take.ensures.others (reverse c.leave.new.walk.items) c.leave.ensures.over c.leave.ensures.on c.self.invariant in
    let same = ap (λ l. ahead_of l (reverse c.leave.new.walk.items)) c.release.ensures.groups in
    sym (ap (λ s. s.ahead) c.self.view_is)
    ∙ taken_ahead old new index count number walk is c.take.ensures.others (Some entry) c.in_ok-entry.ensures.after
    ∙ ap (λ l. entry ∷ l) (sym (ahead_same (reverse c.leave.new.walk.items) c.release.new.groups c.renew.new.groups c.renew.ensures.stay ∙ same ∙ left))

pub returns-clause-some : goal.returns-clause-some
returns-clause-some g c =
    let old = c.self.inside.groups in
    let new = c.take.new.self in
    let walk = reverse c.self.inside.walk.items in
    let number = c.in_ok-number.number in
    let index = c.self.inside.index in
    let count = c.self.inside.count in
    let entry = c.in_ok-entry.entry in
    let is = last_front c.deref.result.now c.self.inside.walk.items number c.deref.ensures.value (sym c.last.ensures.value ∙ sym c.copied.ensures ∙ c.in_ok-number.was) in
    subst (λ l. HasOneMoreEntry entry (by_place l) c.args.self.now.entries) (sym (c.renew.ensures.stay.all ∙ ap held c.release.ensures.groups))
    (subst (λ s. HasOneMoreEntry entry (by_place (held new)) s.entries) c.self.view_is
    (taken_more old new index count number walk is c.take.ensures.others entry c.self.invariant c.in_ok-entry.ensures.some))
