use Rattle.sleepers.proofs.Vocabulary.{◌++◌, ap, drop, reverse, sym, ◌∙◌, ahead_of}
use Rattle.sleepers.proofs.BackwardLemmas.{last_front}
use Rattle.sleepers.proofs.GroupWalkLemmas.{left_ahead, pass_kept, passed}
use Rattle.sleepers.proofs.sleeper_list.Sleepers.pass.Goals as goal

pub invariant_of-self : goal.invariant_of-self
invariant_of-self g c =
    let old = c.self.inside.groups in
    let walk = reverse c.self.inside.walk.items in
    let is = last_front c.deref.result.now c.self.inside.walk.items c.in-Some.number c.deref.ensures.value (sym c.last.ensures.value ∙ sym c.copied.ensures ∙ c.in-Some.is) in
    pass_kept old c.pass.new.self c.self.inside.index c.self.inside.count c.in-Some.number walk is c.pass.ensures.others (reverse c.leave.new.walk.items)
    c.leave.ensures.over c.leave.ensures.on c.self.invariant c.pass.ensures.entries c.pass.ensures.held

pub returns-clause-ahead : goal.returns-clause-ahead
returns-clause-ahead g c =
    let old = c.self.inside.groups in
    let new = c.pass.new.self in
    let walk = reverse c.self.inside.walk.items in
    let number = c.in-Some.number in
    let is = last_front c.deref.result.now c.self.inside.walk.items number c.deref.ensures.value (sym c.last.ensures.value ∙ sym c.copied.ensures ∙ c.in-Some.is) in
    left_ahead old new c.self.inside.index c.self.inside.count number walk is c.pass.ensures.others (reverse c.leave.new.walk.items) c.leave.ensures.over c.leave.ensures.on c.self.invariant
    ∙ ap (λ xs. xs ++ ahead_of old (drop 1 walk)) c.pass.ensures.after
    ∙ sym (passed old new c.self.inside.index c.self.inside.count number walk is c.pass.ensures.others c.self.invariant)
    ∙ ap (λ s. drop 1 s.ahead) c.self.view_is
