use Rattle.sleepers.proofs.Vocabulary.{◌≡◌, [], ◌∷◌, IfSome, IsNone, drop, reverse, sym, subst, ◌∙◌}
use Rattle.sleepers.proofs.BackwardLemmas.{last_front}
use Rattle.sleepers.proofs.GroupWalkLemmas.{peek_none, peek_some}
use Rattle.sleepers.proofs.sleeper_list.Sleepers.peek.Goals as goal

pub returns-clause-none : goal.returns-clause-none
returns-clause-none g c =
    let number = c.in_ok-number.number in
    let walk = reverse c.self.inside.walk.items in
    let is = last_front c.deref.result.now c.self.inside.walk.items number c.deref.ensures.value (sym c.last.ensures.value ∙ sym c.copied.ensures ∙ c.in_ok-number.was) in
    subst (λ s. (IsNone c.peek.result → s.ahead ≡ []) × (s.ahead ≡ [] → IsNone c.peek.result)) c.self.view_is
    (peek_none c.self.inside.groups number walk is c.self.invariant.walk c.peek.result c.peek.ensures.none)

pub returns-clause-some : goal.returns-clause-some
returns-clause-some g c =
    let number = c.in_ok-number.number in
    let walk = reverse c.self.inside.walk.items in
    let is = last_front c.deref.result.now c.self.inside.walk.items number c.deref.ensures.value (sym c.last.ensures.value ∙ sym c.copied.ensures ∙ c.in_ok-number.was) in
    subst (λ s. IfSome c.peek.result (λ entry. s.ahead ≡ entry.now ∷ drop 1 s.ahead)) c.self.view_is
    (peek_some c.self.inside.groups number walk is c.peek.result c.peek.ensures.some)
