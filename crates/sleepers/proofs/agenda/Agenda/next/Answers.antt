use Rattle.sleepers.proofs.Vocabulary.{◌≡◌, ◌-◌, ◌∷◌, [], IfSome, IsNone, drop, length, subst, take, ◌∙◌}
use Rattle.sleepers.proofs.AgendaLemmas.{next_none, next_some, searched}
use Rattle.sleepers.proofs.agenda.Agenda.next.Goals as goal

pub returns-clause-none : goal.returns-clause-none
returns-clause-none g c =
    let all = c.as_slice.result.now in
    let passed = c.self.inside.passed in
    let r = c.copied.result in
    subst (λ l. (IsNone r → l ≡ []) × (l ≡ [] → IsNone r)) (searched c.self.inside.entries.items all passed c.as_slice.ensures.value ∙ c.self.view_is)
    (next_none (take (length all - passed) (drop passed all)) 0 r (c.copied.ensures ∙ c.first.ensures.value))

pub returns-clause-some : goal.returns-clause-some
returns-clause-some g c =
    let all = c.as_slice.result.now in
    let passed = c.self.inside.passed in
    let r = c.copied.result in
    subst (λ l. IfSome r (λ entry. l ≡ entry.now ∷ drop 1 l)) (searched c.self.inside.entries.items all passed c.as_slice.ensures.value ∙ c.self.view_is)
    (next_some (take (length all - passed) (drop passed all)) 0 r (c.copied.ensures ∙ c.first.ensures.value))
