use Rattle.obligations.proofs.Vocabulary.{false, not, ◌∙◌, ◌↔◌, Contains, IsTrue, sym, subst, true≢false}
use Rattle.obligations.proofs.PresentEventLemmas.{left_else, left_then}
use Rattle.obligations.proofs.present_events.PresentEvents.contains.Goals as goal

pub returns-then-contains : goal.returns-then-contains
returns-then-contains c =
    subst (λ l. IsTrue (not c.contains-then-contains.result) ↔ Contains l c.args.event.now) c.self.view_is
    (left_then c.self.inside.events.now c.self.inside.gone.now c.args.event.now c.contains-then-contains.result (c.contains.ensures.0 c.if-contains.true) c.contains-then-contains.ensures)

pub returns-else-contains : goal.returns-else-contains
returns-else-contains c =
    subst (λ b. IsTrue b ↔ Contains c.args.self.now c.args.event.now) (sym c.if-contains.false)
    (subst (λ l. IsTrue false ↔ Contains l c.args.event.now) c.self.view_is
    (left_else c.self.inside.events.now c.self.inside.gone.now c.args.event.now (λ there. true≢false (sym (c.contains.ensures.1 there) ∙ c.if-contains.false))))
