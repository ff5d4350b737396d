use Rattle.pending.proofs.Vocabulary.{ap, refl, sym, subst, ◌∙◌}
use Rattle.pending.proofs.AskingLemmas.{first_ahead}
use Rattle.pending.specs.machine.AskedEntries.{IsFirstAhead}
use Rattle.pending.proofs.asking.Asking.next.Goals as goal

pub returns-in_err-entry-clause-none : goal.returns-in_err-entry-clause-none
returns-in_err-entry-clause-none c = λ none. sym (ap (λ a. a.ahead) c.self.view_is) ∙ c.in_err-entry.ensures.none.0 refl

pub returns-clause-some : goal.returns-clause-some
returns-clause-some c =
    subst (λ a. IsFirstAhead a c.in_ok-entry.entry.now.item) c.self.view_is
    (first_ahead _ c.in_ok-entry.entry.now c.self.invariant.0.placed c.self.invariant.0.ahead c.next.ensures.order c.in_ok-entry.ensures.some)
