use Rattle.past_state.proofs.Vocabulary.{◌≡◌, length, ap, subst, arith, all_operators, formulas_of_guards}
use Rattle.past_state.proofs.SavedLemmas.{counted}
use Rattle.past_state.proofs.past.PastState.window_count.Goals as goal

pub returns : goal.returns
returns c = subst (λ p. c.len.result ≡ length (all_operators (formulas_of_guards p.guards))) c.self.view_is
    (omega (
      arith,
      c.len.ensures,
      c.deref.result.now.items.ok.0,
      ap (λ s. length s.items.items) c.deref.ensures,
      counted
          (record { guards = c.self.inside.guards.value.items; operators = c.self.inside.operators.value.items.items }) c.self.invariant.0,
    ))
