use Rattle.past_state.proofs.Vocabulary.{◌∙◌, ◌≤◌, drop, length, ap, sym, subst}
use Rattle.past_state.proofs.LazyTableLemmas.{asked_behind}
use Rattle.past_state.proofs.operator_answers.LazyTables.behind.Goals as goal

pub returns : goal.returns
returns c =
    asked_behind c.self.inside.operators.now c.self.inside.time c.self.inside.steps.now c.self.inside.places.now c.args.count (subst (λ l. c.args.count ≤ length l) (sym c.self.view_is) c.requires)
    ∙ ap (drop c.args.count) c.self.view_is
