use Rattle.valuations.proofs.Vocabulary.{sym, ◌∙◌}
use Rattle.valuations.proofs.BindingLemmas.{bindings-listed}
use Rattle.valuations.proofs.valuation.Valuation.bindings.Goals as goal

pub returns : goal.returns
returns c =
    c.as_slice.ensures.value ∙ sym (bindings-listed c.self.inside.bindings.items c.args.self.now c.self.invariant c.self.view_is)
