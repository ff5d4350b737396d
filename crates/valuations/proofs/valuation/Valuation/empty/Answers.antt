use Rattle.valuations.proofs.BindingLemmas.{no_bindings}
use Rattle.valuations.proofs.valuation.Valuation.empty.Goals as goal

pub returns : goal.returns
returns c = no_bindings _ c.new.ensures.items
