use Rattle.enforce_types.proofs.ReadRuleSorts.{text_sorted}
use Rattle.enforce_types.proofs.laws.read_is_sorted.Goals as goal

pub returns : goal.returns
returns c = λ entries bytes rules answer. text_sorted entries bytes rules answer
