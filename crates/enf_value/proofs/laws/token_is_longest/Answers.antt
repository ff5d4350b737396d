use Rattle.enf_value.proofs.ValueTokenLaws.{is_longest}
use Rattle.enf_value.proofs.laws.token_is_longest.Goals as goal

pub returns : goal.returns
returns c = is_longest
