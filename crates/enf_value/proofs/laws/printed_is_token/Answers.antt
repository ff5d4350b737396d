use Rattle.enf_value.proofs.ValueTokenLaws.{is_printed}
use Rattle.enf_value.proofs.laws.printed_is_token.Goals as goal

pub returns : goal.returns
returns c = is_printed
