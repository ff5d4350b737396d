use Rattle.enf_value.proofs.ValueTokenLaws.{is_one}
use Rattle.enf_value.proofs.laws.one_token_at_place.Goals as goal

pub returns : goal.returns
returns c = is_one
