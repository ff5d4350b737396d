use Rattle.save_codec.proofs.OneText.{one_text}
use Rattle.save_codec.proofs.laws.one_text.Goals as goal

pub returns : goal.returns
returns c = one_text c.printed_is_token.ensures c.one_token_at_place.ensures
