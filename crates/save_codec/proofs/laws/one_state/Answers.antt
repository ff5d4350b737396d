use Rattle.save_codec.proofs.SavedTexts.{one_state}
use Rattle.save_codec.proofs.laws.one_state.Goals as goal

pub returns : goal.returns
returns c = one_state c.printed_is_token.ensures c.one_token_at_place.ensures c.nodes_have_scopes.ensures.rises
