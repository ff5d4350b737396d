use Rattle.log_stream.proofs.OneLog.{one_whole}
use Rattle.log_stream.proofs.laws.one_list_of_records.Goals as goal

pub returns : goal.returns
returns c entries mode bytes items others are also = one_whole c.one_token_at_place.ensures entries mode bytes items others are also
