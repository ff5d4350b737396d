use Rattle.log_stream.proofs.OneLog.{one_log}
use Rattle.log_stream.proofs.laws.one_log.Goals as goal

pub returns : goal.returns
returns c entries mode bytes items others refusal other is also = one_log c.one_token_at_place.ensures entries mode bytes items others refusal other is also
