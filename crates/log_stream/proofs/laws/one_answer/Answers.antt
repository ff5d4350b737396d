use Rattle.log_stream.proofs.OneReading.{one_answer}
use Rattle.log_stream.proofs.laws.one_answer.Goals as goal

pub returns : goal.returns
returns c entries mode bytes answer other is also = one_answer c.one_token_at_place.ensures entries mode bytes answer other is also
