use Rattle.enf_value.proofs.Spelled as spelled
use Rattle.enf_value.proofs.laws.spelled_is_read.Goals as goal

pub returns : goal.returns
returns c = spelled.spelled_is_read
