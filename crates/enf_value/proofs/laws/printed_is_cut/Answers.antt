use Rattle.enf_value.proofs.Spelled as spelled
use Rattle.enf_value.proofs.laws.printed_is_cut.Goals as goal

pub returns : goal.returns
returns c = spelled.printed_is_cut
