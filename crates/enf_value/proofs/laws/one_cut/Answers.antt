use Rattle.enf_value.proofs.CutOnce.{one_cut_is}
use Rattle.enf_value.proofs.laws.one_cut.Goals as goal

pub returns : goal.returns
returns c = one_cut_is
