use Rattle.enf_value.proofs.Cut as cuts
use Rattle.enf_value.proofs.laws.texts_are_cut.Goals as goal

pub returns : goal.returns
returns c = cuts.texts_are_cut
