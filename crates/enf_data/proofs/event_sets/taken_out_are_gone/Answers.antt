use Rattle.enf_data.proofs.RemovalLemmas.{each_gone}
use Rattle.enf_data.proofs.event_sets.taken_out_are_gone.Goals as goal

pub returns : goal.returns
returns c = each_gone
