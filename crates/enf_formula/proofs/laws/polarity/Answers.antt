use Rattle.enf_formula.proofs.PolarityLemmas.{more_events_keep}
use Rattle.enf_formula.proofs.laws.polarity.Goals as goal

pub returns : goal.returns
returns c = more_events_keep
