use Rattle.enf_formula.proofs.Stability.{Sat_stable}
use Rattle.enf_formula.proofs.laws.is_classical.Goals as goal

pub returns : goal.returns
returns c = Sat_stable
