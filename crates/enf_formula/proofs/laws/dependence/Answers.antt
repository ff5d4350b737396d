use Rattle.enf_formula.proofs.Dependence.{free_variables_decide, past_decides}
use Rattle.enf_formula.proofs.NameLemmas.{names_decide}
use Rattle.enf_formula.proofs.laws.dependence.Goals as goal

pub returns : goal.returns
returns c = record { values = free_variables_decide; names = names_decide; steps = past_decides }
