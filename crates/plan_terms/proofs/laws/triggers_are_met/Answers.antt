use Rattle.plan_terms.proofs.TriggerLemmas.{met}
use Rattle.plan_terms.proofs.laws.triggers_are_met.Goals as goal

pub returns : goal.returns
returns c = met
