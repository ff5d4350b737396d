use Rattle.enforce_types.proofs.WellFormedPlans.{plans_end_later, plans_formed, plans_kept}
use Rattle.enforce_types.proofs.laws.plans_are_well_formed.Goals as goal

pub returns : goal.returns
returns c = record { formed = plans_formed; later = plans_end_later; kept = plans_kept }
