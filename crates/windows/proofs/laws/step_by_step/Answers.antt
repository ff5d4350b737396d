use Rattle.windows.proofs.HeldLemmas.{nothing_at_first, one_step_more}
use Rattle.windows.proofs.laws.step_by_step.Goals as goal

pub returns : goal.returns
returns c = record { nothing = nothing_at_first; more = one_step_more }
