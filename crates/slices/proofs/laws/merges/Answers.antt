use Rattle.slices.proofs.MergedSteps.{changes_stay_once, merges_are_enforced, steps_merge}
use Rattle.slices.proofs.laws.merges.Goals as goal

pub returns : goal.returns
returns c = record { steps = steps_merge; once = changes_stay_once; enforced = merges_are_enforced }
