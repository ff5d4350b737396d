use Rattle.slices.proofs.SlicedLogs.{changes_merge, good_logs_stay_good, logs_have_sliced_steps}
use Rattle.slices.proofs.laws.logs.Goals as goal

pub returns : goal.returns
returns c = record { steps = logs_have_sliced_steps; good = good_logs_stay_good; changes = changes_merge }
