use Rattle.count_guard.proofs.FreeInCounts.{free_in_copies, free_in_counts}
use Rattle.count_guard.proofs.laws.free_variables.Goals as goal

pub returns : goal.returns
returns c = record { copies = free_in_copies; counts = free_in_counts }
