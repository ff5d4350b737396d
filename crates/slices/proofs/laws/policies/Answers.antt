use Rattle.slices.proofs.PolicyTruth.{merges_satisfy, slices_are_good, slices_decide}
use Rattle.slices.proofs.laws.policies.Goals as goal

pub returns : goal.returns
returns c = record { slices = slices_decide; merged = merges_satisfy; good = slices_are_good }
