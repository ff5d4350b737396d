use Rattle.log_gen.proofs.SamplePolicy.{policy_is_read}
use Rattle.log_gen.proofs.samples.sample_policy.Goals as goal

pub returns-clause-read : goal.returns-clause-read
returns-clause-read c = policy_is_read
