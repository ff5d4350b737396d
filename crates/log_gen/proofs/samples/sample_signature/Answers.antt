use Rattle.std.proofs.Common.{refl}
use Rattle.log_gen.proofs.SampleSignature.{IsSignature-sample}
use Rattle.log_gen.proofs.samples.sample_signature.Goals as goal

pub returns-clause-read : goal.returns-clause-read
returns-clause-read c = (IsSignature-sample, refl)
