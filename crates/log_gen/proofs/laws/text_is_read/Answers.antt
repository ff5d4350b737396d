use Rattle.log_gen.specs.meaning.Samples.{sample_entries}
use Rattle.log_gen.specs.meaning.GeneratedLogs.{generated}
use Rattle.log_gen.proofs.StepLimits.{steps_within}
use Rattle.log_gen.proofs.StepLines.{IsLog-lines}
use Rattle.log_gen.proofs.SampleSignature.{IsSignature-sample}
use Rattle.log_gen.proofs.laws.text_is_read.Goals as goal

pub returns : goal.returns
returns c = λ start steps mode few.
    IsLog-lines c.line_is_read_again.ensures sample_entries mode IsSignature-sample (generated start steps) (steps_within start steps few)
