use Rattle.rank_check.proofs.Vocabulary.{arith, common_steps}
use Rattle.rank_check.proofs.SurveyLemmas.{greatest-append}
use Rattle.rank_check.proofs.horizon.greatest_rank.Goals as goal

pub loop-rank-preserved : goal.loop-rank-preserved
loop-rank-preserved c = grind (arith, common_steps, greatest-append)
