use Rattle.rank_check.proofs.RanksExist.{has_rank}
use Rattle.rank_check.proofs.laws.all_have_ranks.Goals as goal

pub returns : goal.returns
returns c = λ width test inside acyclic name. has_rank width test inside acyclic name
