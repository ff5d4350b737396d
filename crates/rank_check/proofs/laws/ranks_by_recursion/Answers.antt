use Rattle.rank_check.proofs.Vocabulary.{Edge}
use Rattle.rank_check.proofs.ChainLemmas.{no_rank, one_rank, one_edge, one_more, rises}
use Rattle.rank_check.proofs.laws.ranks_by_recursion.Goals as goal

pub returns-clause-one : goal.returns-clause-one
returns-clause-one c plans name rank other is also = one_rank (Edge plans) name rank other is also

pub returns-clause-zero : goal.returns-clause-zero
returns-clause-zero c plans from name is edge = one_edge (Edge plans) from name is edge

pub returns-clause-one_more : goal.returns-clause-one_more
returns-clause-one_more c plans name rank is = one_more (Edge plans) name rank is

pub returns-clause-rise : goal.returns-clause-rise
returns-clause-rise c plans from to low high edge is also = rises (Edge plans) from to low high edge is also

pub returns-clause-cycles : goal.returns-clause-cycles
returns-clause-cycles c plans name rank is cycle = no_rank (Edge plans) name rank is cycle
