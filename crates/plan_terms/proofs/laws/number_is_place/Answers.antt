use Rattle.plan_terms.proofs.Vocabulary.{arith, nodes}
use Rattle.plan_terms.proofs.NodeSearch.{placed}
use Rattle.plan_terms.proofs.laws.number_is_place.Goals as goal

pub returns : goal.returns
returns c =
    λ plan number numbered. placed (nodes plan) 0 number number (omega arith) (λ i node found. let is = numbered i node found in omega arith)
