use Rattle.std.specs.Prelude.{[], ◌∷◌}
use Rattle.std.proofs.Common.{arith}
use Rattle.enf_data.proofs.Lists.{here}
use Rattle.deadline_queue.proofs.worked_cases.deadlines.Goals as goal

pub returns-clause-not_the_same : goal.returns-clause-not_the_same
returns-clause-not_the_same c = λ more. grind (arith, more 3)

pub returns-clause-not_the_greatest : goal.returns-clause-not_the_greatest
returns-clause-not_the_greatest c = λ least. omega (arith, least.1 3 (here 3 (3 ∷ 5 ∷ [])))
