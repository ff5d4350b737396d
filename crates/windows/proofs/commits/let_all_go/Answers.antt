use Rattle.windows.proofs.Vocabulary.{arith}
use Rattle.windows.proofs.commits.let_all_go.Goals as goal

pub returns-clause-entries : goal.returns-clause-entries
returns-clause-entries c = c.clear.ensures.empty
