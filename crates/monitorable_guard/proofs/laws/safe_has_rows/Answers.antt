use Rattle.monitorable_guard.proofs.Vocabulary.{[]}
use Rattle.monitorable_guard.proofs.RowLists.{decided_at, rows_at}
use Rattle.monitorable_guard.proofs.laws.safe_has_rows.Goals as goal

pub returns-clause-decided : goal.returns-clause-decided
returns-clause-decided c = λ trace i v f bound safe fresh. decided_at c.dependence.ensures.values trace i v f bound [] safe fresh v

pub returns-clause-rows : goal.returns-clause-rows
returns-clause-rows c = λ trace i v f bound xs safe fresh told. rows_at c.dependence.ensures.values trace i v f bound xs safe fresh told
