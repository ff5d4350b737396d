use Rattle.windows.proofs.Vocabulary.{rules, Contains, IsTable}
use Rattle.windows.proofs.EntryLemmas.{keeps_said, known_said, rows_said, unique_from}
use Rattle.windows.proofs.entries.keep_rows.Goals as goal

pub returns-clause-keeps : goal.returns-clause-keeps
returns-clause-keeps c =
    keeps_said _ (Contains c.args.surviving.now.rows) (IsTable c.args.surviving.now) _ (λ k v b w g call. search rules) _ _ c.retain.ensures.filtered (unique_from _ c.retain.ensures.unique)

pub returns-clause-table : goal.returns-clause-table
returns-clause-table c = known_said _ (Contains c.args.surviving.now.rows) (IsTable c.args.surviving.now) _ (λ k v b w g call. search rules) _ _ c.retain.ensures.filtered

pub returns-clause-rows : goal.returns-clause-rows
returns-clause-rows c = rows_said _ (Contains c.args.surviving.now.rows) (IsTable c.args.surviving.now) _ (λ k v b w g call. search rules) _ _ c.retain.ensures.filtered
