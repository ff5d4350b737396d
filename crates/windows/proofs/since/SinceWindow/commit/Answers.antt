use Rattle.windows.proofs.Vocabulary.{on_ok_weaker}
use Rattle.windows.proofs.WindowLemmas.{committed_by_table}
use Rattle.windows.proofs.since.SinceWindow.commit.Goals as goal

pub returns-clause-stands : goal.returns-clause-stands
returns-clause-stands c =
    on_ok_weaker c.commit_by.result (committed_by_table c.args.self.now c.args.time c.args.surviving.now c.args.right.now c.commit_by.new.self c.requires.later
    (c.requires.surviving_columns, c.requires.right_columns)) c.commit_by.ensures.ok
