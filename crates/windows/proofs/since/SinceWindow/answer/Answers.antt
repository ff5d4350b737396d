use Rattle.windows.proofs.Vocabulary.{IfOk-weaker, IsWalkedNow}
use Rattle.windows.proofs.WindowLemmas.{walked_now}
use Rattle.windows.proofs.since.SinceWindow.answer.Goals as goal

pub returns-clause-walked : goal.returns-clause-walked
returns-clause-walked c =
    IfOk-weaker c.answer_by.result _ (IsWalkedNow c.args.self.now c.args.time c.args.surviving.now c.args.right.now)
    (λ t has. walked_now c.args.self.now c.args.time c.args.surviving.now c.args.right.now t c.requires.later has) c.answer_by.ensures.rows
