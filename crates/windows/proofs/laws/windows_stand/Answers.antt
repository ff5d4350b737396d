use Rattle.windows.proofs.WindowLemmas.{remembered_is_kept, committed_stands, answered_is_walked}
use Rattle.windows.proofs.laws.windows_stand.Goals as goal

pub returns-clause-kept : goal.returns-clause-kept
returns-clause-kept c = remembered_is_kept

pub returns-clause-committed : goal.returns-clause-committed
returns-clause-committed c = committed_stands

pub returns-clause-answered : goal.returns-clause-answered
returns-clause-answered c = answered_is_walked
