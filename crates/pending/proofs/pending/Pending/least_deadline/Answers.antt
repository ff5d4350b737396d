use Rattle.pending.proofs.Vocabulary.{subst, IsLeastOf, PendingList}
use Rattle.pending.proofs.pending.Pending.least_deadline.Goals as goal

pub returns : goal.returns
returns c = subst (λ (p : PendingList). IsLeastOf p.deadlines c.least.result) c.self.view_is c.least.ensures
