use Rattle.enforcer_core.proofs.Vocabulary.{subst, IsLeastOf, Enforcing}
use Rattle.enforcer_core.proofs.enforcer.Enforcer.next_deadline.Goals as goal

pub returns : goal.returns
returns c = subst (λ (e : Enforcing). IsLeastOf e.pending.deadlines c.least_deadline.result) c.self.view_is c.least_deadline.ensures
