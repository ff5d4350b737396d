use Rattle.enforcer_core.proofs.Vocabulary.{◌≡◌, subst, IfOk, Enforcing}
use Rattle.enforcer_core.proofs.enforcer.Enforcer.pending.Goals as goal

pub returns : goal.returns
returns c = subst (λ (e : Enforcing). IfOk c.to_list.result (λ list. list ≡ e.pending.instances)) c.self.view_is c.to_list.ensures
