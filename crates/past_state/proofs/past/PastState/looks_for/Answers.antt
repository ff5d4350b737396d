use Rattle.past_state.proofs.Vocabulary.{◌↔◌, IsTrue, Contains, subst, iff_then, guard_names}
use Rattle.past_state.proofs.past.PastState.looks_for.Goals as goal

pub returns : goal.returns
returns c = subst (λ p. IsTrue c.has.result ↔ Contains (guard_names p.guards) c.args.name) c.self.view_is
    (iff_then c.has.ensures (c.self.invariant.1 c.args.name))
