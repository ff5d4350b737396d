use Rattle.enforce_types.proofs.Vocabulary.{subst, All, GuardBindsFresh, guard_of, StoredTyped}
use Rattle.enforce_types.proofs.TypedPolicyLemmas.{all_fresh}
use Rattle.enforce_types.proofs.typed_policy.TypedPolicy.guards.Goals as goal

pub returns-clause-fresh : goal.returns-clause-fresh
returns-clause-fresh c =
    subst (λ (t : StoredTyped). All (λ guard. GuardBindsFresh (guard_of guard)) t.guards) c.self.view_is (all_fresh _ c.self.invariant.formed.fresh)
