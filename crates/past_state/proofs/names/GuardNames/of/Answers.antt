use Rattle.past_state.proofs.Vocabulary.{rules, Contains, sym, subst, always_returns_same, Contains-permutation, IsPermutation-sym, NameId}
use Rattle.past_state.proofs.names.GuardNames.of.Goals as goal

pub invariant_of-result : goal.invariant_of-result
invariant_of-result c = c.sort_unstable_by_key.ensures.sorted (λ (name : NameId). name.0) (always_returns_same _ _ _ (λ a r q k. search rules))

pub returns : goal.returns
returns c = λ name. (
  λ there. subst (λ l. Contains l name) c.in_ok-rising.ensures (Contains-permutation _ _ name (IsPermutation-sym _ _ c.sort_unstable_by_key.ensures.permutation) there),
  λ there. Contains-permutation _ _ name c.sort_unstable_by_key.ensures.permutation (subst (λ l. Contains l name) (sym c.in_ok-rising.ensures) there),
)
