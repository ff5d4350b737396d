use Rattle.past_state.proofs.Vocabulary.{rules, ◌↔◌, IsTrue, is_ok, Contains, length, refl, subst, always_returns_same, nat_cmp_total, nat_cmp-IsAntisymmetric, IsSearchInRange, IsBinarySearchResult}
use Rattle.past_state.proofs.Vocabulary.{nat_cmp, NameId, same_name, found_tells}
use Rattle.past_state.proofs.names.GuardNames.has.Goals as goal

pub returns : goal.returns
returns c =
    let listed = c.self.inside.rising.items in
    let facts = c.binary_search_by_key.ensures in
    let position = facts.position (λ (name : NameId). name.0) (always_returns_same _ _ _ (λ a r q k. search rules)) in
    let told = found_tells nat_cmp_total nat_cmp-IsAntisymmetric (λ (name : NameId). name.0) listed c.args.name.0 c.self.invariant c.binary_search_by_key.result
    (subst (λ l. IsSearchInRange c.binary_search_by_key.result (length l)) c.deref.ensures.value facts.bound)
    (subst (λ l. IsBinarySearchResult (λ y. nat_cmp (y.0) c.args.name.0) l c.binary_search_by_key.result) c.deref.ensures.value position) in
    let exact : IsTrue (is_ok c.binary_search_by_key.result) ↔ Contains listed c.args.name = (
      λ ok. let found = told.0 ok in subst (Contains listed) (same_name found.0 c.args.name found.2) found.1,
      λ there. told.1 (c.args.name, there, refl),
    ) in
    rw c.is_ok.ensures.value (subst (λ l. IsTrue (is_ok c.binary_search_by_key.result) ↔ Contains l c.args.name) c.self.view_is exact)
