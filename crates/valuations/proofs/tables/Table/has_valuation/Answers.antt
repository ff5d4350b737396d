use Rattle.valuations.proofs.Vocabulary.{rules, subst, map, Some, length, ◌∙◌, always_returns_same, value_at, key_cmp, IsSearchInRange, IsBinarySearchResult}
use Rattle.valuations.proofs.LookupLemmas.{lookup_tells}
use Rattle.valuations.proofs.tables.Table.has_valuation.Goals as goal

pub returns-clause-has : goal.returns-clause-has
returns-clause-has g c =
    let facts = c.binary_search_by.ensures in
    let position = facts.position (λ row. key_cmp (map Some row) (map (value_at (g.V.Lookup.valuation c.args.v.now)) c.as_slice-columns.result.now))
    (always_returns_same _ _ _ (λ a r q k. search rules)) in
    let columns = c.as_slice-columns.ensures ∙ c.columns.ensures.columns in
    let told = lookup_tells c.args.self.now (g.V.Lookup.valuation c.args.v.now) c.binary_search_by.result c.columns.ensures.table
    (subst (λ l. IsSearchInRange c.binary_search_by.result (length l)) c.rows.ensures.rows facts.bound)
    (subst (λ l. IsBinarySearchResult (λ row. key_cmp (map Some row) (map (value_at (g.V.Lookup.valuation c.args.v.now)) l)) c.args.self.now.rows c.binary_search_by.result) columns
    (subst (λ l. IsBinarySearchResult (λ row. key_cmp (map Some row) (map (value_at (g.V.Lookup.valuation c.args.v.now)) c.as_slice-columns.result.now)) l c.binary_search_by.result)
    c.rows.ensures.rows position)) in
    rw c.is_ok.ensures.value told
