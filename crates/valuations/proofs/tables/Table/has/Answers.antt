use Rattle.valuations.proofs.Vocabulary.{rules, always_returns_same, row_cmp, row_cmp_total, row_cmp_exact}
use Rattle.valuations.proofs.RowOrder.{search_tells}
use Rattle.valuations.proofs.tables.Table.has.Goals as goal

pub returns-clause-has : goal.returns-clause-has
returns-clause-has c =
    let facts = c.binary_search_by.ensures in
    let position = facts.position (λ y. row_cmp y c.args.row.now) (always_returns_same _ _ _ (λ a r q k. search rules)) in
    let told = search_tells row_cmp_total row_cmp_exact c.deref.result.now c.args.row.now c.binary_search_by.result (rw c.deref.ensures.value c.self.invariant.rising) facts.bound position in
    rw (c.is_ok.ensures.value, ← c.self.view_is, ← c.deref.ensures.value) told
