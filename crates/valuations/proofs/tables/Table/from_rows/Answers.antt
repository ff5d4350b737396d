use Rattle.valuations.proofs.Vocabulary.{rules, ◌≡◌, length, subst, sym, dedup, is_lt, eq_by_cmp, dedup_same, answers_always, ranks_by, All-permutation, All-dedup, row_cmp, IsTable, row_cmp_total}
use Rattle.std.specs.List.{All}
use Rattle.std.specs.List.Sorted.{IsStrictlySortedBy}
use Rattle.valuations.proofs.RowOrder.{sorted_set, IsSortedSet}
use Rattle.valuations.proofs.tables.Table.from_rows.Goals as goal

deduped : (c : goal.After-dedup_by) → c.dedup_by.new.self.items ≡ dedup (eq_by_cmp row_cmp) c.sort_unstable_by.new.self.items
deduped c = dedup_same _ _ _ (λ x y b f' x' y' k. search rules) _ _ c.dedup_by.ensures.filtered

set_of : (c : goal.After-dedup_by) → IsSortedSet c.args.rows.items c.dedup_by.new.self.items
set_of c =
    let sorted = c.sort_unstable_by.ensures.sorted (λ x y. is_lt (row_cmp x y)) (ranks_by row_cmp_total (λ r. r)) (answers_always _ _ _ (λ f a r g called. search rules)) in
    sorted_set _ _ _ c.sort_unstable_by.ensures.permutation sorted (deduped c)

table : (c : goal.After-dedup_by) → IsTable (record { columns = c.args.columns; rows = c.dedup_by.new.self.items })
table c = record {
  distinct = c.requires.distinct;
  fits = subst (All (λ row. length row ≡ length c.args.columns)) (sym (deduped c)) (All-dedup _ (λ row. length row ≡ length c.args.columns) _
      (All-permutation (λ row. length row ≡ length c.args.columns) _ _ c.sort_unstable_by.ensures.permutation c.requires.fits));
  rising = (set_of c).rising;
}

pub invariant_of-result : goal.invariant_of-result
invariant_of-result c = record {
  distinct = c.requires.distinct;
  fits = c.requires.fits;
  rising = subst (IsStrictlySortedBy row_cmp) c.as_slice.ensures.value (c.do_rise.ensures c.if-do_rise.true);
}

pub invariant_of-result-2 : goal.invariant_of-result-2
invariant_of-result-2 c = table c

pub returns-clause-table : goal.returns-clause-table
returns-clause-table c = table c

pub returns-clause-rows : goal.returns-clause-rows
returns-clause-rows c = (set_of c).rows
