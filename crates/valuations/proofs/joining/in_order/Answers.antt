use Rattle.valuations.proofs.Vocabulary.{rules, ◌≡◌, sym, ◌∙◌, subst, Contains, is_lt, always_returns_same, take_all, ranks_by, IsPermutation-map, IsPermutation-sym, Contains-permutation, row_key}
use Rattle.valuations.proofs.Vocabulary.{key_cmp, shown_rows}
use Rattle.valuations.proofs.KeyLaws.{key_cmp_total}
use Rattle.valuations.proofs.joining.in_order.Goals as goal

pub returns-clause-order : goal.returns-clause-order
returns-clause-order c = c.sort_unstable_by.ensures.sorted (λ x y. is_lt (key_cmp (row_key x.now c.args.places.now) (row_key y.now c.args.places.now)))
    (ranks_by key_cmp_total (λ row. row_key row.now c.args.places.now)) (always_returns_same _ _ _ (λ a r q k. search rules))

pub returns-clause-rows : goal.returns-clause-rows
returns-clause-rows c = λ row.
    let all : shown_rows c.loop-row.order.items ≡ c.args.rows.now = c.loop-row.invariant ∙ take_all c.loop-row.row-index c.args.rows.now c.loop-row-test.false in
    let moved = IsPermutation-map (λ r. r.now) c.loop-row.order.items _ c.sort_unstable_by.ensures.permutation in (
      λ there. subst (λ l. Contains l row) all (Contains-permutation _ _ row (IsPermutation-sym _ _ moved) there),
      λ there. Contains-permutation _ _ row moved
          (subst (λ l. Contains l row) (sym all) there),
    )
