use Rattle.valuations.proofs.Vocabulary.{rules, always_returns_same, is_lt, row_cmp, row_cmp_total}
use Rattle.enf_data.proofs.RisingLists.{rising_from_neighbours}
use Rattle.valuations.proofs.tables.do_rise.Goals as goal

pub returns : goal.returns
returns c = rising_from_neighbours row_cmp_total c.args.rows.now c.is_sorted_by.result
    (c.is_sorted_by.ensures.cases (λ x y. is_lt (row_cmp x y)) (always_returns_same _ _ _ (λ a r q k. search rules)))
