use Rattle.sleepers.proofs.Vocabulary.{rules, Bor, is_lt, always_returns_same, ranks_by, place_cmp, Entry}
use Rattle.sleepers.proofs.PlaceLemmas.{place_total}
use Rattle.sleepers.proofs.awake_groups.sort_by_place.Goals as goal

pub returns-clause-order : goal.returns-clause-order
returns-clause-order g c =
    c.sort_unstable_by.ensures.sorted (λ x y. is_lt (place_cmp x.now.place y.now.place)) (ranks_by place_total (λ (x : Bor (Entry g.row.T.Denot)). x.now.place))
    (always_returns_same _ _ _ (λ a r q k. search rules))
