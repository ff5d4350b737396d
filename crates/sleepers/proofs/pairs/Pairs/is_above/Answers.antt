use Rattle.sleepers.proofs.Vocabulary.{ℕ, ◌<◌, List, Contains, arith, sym, subst, All-contains, IsLeBy}
use Rattle.sleepers.proofs.PairLemmas.{least_key, none_in_short, pair_cmp}
use Rattle.sleepers.proofs.pairs.Pairs.is_above.Goals as goal

pub returns-in-Some : goal.returns-in-Some
returns-in-Some c = λ above pair there below.
    let among : Contains c.self.inside.pairs.keys pair = subst (λ (l : List (ℕ × ℕ)). Contains l pair) (sym c.self.view_is) there in
    let least = least_key c.in-Some.pair.now pair (All-contains (IsLeBy pair_cmp c.in-Some.pair.now) c.self.inside.pairs.keys pair c.in-Some.ensures.all_from among) in
    let over : c.args.key < c.in-Some.pair.now.0 = grind (arith, above) in
    omega (arith, least, over, below)

pub returns-in-None : goal.returns-in-None
returns-in-None c = λ above pair there below.
    let among : Contains c.self.inside.pairs.keys pair = subst (λ (l : List (ℕ × ℕ)). Contains l pair) (sym c.self.view_is) there in
    none_in_short c.first.result c.self.inside.pairs.keys pair c.first.ensures.variant c.in-None.is among
