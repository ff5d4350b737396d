use Rattle.sleepers.proofs.Vocabulary.{ℕ, ◌<◌, ◌^◌, List, Contains, sym, subst}
use Rattle.sleepers.proofs.PairLemmas.{insert_each, insert_has, insert_keeps, pair_cmp, pair_is}
use Rattle.sleepers.proofs.pairs.Pairs.add.Goals as goal

pub invariant_of-self-2 : goal.invariant_of-self-2
invariant_of-self-2 c =
    rw c.in_ok-insert.ensures.keys (insert_each pair_cmp (λ (pair : ℕ × ℕ). pair.1 < 2 ^ 64) c.self.inside.pairs.keys (c.args.key, c.args.group) c.self.invariant c.ranges.group.fits)

pub returns-clause-ok : goal.returns-clause-ok
returns-clause-ok c =
    rw c.in_ok-insert.ensures.keys (insert_has pair_cmp pair_is c.self.inside.pairs.keys (c.args.key, c.args.group))

pub returns-clause-kept : goal.returns-clause-kept
returns-clause-kept c = λ pair there.
    rw c.in_ok-insert.ensures.keys (insert_keeps pair_cmp c.self.inside.pairs.keys (c.args.key, c.args.group) pair
    (subst (λ (l : List (ℕ × ℕ)). Contains l pair) (sym c.self.view_is) there))
