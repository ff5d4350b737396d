use Rattle.sleepers.proofs.Vocabulary.{ℕ, ◌<◌, ◌^◌, List, Contains, inl, inr, ⊎_elim, ap, sym, subst, is_at}
use Rattle.sleepers.proofs.PairLemmas.{pair_cmp, pair_tested, remove_each, remove_keeps}
use Rattle.sleepers.proofs.pairs.Pairs.remove.Goals as goal

pub invariant_of-self : goal.invariant_of-self
invariant_of-self c =
    rw c.remove.ensures.keys (remove_each (is_at (pair_cmp (c.args.key, c.args.group))) (λ (pair : ℕ × ℕ). pair.1 < 2 ^ 64) c.self.inside.pairs.keys c.self.invariant)

pub returns : goal.returns
returns c = λ pair there.
    ⊎_elim (λ tested. inl (ap (λ (p : ℕ × ℕ). p.1) (pair_tested (c.args.key, c.args.group) pair tested)))
    (λ on. inr (rw c.remove.ensures.keys on))
    (remove_keeps (is_at (pair_cmp (c.args.key, c.args.group))) c.self.inside.pairs.keys pair (subst (λ (l : List (ℕ × ℕ)). Contains l pair) (sym c.self.view_is) there))
