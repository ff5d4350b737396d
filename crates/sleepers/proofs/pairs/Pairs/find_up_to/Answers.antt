use Rattle.sleepers.proofs.pairs.Pairs.find_up_to.Goals as goal

pub returns-then-is_above-clause-ok : goal.returns-then-is_above-clause-ok
returns-then-is_above-clause-ok c = λ pair there below. absurd (c.is_above.ensures c.if-is_above.true pair there below)
