use Rattle.rank_check.proofs.Vocabulary.{◌≤◌, arith, refl, NameId, rank_in}
use Rattle.rank_check.proofs.chains.is_reached.Goals as goal

pub returns-then-has : goal.returns-then-has
returns-then-has c =
    let from : NameId = record { 0 = c.loop-number.number } in
    let high : c.args.least ≤ rank_in c.args.ranks.now from = omega (arith, c.if-ranks-number.true) in
    (λ _. (from, high, c.has.ensures.0 c.if-has.true), λ _. refl)
