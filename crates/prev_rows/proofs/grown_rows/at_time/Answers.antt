use Rattle.prev_rows.proofs.Vocabulary.{arith, pair, KeptPair}
use Rattle.prev_rows.proofs.GrownLemmas.{all_given}
use Rattle.prev_rows.proofs.grown_rows.at_time.Goals as goal

pub returns : goal.returns
returns c = all_given (λ (p : KeptPair). pair p.row c.args.time) c.loop-pair.out.items _ c.args.pairs.items c.loop-pair.pair-iterator.rest.items c.loop-pair.invariant.2
    (omega (arith, c.in-None.ensures.steps.0, c.loop-pair.pair-iterator.rest.ok.0)) c.into_iter-pair-iterator.ensures.into_iter_gives.0
