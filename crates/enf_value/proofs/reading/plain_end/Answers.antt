use Rattle.enf_value.proofs.Escapes.{plain_written}
use Rattle.enf_value.proofs.reading.plain_end.Goals as goal

pub returns-in-34-clause-written : goal.returns-in-34-clause-written
returns-in-34-clause-written c =
    plain_written c.args.bytes.now c.loop-place.place c.loop-place-test.true c.loop-place.invariant.apart c.in-34.is
