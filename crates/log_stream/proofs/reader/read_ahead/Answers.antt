use Rattle.log_stream.proofs.Vocabulary.{arith}
use Rattle.log_stream.proofs.ReaderCalls.{stands_ahead}
use Rattle.log_stream.proofs.RestFronts.{begins_at, window_is}
use Rattle.log_stream.proofs.reader.read_ahead.Goals as goal

pub overflow_add-result : goal.overflow_add-result
overflow_add-result c =
    let begin = c.skip_blanks-begin.result in
    let begins = begins_at c.args.bytes.now c.args.front begin c.skip_blanks-begin.ensures.gap c.skip_blanks-begin.ensures.within in
    let window = window_is c.args.bytes.now begin c.min-most.result c.min-most.ensures (omega arith) in
    let stands = stands_ahead c.args.signature.now c.args.mode c.args.bytes.now c.args.front begin c.min-most.result c.in-Ok.length c.in-Ok.item begins window c.in-Ok.ensures in
    let within = stands.whole.within in
    omega (arith, within)

pub returns-in-Ok : goal.returns-in-Ok
returns-in-Ok c =
    let begin = c.skip_blanks-begin.result in
    let begins = begins_at c.args.bytes.now c.args.front begin c.skip_blanks-begin.ensures.gap c.skip_blanks-begin.ensures.within in
    let window = window_is c.args.bytes.now begin c.min-most.result c.min-most.ensures (omega arith) in
    stands_ahead c.args.signature.now c.args.mode c.args.bytes.now c.args.front begin c.min-most.result c.in-Ok.length c.in-Ok.item begins window c.in-Ok.ensures
