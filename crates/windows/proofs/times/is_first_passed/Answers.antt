use Rattle.windows.proofs.Vocabulary.{◌<◌, arith, length}
use Rattle.windows.proofs.TimeLemmas.{first_held, first_passed}
use Rattle.windows.proofs.times.is_first_passed.Goals as goal

pub returns-then-len-lt2-clause-passed : goal.returns-then-len-lt2-clause-passed
returns-then-len-lt2-clause-passed c = λ yes.
    let first = c.is_ended.ensures.some yes in
    let few : length c.args.times.now.items < 2 = omega (arith, c.if-len-lt2.true, c.len.ensures, c.args.times.now.ok.0) in
    first_passed c.args.high c.args.low c.args.now c.args.times.now.items first.0 few first.1

pub returns-then-len-lt2-clause-held : goal.returns-then-len-lt2-clause-held
returns-then-len-lt2-clause-held c = λ no.
    let few : length c.args.times.now.items < 2 = omega (arith, c.if-len-lt2.true, c.len.ensures, c.args.times.now.ok.0) in
    first_held c.args.high c.args.low c.args.now c.args.times.now.items few (c.is_ended.ensures.live no)
