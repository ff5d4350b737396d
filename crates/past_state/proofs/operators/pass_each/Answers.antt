use Rattle.past_state.proofs.Vocabulary.{refl, arith, OperatorState}
use Rattle.past_state.proofs.CommitLemmas.{commit_none, same_all, same_length, same_set}
use Rattle.past_state.proofs.UntouchedLemmas.{next_passed, untouched_here, up_to_there}
use Rattle.past_state.proofs.operators.pass_each.Goals as goal

pub loop-place-init : goal.loop-place-init
loop-place-init c = (commit_none c.args.time c.args.operators.now.items, same_all c.args.operators.now.items)

pub pass-requires-clause-later : goal.pass-requires-clause-later
pass-requires-clause-later c =
    let long = same_length c.args.time c.args.operators.now.items _ c.loop-place.operators.items c.loop-place.invariant.0 in
    up_to_there c.args.time c.args.operators.now.items c.loop-place.operators.items c.loop-place.place c.index_mut.result.now (omega (arith, long, c.loop-place-test.true)) c.loop-place.invariant.0
    c.index_mut.ensures.value c.requires.later

pub pass-requires-clause-untouched : goal.pass-requires-clause-untouched
pass-requires-clause-untouched c =
    let long = same_length c.args.time c.args.operators.now.items _ c.loop-place.operators.items c.loop-place.invariant.0 in (
      c.requires.untouched.0,
      untouched_here c.args.time c.args.operators.now.items c.loop-place.operators.items c.loop-place.place c.index_mut.result.now (omega (arith, long, c.loop-place-test.true)) c.loop-place.invariant.0
          c.index_mut.ensures.value c.requires.untouched.0 c.requires.untouched.1,
    )

pub loop-place-preserved : goal.loop-place-preserved
loop-place-preserved c =
    let long = same_length c.args.time c.args.operators.now.items _ c.loop-place.operators.items c.loop-place.invariant.0 in
    let after : OperatorState = record { taken = c.index_mut.result.now.taken; memory = c.pass.new.self } in (
      next_passed c.args.time c.args.operators.now.items c.loop-place.operators.items c.loop-place.place c.index_mut.result.now (omega (arith, long, c.loop-place-test.true)) c.loop-place.invariant.0
          c.index_mut.ensures.value after (refl, c.in_ok-pass.ensures.ok),
      same_set c.args.operators.now.items c.loop-place.operators.items c.loop-place.place c.index_mut.result.now after c.loop-place.invariant.1 (omega (arith, long, c.loop-place-test.true))
          c.index_mut.ensures.value refl c.pass.ensures.kind,
    )

pub returns-in_err-pass-clause-kinds : goal.returns-in_err-pass-clause-kinds
returns-in_err-pass-clause-kinds c =
    let long = same_length c.args.time c.args.operators.now.items _ c.loop-place.operators.items c.loop-place.invariant.0 in
    same_set c.args.operators.now.items c.loop-place.operators.items c.loop-place.place c.index_mut.result.now (record { taken = c.index_mut.result.now.taken; memory = c.pass.new.self })
    c.loop-place.invariant.1 (omega (arith, long, c.loop-place-test.true)) c.index_mut.ensures.value refl c.pass.ensures.kind
