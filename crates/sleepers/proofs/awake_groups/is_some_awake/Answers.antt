use Rattle.sleepers.proofs.Vocabulary.{ℕ, ⊎_elim, sym, subst, arith, StandsAsleep}
use Rattle.sleepers.proofs.GroupLemmas.{within_at}
use Rattle.sleepers.proofs.NotedGroupLemmas.{below_next}
use Rattle.sleepers.proofs.awake_groups.is_some_awake.Goals as goal

pub loop-number-init : goal.loop-number-init
loop-number-init g c = λ n below. absurd (omega (arith, below))

pub loop-number-preserved : goal.loop-number-preserved
loop-number-preserved g c = λ n below.
    let number = c.loop-number.number in
    ⊎_elim (λ before. c.loop-number.invariant n before)
    (λ same. subst (λ (m : ℕ). StandsAsleep c.args.events.now c.args.time c.args.groups.now m) (sym same)
    (c.is_awake.ensures.asleep c.if-is_awake.false (c.requires number)))
    (below_next n number below)

pub returns : goal.returns
returns g c = λ none number x there.
    let within = within_at c.args.groups.now number x there in
    c.loop-number.invariant number (omega (arith, within, c.loop-number-test.false, c.len-number-end.ensures)) x there
