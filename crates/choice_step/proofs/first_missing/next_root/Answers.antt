use Rattle.choice_step.proofs.Vocabulary.{arith, inl, refl}
use Rattle.choice_step.proofs.UnaskedLemmas.{first_met, passed_on, sleep_on}
use Rattle.choice_step.proofs.first_missing.next_root.Goals as goal

pub returns-then-again-unasked-clause-there : goal.returns-then-again-unasked-clause-there
returns-then-again-unasked-clause-there c = c.first_root-again.ensures.there

pub returns-then-again-unasked-clause-before : goal.returns-then-again-unasked-clause-before
returns-then-again-unasked-clause-before c =
    first_met c.args.situation.now c.args.now.now.events.now c.requires.kept.0 c.args.unasked.now c.first_root-again.result c.first_root-again.ensures c.requires.kept.1

pub returns-clause-before : goal.returns-clause-before
returns-clause-before c =
    let first = c.first_root-again.ensures in
    let from = c.args.unasked.now.from in
    sleep_on c.unwoken_is_idle.ensures.missed c.stale_now_stands.ensures c.args.situation.now c.args.now.now c.requires.can c.requires.now c.requires.fresh c.requires.fewer from c.next_awake-next.result
    c.next_awake-next.ensures.behind c.next_awake-next.ensures.asleep
    (first_met c.args.situation.now c.args.now.now.events.now c.requires.kept.0 c.args.unasked.now from
    (record { within = omega arith; least = λ rule there. omega (arith, first.least rule there, c.if-again-unasked.false); there = inl refl }) c.requires.kept.1)

pub returns-clause-kept : goal.returns-clause-kept
returns-clause-kept c told is =
    passed_on c.args.situation.now c.args.now.now.events.now told c.args.unasked.now _ refl (returns-clause-before c) is
