use Rattle.choice_step.proofs.Vocabulary.{◌≡◌, ◌∙◌, ◌∷◌, ap, arith, drop, length}
use Rattle.choice_step.proofs.FoundLemmas.{found_waiting, passes_waiting}
use Rattle.choice_step.proofs.UnaskedLemmas.{first_pending, instance_asked}
use Rattle.choice_step.proofs.first_missing.find_waiting.Goals as goal

pub loop-instance-init : goal.loop-instance-init
loop-instance-init c told is = is

pub first_missing_of-requires : goal.first_missing_of-requires
first_missing_of-requires c =
    let situation = c.args.situation.now in
    let asking = c.loop-instance.invariant c.requires.kept.0 c.requires.kept.1 in
    instance_asked c.fresh_can_be_asked.ensures.instances situation c.args.now.now c.requires.can c.requires.now c.in-Some.instance.now
    (first_pending situation c.loop-instance.asking c.requires.can asking.all c.in-Some.instance.now c.in-Some.ensures.some)
    (c.ignores_all.ensures.ignores c.if-not-ignores_all.false)

pub returns-then-not-ignores_all-clause-next : goal.returns-then-not-ignores_all-clause-next
returns-then-not-ignores_all-clause-next c = c.ignores_all.ensures.some c.if-not-ignores_all.true

-- one that misses nothing was asked
pub loop-instance-preserved : goal.loop-instance-preserved
loop-instance-preserved c told is =
    passes_waiting c.stale_now_stands.ensures c.args.situation.now c.requires.can c.args.now.now c.requires.now told c.loop-instance.asking (c.loop-instance.invariant told is)
    c.in-Some.instance.now c.in-Some.ensures.some c.is_forced-forced.result c.in_ok-literal.field-0 c.is_forced-forced.ensures c.in_ok-literal.ensures.first
    c.met.new.self c.in_default-2.is c.in_ok-met.ensures

pub loop-instance-smaller : goal.loop-instance-smaller
loop-instance-smaller c =
    let at : length c.loop-instance.asking.ahead ≡ length (c.in-Some.ensures.some.entry ∷ drop 1 c.loop-instance.asking.ahead) = ap length c.in-Some.ensures.some.ahead in
    let after : length c.met.new.self.ahead ≡ length (drop 1 c.loop-instance.asking.ahead) = ap length c.in_ok-met.ensures.ahead in
    omega (arith, at, after)

-- and else the action is for it
pub returns-in-Some-clause-next : goal.returns-in-Some-clause-next
returns-in-Some-clause-next c =
    let told = c.requires.kept.0 in
    found_waiting c.stale_now_stands.ensures c.args.situation.now c.requires.can c.args.now.now c.requires.now told c.loop-instance.asking
    (c.loop-instance.invariant told c.requires.kept.1) c.in-Some.instance.now c.in-Some.ensures.some c.is_forced-forced.result c.in_ok-literal.field-0 c.is_forced-forced.ensures
    c.in_ok-literal.ensures.first c.in-Some-2.literal c.in_ok-apart.apart.value c.in-Some-2.is c.in_ok-literal.ensures.wanted
    (c.in_ok-apart.ensures ∙ c.in_ok-action.ensures)
