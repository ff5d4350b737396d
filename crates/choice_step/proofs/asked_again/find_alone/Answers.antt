use Rattle.std.specs.Prelude.{◌^◌, IfSome, None, Option, Some}
use Rattle.choice_step.proofs.Vocabulary.{◌≡◌, ◌∙◌, ◌≤◌, ap, arith, length, length-map, plan_of, refl, situation_plans, subst, sym}
use Rattle.choice_step.specs.declared.first_missing.Missed.{Missed}
use Rattle.choice_step.proofs.UnaskedLemmas.{first_met, met_on, none_waits}
use Rattle.choice_step.specs.machine.StillToAsk.{IsAskedAlone, IsMissedAgain, IsUnasked}
use Rattle.choice_step.proofs.asked_again.find_alone.Goals as goal

pub loop-init : goal.loop-init
loop-init c = ((λ told is. is), refl, c.none_waits.ensures c.if-not-none_waits.false)

pub ask_alone-requires : goal.ask_alone-requires
ask_alone-requires c =
    let situation = c.args.situation.now in
    let events = c.args.events.now in
    let told = c.requires.kept.0 in
    let unasked = c.loop.unasked in
    let is : IsUnasked situation events told unasked = c.loop.invariant.0 told c.requires.kept.1 in
    record {
      can = c.requires.can;
      waiting = λ trace stands long later.
          none_waits situation c.requires.can events told unasked.asking is.asking trace c.loop.invariant.2 (is.asking.but trace stands long later);
      before = first_met situation events told unasked c.first_root-rule.result c.first_root-rule.ensures is;
      within = c.if-rule-situation.false;
    }

pub met-requires : goal.met-requires
met-requires c =
    let few : length (situation_plans c.args.situation.now) ≤ 2 ^ 32 = c.requires.can.step.few in
    record {
      first = c.first_root-rule.ensures.within;
      within = omega (arith, c.if-rule-situation.false, few, length-map c.args.situation.now.plans.now plan_of);
    }

pub loop-preserved : goal.loop-preserved
loop-preserved c =
    let situation = c.args.situation.now in
    let events = c.args.events.now in
    let rule = c.first_root-rule.result in
    let met = subst (IsAskedAlone situation events rule) c.in-Done.is c.in_ok-found.ensures in (
      λ told is. met_on situation events told rule c.loop.unasked c.met.new.self c.met.ensures.asking c.met.ensures.passes met (c.loop.invariant.0 told is),
      c.met.ensures.roused ∙ c.loop.invariant.1,
      ap (λ a. a.ahead) c.met.ensures.asking ∙ c.loop.invariant.2,
    )

pub returns-then-rule-situation-clause-kept : goal.returns-then-rule-situation-clause-kept
returns-then-rule-situation-clause-kept c = c.loop.invariant.0

pub returns-then-rule-unasked-clause-kept : goal.returns-then-rule-unasked-clause-kept
returns-then-rule-unasked-clause-kept c = c.loop.invariant.0

pub returns-in-ActFor-clause-kept : goal.returns-in-ActFor-clause-kept
returns-in-ActFor-clause-kept c = c.loop.invariant.0

kept_of : (P : Missed → Type 0) (found : Option Missed) (missed : Missed) → IfSome found (λ kept. kept ≡ missed) → P missed → IfSome found P
kept_of P None missed is so = tt
kept_of P (Some kept) missed is so = subst P (sym is) so

pub returns-in-ActFor-clause-missed : goal.returns-in-ActFor-clause-missed
returns-in-ActFor-clause-missed c =
    let situation = c.args.situation.now in
    let events = c.args.events.now in
    let asked = subst (IsAskedAlone situation events c.first_root-rule.result) c.in-ActFor.is c.in_ok-found.ensures in
    kept_of (IsMissedAgain situation events c.loop.unasked) c.if_alone.result c.in-ActFor.missed c.if_alone.ensures
    (record { first = asked.1; none = c.loop.invariant.2; within = omega (arith, asked.0, c.first_root-rule.ensures.within) })

pub returns-in_default-clause-kept : goal.returns-in_default-clause-kept
returns-in_default-clause-kept c = c.loop.invariant.0

pub returns-clause-kept : goal.returns-clause-kept
returns-clause-kept c = c.loop.invariant.0
