use Rattle.choice_step.proofs.Vocabulary.{◌≤◌, CanDecideSituation, IfSome, Situation, length, map, sym, subst, arith, plan_of}
use Rattle.choice_step.proofs.JustificationLemmas.{will_be_justified}
use Rattle.choice_step.proofs.LoopLemmas.{Keeps, few, keeps_first, will_decide}
use Rattle.choice_step.proofs.TurnLemmas.{keeps_led}
use Rattle.choice_step.proofs.KnownValueLemmas.{possible}
use Rattle.choice_step.proofs.UnaskedLemmas.{begins_asking, begins_unasked, looked_on}
use Rattle.choice_step.proofs.Vocabulary.{step_moment}
use Rattle.choice_step.specs.machine.StillToAsk.{IsAskingIn, IsMissedAgain}
use Rattle.pending.specs.machine.AskedEntries.{BeginsAsking}
use Rattle.choice_step.proofs.choice_loop.choose_with.Goals.{Then-ended}
use Rattle.choice_step.proofs.choice_loop.choose_with.Goals as goal

pub go_round-requires : goal.go_round-requires
go_round-requires c = record {
  can = record { wakes = c.requires.wakes; step = c.requires.can };
  kept = looked_on _ _ _ _ _ c.find_again.ensures.told c.in_ok-again.ensures.kept c.loop-actions.invariant.1;
}

-- ---- a root that is asked again by its own events

pub find_again-requires : goal.find_again-requires
find_again-requires c = record {
  can = record { wakes = c.requires.wakes; step = c.requires.can };
  kept = (c.loop-actions.invariant.1.told, c.loop-actions.invariant.1.is);
}

pub act_alone-requires : goal.act_alone-requires
act_alone-requires c =
    let situation : Situation = record {
      plans = c.args.plans;
      wakes = c.args.wakes;
      pending = c.args.pending;
      past = c.args.past;
      time = c.args.time;
      position = c.args.position;
      inserted = c.args.inserted;
    } in
    let found = subst (λ o. IfSome o (IsMissedAgain situation c.loop-actions.events c.find_again.new.unasked)) c.in-Some.is c.in_ok-again.ensures.missed in
    record {
      can = record { wakes = c.requires.wakes; step = c.requires.can };
      missed = found.first.missed;
      wanted = (found.first.some, found.first.wanted);
      first = (found.none, found.within);
      kept = looked_on _ _ _ _ _ c.find_again.ensures.told c.in_ok-again.ensures.kept c.loop-actions.invariant.1;
    }

pub loop-actions-preserved-in-Some : goal.loop-actions-preserved-in-Some
loop-actions-preserved-in-Some c = (
  keeps_led (map plan_of c.args.plans.now) c.args.pending.now.instances c.args.past.now c.args.inserted c.args.time c.args.position c.loop-actions.events c.requires.can.roles
      c.args.events c.loop-actions.actions _ c.act_alone.new.actions c.loop-actions.invariant.0 c.in_ok-acted.ensures.acts,
  c.in_ok-acted.ensures.kept,
)

pub loop-actions-smaller-in-Some : goal.loop-actions-smaller-in-Some
loop-actions-smaller-in-Some c =
    let plans = map plan_of c.args.plans.now in
    let pending = c.args.pending.now.instances in
    let past = c.args.past.now in
    let most : length c.act_alone.new.actions ≤ length (possible plans pending past c.args.events) =
    few plans pending past c.requires.can.roles c.args.inserted c.args.time c.args.position c.args.events c.act_alone.new.actions c.in_ok-acted.acted (loop-actions-preserved-in-Some c).0
    in
    omega (arith, most, c.in_ok-acted.ensures.more)

-- ---- a round

pub loop-actions-init : goal.loop-actions-init
loop-actions-init c =
    let plans = map plan_of c.args.plans.now in
    let situation : Situation = record {
      plans = c.args.plans;
      wakes = c.args.wakes;
      pending = c.args.pending;
      past = c.args.past;
      time = c.args.time;
      position = c.args.position;
      inserted = c.args.inserted;
    } in
    let can : CanDecideSituation situation = record { wakes = c.requires.wakes; step = c.requires.can } in
    let asking = c.in_ok-asking.asking in (
      subst (λ a. Keeps plans c.args.pending.now.instances c.args.past.now c.args.inserted c.args.time c.args.position c.args.events a c.args.events) (sym c.new-actions.ensures)
          (keeps_first plans c.args.pending.now.instances c.args.past.now c.args.inserted c.args.time c.args.position c.args.events c.as_slice-given.ensures.distinct),
      begins_unasked situation c.args.events c.new-actions.result c.of-unasked.result
          (subst (IsAskingIn situation c.args.events c.args.events) (sym c.of-unasked.ensures.asking)
          (begins_asking c.pending_exists.ensures.missing c.sleepers_stay.ensures.misses_nothing c.sleepers_stay.ensures.early_misses_nothing situation can c.args.events asking
          (subst (λ l. BeginsAsking l (step_moment c.args.inserted c.args.time) c.args.pending.now.listed asking) c.as_slice.ensures.events c.in_ok-asking.ensures)))
          c.of-unasked.ensures.from c.of-unasked.ensures.roused,
    )

pub loop-actions-preserved : goal.loop-actions-preserved
loop-actions-preserved c =
    let plans = map plan_of c.args.plans.now in
    let pending = c.args.pending.now.instances in
    let past = c.args.past.now in (
      keeps_led plans pending past c.args.inserted c.args.time c.args.position c.loop-actions.events c.requires.can.roles
          c.args.events c.loop-actions.actions _ c.go_round.new.actions c.loop-actions.invariant.0
          c.in_ok-after.ensures.acts,
      c.in_ok-after.ensures.kept,
    )

pub loop-actions-smaller : goal.loop-actions-smaller
loop-actions-smaller c =
    let plans = map plan_of c.args.plans.now in
    let pending = c.args.pending.now.instances in
    let past = c.args.past.now in
    let most : length c.go_round.new.actions ≤ length (possible plans pending past c.args.events) =
    few plans pending past c.requires.can.roles c.args.inserted c.args.time c.args.position c.args.events c.go_round.new.actions c.in_ok-after.field-0.events (loop-actions-preserved c).0
    in
    omega (arith, most, c.in_ok-after.ensures.more c.if-ended.false)

keeps : (c : Then-ended) → Keeps (map plan_of c.args.plans.now) c.args.pending.now.instances c.args.past.now
    c.args.inserted c.args.time c.args.position c.args.events c.go_round.new.actions c.in_ok-after.field-0.events
keeps c =
    let plans = map plan_of c.args.plans.now in
    let pending = c.args.pending.now.instances in
    let past = c.args.past.now in
    keeps_led plans pending past c.args.inserted c.args.time c.args.position c.loop-actions.events c.requires.can.roles
    c.args.events c.loop-actions.actions _ c.go_round.new.actions c.loop-actions.invariant.0
    c.in_ok-after.ensures.acts

pub returns-then-ended : goal.returns-then-ended
returns-then-ended c =
    let plans = map plan_of c.args.plans.now in
    let pending = c.args.pending.now.instances in
    let events = c.in_ok-after.field-0.events in
    let decides = will_decide plans pending c.args.past.now c.args.inserted c.args.time c.args.position c.args.events
    c.go_round.new.actions events (keeps (goal.at.returns-then-ended c).Then-ended) (c.in_ok-after.ensures.ended c.if-ended.true).nothing in
    record {
      chosen = record {
        decided = decides;
        justified = will_be_justified c.actions_are_justified.ensures.actions plans pending c.args.past.now
            c.args.inserted c.args.time c.args.position c.args.events c.go_round.new.actions events
            c.as_slice-given.ensures.distinct decides;
        acted = (keeps (goal.at.returns-then-ended c).Then-ended).acts;
        asked = (keeps (goal.at.returns-then-ended c).Then-ended).asked;
        tables = (c.in_ok-after.ensures.ended c.if-ended.true).are;
        hold = (c.in_ok-after.ensures.ended c.if-ended.true).hold;
      };
    }
