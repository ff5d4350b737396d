use Rattle.choice_step.proofs.Vocabulary.{◌∙◌, ◌∷◌, [], ap, arith, length, length-append, sym, true≢false, situation_plans}
use Rattle.choice_step.proofs.LoopLemmas.{role_of_leaf}
use Rattle.choice_step.proofs.MovedLemmas.{act_moves, act_spared}
use Rattle.choice_step.proofs.apply_actions.act.Goals as goal

pub apply-requires : goal.apply-requires
apply-requires c = c.requires.wanted.1.changes

pub returns-then-not-looks_for-clause-kept : goal.returns-then-not-looks_for-clause-kept
returns-then-not-looks_for-clause-kept c =
    let situation = c.args.situation.now in
    let wanted = c.requires.wanted.1 in
    act_spared c.unread_stays_met.ensures.plans c.unread_stays_met.ensures.instances c.unread_stays_met.ensures.rest situation c.requires.can c.args.action
    (role_of_leaf (situation_plans situation) wanted.leaf c.args.action.kind c.args.action.leaf c.args.action.event wanted.there wanted.is)
    c.args.events.now c.apply.new.events c.in_ok-apply.ensures.applies c.args.actions.now c.push.new.actions c.in_ok-push.ensures c.args.unasked.now c.requires.kept
    (λ there. true≢false (sym (c.looks_for.ensures.1 there) ∙ c.if-not-looks_for.true))

pub returns-then-not-looks_for-clause-stale : goal.returns-then-not-looks_for-clause-stale
returns-then-not-looks_for-clause-stale c = record {
  kept = λ other there. there;
  has = λ there. absurd (true≢false (sym (c.looks_for.ensures.1 there) ∙ c.if-not-looks_for.true));
}

pub ask_again-requires : goal.ask_again-requires
ask_again-requires c = omega (arith, c.requires.kept.within, ap length c.in_ok-push.ensures, length-append c.args.actions.now (c.args.action ∷ []))

pub returns-clause-kept : goal.returns-clause-kept
returns-clause-kept c =
    let situation = c.args.situation.now in
    let wanted = c.requires.wanted.1 in
    let again = c.in_ok-ask_again.ensures in
    act_moves c.unread_stays_met.ensures.plans c.unread_stays_met.ensures.instances c.unread_stays_met.ensures.rest situation c.requires.can c.args.action
    (role_of_leaf (situation_plans situation) wanted.leaf c.args.action.kind c.args.action.leaf c.args.action.event wanted.there wanted.is)
    c.args.events.now c.apply.new.events c.in_ok-apply.ensures.applies c.args.actions.now c.push.new.actions c.in_ok-push.ensures c.args.unasked.now c.requires.kept
    c.pending_exists.ensures.missing c.sleepers_stay.ensures.misses_nothing c.sleepers_stay.ensures.early_misses_nothing c.ask_again.new.unasked
    c.ask_again.ensures.from again.told c.ask_again.ensures.again again.roots again.rouses.0 again.rouses.1 again.rouses.2

pub returns-clause-spared : goal.returns-clause-spared
returns-clause-spared c apart = absurd (apart (c.looks_for.ensures.0 c.if-not-looks_for.false))

pub returns-clause-stale : goal.returns-clause-stale
returns-clause-stale c = record { kept = c.spoil.ensures.kept.kept; has = λ there. c.in_ok-spoil.ensures.has }
