use Rattle.choice_step.proofs.Vocabulary.{◌∙◌, ◌≤◌, ◌∷◌, [], Contains, ap, arith, here, length, length-append, subst, sym, ⊎_elim, situation_plans, guard_names, Applies}
use Rattle.choice_step.specs.declared.unasked.Unasked.{Unasked}
use Rattle.choice_step.proofs.FoundLemmas.{found_missed}
use Rattle.choice_step.proofs.LoopLemmas.{role_of_leaf}
use Rattle.choice_step.proofs.OneActionLemmas.{kept_on, met_alone, missed_on}
use Rattle.choice_step.proofs.TurnLemmas.{goes_stale, leads_once}
use Rattle.choice_step.proofs.apply_actions.act_one.Goals as goal

pub act-requires : goal.act-requires
act-requires c =
    let (given, rest, missed) = c.requires.missed in record {
      can = c.requires.can;
      wanted = (given, (found_missed c.args.situation.now given c.args.events.now c.args.rule c.args.literal rest c.root_action-action.result c.requires.wanted missed c.root_action-action.ensures).wanted);
      kept = c.requires.kept;
    }

pub returns : goal.returns
returns c =
    let situation = c.args.situation.now in
    let literal = c.args.literal in
    let events = c.args.events.now in
    let after = c.act.new.events in
    let (given, rest, missed) = c.requires.missed in
    let made = c.root_action-action.ensures in
    let acted = c.in_ok-act.ensures in
    let applies = subst (λ a. Applies a.kind a.event events after) made acted.applies in
    let leaf = missed.are literal (here literal rest) in
    let role = role_of_leaf (situation_plans situation) leaf.leaf literal.kind literal.leaf literal.event leaf.there leaf.is in
    let on = c.in_ok-on.ensures in
    let new = c.goes_on.new.unasked in
    let within : c.args.rule ≤ new.from = omega (arith, c.requires.first.1, c.act.ensures.from, c.goes_on.ensures.from) in
    let kept = kept_on c.unread_stays_met.ensures.plans c.unread_stays_met.ensures.instances c.unread_stays_met.ensures.rest situation c.requires.can c.args.rule literal role events after
    acted.distinct applies c.act.new.actions c.act.new.unasked new acted.kept c.goes_on.ensures.from c.goes_on.ensures.again c.goes_on.ensures.told on.passes missed.instances in
    record {
      acts = λ base more is.
          leads_once situation base events after c.args.actions.now c.act.new.actions c.root_action-action.result
          (found_missed situation base events c.args.rule literal more c.root_action-action.result c.requires.wanted is made) acted.applies acted.pushed;
      more = omega (arith, ap length acted.pushed, length-append c.args.actions.now (c.root_action-action.result ∷ []));
      kept = kept;
      from = c.goes_on.ensures.from ∙ c.act.ensures.from;
      stale = goes_stale (guard_names situation.past.now.guards) c.args.stale.now.items c.act.new.stale.items c.root_action-action.result.kind c.root_action-action.result.event events after
          acted.applies acted.stale;
      on = λ told. (
        ⊎_elim
            (λ apart. ap (λ (u : Unasked). u.asking.ahead) (on.spared apart ∙ acted.spared (subst (λ a. Contains (guard_names situation.past.now.guards) a.event.name → ⊥) (sym made) apart)) ∙ c.requires.first.0)
            (λ looked. looked.1) (on.on told),
        missed_on c.unread_stays_met.ensures.plans c.unread_stays_met.ensures.instances c.unread_stays_met.ensures.rest situation c.requires.can c.args.rule literal role events after
            acted.distinct applies c.act.new.actions c.act.new.unasked new acted.kept c.goes_on.ensures.from c.goes_on.ensures.again c.goes_on.ensures.told on.passes missed.instances
            within (on.on told),
      );
      last = λ base is leaves.
          met_alone c.unread_stays_met.ensures.plans c.unread_stays_met.ensures.instances c.unread_stays_met.ensures.rest situation c.requires.can c.args.rule literal role events after
          acted.distinct applies leaves base is;
      spoilt = λ told.
          let there = acted.stale.has (subst (λ a. Contains (guard_names situation.past.now.guards) a.event.name) (sym made) (on.looked told)) in
          omega (arith, there.1);
    }
