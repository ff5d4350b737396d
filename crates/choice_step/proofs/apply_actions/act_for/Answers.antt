use Rattle.choice_step.proofs.Vocabulary.{◌∙◌, ◌∷◌, List, Event, ap, arith, eqb-true, length, situation_plans, subst, sym}
use Rattle.std.proofs.lemmas.Option.{slice_get_within}
use Rattle.choice_step.proofs.FirstActionLemmas.{nil_of, split_first}
use Rattle.choice_step.proofs.TurnLemmas.{leads_behind, longer_on}
use Rattle.choice_step.proofs.UnaskedLemmas.{met_keeps}
use Rattle.choice_step.specs.machine.StillToAsk.{AreWanted, IsMissedAtRoot}
use Rattle.choice_step.proofs.apply_actions.act_for.Goals as goal

pub act_one-requires : goal.act_one-requires
act_one-requires c =
    let situation = c.args.situation.now in
    let rule = c.args.missed.rule in
    let events = c.args.events.now in
    let split = split_first c.args.missed.literals.items c.remove-first.result c.remove-first.new.self.items c.requires.wanted.0 c.remove-first.ensures.value c.remove-first.ensures.items in
    record {
      can = c.requires.can;
      missed = (c.requires.missed.0, c.remove-first.new.self.items, subst (IsMissedAtRoot situation c.requires.missed.0 events rule) split c.requires.missed.1);
      wanted = (subst (AreWanted events) split c.requires.wanted.1).0;
      first = c.requires.first;
      kept = c.requires.kept;
    }

pub returns-then-not-is_empty : goal.returns-then-not-is_empty
returns-then-not-is_empty c =
    let situation = c.args.situation.now in
    let rule = c.args.missed.rule in
    let events = c.args.events.now in
    let split = split_first c.args.missed.literals.items c.remove-first.result c.remove-first.new.self.items c.requires.wanted.0 c.remove-first.ensures.value c.remove-first.ensures.items in
    let acted = c.in_ok-act_one.ensures in record {
      acts = λ given is. acted.acts given c.remove-first.new.self.items (subst (IsMissedAtRoot situation given events rule) split is);
      more = acted.more;
      kept = acted.kept;
      stale = acted.stale;
      met = λ none. absurd (omega (arith, acted.spoilt c.if-not-branch.true, ap length none));
    }

pub returns-then-not-leaves_root : goal.returns-then-not-leaves_root
returns-then-not-leaves_root c =
    let situation = c.args.situation.now in
    let rule = c.args.missed.rule in
    let events = c.args.events.now in
    let split = split_first c.args.missed.literals.items c.remove-first.result c.remove-first.new.self.items c.requires.wanted.0 c.remove-first.ensures.value c.remove-first.ensures.items in
    let acted = c.in_ok-act_one.ensures in record {
      acts = λ given is. acted.acts given c.remove-first.new.self.items (subst (IsMissedAtRoot situation given events rule) split is);
      more = acted.more;
      kept = acted.kept;
      stale = acted.stale;
      met = λ none. absurd (omega (arith, acted.spoilt c.if-not-branch.true, ap length none));
    }

pub met-requires : goal.met-requires
met-requires c = record {
  first = omega (arith, c.act_one.ensures.from, c.requires.first.1);
  within = omega (arith, c.requires.can.step.few, slice_get_within (situation_plans c.args.situation.now) c.args.missed.rule c.requires.missed.1.plan c.requires.missed.1.there);
}

pub returns-then-not-branch : goal.returns-then-not-branch
returns-then-not-branch c =
    let situation = c.args.situation.now in
    let rule = c.args.missed.rule in
    let events = c.args.events.now in
    let split = split_first c.args.missed.literals.items c.remove-first.result c.remove-first.new.self.items c.requires.wanted.0 c.remove-first.ensures.value c.remove-first.ensures.items in
    let acted = c.in_ok-act_one.ensures in
    let none = nil_of c.remove-first.new.self.items (omega (arith, eqb-true c.remove-first.new.self.len 0 (sym c.is_empty.ensures ∙ c.if-not-is_empty.false), c.remove-first.new.self.ok.0)) in
    let last = subst (λ l. IsMissedAtRoot situation c.requires.missed.0 events rule (c.remove-first.result ∷ l)) none (subst (IsMissedAtRoot situation c.requires.missed.0 events rule) split c.requires.missed.1) in record {
      acts = λ given is. acted.acts given c.remove-first.new.self.items (subst (IsMissedAtRoot situation given events rule) split is);
      more = acted.more;
      kept = met_keeps situation c.act_one.new.events c.act_one.new.actions rule c.act_one.new.unasked c.met.new.self c.met.ensures.asking c.met.ensures.roused c.met.ensures.passes
          (acted.last c.requires.missed.0 last (c.leaves_root.ensures c.if-not-leaves_root.false)) acted.kept;
      stale = acted.stale;
      met = λ none. absurd (omega (arith, acted.spoilt c.if-not-branch.true, ap length none));
    }

pub act_on-requires : goal.act_on-requires
act_on-requires c =
    let situation = c.args.situation.now in
    let rule = c.args.missed.rule in
    let events = c.args.events.now in
    let split = split_first c.args.missed.literals.items c.remove-first.result c.remove-first.new.self.items c.requires.wanted.0 c.remove-first.ensures.value c.remove-first.ensures.items in
    let acted = c.in_ok-act_one.ensures in
    let on = acted.on c.if-not-branch.false in record {
      can = c.requires.can;
      missed = (
        c.requires.missed.0,
        subst (IsMissedAtRoot situation c.requires.missed.0 c.act_one.new.events rule) (sym c.as_slice-rest.ensures.value)
            (on.1 c.requires.missed.0 c.remove-first.new.self.items (subst (IsMissedAtRoot situation c.requires.missed.0 events rule) split c.requires.missed.1)),
      );
      first = (on.0, omega (arith, c.act_one.ensures.from, c.requires.first.1));
      kept = acted.kept;
    }

pub returns : goal.returns
returns c =
    let situation = c.args.situation.now in
    let rule = c.args.missed.rule in
    let events = c.args.events.now in
    let split = split_first c.args.missed.literals.items c.remove-first.result c.remove-first.new.self.items c.requires.wanted.0 c.remove-first.ensures.value c.remove-first.ensures.items in
    let acted = c.in_ok-act_one.ensures in
    let on = acted.on c.if-not-branch.false in
    let rest = c.in_ok-act_on.ensures in
    let next = λ (given : List Event) (is : IsMissedAtRoot situation given events rule c.args.missed.literals.items).
    subst (IsMissedAtRoot situation given c.act_one.new.events rule) (sym c.as_slice-rest.ensures.value)
    (on.1 given c.remove-first.new.self.items (subst (IsMissedAtRoot situation given events rule) split is)) in
    record {
      acts = λ given is. leads_behind situation given events c.act_one.new.events c.act_on.new.events c.args.actions.now c.act_one.new.actions c.act_on.new.actions
          (acted.acts given c.remove-first.new.self.items (subst (IsMissedAtRoot situation given events rule) split is)) (rest.acts given (next given is));
      more =
          let longer = longer_on situation c.requires.missed.0 c.act_one.new.events c.act_on.new.events c.act_one.new.actions c.act_on.new.actions
          (rest.acts c.requires.missed.0 (next c.requires.missed.0 c.requires.missed.1)) in
          omega (arith, acted.more, longer);
      kept = rest.kept;
      stale = λ given same. rest.stale given (acted.stale given same);
      met = rest.met;
    }
