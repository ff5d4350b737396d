use Rattle.choice_step.proofs.Vocabulary.{◌∙◌, ◌+◌, [], ◌∷◌, Literal, ap, arith, append-nil, drop, drop_all, drop_at_item, length, refl, subst, sym, true≢false}
use Rattle.choice_step.proofs.Vocabulary.{ChangesEvents, situation_plans}
use Rattle.std.proofs.lemmas.Option.{slice_get_within}
use Rattle.choice_step.proofs.FoundLemmas.{met_after, missed_behind, missed_none}
use Rattle.choice_step.proofs.TurnLemmas.{leads_behind}
use Rattle.choice_step.proofs.UnaskedLemmas.{met_keeps}
use Rattle.choice_step.specs.machine.StillToAsk.{IsMissedAtRoot}
use Rattle.choice_step.proofs.apply_actions.act_on.Goals as goal

pub loop-literal-init : goal.loop-literal-init
loop-literal-init c = (
  λ given is. (([], sym (append-nil c.args.actions.now), refl), is),
  c.requires.kept,
  c.requires.first.0,
  refl,
  λ given same. same,
)

pub loop-literal-preserved-then-not-is_wanted : goal.loop-literal-preserved-then-not-is_wanted
loop-literal-preserved-then-not-is_wanted c =
    let was = c.loop-literal.invariant in
    let k = c.loop-literal.literal-index in
    let ls = c.args.literals.now in
    let literal = c.literal-item.result in
    let at = drop_at_item ls k literal c.loop-literal-test.true c.literal-item.is in (
      λ given is. (
        (was.0 given is).0,
        missed_behind c.args.situation.now given c.loop-literal.events c.args.rule literal (drop (k + 1) ls)
            (λ changes. true≢false (sym (c.is_wanted.ensures.1 changes) ∙ c.if-not-is_wanted.true))
            (subst (IsMissedAtRoot c.args.situation.now given c.loop-literal.events c.args.rule) at (was.0 given is).1),
      ),
      was.1,
      was.2,
      was.3,
      was.4,
    )

pub act_one-requires : goal.act_one-requires
act_one-requires c =
    let was = c.loop-literal.invariant in
    let k = c.loop-literal.literal-index in
    let ls = c.args.literals.now in
    let literal = c.literal-item.result in
    let at = drop_at_item ls k literal c.loop-literal-test.true c.literal-item.is in
    let copy = c.in_ok-copy.ensures in record {
      can = c.requires.can;
      missed = (
        c.requires.missed.0,
        drop (k + 1) ls,
        subst (λ l. IsMissedAtRoot c.args.situation.now c.requires.missed.0 c.loop-literal.events c.args.rule (l ∷ drop (k + 1) ls)) (sym copy)
            (subst (IsMissedAtRoot c.args.situation.now c.requires.missed.0 c.loop-literal.events c.args.rule) at (was.0 c.requires.missed.0 c.requires.missed.1).1),
      );
      wanted = subst (λ (l : Literal). ChangesEvents l.kind l.event c.loop-literal.events) (sym copy) (c.is_wanted.ensures.0 c.if-not-is_wanted.false);
      first = (was.2, omega (arith, was.3, c.requires.first.1));
      kept = was.1;
    }

pub met-requires : goal.met-requires
met-requires c = record {
  first = omega (arith, c.loop-literal.invariant.3, c.requires.first.1);
  within = omega (arith, c.requires.can.step.few, slice_get_within (situation_plans c.args.situation.now) c.args.rule c.requires.missed.1.plan c.requires.missed.1.there);
}

pub loop-literal-preserved : goal.loop-literal-preserved
loop-literal-preserved c =
    let was = c.loop-literal.invariant in
    let k = c.loop-literal.literal-index in
    let ls = c.args.literals.now in
    let literal = c.literal-item.result in
    let at = drop_at_item ls k literal c.loop-literal-test.true c.literal-item.is in
    let copy = c.in_ok-copy.ensures in
    let acted = c.in_ok-act_one.ensures in
    let on = acted.on c.if-not-branch.false in (
      λ given is.
          let missed = subst (λ l. IsMissedAtRoot c.args.situation.now given c.loop-literal.events c.args.rule (l ∷ drop (k + 1) ls)) (sym copy)
          (subst (IsMissedAtRoot c.args.situation.now given c.loop-literal.events c.args.rule) at (was.0 given is).1) in (
            leads_behind c.args.situation.now given c.args.events.now c.loop-literal.events c.act_one.new.events c.args.actions.now c.loop-literal.actions c.act_one.new.actions
                (was.0 given is).0 (acted.acts given (drop (k + 1) ls) missed),
            on.1 given (drop (k + 1) ls) missed,
          ),
      acted.kept,
      on.0,
      c.act_one.ensures.from ∙ was.3,
      λ given same. acted.stale given (was.4 given same),
    )

pub returns-then-not-branch : goal.returns-then-not-branch
returns-then-not-branch c =
    let was = c.loop-literal.invariant in
    let k = c.loop-literal.literal-index in
    let ls = c.args.literals.now in
    let literal = c.literal-item.result in
    let at = drop_at_item ls k literal c.loop-literal-test.true c.literal-item.is in
    let copy = c.in_ok-copy.ensures in
    let acted = c.in_ok-act_one.ensures in record {
      acts = λ given is.
          leads_behind c.args.situation.now given c.args.events.now c.loop-literal.events c.act_one.new.events c.args.actions.now c.loop-literal.actions c.act_one.new.actions
          (was.0 given is).0
          (acted.acts given (drop (k + 1) ls) (subst (λ l. IsMissedAtRoot c.args.situation.now given c.loop-literal.events c.args.rule (l ∷ drop (k + 1) ls)) (sym copy)
          (subst (IsMissedAtRoot c.args.situation.now given c.loop-literal.events c.args.rule) at (was.0 given is).1)));
      kept = acted.kept;
      stale = λ given same. acted.stale given (was.4 given same);
      met = λ none. absurd (omega (arith, acted.spoilt c.if-not-branch.true, ap length none));
    }

pub returns : goal.returns
returns c =
    let was = c.loop-literal.invariant in
    let ls = c.args.literals.now in
    let done = subst (IsMissedAtRoot c.args.situation.now c.requires.missed.0 c.loop-literal.events c.args.rule)
    (drop_all c.loop-literal.literal-index ls c.loop-literal-test.false) (was.0 c.requires.missed.0 c.requires.missed.1).1 in
    record {
      acts = λ given is. (was.0 given is).0;
      kept = met_keeps c.args.situation.now c.loop-literal.events c.loop-literal.actions c.args.rule c.loop-literal.unasked c.met.new.self c.met.ensures.asking c.met.ensures.roused
          c.met.ensures.passes (missed_none c.args.situation.now c.requires.missed.0 c.loop-literal.events c.args.rule done) was.1;
      stale = was.4;
      met = λ none. met_after c.args.situation.now c.requires.missed.0 c.loop-literal.events c.args.rule done;
    }
