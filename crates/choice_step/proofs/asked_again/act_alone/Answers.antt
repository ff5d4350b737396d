use Rattle.choice_step.proofs.Vocabulary.{SituationLeads, subst, sym}
use Rattle.choice_step.specs.machine.StillToAsk.{AreWanted, IsMissedAtRoot, IsUnaskedAt}
use Rattle.choice_step.proofs.asked_again.act_alone.Goals as goal

pub act_for-requires : goal.act_for-requires
act_for-requires c =
    let situation = c.args.situation.now in
    let missed = c.args.missed in
    let present = sym c.of-present.ensures in
    record {
      can = c.requires.can;
      missed = (c.args.events, subst (λ l. IsMissedAtRoot situation c.args.events l missed.rule missed.literals.items) present c.requires.missed);
      wanted = (c.requires.wanted.0, subst (λ l. AreWanted l missed.literals.items) present c.requires.wanted.1);
      first = c.requires.first;
      kept = subst (λ l. IsUnaskedAt situation l c.args.actions.now c.args.unasked.now) present c.requires.kept;
    }

pub returns-clause-acts : goal.returns-clause-acts
returns-clause-acts c =
    let situation = c.args.situation.now in
    let events = c.args.events in
    let present = c.of-present.ensures in
    let missed = c.args.missed in
    subst (λ l. SituationLeads situation events events c.args.actions.now l c.act_for.new.actions) (sym c.into_set.ensures)
    (subst (λ l. SituationLeads situation events l c.args.actions.now c.act_for.new.events c.act_for.new.actions) present
    (c.in_ok-act_for.ensures.acts events (subst (λ l. IsMissedAtRoot situation events l missed.rule missed.literals.items) (sym present) c.requires.missed)))

pub returns-clause-more : goal.returns-clause-more
returns-clause-more c = c.in_ok-act_for.ensures.more

pub returns-clause-kept : goal.returns-clause-kept
returns-clause-kept c =
    subst (λ l. IsUnaskedAt c.args.situation.now l c.act_for.new.actions c.act_for.new.unasked) (sym c.into_set.ensures) c.in_ok-act_for.ensures.kept
