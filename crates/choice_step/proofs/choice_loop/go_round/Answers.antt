use Rattle.choice_step.proofs.Vocabulary.{[], sym, subst, HaveSameEvents, guard_names, SituationLeads, append-nil, arith, refl}
use Rattle.choice_step.specs.machine.StillToAsk.{AreWanted, IsDecidedAt, IsFirstNext, IsMissedAtRoot, IsNextFor, IsUnaskedAt}
use Rattle.choice_step.specs.machine.Turns.{EndsWith, IsForLast, NoneIsWoken}
use Rattle.choice_step.proofs.UnaskedLemmas.{looked_on}
use Rattle.choice_step.proofs.choice_loop.go_round.Goals as goal

pub look-requires : goal.look-requires
look-requires c = record { can = c.requires.can; kept = (c.requires.kept.told, c.requires.kept.is) }

-- ---- where one goes on with the tables

pub act_on_from-requires : goal.act_on_from-requires
act_on_from-requires c =
    let situation = c.args.situation.now in
    let events = c.args.events in
    let seen = c.in_ok-next.ensures in
    record {
      can = c.requires.can;
      are = seen.are;
      hold = seen.hold;
      known = seen.known;
      next = subst (IsNextFor situation events events [] (IsDecidedAt situation events [])) c.in-Act.is seen.next;
      first = tt;
      acts = tt;
      kept = looked_on situation events c.args.actions.now c.args.unasked.now c.look.new.unasked c.look.ensures.told seen.kept c.requires.kept;
    }

pub act_on_from-requires-then-not-is_looked_for-clause-kept : goal.act_on_from-requires-then-not-is_looked_for-clause-kept
act_on_from-requires-then-not-is_looked_for-clause-kept c =
    looked_on c.args.situation.now c.args.events c.args.actions.now c.args.unasked.now c.look.new.unasked c.look.ensures.told c.in_ok-next.ensures.kept c.requires.kept

-- ---- where it is a root without choices

pub act_last-requires : goal.act_last-requires
act_last-requires c =
    let situation = c.args.situation.now in
    let events = c.args.events in
    let seen = c.in_ok-next.ensures in
    let present = sym c.of-present.ensures in
    let found = subst (IsNextFor situation events events [] (IsDecidedAt situation events [])) c.in-ActFor.is seen.next in
    record {
      can = c.requires.can;
      missed = (events, subst (λ l. IsMissedAtRoot situation events l c.in-ActFor.missed.rule c.in-ActFor.missed.literals.items) present found.2);
      wanted = (found.0, subst (λ l. AreWanted l c.in-ActFor.missed.literals.items) present found.1);
      first = subst (IsFirstNext c.look.new.unasked) c.in-ActFor.is seen.first;
      kept = subst (λ l. IsUnaskedAt situation l c.args.actions.now c.look.new.unasked) present
          (looked_on situation events c.args.actions.now c.args.unasked.now c.look.new.unasked c.look.ensures.told seen.kept c.requires.kept);
      last = λ told.
          let for_last = subst (IsForLast situation events c.look.new.unasked.from) c.in-ActFor.is (seen.last told) in
          subst (λ l. NoneIsWoken situation l c.in-ActFor.missed.rule) present (subst (NoneIsWoken situation events) (sym for_last.0) for_last.1);
    }

pub returns-in_ok-ended-in-ActFor : goal.returns-in_ok-ended-in-ActFor
returns-in_ok-ended-in-ActFor c =
    let situation = c.args.situation.now in
    let events = c.args.events in
    let tables = c.in_ok-next.field-0.tables in
    let seen = c.in_ok-next.ensures in
    let went = c.in_ok-ended-in-ActFor.ensures in
    let present = c.of-present.ensures in
    let after = sym c.into_set.ensures in
    let found = subst (IsNextFor situation events events [] (IsDecidedAt situation events [])) c.in-ActFor.is seen.next in
    let missed = subst (λ l. IsMissedAtRoot situation events l c.in-ActFor.missed.rule c.in-ActFor.missed.literals.items) (sym present) found.2 in
    record {
      acts = subst (λ l. SituationLeads situation events events c.args.actions.now l c.act_last.new.actions) after
          (subst (λ l. SituationLeads situation events l c.args.actions.now c.act_last.new.present c.act_last.new.actions) present (went.acts events missed));
      more = λ _. went.more;
      kept = subst (λ l. IsUnaskedAt situation l c.act_last.new.actions c.act_last.new.unasked) after went.kept;
      ended = λ told.
          let same = subst (λ l. HaveSameEvents (guard_names situation.past.now.guards) l c.act_last.new.present) present (went.same told) in
          subst (λ l. EndsWith situation l tables) after (record {
            nothing = went.nothing told;
            are = c.unread_tables_stay.ensures.are situation.past.now situation.time events c.act_last.new.present tables same seen.are;
            hold = c.unread_tables_stay.ensures.hold situation.past.now situation.time events c.act_last.new.present tables
                (subst (λ gs. HaveSameEvents (guard_names gs) events c.act_last.new.present) (sym seen.are.2.0) same) seen.hold;
          });
    }

-- ---- where nothing is done

pub returns-in-Renew-clause-acts : goal.returns-in-Renew-clause-acts
returns-in-Renew-clause-acts c = ([], sym (append-nil c.args.actions.now), refl)

pub returns-in-Renew-clause-more : goal.returns-in-Renew-clause-more
returns-in-Renew-clause-more c = λ _.
    let situation = c.args.situation.now in
    let events = c.args.events in
    absurd (omega (arith, subst (IsNextFor situation events events [] (IsDecidedAt situation events [])) c.in-Renew.is c.in_ok-next.ensures.next))

pub returns-in-Renew-clause-kept : goal.returns-in-Renew-clause-kept
returns-in-Renew-clause-kept c =
    looked_on c.args.situation.now c.args.events c.args.actions.now c.args.unasked.now c.look.new.unasked c.look.ensures.told c.in_ok-next.ensures.kept c.requires.kept

pub returns-in-Done-clause-acts : goal.returns-in-Done-clause-acts
returns-in-Done-clause-acts c = ([], sym (append-nil c.args.actions.now), refl)

pub returns-in-Done-clause-kept : goal.returns-in-Done-clause-kept
returns-in-Done-clause-kept c =
    looked_on c.args.situation.now c.args.events c.args.actions.now c.args.unasked.now c.look.new.unasked c.look.ensures.told c.in_ok-next.ensures.kept c.requires.kept

pub returns-in-Done-clause-ended : goal.returns-in-Done-clause-ended
returns-in-Done-clause-ended c = λ _.
    let situation = c.args.situation.now in
    let events = c.args.events in
    let seen = c.in_ok-next.ensures in
    let found = subst (IsNextFor situation events events [] (IsDecidedAt situation events [])) c.in-Done.is seen.next in
    record { nothing = found.1; are = seen.are; hold = seen.hold }
