use Rattle.choice_step.proofs.Vocabulary.{◌∙◌, [], sym, subst, AreKnown, AreTablesAtStep, GuardsWillHold, HaveSameEvents, guard_names, SituationLeads}
use Rattle.choice_step.specs.machine.StillToAsk.{IsDecidedAt, IsNextFor, IsUnaskedAt}
use Rattle.choice_step.specs.machine.Turns.{EndsWith}
use Rattle.choice_step.proofs.choice_loop.act_on_from.Goals as goal

pub go_on-requires : goal.go_on-requires
go_on-requires c =
    let situation = c.args.situation.now in
    let tables = c.args.tables in
    let given = sym c.in_ok-given.ensures in
    record {
      can = c.requires.can;
      are = subst (λ l. AreTablesAtStep situation.past.now situation.time l tables) given c.requires.are;
      hold = subst (λ l. GuardsWillHold situation.past.now situation.time l tables) given c.requires.hold;
      known = subst (λ l. AreKnown situation.past.now l tables) given c.requires.known;
      same = c.of-present.ensures ∙ given;
      next = subst (λ l. IsNextFor situation l l [] (IsDecidedAt situation l []) c.args.first) given c.requires.next;
      first = c.requires.first;
      acts = c.requires.acts;
      kept = subst (λ l. IsUnaskedAt situation l c.args.actions.now c.args.unasked.now) given c.requires.kept;
    }

pub returns-clause-acts : goal.returns-clause-acts
returns-clause-acts c =
    let situation = c.args.situation.now in
    subst (λ l. SituationLeads situation c.args.events c.args.events c.args.actions.now l c.go_on.new.actions) (sym c.into_set.ensures)
    (subst (λ l. SituationLeads situation l l c.args.actions.now c.go_on.new.present c.go_on.new.actions) c.in_ok-given.ensures c.in_ok-ended.ensures.acts)

pub returns-clause-more : goal.returns-clause-more
returns-clause-more c = λ _. c.in_ok-ended.ensures.more

pub returns-clause-kept : goal.returns-clause-kept
returns-clause-kept c =
    subst (λ l. IsUnaskedAt c.args.situation.now l c.go_on.new.actions c.go_on.new.unasked) (sym c.into_set.ensures) c.in_ok-ended.ensures.kept

pub returns-clause-ended : goal.returns-clause-ended
returns-clause-ended c told =
    let situation = c.args.situation.now in
    let tables = c.args.tables in
    let went = c.in_ok-ended.ensures in
    let same = subst (λ l. HaveSameEvents (guard_names situation.past.now.guards) l c.go_on.new.present) c.in_ok-given.ensures (went.same told) in
    subst (λ l. EndsWith situation l tables) (sym c.into_set.ensures) (record {
      nothing = went.nothing told;
      are = c.unread_tables_stay.ensures.are situation.past.now situation.time c.args.events c.go_on.new.present tables same c.requires.are;
      hold = c.unread_tables_stay.ensures.hold situation.past.now situation.time c.args.events c.go_on.new.present tables
          (subst (λ gs. HaveSameEvents (guard_names gs) c.args.events c.go_on.new.present) (sym c.requires.are.2.0) same) c.requires.hold;
    })
