use Rattle.choice_step.proofs.Vocabulary.{◌≡◌, ◌∙◌, [], Contains, sym, subst, AreKnown, AreTablesAtStep, GuardsWillHold}
use Rattle.choice_step.specs.machine.StillToAsk.{IsDecidedAt, IsNextFor, IsUnasked}
use Rattle.choice_step.specs.machine.Turns.{IsForLast}
use Rattle.choice_step.proofs.choice_loop.look.Goals as goal

-- the events are those that were given, since none is gone
pub find_next-requires : goal.find_next-requires
find_next-requires c =
    let situation = c.args.situation.now in
    let events = c.args.events.now in
    let ordered = c.in_ok-ordered.ensures in
    let present : c.of-present.result ≡ events = c.of-present.ensures.all c.new-gone.ensures in
    record {
      can = c.requires.can;
      are = c.in_ok-tables.ensures.are;
      hold = c.in_ok-tables.ensures.hold;
      known = c.in_ok-tables.ensures.known;
      same = λ event named fresh. (
        λ there. subst (λ l. Contains l event) (ordered ∙ sym present) there,
        λ there. subst (λ l. Contains l event) (present ∙ sym ordered) there,
      );
      fewer = λ event named there. subst (λ l. Contains l event) (present ∙ sym ordered) there;
      kept = (c.requires.kept.0, subst (λ l. IsUnasked situation l c.requires.kept.0 c.args.unasked.now) (sym present) c.requires.kept.1);
    }

pub returns-clause-kept : goal.returns-clause-kept
returns-clause-kept c told is =
    let situation = c.args.situation.now in
    let present = c.of-present.ensures.all c.new-gone.ensures in
    subst (λ l. IsUnasked situation l told c.find_next.new.unasked) present
    (c.in_ok-next.ensures.kept told (subst (λ l. IsUnasked situation l told c.args.unasked.now) (sym present) is))

pub returns-clause-next : goal.returns-clause-next
returns-clause-next c =
    let situation = c.args.situation.now in
    let present = c.of-present.ensures.all c.new-gone.ensures in
    subst (λ l. IsNextFor situation c.args.events.now l [] (IsDecidedAt situation l []) c.in_ok-next.next) present
    (subst (λ l. IsNextFor situation l c.of-present.result [] (IsDecidedAt situation c.of-present.result []) c.in_ok-next.next) c.in_ok-ordered.ensures c.in_ok-next.ensures.next)

pub returns-clause-last : goal.returns-clause-last
returns-clause-last c told =
    subst (λ l. IsForLast c.args.situation.now l c.find_next.new.unasked.from c.in_ok-next.next) c.in_ok-ordered.ensures (c.is_last-last.ensures told)

pub returns-clause-are : goal.returns-clause-are
returns-clause-are c =
    subst (λ l. AreTablesAtStep c.args.situation.now.past.now c.args.situation.now.time l c.in_ok-tables.tables) c.in_ok-ordered.ensures c.in_ok-tables.ensures.are

pub returns-clause-hold : goal.returns-clause-hold
returns-clause-hold c =
    subst (λ l. GuardsWillHold c.args.situation.now.past.now c.args.situation.now.time l c.in_ok-tables.tables) c.in_ok-ordered.ensures c.in_ok-tables.ensures.hold

pub returns-clause-known : goal.returns-clause-known
returns-clause-known c = subst (λ l. AreKnown c.args.situation.now.past.now l c.in_ok-tables.tables) c.in_ok-ordered.ensures c.in_ok-tables.ensures.known

pub returns-clause-first : goal.returns-clause-first
returns-clause-first c = c.in_ok-next.ensures.first
