use Rattle.choice_step.proofs.Vocabulary.{[], ◌<◌, AreKnown, AreTablesAtStep, GainsNoSuppressed, GuardsWillHold, ap, arith, guard_names, length, situation_plans, subst, sym}
use Rattle.obligations.specs.machine.FreshGuards.{HaveSameFreshEvents}
use Rattle.choice_step.specs.machine.StillToAsk.{IsDecidedAt, IsFirstNext, IsFoundIn, IsNextFor, IsUnasked, IsUnaskedAt}
use Rattle.choice_step.proofs.NextLemmas.{HasActed, acts_first, has_acted}
use Rattle.choice_step.proofs.TurnLemmas.{HasTurned, few_on, longer_on, none_stale_now, on_first, on_many, on_more, one_more, turned_to}
use Rattle.choice_step.proofs.UnaskedLemmas.{looked_on}
use Rattle.choice_step.proofs.choice_loop.go_on.Goals.{After-present-now, In-Done, in-Act+in_ok-act-in-Act, in-ActFor+in_ok-act_for-in-ActFor}
use Rattle.choice_step.proofs.choice_loop.go_on.Goals as goal

pub loop-next-init : goal.loop-next-init
loop-next-init c =
    let situation = c.args.situation.now in
    let given = c.args.given.now in
    let present = sym c.requires.same in
    let stale = sym c.new-stale.ensures.items in (
      on_first situation given c.args.actions.now c.args.present.now c.new-stale.result.items c.requires.same,
      subst (λ l. IsUnaskedAt situation l c.args.actions.now c.args.unasked.now) present c.requires.kept,
      subst (λ l. IsNextFor situation given c.args.present.now l (IsDecidedAt situation c.args.present.now l) c.args.first) stale
          (subst (λ l. IsNextFor situation given l [] (IsDecidedAt situation l []) c.args.first) present c.requires.next),
      c.requires.first,
      acts_first (length c.args.actions.now < length c.args.actions.now) c.args.first c.requires.acts,
    )

pub act-requires : goal.act-requires
act-requires c =
    let found = subst (IsNextFor c.args.situation.now c.args.given.now c.loop-next.present c.loop-next.stale.items (IsDecidedAt c.args.situation.now c.loop-next.present c.loop-next.stale.items))
    c.in-Act.is c.loop-next.invariant.2 in
    let same = subst (IsFoundIn c.args.situation.now c.args.given.now c.loop-next.present) (sym c.into_inner.ensures) found in
    record { can = c.requires.can; wanted = (c.args.given.now, same.wanted); kept = c.loop-next.invariant.1 }

pub act_for-requires : goal.act_for-requires
act_for-requires c =
    let found = subst (IsNextFor c.args.situation.now c.args.given.now c.loop-next.present c.loop-next.stale.items (IsDecidedAt c.args.situation.now c.loop-next.present c.loop-next.stale.items))
    c.in-ActFor.is c.loop-next.invariant.2 in
    record {
      can = c.requires.can;
      missed = (c.args.given.now, found.2);
      wanted = (found.0, found.1);
      first = subst (IsFirstNext c.loop-next.unasked) c.in-ActFor.is c.loop-next.invariant.3;
      kept = c.loop-next.invariant.1;
    }

-- ---- after a turn

turned : (c : After-present-now) → HasTurned c.args.situation.now c.args.given.now c.args.actions.now c.loop-next.actions c.match-next.present c.match-next.stale.items c.match-next.actions
    c.match-next.unasked
turned c =
    let situation = c.args.situation.now in
    let given = c.args.given.now in
    let start = c.args.actions.now in
    let was = c.loop-next.invariant in
    elim c.match-next.branch [
      | in-Act+in_ok-act-in-Act w ↦
          let found = subst (IsNextFor situation given c.loop-next.present c.loop-next.stale.items (IsDecidedAt situation c.loop-next.present c.loop-next.stale.items)) w.in-Act.is was.2 in
          let same = subst (IsFoundIn situation given c.loop-next.present) (sym w.into_inner.ensures) found in
          turned_to situation given start c.loop-next.actions w.act.new.events c.match-next.present w.act.new.stale.items c.match-next.stale.items w.act.new.actions c.match-next.actions
          w.act.new.unasked c.match-next.unasked w.present-is (ap (λ v. v.items) w.stale-is) w.actions-is w.unasked-is (record {
            on = on_more situation given start c.requires.can c.loop-next.present w.act.new.events c.loop-next.stale.items w.act.new.stale.items c.loop-next.actions w.act.new.actions
                w.into_inner.result was.0 same w.in_ok-act-in-Act.ensures.applies w.in_ok-act-in-Act.ensures.pushed w.in_ok-act-in-Act.ensures.stale;
            kept = w.in_ok-act-in-Act.ensures.kept;
            more = one_more situation given start c.requires.can c.loop-next.present w.act.new.events c.loop-next.stale.items w.act.new.stale.items c.loop-next.actions w.act.new.actions
                w.into_inner.result was.0 same w.in_ok-act-in-Act.ensures.applies w.in_ok-act-in-Act.ensures.pushed;
          })
      | in-ActFor+in_ok-act_for-in-ActFor w ↦
          let found = subst (IsNextFor situation given c.loop-next.present c.loop-next.stale.items (IsDecidedAt situation c.loop-next.present c.loop-next.stale.items)) w.in-ActFor.is was.2 in
          turned_to situation given start c.loop-next.actions w.act_for.new.events c.match-next.present w.act_for.new.stale.items c.match-next.stale.items w.act_for.new.actions
          c.match-next.actions w.act_for.new.unasked c.match-next.unasked w.present-is (ap (λ v. v.items) w.stale-is) w.actions-is w.unasked-is (record {
            on = on_many situation given start c.requires.can c.loop-next.present w.act_for.new.events c.loop-next.stale.items w.act_for.new.stale.items c.loop-next.actions
                w.act_for.new.actions was.0 (w.in_ok-act_for-in-ActFor.ensures.acts given found.2) w.in_ok-act_for-in-ActFor.ensures.stale;
            kept = w.in_ok-act_for-in-ActFor.ensures.kept;
            more = w.in_ok-act_for-in-ActFor.ensures.more;
          })
    ]

pub find_next-requires : goal.find_next-requires
find_next-requires c =
    let situation = c.args.situation.now in
    let ordered = sym c.in_ok-ordered.ensures in
    let events = sym c.present-now.ensures in
    let stale = sym c.as_slice.ensures.value in
    let names = guard_names situation.past.now.guards in
    let now = turned (goal.at.find_next-requires c).After-present-now in
    record {
      can = c.requires.can;
      are = subst (λ l. AreTablesAtStep situation.past.now situation.time l c.args.tables.now) ordered c.requires.are;
      hold = subst (λ l. GuardsWillHold situation.past.now situation.time l c.args.tables.now) ordered c.requires.hold;
      known = subst (λ l. AreKnown situation.past.now l c.args.tables.now) ordered c.requires.known;
      same = subst (λ l. HaveSameFreshEvents l names c.in_ok-ordered.ordered c.present-now.result) stale
          (subst (λ l. HaveSameFreshEvents c.match-next.stale.items names l c.present-now.result) ordered
          (subst (HaveSameFreshEvents c.match-next.stale.items names c.args.given.now) events now.on.same));
      fewer = subst (λ l. GainsNoSuppressed (situation_plans situation) l c.present-now.result) ordered
          (subst (GainsNoSuppressed (situation_plans situation) c.args.given.now) events now.on.fewer);
      kept = (now.kept.told, subst (λ l. IsUnasked situation l now.kept.told c.match-next.unasked) events now.kept.is);
    }

pub loop-next-preserved : goal.loop-next-preserved
loop-next-preserved c =
    let situation = c.args.situation.now in
    let given = c.args.given.now in
    let now = turned (goal.at.loop-next-preserved c).After-present-now in
    let events = c.present-now.ensures in
    let stale = c.as_slice.ensures.value in
    let ordered = c.in_ok-ordered.ensures in
    let asked = c.in_ok-next.ensures in
    let next = c.in_ok-next.next in (
      now.on,
      subst (λ l. IsUnaskedAt situation l c.match-next.actions c.find_next.new.unasked) events
          (looked_on situation c.present-now.result c.match-next.actions c.match-next.unasked c.find_next.new.unasked c.find_next.ensures.told asked.kept
          (subst (λ l. IsUnaskedAt situation l c.match-next.actions c.match-next.unasked) (sym events) now.kept)),
      subst (λ l. IsNextFor situation given c.match-next.present l (IsDecidedAt situation c.match-next.present l) next) stale
          (subst (λ l. IsNextFor situation l c.match-next.present c.as_slice.result.now (IsDecidedAt situation c.match-next.present c.as_slice.result.now) next) ordered
          (subst (λ l. IsNextFor situation c.in_ok-ordered.ordered l c.as_slice.result.now (IsDecidedAt situation l c.as_slice.result.now) next) events asked.next)),
      asked.first,
      has_acted (length c.args.actions.now < length c.match-next.actions) next (omega (arith, now.more, longer_on situation given given c.loop-next.present c.args.actions.now c.loop-next.actions c.loop-next.invariant.0.led)),
    )

pub loop-next-smaller : goal.loop-next-smaller
loop-next-smaller c =
    let now = turned (goal.at.loop-next-smaller c).After-present-now in
    omega (arith, now.more, few_on c.args.situation.now c.args.given.now c.args.actions.now c.requires.can c.as_slice-given.ensures.distinct _ _ now.on.led)

-- ---- where it ends

pub returns-in-Renew-clause-acts : goal.returns-in-Renew-clause-acts
returns-in-Renew-clause-acts c = c.loop-next.invariant.0.led

pub returns-in-Renew-clause-more : goal.returns-in-Renew-clause-more
returns-in-Renew-clause-more c = subst (HasActed (length c.args.actions.now < length c.loop-next.actions)) c.in-Renew.is c.loop-next.invariant.4

pub returns-in-Renew-clause-kept : goal.returns-in-Renew-clause-kept
returns-in-Renew-clause-kept c = c.loop-next.invariant.1

pub returns-in-Done-clause-acts : goal.returns-in-Done-clause-acts
returns-in-Done-clause-acts c = c.loop-next.invariant.0.led

pub returns-in-Done-clause-more : goal.returns-in-Done-clause-more
returns-in-Done-clause-more c = subst (HasActed (length c.args.actions.now < length c.loop-next.actions)) c.in-Done.is c.loop-next.invariant.4

pub returns-in-Done-clause-kept : goal.returns-in-Done-clause-kept
returns-in-Done-clause-kept c = c.loop-next.invariant.1

decided : (c : In-Done) → IsDecidedAt c.args.situation.now c.loop-next.present c.loop-next.stale.items
decided c =
    subst (IsNextFor c.args.situation.now c.args.given.now c.loop-next.present c.loop-next.stale.items (IsDecidedAt c.args.situation.now c.loop-next.present c.loop-next.stale.items))
    c.in-Done.is c.loop-next.invariant.2

pub returns-in-Done-clause-nothing : goal.returns-in-Done-clause-nothing
returns-in-Done-clause-nothing c = λ _. (decided (goal.at.returns-in-Done-clause-nothing c).In-Done).1

pub returns-in-Done-clause-same : goal.returns-in-Done-clause-same
returns-in-Done-clause-same c = λ _.
    none_stale_now (guard_names c.args.situation.now.past.now.guards) c.args.given.now c.loop-next.present c.loop-next.stale.items
    (decided (goal.at.returns-in-Done-clause-same c).In-Done).0 c.loop-next.invariant.0.same
