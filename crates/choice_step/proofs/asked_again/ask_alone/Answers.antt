use Rattle.choice_step.proofs.Vocabulary.{◌≡◌, ◌∙◌, Contains, get_or, guard_names, plan_of, same_Some, subst, sym}
use Rattle.obligations.specs.machine.FreshGuards.{HaveSameFreshEvents}
use Rattle.obligations.specs.machine.MovedPlans.{IgnoresIn}
use Rattle.choice_step.specs.machine.OwnEvents.{AreDivided}
use Rattle.choice_step.specs.machine.StillToAsk.{FirstRootsAreMet, InstancesAreMet, WillHold}
use Rattle.choice_step.proofs.AskedAgainLemmas.{asked_alone, read_plan}
use Rattle.choice_step.proofs.OwnEventLemmas.{not_looked_for, own_same}
use Rattle.choice_step.proofs.asked_again.ask_alone.Goals as goal

pub ask_in-requires : goal.ask_in-requires
ask_in-requires c =
    let situation = c.args.situation.now in
    let events = c.args.events.now in
    let own = c.in_ok-own.own.events in
    let others = c.in_ok-own.own.others.items in
    let divided = subst (λ l. AreDivided c.as_slice-looked_for.result.now l own others) c.as_slice-all.ensures.events c.in_ok-own.ensures in
    let looked = guard_names situation.past.now.guards in
    let present : c.of-present.result ≡ events = c.of-present.ensures.all c.new-gone.ensures in
    let read = read_plan situation.plans.now c.args.rule c.index-situation-rule.result c.requires.within c.index-situation-rule.is in
    record {
      can = c.requires.can;
      are = c.in_ok-tables.ensures.are;
      hold = c.in_ok-tables.ensures.hold;
      known = c.in_ok-tables.ensures.known;
      same = subst (λ l. HaveSameFreshEvents l looked c.in_ok-ordered.ordered c.of-present.result) (sym c.as_slice-stale.ensures.value)
          (subst (λ l. HaveSameFreshEvents others looked l c.of-present.result) (sym c.in_ok-ordered.ensures)
          (subst (HaveSameFreshEvents others looked own) (sym present)
          (own_same c.as_slice-looked_for.result.now events own others divided looked)));
      ignores = λ plan at name there.
          subst (IgnoresIn name) (same_Some _ plan (sym read ∙ at))
          (not_looked_for name (plan_of (get_or situation.plans.now c.args.rule c.index-situation-rule.result))
          (λ has. divided.apart name (subst (λ l. Contains l name) c.as_slice-stale.ensures.value there)
          (subst (λ l. Contains l name) (sym (c.as_slice-looked_for.ensures.value ∙ c.in_ok-names.ensures)) has)));
      waiting = subst (λ l. WillHold situation l (InstancesAreMet situation)) (sym present) c.requires.waiting;
      before = subst (λ l. WillHold situation l (FirstRootsAreMet situation c.args.rule)) (sym present) c.requires.before;
      there = read;
      plain = c.is_plain.ensures.0 c.if-not-is_plain.false;
    }

pub returns : goal.returns
returns c =
    let events = c.args.events.now in
    let own = subst (λ l. AreDivided c.as_slice-looked_for.result.now l c.in_ok-own.own.events c.in_ok-own.own.others.items) c.as_slice-all.ensures.events c.in_ok-own.ensures in
    asked_alone c.args.situation.now c.in_ok-ordered.ordered c.of-present.result c.as_slice-stale.result.now events c.args.rule c.in_ok-next.next
    (c.of-present.ensures.all c.new-gone.ensures)
    (λ event there. own.among event (subst (λ l. Contains l event) c.in_ok-ordered.ensures there)) c.in_ok-next.ensures.next c.in_ok-next.ensures.rule
