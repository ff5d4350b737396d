use Rattle.std.specs.Prelude.{◌^◌}
use Rattle.choice_step.proofs.Vocabulary.{◌≡◌, ◌∙◌, ◌≤◌, [], List, Event, arith, ap, length, length-map, plan_of, refl, situation_plans, subst}
use Rattle.choice_step.proofs.FoundLemmas.{found_none}
use Rattle.choice_step.proofs.NextLemmas.{first_of_root, not_done}
use Rattle.choice_step.proofs.UnaskedLemmas.{met_on, none_waits}
use Rattle.choice_step.specs.machine.StillToAsk.{InstancesAreMet, IsDecidedAt, IsNextAt, IsUnasked, RootIsMet, WillHold}
use Rattle.choice_step.proofs.first_missing.find_root.Goals.{After-next_root-rule}
use Rattle.choice_step.proofs.first_missing.find_root.Goals as goal

pub loop-alloc-init : goal.loop-alloc-init
loop-alloc-init c = ((λ told is. is), refl, c.requires.none)

pub next_root-rule-requires : goal.next_root-rule-requires
next_root-rule-requires c = record {
  can = c.requires.can;
  now = c.requires.now;
  fewer = c.requires.fewer;
  fresh = c.requires.fresh;
  kept = (c.requires.kept.0, c.loop-alloc.invariant.0 c.requires.kept.0 c.requires.kept.1);
}

-- what is known of those that are still to be asked
kept : (c : After-next_root-rule) → (told : List Event) → IsUnasked c.args.situation.now c.args.now.now.events.now told c.args.unasked.now
    → IsUnasked c.args.situation.now c.args.now.now.events.now told c.next_root-rule.new.unasked
kept c told is = c.next_root-rule.ensures.kept told (c.loop-alloc.invariant.0 told is)

none_ahead : (c : After-next_root-rule) → c.next_root-rule.new.unasked.asking.ahead ≡ []
none_ahead c = ap (λ a. a.ahead) c.next_root-rule.ensures.asking ∙ c.loop-alloc.invariant.2

-- no pending instance misses anything
waiting : (c : After-next_root-rule) → WillHold c.args.situation.now c.args.now.now.events.now (InstancesAreMet c.args.situation.now)
waiting c trace stands long later =
    let is = (kept c c.requires.kept.0 c.requires.kept.1).asking in
    none_waits c.args.situation.now c.requires.can c.args.now.now.events.now c.requires.kept.0 c.next_root-rule.new.unasked.asking is trace (none_ahead c) (is.but trace stands long later)

pub ask_root-requires : goal.ask_root-requires
ask_root-requires c = record {
  can = c.requires.can;
  now = c.requires.now;
  fresh = c.requires.fresh;
  waiting = waiting (goal.at.ask_root-requires c).After-next_root-rule;
  before = c.next_root-rule.ensures.before;
  within = c.if-rule-situation.false;
}

-- ---- none is left

pub returns-then-rule-situation-clause-kept : goal.returns-then-rule-situation-clause-kept
returns-then-rule-situation-clause-kept c = kept (goal.at.returns-then-rule-situation-clause-kept c).After-next_root-rule

pub returns-then-rule-situation-clause-next : goal.returns-then-rule-situation-clause-next
returns-then-rule-situation-clause-next c = (
  c.requires.fresh,
  found_none c.args.situation.now c.args.now.now.events.now c.next_root-rule.result
      (omega (arith, c.if-rule-situation.true, length-map c.args.situation.now.plans.now plan_of))
      (waiting (goal.at.returns-then-rule-situation-clause-next c).After-next_root-rule) c.next_root-rule.ensures.before,
)

-- ---- one misses something

pub returns-in_default-clause-kept : goal.returns-in_default-clause-kept
returns-in_default-clause-kept c = kept (goal.at.returns-in_default-clause-kept c).After-next_root-rule

pub returns-in_default-clause-next : goal.returns-in_default-clause-next
returns-in_default-clause-next c =
    let now = c.args.now.now in
    not_done c.args.situation.now now.ordered.now now.events.now now.stale.now (RootIsMet c.args.situation.now now.events.now c.next_root-rule.result)
    (IsDecidedAt c.args.situation.now now.events.now now.stale.now) c.in_ok-next.next c.in_default.not-Done c.in_ok-next.ensures.next

pub returns-in_default-clause-first : goal.returns-in_default-clause-first
returns-in_default-clause-first c =
    first_of_root c.next_root-rule.new.unasked c.next_root-rule.result c.in_ok-next.next (none_ahead (goal.at.returns-in_default-clause-first c).After-next_root-rule) c.next_root-rule.ensures.within c.in_ok-next.ensures.rule

-- ---- one misses nothing

pub met-requires : goal.met-requires
met-requires c =
    let few : length (situation_plans c.args.situation.now) ≤ 2 ^ 32 = c.requires.can.step.few in
    record {
      first = c.next_root-rule.ensures.within;
      within = omega (arith, c.if-rule-situation.false, few, length-map c.args.situation.now.plans.now plan_of);
    }

pub loop-alloc-preserved : goal.loop-alloc-preserved
loop-alloc-preserved c =
    let situation = c.args.situation.now in
    let now = c.args.now.now in
    let met = subst (IsNextAt situation now (RootIsMet situation now.events.now c.next_root-rule.result)) c.in-Done.is c.in_ok-next.ensures.next in (
      λ told is. met_on situation now.events.now told c.next_root-rule.result c.next_root-rule.new.unasked c.met.new.self c.met.ensures.asking c.met.ensures.passes met
          (kept (goal.at.loop-alloc-preserved c).After-next_root-rule told is),
      c.met.ensures.roused ∙ (c.next_root-rule.ensures.told ∙ c.loop-alloc.invariant.1),
      ap (λ a. a.ahead) c.met.ensures.asking ∙ none_ahead (goal.at.loop-alloc-preserved c).After-next_root-rule,
    )

pub loop-alloc-smaller : goal.loop-alloc-smaller
loop-alloc-smaller c =
    let all = length c.args.situation.now.plans.now in
    let fewer = c.met.ensures.passes.fewer all c.if-rule-situation.false c.next_root-rule.ensures.there in
    let again : length c.next_root-rule.new.unasked.again.items ≡ length c.loop-alloc.unasked.again.items = ap (λ v. length v.items) c.next_root-rule.ensures.again in
    omega (arith, fewer, again, c.next_root-rule.ensures.ahead)
