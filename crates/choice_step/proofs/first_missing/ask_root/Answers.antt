use Rattle.choice_step.proofs.Vocabulary.{◌≡◌, ◌∙◌, ◌∷◌, [], List, AllByRecursion-contains, CanAskPlan, CanAskRoot, FirstMissing, IsWanted, IfSome, Some}
use Rattle.choice_step.proofs.Vocabulary.{first_or_later, guards_now, no_values, none_in_nil, plan_at, plan_of, refl, situation_plans, slice_get, subst, sym, there_from_get, ⊎_elim}
use Rattle.choice_step.proofs.Vocabulary.{◌<◌, ℕ, Contains, get_or, length, map}
use Rattle.plan_terms.specs.declared.plans.Plan.{Plan as Stored}
use Rattle.choice_step.proofs.FoundLemmas.{found_at_root, met_now}
use Rattle.choice_step.proofs.UnaskedLemmas.{roots_asked}
use Rattle.choice_step.proofs.first_missing.ask_root.Goals as goal

-- the plan that is asked
read : (plans : List Stored) (rule : ℕ) (plan : Stored) → rule < length plans → plan ≡ get_or plans rule plan → slice_get (map plan_of plans) rule ≡ Some (plan_of (get_or plans rule plan))
read plans rule plan within is = subst (λ p. slice_get (map plan_of plans) rule ≡ Some (plan_of p)) is (plan_at plans rule plan within is)

pub ask_plain-requires : goal.ask_plain-requires
ask_plain-requires c = record {
  can = c.requires.can;
  now = c.requires.now;
  ignores = λ plan at name there. absurd (none_in_nil name (subst (λ l. Contains l name) c.requires.fresh there));
  waiting = c.requires.waiting;
  before = c.requires.before;
  there = read c.args.situation.now.plans.now c.args.rule c.index-situation-rule.result c.requires.within c.index-situation-rule.is;
  plain = c.is_plain.ensures.0 c.if-is_plain.true;
}

pub first_missing-requires : goal.first_missing-requires
first_missing-requires c =
    let situation = c.args.situation.now in
    let now = c.args.now.now in
    let plan = plan_of (get_or c.args.situation.now.plans.now c.args.rule c.index-situation-rule.result) in
    subst (CanAskPlan (guards_now now) plan) (sym c.empty-nothing.ensures)
    (AllByRecursion-contains (CanAskRoot (guards_now now)) (situation_plans situation) plan (roots_asked situation now c.requires.can c.requires.now c.requires.fresh)
    (there_from_get (situation_plans situation) c.args.rule plan
    (read situation.plans.now c.args.rule c.index-situation-rule.result c.requires.within c.index-situation-rule.is))).0

-- it misses nothing
pub returns-in_default-clause-next : goal.returns-in_default-clause-next
returns-in_default-clause-next c =
    let plan = plan_of (get_or c.args.situation.now.plans.now c.args.rule c.index-situation-rule.result) in
    met_now c.stale_now_stands.ensures c.args.situation.now c.args.now.now c.requires.now c.args.rule plan
    (read c.args.situation.now.plans.now c.args.rule c.index-situation-rule.result c.requires.within c.index-situation-rule.is)
    (λ trace of. subst (FirstMissing trace plan no_values) c.in_default.is (subst (λ v. FirstMissing trace plan v c.in_ok-literal.field-0) c.empty-nothing.ensures (c.in_ok-literal.ensures.first trace of)))

-- or the action is for it
pub returns-clause-next : goal.returns-clause-next
returns-clause-next c =
    let situation = c.args.situation.now in
    let now = c.args.now.now in
    let plan = plan_of (get_or c.args.situation.now.plans.now c.args.rule c.index-situation-rule.result) in
    let literal = c.in-Some.literal in
    let wanted : IsWanted now plan no_values literal =
    subst (λ v. IsWanted now plan v literal) c.empty-nothing.ensures
    (subst (λ o. IfSome o (IsWanted now plan c.empty-nothing.result)) c.in-Some.is c.in_ok-literal.ensures.wanted)
    in
    found_at_root c.stale_now_stands.ensures situation now c.requires.now c.requires.waiting c.args.rule plan
    (read situation.plans.now c.args.rule c.index-situation-rule.result c.requires.within c.index-situation-rule.is) c.requires.before (literal ∷ [])
    (λ l there. ⊎_elim (λ (same : literal ≡ l). subst (IsWanted now plan no_values) same wanted) (λ on. absurd (none_in_nil l on)) (first_or_later l literal [] there))
    literal c.in_ok-apart.apart.value refl
    (λ trace of. subst (FirstMissing trace plan no_values) c.in-Some.is (subst (λ v. FirstMissing trace plan v c.in_ok-literal.field-0) c.empty-nothing.ensures (c.in_ok-literal.ensures.first trace of)))
    (c.in_ok-apart.ensures ∙ c.root_action-action.ensures)
