-- What is known of rules at positions, as one after another is settled.
use Rattle.trace_audit.proofs.Vocabulary.{◌≡◌, ℕ, ◌+◌, List, [], ◌∷◌, ◌++◌, length, Option, None, Some, refl, sym, ap, subst, arith, inl, inr, ⊎_elim, ◌⊎◌, ◌∙◌, ◌↔◌, slice_get, cases_lt, option_map}
use Rattle.trace_audit.proofs.Vocabulary.{length-map, same_Some, slice_get-map, slice_get_within, AllByRecursion-weaker, first_or_later, none_in_nil, no_values, Step, VarId, Formula, Sat, formula_for}
use Rattle.trace_audit.proofs.Vocabulary.{Plan, formulas_for, NothingElse, RulesAreMet, BeginsRules, RulesCanGoOn, FollowsAsked, FollowsOneAsked, IsRuleBefore, IsRuleBeforeAny, IsJudged, IsAskedFor}
use Rattle.trace_audit.proofs.Vocabulary.{PutsIn, JudgesStep, asked_at, rule_at, IsAt, AuditMoment, TellsRest, ResidualCanGoOn, PlanHoldsAt, Means, IsBroken, Followed, OpenRule, Residual, RuleAt}
use Rattle.trace_audit.proofs.Vocabulary.{Contains, Result, Ok, Err, OnOk, OnErr, AllByRecursion-contains, AllByRecursion-from_contains, HasOneMoreRule, AreAmongRules, TakesAwake, IsFirstWith}
use Rattle.trace_audit.proofs.Vocabulary.{option_to_list, guards_at}
use Rattle.trace_audit.specs.declared.residuals.Residual.TheVariants as stored

-- ---- the order

before_trans : (a b c : RuleAt) → IsRuleBefore a b → IsRuleBefore b c → IsRuleBefore a c
before_trans a b c (inl p) (inl q) = inl (omega (arith, p, q))
before_trans a b c (inl p) (inr q) = let same = q.0 in inl (omega (arith, p, same))
before_trans a b c (inr p) (inl q) = let same = p.0 in inl (omega (arith, same, q))
before_trans a b c (inr p) (inr q) =
    let one = p.0 in let two = q.0 in let less = p.1 in let more = q.1 in
    inr (omega (arith, one, two), omega (arith, less, more))

before_any : (a b : RuleAt) (other : Option RuleAt) → IsRuleBefore a b → IsRuleBeforeAny b other → IsRuleBeforeAny a other
before_any a b None before any = tt
before_any a b (Some c) before any = before_trans a b c before any

not_before_itself : (a : RuleAt) → IsRuleBefore a a → ⊥
not_before_itself a (inl p) = omega (arith, p)
not_before_itself a (inr p) = let less = p.1 in omega (arith, less)

module _ (policy : List Formula) (trace : List Step) (from : ℕ) where
  -- ---- a claim that is settled

  module _ (end : RuleAt) (Rest : RuleAt → Type 0) (at : RuleAt) (P : Type 0) where
    abbrev pub WithClaim : RuleAt → Type 0
    WithClaim other = Rest other × (at ≡ other → P)

    abbrev Judged : (Others : RuleAt → Type 0) → List OpenRule → Option RuleAt → Type 0
    Judged Others asked broken = IsJudged policy trace from end Others asked broken

    -- it holds
    pub claim_met : (asked : List OpenRule) (broken : Option RuleAt) → P → Judged WithClaim asked broken → Judged Rest asked broken
    claim_met asked broken holds judged = record {
      items = judged.items;
      failed = judged.failed;
      others = λ other rule is before any met rest. judged.others other rule is before any met (rest, λ same. holds);
    }

    -- it comes after what is broken
    pub claim_behind : (asked : List OpenRule) (broken : Option RuleAt) → (IsRuleBeforeAny at broken → ⊥)
        → Judged WithClaim asked broken → Judged Rest asked broken
    claim_behind asked broken behind judged = record {
      items = judged.items;
      failed = judged.failed;
      others = λ other rule is before any met rest. judged.others other rule is before any met
          (rest, λ same. absurd (behind (subst (λ o. IsRuleBeforeAny o broken) (sym same) any)));
    }

    -- it does not hold, and is the first that is broken
    pub claim_failed : (asked : List OpenRule) (broken : Option RuleAt) → IsRuleBefore at end → IsRuleBeforeAny at broken
        → IsBroken policy trace at.rule at.position → Judged WithClaim asked broken → Judged Rest asked (Some at)
    claim_failed asked broken early first fails judged = record {
      items = judged.items;
      failed = λ other same. let is = same_Some at other same in
          (subst (λ o. IsRuleBefore o end) is early, subst (λ (o : RuleAt). IsBroken policy trace o.rule o.position) is fails);
      others = λ other rule is before any met rest. judged.others other rule is before
          (before_any other at broken any first) met
          (rest, λ same. absurd (not_before_itself other (subst (IsRuleBefore other) same any)));
    }

    -- it is asked
    pub claim_asked : (asked more : List OpenRule) (broken : Option RuleAt) (rest : Residual) → HasOneMoreRule (asked_at at rest) asked more
        → IsAskedFor policy trace from end (asked_at at rest)
        → (Means trace from rest → P) → Judged WithClaim asked broken → Judged Rest more broken
    claim_asked asked more broken rest one is tells judged = record {
      items = AllByRecursion-from_contains (IsAskedFor policy trace from end) more (λ item there. ⊎_elim
          (λ same. subst (IsAskedFor policy trace from end) (sym same) is)
          (λ old. AllByRecursion-contains (IsAskedFor policy trace from end) asked item judged.items old)
          (one.only item there));
      failed = judged.failed;
      others = λ other rule of_rule before any met others. judged.others other rule of_rule before any
          (λ item there same. met item (one.kept item there) same)
          (others, λ same. tells (met (asked_at at rest) one.there same));
    }

    put_asked : (rule : Formula) (rest : Residual) (before after : Followed) → slice_get policy at.rule ≡ Some rule
        → IsRuleBefore at end → P ↔ Sat trace at.position no_values rule → P ↔ Means trace from rest
        → HasOneMoreRule (asked_at at rest) before.asked after.asked × (after.broken ≡ before.broken)
        → Judged WithClaim before.asked before.broken → Judged Rest after.asked after.broken
    put_asked rule rest before after of_rule early sat means puts judged =
        subst (Judged Rest after.asked) (sym puts.1)
        (claim_asked before.asked after.asked before.broken rest puts.0 (record {
          rule = rule;
          of_rule = of_rule;
          before = early;
          means = (λ m. sat.0 (means.1 m), λ holds. means.0 (sat.1 holds));
        }) means.1 judged)

    -- what is asked for it is put in
    pub claim_put : (rule : Formula) (rest : Residual) (before after : Followed) → slice_get policy at.rule ≡ Some rule
        → IsRuleBefore at end → IsRuleBeforeAny at before.broken → P ↔ Sat trace at.position no_values rule
        → P ↔ Means trace from rest → PutsIn at rest before after → Judged WithClaim before.asked before.broken
        → Judged Rest after.asked after.broken
    claim_put rule stored.Met before after of_rule early first sat means puts judged =
        subst (λ (a : Followed). Judged Rest a.asked a.broken) (sym puts) (claim_met before.asked before.broken (means.1 tt) judged)
    claim_put rule stored.Failed before after of_rule early first sat means puts judged =
        subst (λ (a : Followed). Judged Rest a.asked a.broken) (sym puts)
        (claim_failed before.asked before.broken early first (rule, of_rule, λ holds. means.0 (sat.1 holds)) judged)
    claim_put rule (stored.Waits w) before after of_rule early first sat means puts judged =
        put_asked rule (stored.Waits w) before after of_rule early sat means puts judged
    claim_put rule (stored.Chain' shape links) before after of_rule early first sat means puts judged =
        put_asked rule (stored.Chain' shape links) before after of_rule early sat means puts judged

  -- where less else is known
  pub judged_weaker : (end : RuleAt) (Rest Others : RuleAt → Type 0) → ((at : RuleAt) → Others at → Rest at)
      → (asked : List OpenRule) (broken : Option RuleAt) → IsJudged policy trace from end Rest asked broken
      → IsJudged policy trace from end Others asked broken
  judged_weaker end Rest Others weaker asked broken judged = record {
    items = judged.items;
    failed = judged.failed;
    others = λ other rule is before any met rest. judged.others other rule is before any met (weaker other rest);
  }

  -- up to a later end, where those between are known
  pub judged_further : (end further : RuleAt) (Rest Others : RuleAt → Type 0) (asked : List OpenRule) (broken : Option RuleAt)
      → ((at : RuleAt) → IsRuleBefore at end → IsRuleBefore at further)
      → ((at : RuleAt) → Others at → Rest at)
      → ((at : RuleAt) (rule : Formula) → slice_get policy at.rule ≡ Some rule → IsRuleBefore at further → IsRuleBeforeAny at broken
      → Others at → IsRuleBefore at end ⊎ Sat trace at.position no_values rule)
      → IsJudged policy trace from end Rest asked broken → IsJudged policy trace from further Others asked broken
  judged_further end further Rest Others asked broken more weaker between judged = record {
    items = AllByRecursion-weaker (IsAskedFor policy trace from end) (IsAskedFor policy trace from further) asked
        (λ item is. record { rule = is.rule; of_rule = is.of_rule; before = more item.at is.before; means = is.means }) judged.items;
    failed = λ at same. let is = judged.failed at same in (more at is.0, is.1);
    others = λ at rule is before any met others. ⊎_elim
        (λ early. judged.others at rule is early any met (weaker at others))
        (λ holds. holds)
        (between at rule is before any others);
  }

-- what is met of some is met of the first and of the others
with_first : (policy : List Formula) (trace : List Step) (from at : ℕ) (end : RuleAt) (item : OpenRule) (left asked : List OpenRule)
    (broken : Option RuleAt) → IsJudged policy trace from end (RulesAreMet trace at (item ∷ left)) asked broken
    → IsJudged policy trace from end (WithClaim policy trace from end (RulesAreMet trace at left) item.at (Means trace at item.rest)) asked broken
with_first policy trace from at end item left asked broken judged =
    judged_weaker policy trace from end (RulesAreMet trace at (item ∷ left))
    (WithClaim policy trace from end (RulesAreMet trace at left) item.at (Means trace at item.rest))
    (λ place claims other there same. ⊎_elim
    (λ one. subst (λ (o : OpenRule). Means trace at o.rest) one (claims.1 (subst (λ (o : OpenRule). o.at ≡ place) (sym one) same)))
    (λ later. claims.0 other later same)
    (first_or_later other item left there)) asked broken judged

-- ---- what is asked is followed over a step, one after another

module _ (now : AuditMoment) where
  pub follow_item : (item : OpenRule) (rest : Residual) (before after : Followed)
      → TellsRest now (λ trace. Means trace now.position item.rest) rest → IsRuleBeforeAny item.at before.broken
      → PutsIn item.at rest before after → FollowsOneAsked now item before after
  follow_item item rest before after tells first puts = λ policy trace end left is of judged.
      claim_put policy trace (now.position + 1) end (RulesAreMet trace now.position left) item.at (Means trace now.position item.rest)
      of.rule rest before after of.of_rule of.before first of.means (tells.means trace is) puts
      (with_first policy trace (now.position + 1) now.position end item left before.asked before.broken judged)

  pub follow_behind : (item : OpenRule) (followed : Followed) → (IsRuleBeforeAny item.at followed.broken → ⊥)
      → FollowsOneAsked now item followed followed
  follow_behind item followed behind = λ policy trace end left is of judged.
      claim_behind policy trace (now.position + 1) end (RulesAreMet trace now.position left) item.at (Means trace now.position item.rest)
      followed.asked followed.broken behind
      (with_first policy trace (now.position + 1) now.position end item left followed.asked followed.broken judged)

  -- where these of what was asked are still to be followed
  abbrev pub FollowsOn : (asked : List OpenRule) (broken : Option RuleAt) → (left : List OpenRule) → Followed → Type 0
  FollowsOn asked broken left followed = (policy : List Formula) (trace : List Step) (end : RuleAt) → IsAt now trace
      → IsJudged policy trace now.position end NothingElse asked broken
      → IsJudged policy trace (now.position + 1) end (RulesAreMet trace now.position left) followed.asked followed.broken

  module _ (asked : List OpenRule) (broken : Option RuleAt) where
    -- at first those that are awake are still to be followed, and what is asked for the others stays
    pub follows_first : (awake : List OpenRule) (followed : Followed) → RulesCanGoOn (guards_at now.tables) asked
        → TakesAwake now asked awake followed.asked → followed.broken ≡ broken → FollowsOn asked broken awake followed
    follows_first awake followed can takes same = λ policy trace end is judged.
        let stays = λ (item : OpenRule) (there : Contains followed.asked item). takes.stay item there trace is
        (AllByRecursion-contains (λ (o : OpenRule). ResidualCanGoOn (guards_at now.tables) o.rest) asked item can (takes.left_among item there)) in
        subst (IsJudged policy trace (now.position + 1) end (RulesAreMet trace now.position awake) followed.asked) (sym same) (record {
          items = AllByRecursion-from_contains (IsAskedFor policy trace (now.position + 1) end) followed.asked (λ item there.
              let of = AllByRecursion-contains (IsAskedFor policy trace now.position end) asked item judged.items (takes.left_among item there) in record {
                rule = of.rule;
                of_rule = of.of_rule;
                before = of.before;
                means = (λ m. of.means.0 ((stays item there).1 m), λ holds. (stays item there).0 (of.means.1 holds));
              });
          failed = judged.failed;
          others = λ at rule of_rule before any met rest. judged.others at rule of_rule before any
              (λ item there at_it. ⊎_elim
              (λ one. rest item one at_it)
              (λ left. (stays item left).1 (met item left at_it))
              (takes.every item there)) tt;
        })

    -- what was awake was asked before
    pub follows_next : (item : OpenRule) (left : List OpenRule) (before after : Followed)
        → Contains asked item → FollowsOn asked broken (item ∷ left) before → FollowsOneAsked now item before after
        → FollowsOn asked broken left after
    follows_next item left before after there on one = λ policy trace end is judged.
        one policy trace end left is (AllByRecursion-contains (IsAskedFor policy trace now.position end) asked item judged.items there)
        (on policy trace end is judged)

    pub follows_all : (followed : Followed) → FollowsOn asked broken [] followed → (policy : List Formula) (trace : List Step)
        (end : RuleAt) → IsAt now trace → IsJudged policy trace now.position end NothingElse asked broken
        → IsJudged policy trace (now.position + 1) end NothingElse followed.asked followed.broken
    follows_all followed on = λ policy trace end is judged.
        judged_weaker policy trace (now.position + 1) end (RulesAreMet trace now.position []) NothingElse
        (λ at anything item there same. absurd (none_in_nil item there)) followed.asked followed.broken
        (on policy trace end is judged)

  -- ---- and so is each rule at the step

  module _ (plans : List Plan) (before : Followed) where
    abbrev here_at : ℕ → RuleAt
    here_at count = rule_at count now.position

    below_next : (count : ℕ) (at : RuleAt) → IsRuleBefore at (here_at count) → IsRuleBefore at (here_at (count + 1))
    below_next count at (inl p) = inl p
    below_next count at (inr p) = let less = p.1 in inr (p.0, omega (arith, less))

    below_or_it : (count : ℕ) (at : RuleAt) → IsRuleBefore at (here_at (count + 1)) → IsRuleBefore at (here_at count) ⊎ (here_at count ≡ at)
    below_or_it count at (inl p) = inl (inl p)
    below_or_it count at (inr p) = let less = p.1 in ⊎_elim
        (λ lower. inl (inr (p.0, lower)))
        (λ upper. let same : count ≡ at.rule = omega (arith, less, upper) in inr (λ i. record { rule = same i; position = sym p.0 i }))
        (cases_lt at.rule count)

    pub begins_next : (count : ℕ) (plan : Plan) (rest : Residual) (between after : Followed)
        → slice_get plans count ≡ Some plan → BeginsRules now plans count before between
        → IsRuleBeforeAny (here_at count) between.broken
        → TellsRest now (λ trace. PlanHoldsAt trace no_values plan now.position) rest
        → PutsIn (here_at count) rest between after → BeginsRules now plans (count + 1) before after
    begins_next count plan rest between after of begins first tells puts = λ trace is judged.
        let holds : Type 0 = PlanHoldsAt trace no_values plan now.position in
        let formulas = formulas_for plans in
        let of_rule : slice_get formulas count ≡ Some (formula_for plan) = slice_get-map formula_for plans count ∙ ap (option_map formula_for) of in
        claim_put formulas trace (now.position + 1) (here_at (count + 1)) NothingElse (here_at count) holds
        (formula_for plan) rest between after of_rule (inr (refl, omega arith)) first (λ h. h, λ h. h) (tells.means trace is) puts
        (judged_further formulas trace (now.position + 1) (here_at count) (here_at (count + 1)) NothingElse
        (WithClaim formulas trace (now.position + 1) (here_at (count + 1)) NothingElse (here_at count) holds)
        between.asked between.broken (below_next count) (λ at claim. tt)
        (λ at rule is_rule early any claims. ⊎_elim
        (λ below. inl below)
        (λ same. let said : Sat trace now.position no_values (formula_for plan) = claims.1 same in
        let rule_is : formula_for plan ≡ rule = same_Some (formula_for plan) rule (sym of_rule
        ∙ (ap (λ (a : RuleAt). slice_get formulas a.rule) same ∙ is_rule)) in
        inr (subst (λ (a : RuleAt). Sat trace a.position no_values rule) same (subst (Sat trace now.position no_values) rule_is said)))
        (below_or_it count at early))
        (begins trace is judged))

-- ---- the first that is broken at the end

-- where these of what was asked are still to be looked at
abbrev pub FindsFirst : (asked : List OpenRule) (broken : Option RuleAt) → (left : List OpenRule) → Option RuleAt → Type 0
FindsFirst asked broken left first = (policy : List Formula) (trace : List Step) (end : RuleAt)
    → IsJudged policy trace (length trace) end NothingElse asked broken
    → IsJudged policy trace (length trace) end (RulesAreMet trace (length trace) left) [] first

module _ (asked : List OpenRule) (broken : Option RuleAt) where
  pub finds_begin : FindsFirst asked broken asked broken
  finds_begin = λ policy trace end judged. record {
    items = tt;
    failed = judged.failed;
    others = λ at rule of_rule before any met rest. judged.others at rule of_rule before any rest tt;
  }

  pub finds_it : (item : OpenRule) (left : List OpenRule) (first : Option RuleAt) → Contains asked item
      → FindsFirst asked broken (item ∷ left) first → IsRuleBeforeAny item.at first
      → ((trace : List Step) → Means trace (length trace) item.rest → ⊥)
      → FindsFirst asked broken left (Some item.at)
  finds_it item left first there finds before fails = λ policy trace end judged.
      let of = AllByRecursion-contains (IsAskedFor policy trace (length trace) end) asked item judged.items there in
      claim_failed policy trace (length trace) end (RulesAreMet trace (length trace) left) item.at (Means trace (length trace) item.rest)
      [] first of.before before (of.rule, of.of_rule, λ holds. fails trace (of.means.1 holds))
      (with_first policy trace (length trace) (length trace) end item left [] first (finds policy trace end judged))

  pub finds_met : (item : OpenRule) (left : List OpenRule) (first : Option RuleAt) → FindsFirst asked broken (item ∷ left) first
      → ((trace : List Step) → Means trace (length trace) item.rest) → FindsFirst asked broken left first
  finds_met item left first finds met = λ policy trace end judged.
      claim_met policy trace (length trace) end (RulesAreMet trace (length trace) left) item.at (Means trace (length trace) item.rest)
      [] first (met trace) (with_first policy trace (length trace) (length trace) end item left [] first (finds policy trace end judged))

  pub finds_behind : (item : OpenRule) (left : List OpenRule) (first : Option RuleAt) → FindsFirst asked broken (item ∷ left) first
      → (IsRuleBeforeAny item.at first → ⊥) → FindsFirst asked broken left first
  finds_behind item left first finds behind = λ policy trace end judged.
      claim_behind policy trace (length trace) end (RulesAreMet trace (length trace) left) item.at (Means trace (length trace) item.rest)
      [] first behind (with_first policy trace (length trace) (length trace) end item left [] first (finds policy trace end judged))

  -- what stands in a slot is looked at
  pub finds_slot : (slot : Option OpenRule) (left : List OpenRule) (first after : Option RuleAt)
      → ((item : OpenRule) → slot ≡ Some item → Contains asked item) → FindsFirst asked broken (option_to_list slot ++ left) first
      → IsFirstWith slot first after → FindsFirst asked broken left after
  finds_slot None left first after there finds same = subst (FindsFirst asked broken left) (sym same) finds
  finds_slot (Some item) left first after there finds (inl it) =
      subst (FindsFirst asked broken left) (sym it.0) (finds_it item left first (there item refl) finds it.1 it.2)
  finds_slot (Some item) left first after there finds (inr (same, inl behind)) =
      subst (FindsFirst asked broken left) (sym same) (finds_behind item left first finds behind)
  finds_slot (Some item) left first after there finds (inr (same, inr met)) =
      subst (FindsFirst asked broken left) (sym same) (finds_met item left first finds met)

  pub finds_all : (first : Option RuleAt) → FindsFirst asked broken [] first → (policy : List Formula) (trace : List Step) (end : RuleAt)
      → IsJudged policy trace (length trace) end NothingElse asked broken
      → IsJudged policy trace (length trace) end NothingElse [] first
  finds_all first finds = λ policy trace end judged.
      judged_weaker policy trace (length trace) end (RulesAreMet trace (length trace) []) NothingElse
      (λ at anything item there same. absurd (none_in_nil item there)) [] first (finds policy trace end judged)

-- where nothing stands in the slot
pub none_first : (slot : Option OpenRule) (broken : Option RuleAt) → ((item : OpenRule) → slot ≡ Some item → ⊥)
    → IsFirstWith slot broken broken
none_first None broken never = refl
none_first (Some item) broken never = absurd (never item refl)

-- ---- a whole step

pub takes_step : (now : AuditMoment) (plans : List Plan) (before between after : Followed) → FollowsAsked now before between
    → BeginsRules now plans (length plans) between after → JudgesStep now plans before after
takes_step now plans before between after follows begins = λ trace is judged.
    judged_further (formulas_for plans) trace (now.position + 1) (rule_at (length plans) now.position) (rule_at 0 (now.position + 1)) NothingElse NothingElse
    after.asked after.broken more (λ at any. tt) (λ at rule of early any others. inl (up_to at rule of early))
    (begins trace is (follows (formulas_for plans) trace (rule_at 0 now.position) is judged))
  where
    more : (at : RuleAt) → IsRuleBefore at (rule_at (length plans) now.position) → IsRuleBefore at (rule_at 0 (now.position + 1))
    more at (inl p) = inl (omega (arith, p))
    more at (inr p) = let same = p.0 in inl (omega (arith, same))

    up_to : (at : RuleAt) (rule : Formula) → slice_get (formulas_for plans) at.rule ≡ Some rule → IsRuleBefore at (rule_at 0 (now.position + 1))
        → IsRuleBefore at (rule_at (length plans) now.position)
    up_to at rule of (inr p) = let none = p.1 in absurd (omega (arith, none))
    up_to at rule of (inl p) = ⊎_elim
        (λ less. inl less)
        (λ most. inr (omega (arith, p, most), omega (arith, slice_get_within (formulas_for plans) at.rule rule of, length-map plans formula_for)))
        (cases_lt at.position now.position)

-- ---- lists

pub none_left : {X : Type 0} (xs : List X) → length xs ≡ 0 → xs ≡ []
none_left [] none = refl
none_left (x ∷ xs) none = absurd (omega (arith, none))

can_more : (guards : List (Formula × List VarId)) (at : RuleAt) (rest : Residual) (before after : Followed) → ResidualCanGoOn guards rest
    → HasOneMoreRule (asked_at at rest) before.asked after.asked → RulesCanGoOn guards before.asked
    → RulesCanGoOn guards after.asked
can_more guards at rest before after can one all =
    AllByRecursion-from_contains (λ (o : OpenRule). ResidualCanGoOn guards o.rest) after.asked (λ item there. ⊎_elim
    (λ same. subst (λ (o : OpenRule). ResidualCanGoOn guards o.rest) (sym same) can)
    (λ old. AllByRecursion-contains (λ (o : OpenRule). ResidualCanGoOn guards o.rest) before.asked item all old)
    (one.only item there))

-- what is among what can be followed can be
pub can_among : (guards : List (Formula × List VarId)) (all some : List OpenRule) → AreAmongRules all some → RulesCanGoOn guards all
    → RulesCanGoOn guards some
can_among guards all some among can =
    AllByRecursion-from_contains (λ (item : OpenRule). ResidualCanGoOn guards item.rest) some
    (λ item there. AllByRecursion-contains (λ (o : OpenRule). ResidualCanGoOn guards o.rest) all item can (among item there))

-- what was put in can be followed
pub can_put : (guards : List (Formula × List VarId)) (at : RuleAt) (rest : Residual) (before after : Followed) → ResidualCanGoOn guards rest
    → PutsIn at rest before after → RulesCanGoOn guards before.asked → RulesCanGoOn guards after.asked
can_put guards at stored.Met before after can puts all = subst (λ (a : Followed). RulesCanGoOn guards a.asked) (sym puts) all
can_put guards at stored.Failed before after can puts all = subst (λ (a : Followed). RulesCanGoOn guards a.asked) (sym puts) all
can_put guards at (stored.Waits w) before after can puts all = can_more guards at (stored.Waits w) before after can puts.0 all
can_put guards at (stored.Chain' shape links) before after can puts all =
    can_more guards at (stored.Chain' shape links) before after can puts.0 all

-- and what is open after a call that may fail
pub can_after : {T E : Type 0} (guards : List (Formula × List VarId)) (at : RuleAt) (rest : Residual) (before after : Followed) (r : Result T E)
    → OnOk r (PutsIn at rest before after) → OnErr r (after.asked ≡ before.asked) → ResidualCanGoOn guards rest
    → RulesCanGoOn guards before.asked → RulesCanGoOn guards after.asked
can_after guards at rest before after (Ok x) puts same can all = can_put guards at rest before after can puts all
can_after guards at rest before after (Err e) puts same can all = subst (RulesCanGoOn guards) (sym same) all
