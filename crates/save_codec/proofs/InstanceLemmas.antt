-- Instances, by what is known of rules.
use Rattle.save_codec.proofs.Vocabulary.{◌≡◌, ◌↔◌, ◌+◌, ◌<◌, ◌≤◌, ◌^◌, [], ℕ, List, Option, Some, None, Bool, true, false, cond, slice_get, refl, sym, ap, subst, ◌∙◌, arith, AllByRecursion}
use Rattle.save_codec.proofs.Vocabulary.{IsStrictlySortedBy, option_map, none-some, same_Some, AllByRecursion-contains, there_from_get, no_values, variable_cmp, VarId, Value, nothing_rises, Sort}
use Rattle.save_codec.proofs.Vocabulary.{filled_from_row, is_future, Plan, plan_of, FoundHasRisingScope, IsScopedPlan, scoped_at, FitsScope, only_future, future_in, scoped_in_plan, CanWait, first_end}
use Rattle.save_codec.proofs.Vocabulary.{node_with_scope, Instance, FutureNode, DueFits, RuleTells, SaveSetting, IsInstanceOf, IsJudge, KnowsJust, Knows, values_in, FitTold, PlanTells, Judge}
use Rattle.save_codec.proofs.Vocabulary.{MOST_STATE_TIME, Due, DueLine, Known}
use Rattle.save_codec.proofs.BoundLemmas.{bound_fits, bound_values, fit_long}
use Rattle.save_codec.proofs.JudgeLemmas.{fit_as}
use Rattle.save_codec.proofs.KnowLemmas.{rule_known}

-- ---- a node by its numbers

chosen : (b : Bool) (n x : Plan × List VarId) → cond b (Some n) None ≡ Some x → Some n ≡ Some x
chosen true n x e = e
chosen false n x e = absurd (none-some x e)

ahead_there : (o : Option (Plan × List VarId)) (x : Plan × List VarId) → only_future o ≡ Some x → o ≡ Some x
ahead_there None x e = absurd (none-some x e)
ahead_there (Some n) x e = chosen (is_future n.0) n x e

plan_there : (plans : List Plan) (rule number : ℕ) (x : Plan × List VarId) → future_in plans rule number ≡ Some x
    → (plan : Plan) × (slice_get plans rule ≡ Some plan) × (scoped_at number plan [] ≡ Some x)
plan_there plans rule number x found = by (slice_get plans rule) refl found
  where
    by : (o : Option Plan) → slice_get plans rule ≡ o → only_future (scoped_in_plan number o) ≡ Some x
        → (plan : Plan) × (slice_get plans rule ≡ Some plan) × (scoped_at number plan [] ≡ Some x)
    by None is e = absurd (none-some x e)
    by (Some plan) is e = (plan, is, ahead_there (scoped_at number plan []) x e)

-- what is found has the node and the variables that its numbers name
pub named_there : (s : SaveSetting) (plans : List Plan) (d : DueLine) (rule node : ℕ) (found : Option FutureNode) (f : FutureNode) → s.plans ≡ plans → rule ≡ d.rule → node ≡ d.node
    → option_map node_with_scope found ≡ future_in plans rule node → found ≡ Some f → future_in s.plans d.rule d.node ≡ Some (node_with_scope f)
named_there s plans d rule node found f plans_are r n is some =
    let place : future_in s.plans d.rule d.node ≡ future_in plans rule node = λ i. future_in (plans_are i) (sym r i) (sym n i) in
    place ∙ sym is ∙ ap (option_map node_with_scope) some

-- the plan of its rule is there
pub rule_there : (s : SaveSetting) (d : DueLine) (f : FutureNode) → future_in s.plans d.rule d.node ≡ Some (node_with_scope f) → (plan : Plan) × (slice_get s.plans d.rule ≡ Some plan)
rule_there s d f named = let there = plan_there s.plans d.rule d.node (node_with_scope f) named in (there.0, there.1)

-- ---- the sorts of its values

pub rule_fits : (s : SaveSetting) (judge : Judge) (rule : ℕ) (plan : Plan) (known : Known) (xs : List VarId) (values : List Value) → IsJudge s judge → slice_get s.plans rule
    ≡ Some plan → slice_get judge.rules.items rule ≡ Some known
    → FitTold (Knows known) xs values ↔ FitTold (RuleTells s.entries s.plans rule) xs values
rule_fits s judge rule plan known xs values is there knows =
    let k = rule_known s.entries s.plans judge.rules.items rule plan is.rules there in
    let both : Some k.0 ≡ Some known = sym k.1 ∙ knows in
    let just : KnowsJust (PlanTells s.entries plan) known = subst (λ (q : Known). KnowsJust (PlanTells s.entries plan) q) (same_Some k.0 known both) k.2 in (
      fit_as (Knows known) (RuleTells s.entries s.plans rule) (λ x sort told. (just x sort).1 (tells x sort told)) xs values,
      fit_as (RuleTells s.entries s.plans rule) (Knows known) (λ x sort told. (plan, there, (just x sort).0 told)) xs values,
    )
  where
    tells : (x : VarId) (sort : Sort) → RuleTells s.entries s.plans rule x sort → PlanTells s.entries plan x sort
    tells x sort (other, found, told) = subst (λ (q : Plan). PlanTells s.entries q x sort) (same_Some other plan (sym found ∙ there)) told

pub no_rule : (s : SaveSetting) (judge : Judge) (rule : ℕ) (plan : Plan) → IsJudge s judge → slice_get s.plans rule ≡ Some plan → slice_get judge.rules.items rule ≡ None → ⊥
no_rule s judge rule plan is there none =
    let k = rule_known s.entries s.plans judge.rules.items rule plan is.rules there in none-some k.0 (sym none ∙ k.1)

-- ---- whether it can wait

pub wait_same : (node : Plan) (clock position : ℕ) (i j : Instance) → j.origin ≡ i.origin → j.low ≡ i.low → j.high ≡ i.high → CanWait node clock position i → CanWait node clock position j
wait_same node clock position i j origin low high w = record {
  begun = subst (λ n. n < position) (sym origin) w.begun;
  from = subst (λ n. first_end node ≤ n) (sym low) w.from;
  ordered = omega (arith, w.ordered, low, high);
  wide = omega (arith, w.wide, low, high);
  in_time = ((λ has. subst (λ n. clock ≤ n) (sym high) (w.in_time.0 has)), (λ next. ap (λ n. n + 1) origin ∙ w.in_time.1 next));
}

same_node : (s : SaveSetting) (clock position : ℕ) (d : DueLine) (f : FutureNode) (fits : DueFits s clock position d) → future_in s.plans d.rule d.node ≡ Some (node_with_scope f)
    → (fits.node, fits.scope) ≡ node_with_scope f
same_node s clock position d f fits named = same_Some (fits.node, fits.scope) (node_with_scope f) (sym fits.named ∙ named)

-- one that fits can wait, and its values are of the known sorts
pub fits_waits : (s : SaveSetting) (clock position : ℕ) (d : DueLine) (f : FutureNode) (i : Instance) → future_in s.plans d.rule d.node ≡ Some (node_with_scope f) → i.origin
    ≡ d.origin → i.low ≡ d.low → i.high ≡ d.high
    → DueFits s clock position d → CanWait (plan_of f.node.now) clock position i
fits_waits s clock position d f i named origin low high fits =
    subst (λ (n : Plan × List VarId). CanWait n.0 clock position i) (same_node s clock position d f fits named) (fits.waits i origin low high)

pub scope_rises : FoundHasRisingScope → (plans : List Plan) (rule number : ℕ) (node : Plan) (scope : List VarId) → AllByRecursion (λ plan. IsScopedPlan plan []) plans
    → future_in plans rule number ≡ Some (node, scope) → IsStrictlySortedBy variable_cmp scope
scope_rises rises plans rule number node scope each named =
    let there = plan_there plans rule number (node, scope) named in
    rises there.0 node [] scope number there.2 (AllByRecursion-contains (λ plan. IsScopedPlan plan []) plans there.0 each (there_from_get plans rule there.0 there.1)) nothing_rises

-- what it has of its line
pub record IsMadeOf (d : DueLine) (scope : List VarId) (i : Instance) : Type 0 where
  pub rule : i.rule ≡ d.rule
  pub node : i.node ≡ d.node
  pub rule_bits : d.rule < 2 ^ 32
  pub node_bits : d.node < 2 ^ 32
  pub values : i.valuation ≡ filled_from_row no_values scope d.values
  pub origin : i.origin ≡ d.origin
  pub low : i.low ≡ d.low
  pub high : i.high ≡ d.high
  pub early : (d.low ≤ MOST_STATE_TIME) × (d.high ≤ MOST_STATE_TIME)

pub is_instance : FoundHasRisingScope → (s : SaveSetting) (judge : Judge) (clock position : ℕ) (d : DueLine) (f : FutureNode) (i : Instance) → IsJudge s judge
    → future_in s.plans d.rule d.node ≡ Some (node_with_scope f)
    → IsMadeOf d f.scope.items i → FitTold (RuleTells s.entries s.plans d.rule) f.scope.items d.values → CanWait (plan_of f.node.now) clock position i → IsInstanceOf s clock position d i
is_instance rises s judge clock position d f i is named m sorts waits =
    let rise = scope_rises rises s.plans d.rule d.node (plan_of f.node.now) f.scope.items is.scoped named in
    let long = fit_long (RuleTells s.entries s.plans d.rule) f.scope.items d.values sorts in
    let values : values_in i.valuation ≡ d.values = ap values_in m.values ∙ bound_values f.scope.items d.values rise long in
    let place : future_in s.plans i.rule i.node ≡ future_in s.plans d.rule d.node = λ k. future_in s.plans (m.rule k) (m.node k) in
    record {
      told = λ k. Due (m.rule k) (m.node k) (m.origin k) (m.low k) (m.high k) (values k);
      fits = record {
        rule_bits = m.rule_bits;
        node_bits = m.node_bits;
        node = plan_of f.node.now;
        scope = f.scope.items;
        named = named;
        sorts = sorts;
        low = m.early.0;
        high = m.early.1;
        waits = λ j origin low high. wait_same (plan_of f.node.now) clock position i j (origin ∙ sym m.origin) (low ∙ sym m.low) (high ∙ sym m.high) waits;
      };
      can = record {
        node = plan_of f.node.now;
        scope = f.scope.items;
        named = place ∙ named;
        binds = subst (FitsScope f.scope.items) (sym m.values) (bound_fits f.scope.items d.values long);
        waits = waits;
      };
    }
