use Rattle.rank_check.proofs.Vocabulary.{rules, ◌≡◌, ℕ, ◌+◌, ◌*◌, ◌≤◌, max, List, [], ◌∷◌, ◌++◌, arith, map, take, ap, subst, sym, ◌∙◌, AllByRecursion, flat_map, common_steps, take_all, mul-le}
use Rattle.rank_check.proofs.Vocabulary.{AllByRecursion-weaker, EndsInTime, IsSmallPlan, nodes, window_end, Plan, CausePlan, SuppressPlan, Both, Either, TestOr, Guarded, EventuallyPlan, AlwaysPlan}
use Rattle.rank_check.proofs.Vocabulary.{UntilPlan, NextPlan, plan_of, class_in, greatest, plan_size}
use Rattle.plan_terms.specs.declared.plans.Plan.{Plan as Stored}
use Rattle.rank_check.proofs.SurveyLemmas.{item_push, measure-le, of_item, over, over-le, over_push}
use Rattle.rank_check.proofs.horizon.horizon.Goals as goal

pub survey_of-found-requires-clause-size : goal.survey_of-found-requires-clause-size
survey_of-found-requires-clause-size c = of_item IsSmallPlan c.args.plans.now c.loop-plan.plan-index c.plan-item.result c.requires.small (omega arith) c.plan-item.is

pub survey_of-found-requires-clause-step : goal.survey_of-found-requires-clause-step
survey_of-found-requires-clause-step c =
    let low : greatest (map plan_size (map plan_of c.args.plans.now)) ≤ 400 = measure-le plan_size 400 (map plan_of c.args.plans.now) c.requires.small in
    omega (arith, low, c.from-2.ensures, c.greatest_size.ensures)

more_over : (f : Plan → ℕ) (xs ys : List Plan) (p : Plan) → ys ≡ xs ++ p ∷ [] → over f (flat_map nodes ys) ≡ max (over f (flat_map nodes xs)) (over f (nodes p))
more_over f xs ys p is = ap (λ l. over f (flat_map nodes l)) is ∙ over_push f xs p

pub loop-plan-preserved : goal.loop-plan-preserved
loop-plan-preserved c =
    let i = c.loop-plan.plan-index in
    let plans = c.args.plans.now in
    let before = map plan_of (take i plans) in
    let after = map plan_of (take (i + 1) plans) in
    let item : Plan = plan_of c.plan-item.result in
    let one : after ≡ before ++ item ∷ [] = item_push plans i c.plan-item.result (omega arith) c.plan-item.is in
    let found = c.survey_of-found.ensures in
    let class = more_over (class_in (c.from.result + 1) (c.from-2.result + 1) c.args.ranks.now) before after item one in
    let end = more_over window_end before after item one in
    let small : plan_size item ≤ 400 = of_item IsSmallPlan plans i c.plan-item.result c.requires.small (omega arith) c.plan-item.is in
    let larger : c.max-class.result ≡ max c.loop-plan.class c.survey_of-found.result.class = first_of (search rules, grind (arith, common_steps)) in
    let later : c.max-end.result ≡ max c.loop-plan.end c.survey_of-found.result.end = first_of (search rules, grind (arith, common_steps)) in
    record {
      class = omega (arith, class, larger, c.loop-plan.invariant.class, found.found.class);
      end = omega (arith, end, later, c.loop-plan.invariant.end, found.found.end);
      low = omega (arith, larger, c.loop-plan.invariant.low, found.class, found.found.size, small);
    }

ends_in_time : (p : Plan) → EndsInTime p → window_end p ≤ 1000000000
ends_in_time (CausePlan node place name terms) ends = omega arith
ends_in_time (SuppressPlan node place name terms) ends = omega arith
ends_in_time (Both node left right) ends = omega arith
ends_in_time (Either node left right) ends = omega arith
ends_in_time (TestOr node guard test body) ends = omega arith
ends_in_time (Guarded node xs guard test body) ends = omega arith
ends_in_time (EventuallyPlan node place low high body) ends = ends.1
ends_in_time (AlwaysPlan node place low high body) ends = omega arith
ends_in_time (UntilPlan node place low high left right) ends = ends.1
ends_in_time (NextPlan node place high body) ends = ends

-- the greatest end of all plans
greatest_end : (plans : List Stored) (k end : ℕ) → take k plans ≡ plans → AllByRecursion EndsInTime (flat_map nodes (map plan_of plans)) → end
    ≡ over window_end (flat_map nodes (map plan_of (take k plans))) → end ≤ 1000000000
greatest_end plans k end all in_time is =
    let ends : over window_end (flat_map nodes (map plan_of plans)) ≤ 1000000000 =
    over-le window_end 1000000000 (flat_map nodes (map plan_of plans)) (AllByRecursion-weaker EndsInTime (λ p. window_end p ≤ 1000000000) (flat_map nodes (map plan_of plans)) ends_in_time in_time) in
    subst (λ (n : ℕ). n ≤ 1000000000) (sym (is ∙ ap (λ (ps : List Stored). over window_end (flat_map nodes (map plan_of ps))) all)) ends

product : (rank plan_size class end : ℕ) → rank ≤ 256 → plan_size ≤ 400 → class ≤ (rank + 1) * (plan_size + 1) + 400 → end ≤ 1000000000 → (class + 1) * end ≤ 103458 * 1000000000
product rank plan_size class end few small low ends =
    let scale : (rank + 1) * (plan_size + 1) ≤ 257 * 401 = mul-le (rank + 1) (plan_size + 1) 257 401 (omega arith) (omega arith) in
    mul-le (class + 1) end 103458 1000000000 (omega (arith, low, scale)) ends

pub overflow_mul-result : goal.overflow_mul-result
overflow_mul-result c =
    let plans = c.args.plans.now in
    let all : take c.loop-plan.plan-index plans ≡ plans = take_all c.loop-plan.plan-index plans (omega arith) in
    let sizes : greatest (map plan_size (map plan_of plans)) ≤ 400 = measure-le plan_size 400 (map plan_of plans) c.requires.small in
    let end : c.loop-plan.end ≤ 1000000000 = greatest_end plans c.loop-plan.plan-index c.loop-plan.end all c.requires.ends c.loop-plan.invariant.end in
    let whole : (c.loop-plan.class + 1) * c.loop-plan.end ≤ 103458 * 1000000000 =
    product c.from.result c.from-2.result c.loop-plan.class c.loop-plan.end (omega (arith, c.from.ensures, c.greatest_rank.ensures, c.requires.ranks))
    (omega (arith, c.from-2.ensures, c.greatest_size.ensures, sizes)) c.loop-plan.invariant.low end in
    omega (arith, whole)

pub returns-clause-bounded : goal.returns-clause-bounded
returns-clause-bounded c =
    let plans = c.args.plans.now in
    let all : take c.loop-plan.plan-index plans ≡ plans = take_all c.loop-plan.plan-index plans (omega arith) in
    let sizes : greatest (map plan_size (map plan_of plans)) ≤ 400 = measure-le plan_size 400 (map plan_of plans) c.requires.small in
    let end : c.loop-plan.end ≤ 1000000000 = greatest_end plans c.loop-plan.plan-index c.loop-plan.end all c.requires.ends c.loop-plan.invariant.end in
    let whole : (c.loop-plan.class + 1) * c.loop-plan.end ≤ 103458 * 1000000000 =
    product c.from.result c.from-2.result c.loop-plan.class c.loop-plan.end (omega (arith, c.from.ensures, c.greatest_rank.ensures, c.requires.ranks))
    (omega (arith, c.from-2.ensures, c.greatest_size.ensures, sizes)) c.loop-plan.invariant.low end in
    omega (arith, whole)
