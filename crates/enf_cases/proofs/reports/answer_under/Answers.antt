-- The plans of an accepted policy are scoped.
use Rattle.std.proofs.Common.{List, [], map, sym, subst}
use Rattle.std.specs.List.{AllByRecursion}
use Rattle.enf_data.proofs.Lists.{AllByRecursion-weaker}
use Rattle.plan_terms.specs.machine.StoredPlans.{plan_of}
use Rattle.plan_terms.specs.machine.WellFormed.{IsScopedPlan, IsWellFormed}
use Rattle.plan_terms.specs.declared.plans.Plan.{Plan as StoredPlan}
use Rattle.enf_cases.proofs.reports.answer_under.Goals as goal

pub read_action-requires-clause-plans : goal.read_action-requires-clause-plans
read_action-requires-clause-plans c =
    subst (λ (plans : List StoredPlan). AllByRecursion (λ plan. IsScopedPlan plan []) (map plan_of plans)) (sym c.plans.ensures.plans)
    (AllByRecursion-weaker (IsWellFormed _) (λ plan. IsScopedPlan plan []) _ (λ plan is. is.scoped) c.plans.ensures.formed.each)
