use Rattle.rank_check.proofs.Vocabulary.{◌≡◌, ◌∙◌, ◌<◌, [], List, ℕ, length, get_or, map, true, sym, subst, arith, length-map, take_all, get_or_from_slice_get, NameId, Plan, plan_of, plan_at}
use Rattle.rank_check.proofs.Vocabulary.{AddsEdges, Causes, none_in_nil}
use Rattle.rank_check.proofs.CauseLemmas.{CausedIn, one_more_plan, just_edges}
use Rattle.rank_check.proofs.MatrixLemmas.{nothing}
use Rattle.rank_check.proofs.causes.edges_of.Goals as goal

pub loop-plan-init : goal.loop-plan-init
loop-plan-init c = record {
  nothing_met = c.new-met.ensures.items;
  caused = nothing (CausedIn []) c.in_ok-edges.edges (λ a b below also caused. none_in_nil caused.0 caused.1);
}

pub loop-plan-preserved : goal.loop-plan-preserved
loop-plan-preserved c =
    let trees : List Plan = map plan_of c.args.plans.now in
    let at : ℕ = c.loop-plan.plan-index in
    let item : Plan = plan_of c.plan-item.result in
    let inside : at < length trees = omega (arith, length-map c.args.plans.now plan_of, c.loop-plan-test.true) in
    let is : get_or trees at item ≡ item = get_or_from_slice_get trees at item item (plan_at c.args.plans.now at c.plan-item.result c.loop-plan-test.true c.plan-item.is) in
    let bare : AddsEdges (Causes true [] item) c.loop-plan.edges c.add_causes.new.edges =
    subst (λ (met : List NameId). AddsEdges (Causes true met item) c.loop-plan.edges c.add_causes.new.edges) c.loop-plan.invariant.nothing_met c.in_ok-add_causes.ensures.edges in
    record {
      nothing_met = c.in_ok-add_causes.ensures.met ∙ c.loop-plan.invariant.nothing_met;
      caused = one_more_plan trees at item c.in_ok-edges.edges c.loop-plan.edges c.add_causes.new.edges inside c.loop-plan.invariant.caused
          (subst (λ (p : Plan). AddsEdges (Causes true [] p) c.loop-plan.edges c.add_causes.new.edges) (sym is) bare);
    }

pub returns-clause-width : goal.returns-clause-width
returns-clause-width c = c.loop-plan.invariant.caused.width ∙ c.in_ok-edges.ensures.width

pub returns-clause-edges : goal.returns-clause-edges
returns-clause-edges c =
    let trees : List Plan = map plan_of c.args.plans.now in
    just_edges c.args.names trees c.in_ok-edges.edges c.loop-plan.edges c.requires c.in_ok-edges.ensures.width c.in_ok-edges.ensures.none
    (subst (λ (plans : List Plan). AddsEdges (CausedIn plans) c.in_ok-edges.edges c.loop-plan.edges)
    (take_all c.loop-plan.plan-index trees (omega (arith, length-map c.args.plans.now plan_of, c.loop-plan-test.false))) c.loop-plan.invariant.caused)
