use Rattle.rank_check.proofs.Vocabulary.{rules, ◌≡◌, Bool, List, [], ◌∷◌, ◌&&◌, map, refl, ap, ◌∙◌, list_all, YieldsList-from_slice, all_from_yields_List, nodes, Plan, plan_of, is_transparent_at}
use Rattle.plan_terms.specs.declared.plans.Plan.{Plan as Stored}
use Rattle.rank_check.proofs.transparent.is_transparent.Goals as goal

of_trees : (test : Plan → Bool) (plans : List Stored) → list_all (λ p. test (plan_of p)) plans ≡ list_all test (map plan_of plans)
of_trees test [] = refl
of_trees test (p ∷ plans) = ap (λ b. test (plan_of p) && b) (of_trees test plans)

pub returns : goal.returns
returns c =
    let test : Plan → Bool = λ plan. list_all is_transparent_at (nodes plan) in
    all_from_yields_List (λ (p : Stored). test (plan_of p)) _ _ _ c.all.ensures.ran (YieldsList-from_slice c.args.plans.now cc) (λ x b q k. search rules)
    ∙ of_trees test c.args.plans.now
