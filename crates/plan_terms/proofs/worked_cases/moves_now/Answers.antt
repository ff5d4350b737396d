use Rattle.plan_terms.proofs.Vocabulary.{◌≡◌, pos, List, [], ◌∷◌, Option, refl, ap, subst, step_at, has_event-Decides, Valuation, no_values, with_values, Value, Num, not_from_Decides, event_p_of}
use Rattle.plan_terms.proofs.Vocabulary.{formula_p_x, name_p, p_1_q_1, variable_x, IsEventAmong, Sat, x_is, Obligation}
use Rattle.plan_terms.proofs.OwedCases.{bound_is, for_1}
use Rattle.plan_terms.proofs.worked_cases.moves_now.Goals as goal

pub returns-clause-guard_holds : goal.returns-clause-guard_holds
returns-clause-guard_holds c = for_1

pub returns-clause-guard_fails : goal.returns-clause-guard_fails
returns-clause-guard_fails c moves =
    let same : with_values (variable_x ∷ []) moves.0 no_values ≡ x_is (Num (pos 2)) = ap (λ (o : Obligation). o.valuation) moves.3 in
    let holds : Sat p_1_q_1 0 (x_is (Num (pos 2))) formula_p_x = subst (λ (v : Valuation). Sat p_1_q_1 0 v formula_p_x) same moves.2 in
    not_from_Decides _ (has_event-Decides (step_at p_1_q_1 0).events (event_p_of (Num (pos 2)))) refl
    (subst (λ (args : Option (List Value)). IsEventAmong (step_at p_1_q_1 0).events name_p args) (bound_is (Num (pos 2))) holds)
