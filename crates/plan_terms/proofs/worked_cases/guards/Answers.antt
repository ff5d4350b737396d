use Rattle.plan_terms.proofs.Vocabulary.{◌≡◌, List, [], ◌∷◌, inl, inr, ⊎_elim, refl, sym, ap, ◌∙◌, same_Some, variable_x, formula_p, formula_p_x, Formula, here, none_in_nil, Term, Var, VarId}
use Rattle.plan_terms.proofs.Vocabulary.{plan_terms_y}
use Rattle.plan_terms.proofs.CaseLemmas.{apart, only, told}
use Rattle.plan_terms.proofs.worked_cases.guards.Goals as goal

pub returns-clause-listed : goal.returns-clause-listed
returns-clause-listed c = (refl, (tt, tt))

pub returns-clause-second : goal.returns-clause-second
returns-clause-second c = (refl, (refl, tt))

pub returns-clause-not_listed : goal.returns-clause-not_listed
returns-clause-not_listed c = λ listed. let is = listed.0 in cc

pub returns-clause-another_test : goal.returns-clause-another_test
returns-clause-another_test c = λ listed.
    let same : formula_p ≡ formula_p_x = ap (λ (guard : Formula × List VarId). guard.0) (same_Some (formula_p, []) (formula_p_x, []) listed.0) in
    cc

pub returns-clause-more_in_scope : goal.returns-clause-more_in_scope
returns-clause-more_in_scope c = λ listed.
    let same : variable_x ∷ [] ≡ [] = ap (λ (guard : Formula × List VarId). guard.1) (same_Some (formula_p_x, variable_x ∷ []) (formula_p_x, []) listed.0) in
    cc

pub returns-clause-another_number : goal.returns-clause-another_number
returns-clause-another_number c = λ listed. let is = listed.0 in cc

pub returns-clause-safe : goal.returns-clause-safe
returns-clause-safe c = ((tt, told, refl), (tt, tt))

pub returns-clause-tells_nothing : goal.returns-clause-tells_nothing
returns-clause-tells_nothing c = λ safe. none_in_nil {X = Term} (Var variable_x) (safe.0.1 variable_x (here variable_x []))

pub returns-clause-no_test : goal.returns-clause-no_test
returns-clause-no_test c = λ safe. none_in_nil variable_x (safe.0.0.1 variable_x (here (Var variable_x) []))

pub returns-clause-looks_ahead : goal.returns-clause-looks_ahead
returns-clause-looks_ahead c = λ safe. let is = safe.0.1 in cc

pub returns-clause-fresh : goal.returns-clause-fresh
returns-clause-fresh c = (λ z own e. ⊎_elim (λ first. apart (only variable_x z first ∙ sym (only plan_terms_y z own))) (λ free. free.1 own) e, tt)

pub returns-clause-bound_in_scope : goal.returns-clause-bound_in_scope
returns-clause-bound_in_scope c = λ fresh. fresh.0 variable_x (here variable_x []) (inl (here variable_x []))

pub returns-clause-bound_and_free : goal.returns-clause-bound_and_free
returns-clause-bound_and_free c = λ fresh. fresh.1.0 variable_x (here variable_x []) (inr (inl (here (Var variable_x) [])))
