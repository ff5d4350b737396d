-- The free variables of a guard that are not in scope are just its own.
use Rattle.plan_terms.proofs.Vocabulary.{◌≡◌, List, ◌++◌, Contains, ⊎_elim, Contains-append, variable_cmp, variable_cmp_total, VarId, Formula, IsFree, new_apart, AreNewVariables, AreOpen, FreeWithin}
use Rattle.plan_terms.proofs.Vocabulary.{ColumnsAreVariables, rising_behind, same_rising}

own : (test : Formula) (scope xs columns : List VarId) → AreNewVariables scope xs → FreeWithin test (Contains (scope ++ xs))
    → ((x : VarId) → Contains xs x → IsFree x test) → AreOpen test scope columns → columns ≡ xs
own test scope xs columns new within tells are =
    same_rising variable_cmp_total columns xs are.rising (rising_behind variable_cmp scope xs new)
    (λ x there. let free = (are.exact x).0 there in
    ⊎_elim (λ before. absurd (free.1 before)) (λ own. own) (Contains-append scope xs x (within x free.0)))
    (λ x there. (are.exact x).1 (tells x there, λ before. new_apart scope xs new x there before))

pub own_columns : ColumnsAreVariables
own_columns node guard xs test body scope columns scoped safe are =
    own test scope xs columns scoped.0 scoped.1 safe.1 are
