-- The values of terms, one term after another, and cells past the end of a row.
use Rattle.valuations.proofs.Vocabulary.{◌≡◌, ℕ, ◌≤◌, ⊎_elim, List, [], ◌∷◌, ◌++◌, length, drop, min, Option, None, Some, IsSome, Contains, refl, sym, ap, subst, ◌∙◌, arith, cases_lt, false≢true}
use Rattle.valuations.proofs.Vocabulary.{drop_all, same_Some, none-some, Valuation, value_at, value_of_term, values_of_terms, onto_values, Term, Var, Const, VarId, Value, row_cell}

pub values_push : (v : Valuation) (terms : List Term) (t : Term) (values : List Value) (a : Value) → values_of_terms v terms ≡ Some values → value_of_term v t ≡ Some a
    → values_of_terms v (terms ++ t ∷ []) ≡ Some (values ++ a ∷ [])
values_push v [] t values a e f = (λ i. onto_values (f i) (Some [])) ∙ ap (λ l. Some (l ++ a ∷ [])) (same_Some [] values e)
values_push v (first ∷ terms) t values a e f = by (value_of_term v first) (values_of_terms v terms) (values_of_terms v (terms ++ t ∷ [])) e (λ rest is. values_push v terms t rest a is f)
  where
    by : (o : Option Value) (rest more : Option (List Value)) → onto_values o rest ≡ Some values
        → ((behind : List Value) → rest ≡ Some behind → more ≡ Some (behind ++ a ∷ [])) → onto_values o more ≡ Some (values ++ a ∷ [])
    by None rest more is next = absurd (none-some values is)
    by (Some b) None more is next = absurd (none-some values is)
    by (Some b) (Some behind) more is next = ap (onto_values (Some b)) (next behind refl) ∙ ap (λ l. Some (l ++ a ∷ [])) (same_Some (b ∷ behind) values is)

-- a term has a value where its variable has one
pub has_value : (v : Valuation) (terms : List Term) (t : Term) → ((x : VarId) → Contains terms (Var x) → IsSome (value_at v x)) → Contains terms t → value_of_term v t ≡ None → ⊥
has_value v terms (Var x) bound there none = false≢true (subst IsSome none (bound x there))
has_value v terms (Const a) bound there none = none-some a (sym none)

-- where one of two lists is used up, there is no cell
pub cell_end : (columns : List VarId) (row : List Value) (x : VarId) (n : ℕ) → n ≡ min (length columns) (length row) → row_cell (drop n columns) (drop n row) x ≡ None
cell_end columns row x n is = ⊎_elim
    (λ lt. let short : length row ≤ n = omega arith in ap (λ l. row_cell (drop n columns) l x) (drop_all n row short) ∙ no_value (drop n columns))
    (λ le. let short : length columns ≤ n = omega arith in ap (λ l. row_cell l (drop n row) x) (drop_all n columns short))
    (cases_lt (length row) (length columns))
  where
    no_value : (columns : List VarId) → row_cell columns [] x ≡ None
    no_value [] = refl
    no_value (column ∷ columns) = refl
