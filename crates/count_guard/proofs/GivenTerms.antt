-- What stands in the place of a variable, and its value.
use Rattle.count_guard.proofs.Vocabulary.{◌≡◌, ℕ, suc, ◌+◌, ◌≤◌, Bool, true, false, cond, List, [], ◌∷◌, Contains, Option, None, Some, length, map, drop, refl, sym, ap, subst, ◌∙◌, arith, ⊎_elim}
use Rattle.count_guard.proofs.Vocabulary.{AllByRecursion, eq-eqb, ne_eqb, later, none_in_nil, ◌==◌, same_variable, same_or_other, Term, Var, Const, VarId, Value, Valuation, value_at}
use Rattle.count_guard.proofs.Vocabulary.{value_of_term, values_of_terms, onto_values, with_values, value_at-bound, value_at-other, Substitution, with_term, with_terms, term_given, new_variables, IsTermBelow}
use Rattle.count_guard.proofs.Vocabulary.{value_at-with_outside, last_term, first_or_later}
use Rattle.count_guard.proofs.Vocabulary.{cases_lt, drop_all}
use Rattle.std.proofs.Common.{min}
use Rattle.count_guard.proofs.NumberedVariables.{none_new}
use Rattle.std.specs.Option.{unwrap_or}
use Rattle.std.specs.FinMap as finite

pub with_term-same : (y x : VarId) (term : Term) (given : Substitution) → y ≡ x → with_term y term given x ≡ term
with_term-same y x term given same = ap (λ (b : Bool). cond b term (given x)) (eq-eqb x.0 y.0 (ap (λ (z : VarId). z.0) (sym same)))

pub with_term-other : (y x : VarId) (term : Term) (given : Substitution) → (y ≡ x → ⊥) → with_term y term given x ≡ given x
with_term-other y x term given other = ap (λ (b : Bool). cond b term (given x)) (ne_eqb x.0 y.0 (λ e. other (same_variable y x (sym e))))

-- where the terms have the values to which variables are bound, each variable has the value of its term
pub terms_value : (xs : List VarId) (terms : List Term) (values : List Value) (given : Substitution) (v w : Valuation) (x : VarId) → length terms ≡ length xs
    → map (value_of_term v) terms ≡ map Some values → ((Contains xs x → ⊥) → value_of_term v (given x) ≡ value_at w x)
    → value_of_term v (with_terms xs terms given x) ≡ value_at (with_values xs values w) x
terms_value [] terms values given v w x long each rest = rest (none_in_nil x)
terms_value (y ∷ xs) [] values given v w x long each rest = absurd (omega (arith, long))
terms_value (y ∷ xs) (term ∷ terms) [] given v w x long each rest = absurd (cc)
terms_value (y ∷ xs) (term ∷ terms) (value ∷ values) given v w x long each rest =
    let first : value_of_term v term ≡ Some value = cc in
    terms_value xs terms values (with_term y term given) v (finite.insert w y value) x (omega (arith, long)) (ap (λ (l : List (Option Value)). drop 1 l) each) (λ out. ⊎_elim
    (λ same. ap (value_of_term v) (with_term-same y x term given same) ∙ first ∙ sym (value_at-bound w y x value same))
    (λ other. ap (value_of_term v) (with_term-other y x term given other)
    ∙ rest (λ there. ⊎_elim other out (first_or_later x y xs there))
    ∙ sym (value_at-other w y x value other))
    (same_or_other y x))

-- ---- terms with lower numbers

pub below_later : (next later : ℕ) (term : Term) → next ≤ later → IsTermBelow next term → IsTermBelow later term
below_later next later (Var x) le below = omega arith
below_later next later (Const value) le below = tt

pub terms_below : (next : ℕ) (xs : List VarId) (terms : List Term) (given : Substitution) (x : VarId) → length terms ≡ length xs → AllByRecursion (IsTermBelow next) terms
    → ((Contains xs x → ⊥) → IsTermBelow next (given x)) → IsTermBelow next (with_terms xs terms given x)
terms_below next [] terms given x long all rest = rest (none_in_nil x)
terms_below next (y ∷ xs) [] given x long all rest = absurd (omega (arith, long))
terms_below next (y ∷ xs) (term ∷ terms) given x long all rest =
    terms_below next xs terms (with_term y term given) x (omega (arith, long)) all.1 (λ out. ⊎_elim
    (λ same. subst (IsTermBelow next) (sym (with_term-same y x term given same)) all.0)
    (λ other. subst (IsTermBelow next) (sym (with_term-other y x term given other)) (rest (λ there. ⊎_elim other out (first_or_later x y xs there))))
    (same_or_other y x))

pub new_below : (next : ℕ) (xs : List VarId) → AllByRecursion (IsTermBelow (next + length xs)) (map Var (new_variables next xs))
new_below next [] = tt
new_below next (x ∷ xs) =
    let number : suc next + length xs ≡ next + suc (length xs) = omega arith in
    (omega arith, subst (λ n. AllByRecursion (IsTermBelow n) (map Var (new_variables (suc next) xs))) number (new_below (suc next) xs))

pub all_below_later : (next later : ℕ) (terms : List Term) → next ≤ later → AllByRecursion (IsTermBelow next) terms → AllByRecursion (IsTermBelow later) terms
all_below_later next later [] le all = tt
all_below_later next later (term ∷ terms) le all = (below_later next later term le all.0, all_below_later next later terms le all.1)

-- such a term has the value that it had before new variables were bound
pub term_kept : (next : ℕ) (xs : List VarId) (values : List Value) (v : Valuation) (term : Term) → IsTermBelow next term
    → value_of_term (with_values (new_variables next xs) values v) term ≡ value_of_term v term
term_kept next xs values v (Var x) below = value_at-with_outside (new_variables next xs) values v x (none_new x next xs below)
term_kept next xs values v (Const value) below = refl

-- ---- the values of copies of terms

pub term_copied : (given : Substitution) (v w : Valuation) (term : Term) → ((x : VarId) → term ≡ Var x → value_of_term v (given x) ≡ value_at w x)
    → value_of_term v (term_given given term) ≡ value_of_term w term
term_copied given v w (Var x) agree = agree x refl
term_copied given v w (Const value) agree = refl

pub terms_copied : (given : Substitution) (v w : Valuation) (terms : List Term) → ((x : VarId) → Contains terms (Var x) → value_of_term v (given x) ≡ value_at w x)
    → values_of_terms v (map (term_given given) terms) ≡ values_of_terms w terms
terms_copied given v w [] agree = refl
terms_copied given v w (term ∷ terms) agree =
    let first = term_copied given v w term (λ x is. agree x (0, omega arith, is)) in
    let rest = terms_copied given v w terms (λ x there. agree x (later (Var x) term terms there)) in
    λ i. onto_values (first i) (rest i)

-- ---- the last of the terms

pub last_given : (xs : List VarId) (terms : List Term) (x : VarId) (found : Option Term) (given : Substitution) (own : Term) → given x ≡ unwrap_or found own
    → with_terms xs terms given x ≡ unwrap_or (last_term xs terms x found) own
last_given [] terms x found given own is = is
last_given (y ∷ xs) [] x found given own is = is
last_given (y ∷ xs) (term ∷ terms) x found given own is =
    last_given xs terms x (cond (x.0 == y.0) (Some term) found) (with_term y term given) own (by (x.0 == y.0))
  where
    by : (b : Bool) → cond b term (given x) ≡ unwrap_or (cond b (Some term) found) own
    by true = refl
    by false = is

-- where one of the lists is used up, it is the one before them
pub last_end : (xs : List VarId) (terms : List Term) (x : VarId) (found : Option Term) (n : ℕ) → n ≡ min (length xs) (length terms)
    → last_term (drop n xs) (drop n terms) x found ≡ found
last_end xs terms x found n is = ⊎_elim
    (λ lt. let short : length terms ≤ n = omega arith in ap (λ (l : List Term). last_term (drop n xs) l x found) (drop_all n terms short) ∙ no_term (drop n xs))
    (λ le. let short : length xs ≤ n = omega arith in ap (λ (l : List VarId). last_term l (drop n terms) x found) (drop_all n xs short))
    (cases_lt (length terms) (length xs))
  where
    no_term : (ys : List VarId) → last_term ys [] x found ≡ found
    no_term [] = refl
    no_term (y ∷ ys) = refl

pub found_last : (xs : List VarId) (terms : List Term) (x : VarId) (given : Substitution) (term : Term) → last_term xs terms x None ≡ Some term → with_terms xs terms given x ≡ term
found_last xs terms x given term is = last_given xs terms x None given (given x) refl ∙ ap (λ o. unwrap_or o (given x)) is

pub not_found : (xs : List VarId) (terms : List Term) (x : VarId) (given : Substitution) → last_term xs terms x None ≡ None → with_terms xs terms given x ≡ given x
not_found xs terms x given is = last_given xs terms x None given (given x) refl ∙ ap (λ o. unwrap_or o (given x)) is
