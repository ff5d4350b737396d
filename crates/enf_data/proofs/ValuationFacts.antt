-- Terms and their values, names, events and steps.
use Rattle.enf_data.proofs.Vocabulary.{◌≡◌, [], ◌∷◌, Contains, refl, List, arith, get_or, drop, map, Some, sym, ap, ◌∙◌, suc, length, subst, IsSome, ◌++◌, same_Some, none-some, Var, Const, VarId}
use Rattle.enf_data.proofs.Vocabulary.{Valuation, value_at, value_of_term, values_of_terms, onto_values, bindings, no_values, variable_cmp, Term, Value, NameId, HasNoRepeats, Event, step_at, Step}
use Rattle.std.specs.List.Sorted.{IsStrictlySortedBy}
use Rattle.std.proofs.Common.{Option, None}
use Rattle.enf_data.proofs.Lists.{later, none_in_nil}
use Rattle.enf_data.proofs.ListFacts.{only_item}
use Rattle.std.specs.FinMap as finite

pub variable_is : (a b : VarId) → Var a ≡ Var b → a ≡ b
variable_is a b e = cc

-- the variable of one term
pub only_variable : (a b : VarId) → Contains (Var a ∷ []) (Var b) → a ≡ b
only_variable a b there = variable_is a b (only_item (Var a) (Var b) there)

pub value_alike : (v w : Valuation) (term : Term) → ((x : VarId) → term ≡ Var x → value_at v x ≡ value_at w x) → value_of_term v term ≡ value_of_term w term
value_alike v w (Var x) agree = agree x refl
value_alike v w (Const value) agree = refl

pub values_alike : (v w : Valuation) (terms : List Term) → ((x : VarId) → Contains terms (Var x) → value_at v x ≡ value_at w x) → values_of_terms v terms ≡ values_of_terms w terms
values_alike v w [] agree = refl
values_alike v w (t ∷ terms) agree = λ i. onto_values (value_alike v w t (λ x is. agree x (0, omega arith, is)) i) (values_alike v w terms (λ x there. agree x (later (Var x) t terms there)) i)

-- the values of terms are a list where each is one of its values
pub listed_values : (v : Valuation) (terms : List Term) (args : List Value) → map Some args ≡ map (value_of_term v) terms → values_of_terms v terms ≡ Some args
listed_values v [] [] same = refl
listed_values v [] (a ∷ args) same = absurd (cc)
listed_values v (t ∷ terms) [] same = absurd (cc)
listed_values v (t ∷ terms) (a ∷ args) same =
    let first : value_of_term v t ≡ Some a = sym (ap (λ l. get_or l 0 (Some a)) same) in
    let rest : values_of_terms v terms ≡ Some args = listed_values v terms args (ap (λ l. drop 1 l) same) in
    λ i. onto_values (first i) (rest i)

pub values_listed : (v : Valuation) (terms : List Term) (args : List Value) → values_of_terms v terms ≡ Some args → map Some args ≡ map (value_of_term v) terms
values_listed v [] args is = ap (map Some) (sym (same_Some [] args is))
values_listed v (t ∷ terms) args is = by (value_of_term v t) (values_of_terms v terms) refl is (λ rest e. values_listed v terms rest e)
  where
    by : (o : Option Value) (r : Option (List Value)) → value_of_term v t ≡ o → onto_values o r ≡ Some args
        → ((rest : List Value) → r ≡ Some rest → map Some rest ≡ map (value_of_term v) terms) → map Some args ≡ value_of_term v t ∷ map (value_of_term v) terms
    by None r at e behind = absurd (none-some args e)
    by (Some a) None at e behind = absurd (none-some args e)
    by (Some a) (Some rest) at e behind =
        let same : a ∷ rest ≡ args = same_Some (a ∷ rest) args e in
        ap (map Some) (sym same) ∙ (λ i. sym at i ∷ behind rest refl i)

pub as_many_values : (v : Valuation) (terms : List Term) (args : List Value) → values_of_terms v terms ≡ Some args
    → length args ≡ length terms
as_many_values v [] args e = ap length (sym (same_Some [] args e))
as_many_values v (t ∷ terms) args e = by (λ rest er. as_many_values v terms rest er) (value_of_term v t) (values_of_terms v terms) refl e
  where
    by : ((rest : List Value) → values_of_terms v terms ≡ Some rest → length rest ≡ length terms)
        → (o : Option Value) (os : Option (List Value)) → values_of_terms v terms ≡ os → onto_values o os ≡ Some args
        → length args ≡ length (t ∷ terms)
    by again None os er is = absurd (none-some args is)
    by again (Some a) None er is = absurd (none-some args is)
    by again (Some a) (Some rest) er is =
        ap length (sym (same_Some (a ∷ rest) args is)) ∙ ap suc (again rest er)

pub some_value : (o : Option Value) (value : Value) → o ≡ Some value → IsSome o
some_value o value e = subst IsSome (sym e) refl

pub nothing_bound : bindings no_values ≡ []
nothing_bound = by (bindings no_values) (finite.len-entries no_values)
  where
    by : (l : List (VarId × Value)) → finite.len no_values ≡ length l → l ≡ []
    by [] e = refl
    by (b ∷ l) e = absurd (omega (arith, sym (finite.len-empty variable_cmp Value) ∙ e))

pub nothing_rises : IsStrictlySortedBy variable_cmp []
unfolding IsStrictlySortedBy
nothing_rises = tt

pub same_name : (m n : NameId) → m.0 ≡ n.0 → m ≡ n
same_name m n e = λ i. record { 0 = e i }

pub one_event : (event : Event) → HasNoRepeats (event ∷ [])
one_event event = (none_in_nil event, tt)

pub step_at_end : (trace : List Step) (step : Step) → step_at (trace ++ step ∷ []) (length trace) ≡ step
step_at_end [] step = refl
step_at_end (s ∷ trace) step = step_at_end trace step
