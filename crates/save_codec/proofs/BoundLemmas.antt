-- Values that are bound to the variables in scope, and the instance that has them.
use Rattle.save_codec.proofs.Vocabulary.{◌≡◌, ◌++◌, ◌∷◌, [], suc, List, Option, Some, None, cond, IsSome, length, map, refl, sym, ap, subst, ◌∙◌, arith, append_assoc, by_order, find, put}
use Rattle.save_codec.proofs.Vocabulary.{IsStrictlySortedBy, is_eq, ordering_reverse, Less, Greater, append-nil, map-append, sorted_head, sorted_tail, Valuation, bindings, no_values, value_at}
use Rattle.save_codec.proofs.Vocabulary.{variable_cmp, variable_cmp_total, VarId, Value, all_at_middle, nothing_bound, Sort, with_value, filled_from_row, with_new, cell_some, filled_outside}
use Rattle.save_codec.proofs.Vocabulary.{filled_unbound, FitsScope, values_in, FitTold}
use Rattle.std.specs.FinMap as finite

abbrev pub Binding : Type 0
Binding = VarId × Value

abbrev keys : List Binding → List VarId
keys values = map (λ binding. binding.0) values

-- the variables that are bound rise, and those that are to be bound rise after them
abbrev IsRising : List Binding → (scope : List VarId) → Type 0
IsRising values scope = IsStrictlySortedBy variable_cmp (keys values ++ scope)

abbrev IsBehind : VarId → List Binding → Type 0
IsBehind x [] = Unit {0}
IsBehind x (binding ∷ values) = (variable_cmp x binding.0 ≡ Greater) × IsBehind x values

behind_from_rising : (values : List Binding) (x : VarId) (xs : List VarId) → IsRising values (x ∷ xs) → IsBehind x values
behind_from_rising [] x xs rise = tt
behind_from_rising (binding ∷ values) x xs rise =
    let less : variable_cmp binding.0 x ≡ Less = all_at_middle (λ y. variable_cmp binding.0 y ≡ Less) (keys values) x xs (sorted_head variable_cmp binding.0 (keys values ++ x ∷ xs) rise) in
    (variable_cmp_total.antisymm x binding.0 ∙ ap ordering_reverse less, behind_from_rising values x xs (sorted_tail variable_cmp binding.0 (keys values ++ x ∷ xs) rise))

put_behind : (x : VarId) (value : Value) (values : List Binding) → IsBehind x values → put variable_cmp x value values ≡ values ++ (x, value) ∷ []
put_behind x value [] behind = refl
put_behind x value (binding ∷ values) behind =
    ap (λ o. by_order o ((x, value) ∷ binding ∷ values) ((binding.0, value) ∷ values) (binding ∷ put variable_cmp x value values)) behind.0
    ∙ ap (λ l. binding ∷ l) (put_behind x value values behind.1)

find_behind : (x : VarId) (values : List Binding) → IsBehind x values → find variable_cmp x values ≡ None
find_behind x [] behind = refl
find_behind x (binding ∷ values) behind =
    ap (λ o. cond (is_eq o) (Some binding.1) (find variable_cmp x values)) behind.0 ∙ find_behind x values behind.1

none_bound : (v : Valuation) (x : VarId) (xs : List VarId) → IsRising (bindings v) (x ∷ xs) → value_at v x ≡ None
none_bound v x xs rise = finite.get-entries v x ∙ find_behind x (bindings v) (behind_from_rising (bindings v) x xs rise)

one_more_bound : (v : Valuation) (x : VarId) (value : Value) (xs : List VarId) → IsRising (bindings v) (x ∷ xs) → bindings (with_value v x value) ≡ bindings v ++ (x, value) ∷ []
one_more_bound v x value xs rise = finite.entries-insert variable_cmp_total v x value ∙ put_behind x value (bindings v) (behind_from_rising (bindings v) x xs rise)

rising_on : (v : Valuation) (x : VarId) (value : Value) (xs : List VarId) → IsRising (bindings v) (x ∷ xs) → IsRising (bindings (with_value v x value)) xs
rising_on v x value xs rise =
    let list : bindings (with_value v x value) ≡ bindings v ++ (x, value) ∷ [] = one_more_bound v x value xs rise in
    let same : keys (bindings (with_value v x value)) ++ xs ≡ keys (bindings v) ++ x ∷ xs =
    ap (λ l. keys l ++ xs) list ∙ ap (λ l. l ++ xs) (map-append (λ (b : Binding). b.0) (bindings v) ((x, value) ∷ [])) ∙ append_assoc (keys (bindings v)) (x ∷ []) xs in
    subst (IsStrictlySortedBy variable_cmp) (sym same) rise

pub nothing_at : (x : VarId) → value_at no_values x ≡ None
nothing_at x = finite.get-entries no_values x ∙ ap (find variable_cmp x) nothing_bound

-- each variable in scope is bound to the value at its place, in order
filled_values : (v : Valuation) (scope : List VarId) (values : List Value) → IsRising (bindings v) scope → length scope ≡ length values
    → map (λ (b : Binding). b.1) (bindings (filled_from_row v scope values)) ≡ map (λ (b : Binding). b.1) (bindings v) ++ values
filled_values v [] [] rise long = sym (append-nil (map (λ (b : Binding). b.1) (bindings v)))
filled_values v [] (value ∷ values) rise long = absurd (omega (arith, long))
filled_values v (x ∷ scope) [] rise long = absurd (omega (arith, long))
filled_values v (x ∷ scope) (value ∷ values) rise long =
    let start : filled_from_row v (x ∷ scope) (value ∷ values) ≡ filled_from_row (with_value v x value) scope values = ap
    (λ (o : Option Value). filled_from_row (with_new o v x value) scope values) (none_bound v x scope rise) in
    ap (λ (w : Valuation). map (λ (b : Binding). b.1) (bindings w)) start
    ∙ filled_values (with_value v x value) scope values (rising_on v x value scope rise) (omega (arith, long))
    ∙ ap (λ (l : List Binding). map (λ (b : Binding). b.1) l ++ values) (one_more_bound v x value scope rise)
    ∙ ap (λ l. l ++ values) (map-append (λ (b : Binding). b.1) (bindings v) ((x, value) ∷ []))
    ∙ append_assoc (map (λ (b : Binding). b.1) (bindings v)) (value ∷ []) values

pub bound_values : (scope : List VarId) (values : List Value) → IsStrictlySortedBy variable_cmp scope → length scope ≡ length values → values_in (filled_from_row no_values scope values) ≡ values
bound_values scope values rise long =
    filled_values no_values scope values (subst (λ (l : List Binding). IsRising l scope) (sym nothing_bound) rise) long
    ∙ ap (λ (l : List Binding). map (λ (b : Binding). b.1) l ++ values) nothing_bound

pub bound_fits : (scope : List VarId) (values : List Value) → length scope ≡ length values → FitsScope scope (filled_from_row no_values scope values)
bound_fits scope values long = record {
  binds = λ x there.
      let some = cell_some scope values x (sym long) there in
      subst IsSome (sym (filled_unbound no_values scope values x (nothing_at x) ∙ some.1)) refl;
  only = λ x absent. filled_outside no_values scope values x absent ∙ nothing_at x;
}

pub fit_long : (P : VarId → Sort → Type 0) (xs : List VarId) (values : List Value) → FitTold P xs values → length xs ≡ length values
fit_long P [] [] fit = refl
fit_long P [] (value ∷ values) fit = absurd fit
fit_long P (x ∷ xs) [] fit = absurd fit
fit_long P (x ∷ xs) (value ∷ values) fit = ap suc (fit_long P xs values fit.1)
