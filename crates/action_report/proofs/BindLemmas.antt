-- Bindings, as they stand in a line and in a valuation.
use Rattle.action_report.proofs.Vocabulary.{◌≡◌, ℕ, Bool, true, false, cond, Result, Ok, Err, IfOk, List, [], ◌∷◌, ◌++◌, map, Some, None, codes, refl, sym, ap, subst, ◌∙◌, arith, append_assoc}
use Rattle.action_report.proofs.Vocabulary.{by_order, find, put, AllByRecursion, IsStrictlySortedBy, is_eq, ordering_reverse, Less, Greater, map-append, sorted_head, sorted_tail, spelled, EndsBefore}
use Rattle.action_report.proofs.Vocabulary.{IsNoDigit, Valuation, bindings, value_at, variable_cmp, variable_cmp_total, IsValue, VarId, Value, Num, Text, all_at_middle, with_value, variable_text}
use Rattle.action_report.proofs.Vocabulary.{binding_text, bindings_text, AddsBindings, IsRising}
use Rattle.std.specs.FinMap as finite

abbrev pub Binding : Type 0
Binding = VarId × Value

abbrev pub keys : List Binding → List VarId
keys values = map (λ binding. binding.0) values

-- the variable stands after those that are bound
abbrev pub IsBehind : VarId → List Binding → Type 0
IsBehind x [] = Unit {0}
IsBehind x (binding ∷ values) = (variable_cmp x binding.0 ≡ Greater) × IsBehind x values

pub behind_from_rising : (values : List Binding) (x : VarId) (xs : List VarId) → IsRising values (x ∷ xs) → IsBehind x values
behind_from_rising [] x xs rise = tt
behind_from_rising (binding ∷ values) x xs rise =
    let less : variable_cmp binding.0 x ≡ Less = all_at_middle (λ y. variable_cmp binding.0 y ≡ Less) (keys values) x xs (sorted_head variable_cmp binding.0 (keys values ++ x ∷ xs) rise) in
    (variable_cmp_total.antisymm x binding.0 ∙ ap ordering_reverse less, behind_from_rising values x xs (sorted_tail variable_cmp binding.0 (keys values ++ x ∷ xs) rise))

put_behind : (x : VarId) (value : Value) (values : List Binding) → IsBehind x values → put variable_cmp x value values ≡ values ++ (x, value) ∷ []
put_behind x value [] behind = refl
put_behind x value (binding ∷ values) behind =
    ap (λ o. by_order o ((x, value) ∷ binding ∷ values) ((binding.0, value) ∷ values) (binding ∷ put variable_cmp x value values)) behind.0
    ∙ ap (λ l. binding ∷ l) (put_behind x value values behind.1)

find_behind : (x : VarId) (values : List Binding) → IsBehind x values → find variable_cmp x values ≡ None
find_behind x [] behind = refl
find_behind x (binding ∷ values) behind =
    ap (λ o. cond (is_eq o) (Some binding.1) (find variable_cmp x values)) behind.0 ∙ find_behind x values behind.1

pub none_bound : (v : Valuation) (x : VarId) (xs : List VarId) → IsRising (bindings v) (x ∷ xs) → value_at v x ≡ None
none_bound v x xs rise = finite.get-entries v x ∙ find_behind x (bindings v) (behind_from_rising (bindings v) x xs rise)

pub one_more_bound : (v : Valuation) (x : VarId) (value : Value) (xs : List VarId) → IsRising (bindings v) (x ∷ xs) → bindings (with_value v x value) ≡ bindings v ++ (x, value) ∷ []
one_more_bound v x value xs rise = finite.entries-insert variable_cmp_total v x value ∙ put_behind x value (bindings v) (behind_from_rising (bindings v) x xs rise)

pub rising_on : (v w : Valuation) (x : VarId) (value : Value) (scope xs : List VarId) → scope ≡ x ∷ xs → IsRising (bindings v) scope → w ≡ with_value v x value → IsRising (bindings w) xs
rising_on v w x value scope xs is rise bound =
    let first : IsRising (bindings v) (x ∷ xs) = subst (IsRising (bindings v)) is rise in
    let list : bindings w ≡ bindings v ++ (x, value) ∷ [] = ap bindings bound ∙ one_more_bound v x value xs first in
    let same : keys (bindings w) ++ xs ≡ keys (bindings v) ++ x ∷ xs =
    ap (λ l. keys l ++ xs) list ∙ ap (λ l. l ++ xs) (map-append (λ (b : Binding). b.0) (bindings v) ((x, value) ∷ [])) ∙ append_assoc (keys (bindings v)) (x ∷ []) xs in
    subst (IsStrictlySortedBy variable_cmp) (sym same) first

-- ---- the text

abbrev pub AreValues : List Binding → Type 0
AreValues values = AllByRecursion (λ binding. IsValue binding.1) values

-- what stands after a binding ends its value
pub ends_binding : (vars : List (List ℕ)) (value : Value) (values : List Binding) (rest : List ℕ) → IsNoDigit rest → EndsBefore value (bindings_text vars values ++ rest)
ends_binding vars (Num number) [] rest ends = ends
ends_binding vars (Num number) (next ∷ values) rest ends = λ low high. omega arith
ends_binding vars (Text text) values rest ends = tt

-- a first binding, and the others
pub record HasFirst (x : VarId) (xs : List VarId) (values : List Binding) : Type 0 where
  pub value : Value
  pub others : List Binding
  pub are : values ≡ (x, value) ∷ others
  pub is_value : IsValue value
  pub keys_are : keys others ≡ xs
  pub are_values : AreValues others

pub first_bound : (scope xs : List VarId) (x : VarId) (values : List Binding) → scope ≡ x ∷ xs → keys values ≡ scope → AreValues values → HasFirst x xs values
first_bound scope xs x [] is same are = let e = same ∙ is in absurd cc
first_bound scope xs x (binding ∷ others) is same are =
    let e : binding.0 ∷ keys others ≡ x ∷ xs = same ∙ is in
    let first : binding.0 ≡ x = cc e in
    let rest : keys others ≡ xs = cc e in
    record { value = binding.1; others = others; are = ap (λ y. (y, binding.1) ∷ others) first; is_value = are.0; keys_are = rest; are_values = are.1 }

-- its text, and what is after it
pub binding_front : (vars : List (List ℕ)) (values others : List Binding) (x : VarId) (value : Value) (rest bytes : List ℕ) → values ≡ (x, value) ∷ others → bytes ≡ bindings_text vars values ++ rest
    → bytes ≡ codes " " ++ (variable_text vars x ++ (codes "=" ++ (spelled value ++ (bindings_text vars others ++ rest))))
binding_front vars values others x value rest bytes are is =
    is ∙ ap (λ l. bindings_text vars l ++ rest) are ∙ append_assoc (binding_text vars (x, value)) (bindings_text vars others) rest
    ∙ append_assoc (codes " ") (variable_text vars x ++ (codes "=" ++ spelled value)) (bindings_text vars others ++ rest)
    ∙ ap (λ l. codes " " ++ l) (append_assoc (variable_text vars x) (codes "=" ++ spelled value) (bindings_text vars others ++ rest)
    ∙ ap (λ l. variable_text vars x ++ l) (append_assoc (codes "=") (spelled value) (bindings_text vars others ++ rest)))

-- ---- one binding, and those after it

pub bound_join : {E : Type 0} (result : Result Bool E) (before middle after values others : List Binding) (x : VarId) (value : Value) (left rest : List ℕ) → middle
    ≡ before ++ (x, value) ∷ [] → values ≡ (x, value) ∷ others
    → IfOk result (λ all. (all ≡ true) × (after ≡ middle ++ others) × (left ≡ rest)) → IfOk result (λ all. (all ≡ true) × (after ≡ before ++ values) × (left ≡ rest))
bound_join (Err e) before middle after values others x value left rest bound are h = tt
bound_join (Ok all) before middle after values others x value left rest bound are h =
    (h.0, h.1 ∙ ap (λ l. l ++ others) bound ∙ append_assoc before ((x, value) ∷ []) others ∙ ap (λ l. before ++ l) (sym are), h.2)

pub adds_join : {E : Type 0} (result : Result Bool E) (scope xs : List VarId) (before middle after : List Binding) (x : VarId) (value : Value) → scope ≡ x ∷ xs → middle
    ≡ before ++ (x, value) ∷ [] → IsValue value
    → IfOk result (AddsBindings xs middle after) → IfOk result (AddsBindings scope before after)
adds_join (Err e) scope xs before middle after x value is bound fits h = tt
adds_join (Ok false) scope xs before middle after x value is bound fits h = tt
adds_join (Ok true) scope xs before middle after x value is bound fits (others, same, are, added) = (
  (x, value) ∷ others,
  ap (λ l. x ∷ l) same ∙ sym is,
  (fits, are),
  added ∙ ap (λ l. l ++ others) bound ∙ append_assoc before ((x, value) ∷ []) others,
)
