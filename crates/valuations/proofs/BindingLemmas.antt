-- Lists of bindings in rising variable number, and the valuations for which they stand.
use Rattle.valuations.proofs.Vocabulary.{◌≡◌, ◌≢◌, ℕ, ◌+◌, ◌<◌, ◌≤◌, suc, Bool, true, false, cond, T, List, [], ◌∷◌, length, drop, get_or, None, Some, refl, sym, ap, subst, ◌∙◌, arith, insert, nat_lt}
use Rattle.valuations.proofs.Vocabulary.{ltb, put, find, is_sorted, is_sorted-put, at_drop_more, at_drop_all, none-some, ltb-true, ltb-false, lt-ltb, le-ltb, eq-eqb, ne_eqb, Valuation, variable_cmp}
use Rattle.valuations.proofs.Vocabulary.{value_at, no_values, bindings, variable_cmp_total, VarId, Value, binding_place, with_value}
use Rattle.std.specs.FinMap as map

-- a list without bindings stands for the valuation that binds nothing
pub no_bindings : (es : List (VarId × Value)) → es ≡ [] → map.from_sorted {R = variable_cmp} es ≡ no_values
no_bindings es none =
    ap (λ l. map.from_sorted {R = variable_cmp} l) none ∙ map.empty_of_len (map.from_sorted {R = variable_cmp} [])
    (map.len-entries (map.from_sorted {R = variable_cmp} []) ∙ ap length (map.entries-from_sorted variable_cmp [] tt))

pub find_here : (x y : VarId) (value : Value) (rest : List (VarId × Value)) → x.0 ≡ y.0 → find variable_cmp y ((x, value) ∷ rest) ≡ Some value
find_here x y value rest same = rw (le-ltb y.0 x.0 (omega arith), eq-eqb y.0 x.0 (sym same))

pub find_later : (x y : VarId) (value : Value) (rest : List (VarId × Value)) → x.0 ≢ y.0 → find variable_cmp y ((x, value) ∷ rest) ≡ find variable_cmp y rest
find_later x y value rest other = by (ltb y.0 x.0) refl
  where
    by : (b : Bool) → ltb y.0 x.0 ≡ b → find variable_cmp y ((x, value) ∷ rest) ≡ find variable_cmp y rest
    by true e = rw e
    by false e = rw (e, ne_eqb y.0 x.0 (omega arith))

-- what a valuation binds, read off its list
pub value_at-listed : (es : List (VarId × Value)) (m : Valuation) (x : VarId) → T (is_sorted variable_cmp es) → map.from_sorted {R = variable_cmp} es ≡ m → value_at m x ≡ find variable_cmp x es
value_at-listed es m x sorted is = ap (λ n. value_at n x) (sym is) ∙ map.get-from_sorted variable_cmp es x sorted

pub bindings-listed : (es : List (VarId × Value)) (m : Valuation) → T (is_sorted variable_cmp es) → map.from_sorted {R = variable_cmp} es ≡ m → bindings m ≡ es
bindings-listed es m sorted is = ap bindings (sym is) ∙ map.entries-from_sorted variable_cmp es sorted

-- a search that stops at a binding of the variable, and one that ends
pub found_value : (es : List (VarId × Value)) (i : ℕ) (b : VarId × Value) (x : VarId) → find variable_cmp x es ≡ find variable_cmp x (drop i es) → i < length es → b
    ≡ get_or es i b → b.0.0 ≡ x.0 → Some b.1 ≡ find variable_cmp x es
found_value es i b x reached within is same =
    sym (reached ∙ at_drop_more (find variable_cmp x) es i b within ∙ ap (λ e. find variable_cmp x (e ∷ drop (i + 1) es)) (sym is) ∙ find_here b.0 x b.1 (drop (i + 1) es) same)

pub no_value : (es : List (VarId × Value)) (i : ℕ) (x : VarId) → find variable_cmp x es ≡ find variable_cmp x (drop i es) → length es ≤ i → None ≡ find variable_cmp x es
no_value es i x reached past = sym (reached ∙ at_drop_all (find variable_cmp x) es i past)

one_more : (b : Bool) (m n : ℕ) → m ≤ n → cond b (suc m) 0 ≤ suc n
one_more true m n h = omega arith
one_more false m n h = omega arith

pub place_before-within : (x : VarId) (es : List (VarId × Value)) → binding_place x es ≤ length es
place_before-within x [] = omega arith
place_before-within x (e ∷ es) = one_more (nat_lt e.0.0 x.0) (binding_place x es) (length es) (place_before-within x es)

put-new_front : (b : Bool) (x : VarId) (value : Value) (e : VarId × Value) (es : List (VarId × Value)) → ltb e.0.0 x.0 ≡ b → find variable_cmp x (e ∷ es) ≡ None
    → (find variable_cmp x es ≡ None → put variable_cmp x value es ≡ insert es (binding_place x es) (x, value)) → put variable_cmp x value (e ∷ es)
    ≡ insert (e ∷ es) (cond b (suc (binding_place x es)) 0) (x, value)
put-new_front true x value e es lower absent later =
    let below : e.0.0 < x.0 = ltb-true _ _ lower in
    rw (le-ltb x.0 e.0.0 (omega arith), ne_eqb x.0 e.0.0 (omega arith)) (ap (λ l. e ∷ l) (later (sym (find_later e.0 x e.1 es (omega arith)) ∙ absent)))
put-new_front false x value e es lower absent later =
    let above : x.0 ≤ e.0.0 = ltb-false _ _ lower in
    let apart : x.0 ≢ e.0.0 = λ same. absurd (none-some e.1 (sym absent ∙ find_here e.0 x e.1 es (sym same))) in
    rw (lt-ltb x.0 e.0.0 (omega arith)) refl

-- a new variable goes after the lower ones
pub put-new : (x : VarId) (value : Value) (es : List (VarId × Value)) → find variable_cmp x es ≡ None → put variable_cmp x value es ≡ insert es (binding_place x es) (x, value)
put-new x value [] absent = refl
put-new x value (e ∷ es) absent = put-new_front (ltb e.0.0 x.0) x value e es refl absent (put-new x value es)

-- what a new binding makes of a valuation
pub with_new : (es new : List (VarId × Value)) (m : Valuation) (x : VarId) (value : Value) → T (is_sorted variable_cmp es) → map.from_sorted {R = variable_cmp} es ≡ m
    → value_at m x ≡ None → new ≡ insert es (binding_place x es) (x, value) → (T (is_sorted variable_cmp new)) × (map.from_sorted {R = variable_cmp} new ≡ with_value m x value)
with_new es new m x value sorted is absent pushed =
    let placed : new ≡ put variable_cmp x value es = pushed ∙ sym (put-new x value es (sym (value_at-listed es m x sorted is) ∙ absent)) in
    let kept : T (is_sorted variable_cmp new) = subst (λ l. T (is_sorted variable_cmp l)) (sym placed) (is_sorted-put variable_cmp variable_cmp_total x value es sorted) in (
      kept,
      map.same_entries_map _ _ (map.entries-from_sorted variable_cmp new kept ∙ placed ∙ ap (put variable_cmp x value) (sym (bindings-listed es m sorted is)) ∙ sym
          (map.entries-insert variable_cmp_total m x value)),
    )
