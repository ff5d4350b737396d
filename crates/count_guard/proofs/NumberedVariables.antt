-- New variables as numbered ones, and the values that they have.
use Rattle.count_guard.proofs.Vocabulary.{◌≡◌, ℕ, zero, suc, ◌+◌, ◌-◌, ◌*◌, ◌<◌, ◌≤◌, List, [], ◌∷◌, ◌++◌, Contains, Some, length, map, take, drop, refl, sym, ap, subst, ◌∙◌, arith, ⊎_elim, zero-mul, suc-mul}
use Rattle.count_guard.proofs.Vocabulary.{first_or_later, none_in_nil, VarId, Value, Var, Valuation, value_at, value_of_term, with_values, numbered_variables, value_at-bound, value_at-with_outside}
use Rattle.count_guard.proofs.Vocabulary.{new_variables, counted_copies, counted_copy}
use Rattle.std.specs.FinMap as finite

pub new_numbered : (next : ℕ) (xs : List VarId) → new_variables next xs ≡ numbered_variables next (length xs)
new_numbered next [] = refl
new_numbered next (x ∷ xs) = ap (λ (ys : List VarId). record { 0 = next } ∷ ys) (new_numbered (suc next) xs)

pub new_many : (next : ℕ) (xs : List VarId) → length (new_variables next xs) ≡ length xs
new_many next [] = refl
new_many next (x ∷ xs) = ap suc (new_many (suc next) xs)

pub numbered_many : (first n : ℕ) → length (numbered_variables first n) ≡ n
numbered_many first zero = refl
numbered_many first (suc n) = ap suc (numbered_many (suc first) n)

pub numbered_on : (first m n : ℕ) → numbered_variables first m ++ numbered_variables (first + m) n ≡ numbered_variables first (m + n)
numbered_on first zero n =
    let front : first + 0 ≡ first = omega arith in
    let back : n ≡ 0 + n = omega arith in
    ap (λ k. numbered_variables k n) front ∙ ap (numbered_variables first) back
numbered_on first (suc m) n =
    let front : first + suc m ≡ suc first + m = omega arith in
    let back : suc (m + n) ≡ suc m + n = omega arith in
    ap (λ (ys : List VarId). record { 0 = first } ∷ ys) (ap (λ k. numbered_variables (suc first) m ++ numbered_variables k n) front ∙ numbered_on (suc first) m n)
    ∙ ap (numbered_variables first) back

-- one variable more
pub numbered_push : (first n : ℕ) → numbered_variables first n ++ record { 0 = first + n } ∷ [] ≡ numbered_variables first (n + 1)
numbered_push first n = numbered_on first n 1

pub numbered_more : (first number : ℕ) → first ≤ number → numbered_variables first (number - first) ++ record { 0 = number } ∷ [] ≡ numbered_variables first (number + 1 - first)
numbered_more first number le =
    let at : number ≡ first + (number - first) = omega arith in
    let more : (number - first) + 1 ≡ number + 1 - first = omega arith in
    ap (λ k. numbered_variables first (number - first) ++ record { 0 = k } ∷ []) at ∙ numbered_push first (number - first) ∙ ap (numbered_variables first) more

pub copies_numbered : (next : ℕ) (counted : List VarId) (copies : ℕ) → counted_copies next counted copies ≡ numbered_variables next (copies * length counted)
copies_numbered next counted zero = ap (numbered_variables next) (sym (zero-mul (length counted)))
copies_numbered next counted (suc copies) =
    ap (λ (xs : List VarId). xs ++ counted_copy next counted copies) (copies_numbered next counted copies)
    ∙ ap (λ (ys : List VarId). numbered_variables next (copies * length counted) ++ ys) (new_numbered (next + copies * length counted) counted)
    ∙ numbered_on next (copies * length counted) (length counted)
    ∙ ap (numbered_variables next) (sym (suc-mul copies (length counted)))

-- no variable with a lower number is among them
pub none_lower : (x : VarId) (first n : ℕ) → x.0 < first → Contains (numbered_variables first n) x → ⊥
none_lower x first zero lower there = none_in_nil x there
none_lower x first (suc n) lower there = ⊎_elim
    (λ same. let is : first ≡ x.0 = ap (λ (y : VarId). y.0) same in omega arith)
    (λ behind. none_lower x (suc first) n (omega arith) behind)
    (first_or_later x (record { 0 = first }) (numbered_variables (suc first) n) there)

pub none_new : (x : VarId) (next : ℕ) (xs : List VarId) → x.0 < next → Contains (new_variables next xs) x → ⊥
none_new x next xs lower there = none_lower x next (length xs) lower (subst (λ (ys : List VarId). Contains ys x) (new_numbered next xs) there)

-- a variable that is bound before those behind it
bound_first : (next n : ℕ) (values : List Value) (v : Valuation) (value : Value) (x : VarId) → x ≡ record { 0 = next }
    → value_at (with_values (numbered_variables (suc next) n) values (finite.insert v (record { 0 = next }) value)) x ≡ Some value
bound_first next n values v value x is =
    let number : x.0 ≡ next = ap (λ (y : VarId). y.0) is in
    value_at-with_outside (numbered_variables (suc next) n) values (finite.insert v (record { 0 = next }) value) x (none_lower x (suc next) n (omega arith))
    ∙ value_at-bound v (record { 0 = next }) x value (sym is)

-- they have the values to which they are bound
pub new_values : (next : ℕ) (xs : List VarId) (values : List Value) (v : Valuation) → length values ≡ length xs
    → map (value_of_term (with_values (new_variables next xs) values v)) (map Var (new_variables next xs)) ≡ map Some values
new_values next [] [] v long = refl
new_values next [] (value ∷ values) v long = absurd (omega (arith, long))
new_values next (x ∷ xs) [] v long = absurd (omega (arith, long))
new_values next (x ∷ xs) (value ∷ values) v long =
    let first : value_at (with_values (new_variables (suc next) xs) values (finite.insert v (record { 0 = next }) value)) (record { 0 = next }) ≡ Some value =
    ap (λ (ys : List VarId). value_at (with_values ys values (finite.insert v (record { 0 = next }) value)) (record { 0 = next })) (new_numbered (suc next) xs)
    ∙ bound_first next (length xs) values v value (record { 0 = next }) refl in
    let rest = new_values (suc next) xs values (finite.insert v (record { 0 = next }) value) (omega (arith, long)) in
    λ i. first i ∷ rest i

-- and so do some of them
pub numbered_values : (next : ℕ) (values : List Value) (v : Valuation) (at n : ℕ) → at + n ≤ length values
    → map (value_at (with_values (numbered_variables next (length values)) values v)) (numbered_variables (next + at) n) ≡ map Some (take n (drop at values))
numbered_values next values v at zero within = refl
numbered_values next [] v at (suc n) within = absurd (omega (arith, within))
numbered_values next (value ∷ values) v zero (suc n) within =
    let all = with_values (numbered_variables (suc next) (length values)) values (finite.insert v (record { 0 = next }) value) in
    let same : next + 0 ≡ next = omega arith in
    let number : suc next + 0 ≡ suc (next + 0) = omega arith in
    let first : value_at all (record { 0 = next + 0 }) ≡ Some value = bound_first next (length values) values v value (record { 0 = next + 0 }) (ap (λ k. record { 0 = k }) same) in
    let rest : map (value_at all) (numbered_variables (suc (next + 0)) n) ≡ map Some (take n values) =
    ap (λ k. map (value_at all) (numbered_variables k n)) (sym number)
    ∙ numbered_values (suc next) values (finite.insert v (record { 0 = next }) value) 0 n (omega (arith, within)) in
    λ i. first i ∷ rest i
numbered_values next (value ∷ values) v (suc at) (suc n) within =
    let all = with_values (numbered_variables (suc next) (length values)) values (finite.insert v (record { 0 = next }) value) in
    let number : next + suc at ≡ suc next + at = omega arith in
    ap (λ k. map (value_at all) (numbered_variables k (suc n))) number
    ∙ numbered_values (suc next) values (finite.insert v (record { 0 = next }) value) at (suc n) (omega (arith, within))
