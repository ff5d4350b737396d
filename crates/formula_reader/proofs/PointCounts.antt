-- The points of a formula use variables that were bound before them, and bind those that the formula binds.
use Rattle.formula_reader.proofs.Vocabulary.{◌≡◌, ℕ, ◌+◌, ◌<◌, Bool, true, false, List, [], ◌∷◌, ◌++◌, length, Option, None, Some, refl, sym, ap, subst, ◌∙◌, arith, slice_get, length-append}
use Rattle.formula_reader.proofs.Vocabulary.{length-map, slice_get_within, option_map, Var, VarId, Binding, SyntaxTerm, Variable, Constant, SyntaxTree, TrueTree, FalseTree, AtomTree, EqualTree}
use Rattle.formula_reader.proofs.Vocabulary.{LessTree, AtMostTree, NotTree, AndTree, OrTree, ImpliesTree, ExistsTree, ForallTree, PrevTree, NextTree, OnceTree, HistoricallyTree, SinceTree}
use Rattle.formula_reader.proofs.Vocabulary.{EventuallyTree, AlwaysTree, UntilTree, entry_columns, NameEntry, Sort, Int, Wanted, NoSortWanted, ThisSort, SortOf, Point, EventName, Binder, Use}
use Rattle.formula_reader.proofs.Vocabulary.{entry_named, use_of, argument_points, binder_points, points, is_named, variable_named, term_in, bound_names, binding_names, variable_numbered}
use Rattle.formula_reader.proofs.Vocabulary.{bound_variables_from}
use Rattle.formula_reader.proofs.SortAgreement.{InScope, WantedInScope, Fits}

-- how many variables are bound at points
abbrev pub binders : List Point → ℕ
binders [] = 0
binders (EventName place name terms ∷ rest) = binders rest
binders (Binder place taken ∷ rest) = binders rest + 1
binders (Use place term wanted ∷ rest) = binders rest

-- the points fit after `count` variables, and bind so many more
pub record Counts (count : ℕ) (points : List Point) (bound : ℕ) : Type 0 where
  pub fits : Fits count points
  pub binds : binders points ≡ bound

-- a variable that is found by its name has been bound
found_in : (names : List (List ℕ)) (name : List ℕ) (x : VarId) (entry : Option (List ℕ)) → slice_get names x.0 ≡ entry → is_named name entry ≡ true → x.0 < length names
found_in names name x None e h = cc
found_in names name x (Some other) e h = slice_get_within names x.0 other e

found_scope : (names : List (List ℕ)) (name : List ℕ) (scope : List VarId) → InScope (length names) (option_map Var (variable_named names scope name))
found_scope names name [] = tt
found_scope names name (x ∷ scope) =
    by (is_named name (slice_get names x.0)) refl (found_scope names name scope)
  where
    by : (b : Bool) → is_named name (slice_get names x.0) ≡ b → InScope (length names) (option_map Var (variable_named names scope name))
        → InScope (length names) (option_map Var (variable_named names (x ∷ scope) name))
    by true e rest = rw e (found_in names name x (slice_get names x.0) refl e)
    by false e rest = rw e rest

term_fits : (names : List (List ℕ)) (scope : List VarId) (term : SyntaxTerm) → InScope (length names) (term_in names scope term)
term_fits names scope (Variable place name) = found_scope names name scope
term_fits names scope (Constant place value) = tt

arguments_count : (names : List (List ℕ)) (scope : List VarId) (sorts : List Sort) (terms : List SyntaxTerm) → Counts (length names) (argument_points names scope sorts terms) 0
arguments_count names scope sorts [] = record { fits = tt; binds = refl }
arguments_count names scope [] (term ∷ terms) =
    let h = arguments_count names scope [] terms in record { fits = (term_fits names scope term, tt, h.fits); binds = h.binds }
arguments_count names scope (sort ∷ sorts) (term ∷ terms) =
    let h = arguments_count names scope sorts terms in record { fits = (term_fits names scope term, tt, h.fits); binds = h.binds }

counts-append : (count : ℕ) (front back : List Point) (m n : ℕ) → Counts count front m → Counts (count + m) back n → Counts count (front ++ back) (m + n)
counts-append count [] back m n f b = record {
  fits = subst (λ (k : ℕ). Fits k back) (let e : 0 ≡ m = f.binds in omega arith) b.fits;
  binds = let e : 0 ≡ m = f.binds in let g : binders back ≡ n = b.binds in omega arith;
}
counts-append count (EventName place name terms ∷ front) back m n f b =
    let h = counts-append count front back m n (record { fits = f.fits; binds = f.binds }) b in record { fits = h.fits; binds = h.binds }
counts-append count (Use place term wanted ∷ front) back m n f b =
    let h = counts-append count front back m n (record { fits = f.fits.2; binds = f.binds }) b in
    record { fits = (f.fits.0, f.fits.1, h.fits); binds = h.binds }
counts-append count (Binder place taken ∷ front) back m n f b =
    let e : binders front + 1 ≡ m = f.binds in
    let h = counts-append (count + 1) front back (binders front) n (record { fits = f.fits; binds = refl })
    (subst (λ (k : ℕ). Counts k back n) (let g : count + m ≡ (count + 1) + binders front = omega arith in g) b) in
    record { fits = h.fits; binds = let g : binders (front ++ back) ≡ binders front + n = h.binds in omega arith }

binder_count : (count : ℕ) (names : List (List ℕ)) (scope : List VarId) (xs : List Binding) → Counts count (binder_points names scope xs) (length xs)
binder_count count names scope [] = record { fits = tt; binds = refl }
binder_count count names scope (x ∷ xs) =
    let h = binder_count (count + 1) (names ++ x.name ∷ []) (scope ++ variable_numbered (length names) ∷ []) xs in
    record { fits = h.fits; binds = let e = h.binds in omega arith }

both_count : (entries : List NameEntry) (names : List (List ℕ)) (scope : List VarId) (f g : SyntaxTree)
    → Counts (length names) (points entries names scope f) (length (bound_names f))
    → Counts (length (names ++ bound_names f)) (points entries (names ++ bound_names f) scope g) (length (bound_names g))
    → Counts (length names) (points entries names scope f ++ points entries (names ++ bound_names f) scope g) (length (bound_names f ++ bound_names g))
both_count entries names scope f g l r =
    subst (λ (n : ℕ). Counts (length names) (points entries names scope f ++ points entries (names ++ bound_names f) scope g) n)
    (sym (length-append (bound_names f) (bound_names g)))
    (counts-append (length names) _ _ (length (bound_names f)) (length (bound_names g)) l
    (subst (λ (n : ℕ). Counts n (points entries (names ++ bound_names f) scope g) (length (bound_names g))) (length-append names (bound_names f)) r))

bound_count : (entries : List NameEntry) (names : List (List ℕ)) (scope : List VarId) (xs : List Binding) (f : SyntaxTree)
    → Counts (length (names ++ binding_names xs)) (points entries (names ++ binding_names xs) (scope ++ bound_variables_from (length names) xs) f) (length (bound_names f))
    → Counts (length names) (binder_points names scope xs ++ points entries (names ++ binding_names xs) (scope ++ bound_variables_from (length names) xs) f)
    (length (binding_names xs ++ bound_names f))
bound_count entries names scope xs f r =
    let e : length (binding_names xs) ≡ length xs = length-map xs (λ (x : Binding). x.name) in
    subst (λ (n : ℕ). Counts (length names) (binder_points names scope xs ++ points entries (names ++ binding_names xs) (scope ++ bound_variables_from (length names) xs) f) n)
    (sym (length-append (binding_names xs) (bound_names f) ∙ ap (λ (n : ℕ). n + length (bound_names f)) e))
    (counts-append (length names) _ _ (length xs) (length (bound_names f)) (binder_count (length names) names scope xs)
    (subst (λ (n : ℕ). Counts n (points entries (names ++ binding_names xs) (scope ++ bound_variables_from (length names) xs) f) (length (bound_names f)))
    (length-append names (binding_names xs) ∙ ap (λ (n : ℕ). length names + n) e) r))

two_terms : (names : List (List ℕ)) (scope : List VarId) (s t : SyntaxTerm) (v w : Wanted) → WantedInScope (length names) v → WantedInScope (length names) w
    → Counts (length names) (use_of names scope s v ∷ use_of names scope t w ∷ []) 0
two_terms names scope s t v w h k = record { fits = (term_fits names scope s, h, (term_fits names scope t, k, tt)); binds = refl }

-- the points of a formula
pub formula_counts : (entries : List NameEntry) (names : List (List ℕ)) (scope : List VarId) (f : SyntaxTree)
    → Counts (length names) (points entries names scope f) (length (bound_names f))
formula_counts entries names scope (TrueTree place) = record { fits = tt; binds = refl }
formula_counts entries names scope (FalseTree place) = record { fits = tt; binds = refl }
formula_counts entries names scope (AtomTree place name terms) =
    let h = arguments_count names scope (entry_columns (entry_named entries name)) terms in record { fits = h.fits; binds = h.binds }
formula_counts entries names scope (EqualTree place s t) = two_terms names scope s t NoSortWanted (SortOf (term_in names scope s)) tt (term_fits names scope s)
formula_counts entries names scope (LessTree place s t) = two_terms names scope s t (ThisSort Int) (ThisSort Int) tt tt
formula_counts entries names scope (AtMostTree place s t) = two_terms names scope s t (ThisSort Int) (ThisSort Int) tt tt
formula_counts entries names scope (NotTree place f) = formula_counts entries names scope f
formula_counts entries names scope (AndTree place f g) =
    both_count entries names scope f g (formula_counts entries names scope f) (formula_counts entries (names ++ bound_names f) scope g)
formula_counts entries names scope (OrTree place f g) =
    both_count entries names scope f g (formula_counts entries names scope f) (formula_counts entries (names ++ bound_names f) scope g)
formula_counts entries names scope (ImpliesTree place f g) =
    both_count entries names scope f g (formula_counts entries names scope f) (formula_counts entries (names ++ bound_names f) scope g)
formula_counts entries names scope (ExistsTree place xs f) =
    bound_count entries names scope xs f (formula_counts entries (names ++ binding_names xs) (scope ++ bound_variables_from (length names) xs) f)
formula_counts entries names scope (ForallTree place xs f) =
    bound_count entries names scope xs f (formula_counts entries (names ++ binding_names xs) (scope ++ bound_variables_from (length names) xs) f)
formula_counts entries names scope (PrevTree place interval f) = formula_counts entries names scope f
formula_counts entries names scope (NextTree place interval f) = formula_counts entries names scope f
formula_counts entries names scope (OnceTree place interval f) = formula_counts entries names scope f
formula_counts entries names scope (HistoricallyTree place interval f) = formula_counts entries names scope f
formula_counts entries names scope (SinceTree place interval f g) =
    both_count entries names scope f g (formula_counts entries names scope f) (formula_counts entries (names ++ bound_names f) scope g)
formula_counts entries names scope (EventuallyTree place interval f) = formula_counts entries names scope f
formula_counts entries names scope (AlwaysTree place interval f) = formula_counts entries names scope f
formula_counts entries names scope (UntilTree place interval f g) =
    both_count entries names scope f g (formula_counts entries names scope f) (formula_counts entries (names ++ bound_names f) scope g)
