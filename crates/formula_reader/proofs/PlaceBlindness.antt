-- The second pass does not look at places: they stand in its answer alone.
use Rattle.formula_reader.proofs.Vocabulary.{◌≡◌, ◌==◌, ℕ, ◌+◌, Bool, true, false, cond, List, [], ◌∷◌, ◌++◌, length, map, Option, None, Some, refl, sym, ap, ◌∙◌, length-map, map-append, option_map}
use Rattle.formula_reader.proofs.Vocabulary.{option_or, Term, VarId, Binding, SyntaxTerm, Variable, Constant, SyntaxTree, TrueTree, FalseTree, AtomTree, EqualTree, LessTree, AtMostTree, NotTree}
use Rattle.formula_reader.proofs.Vocabulary.{AndTree, OrTree, ImpliesTree, ExistsTree, ForallTree, PrevTree, NextTree, OnceTree, HistoricallyTree, SinceTree, EventuallyTree, AlwaysTree, UntilTree}
use Rattle.formula_reader.proofs.Vocabulary.{entry_columns, NameEntry, Sort, Int, Text, bare_tree, bare_refusal, bare_resolved, bare_syntax_tree, bare_binding, bare_rule, bare_term, Wanted}
use Rattle.formula_reader.proofs.Vocabulary.{NoSortWanted, ThisSort, SortOf, Point, EventName, Binder, Use, entry_named, use_of, argument_points, binder_points, points, term_in, bound_names}
use Rattle.formula_reader.proofs.Vocabulary.{binding_names, variable_numbered, bound_variables_from, variable_named, Rule, with_both, name_in, terms_in, formula_in, rule_in, rule_with, sort_of_term}
use Rattle.formula_reader.proofs.Vocabulary.{wanted_sort, sort_given, known_after, event_name_refusal, binder_refusal, sort_clash, point_refusal, first_point_refusal, rule_refusal, PolicyRefusal}
use Rattle.formula_reader.proofs.Vocabulary.{Arity}
use Rattle.formula_reader.proofs.SortAgreement.{same_given, same_refusal}
use Rattle.enf_formula.specs.meaning.Satisfaction as tree
use Rattle.policy_syntax.specs.meaning.Trees as syntax

term-blind : (names : List (List ℕ)) (scope : List VarId) (term : SyntaxTerm) → term_in names scope (bare_term term) ≡ term_in names scope term
term-blind names scope (Variable place name) = refl
term-blind names scope (Constant place value) = refl

terms-blind : (names : List (List ℕ)) (scope : List VarId) (terms : List SyntaxTerm) → terms_in names scope (map bare_term terms) ≡ terms_in names scope terms
terms-blind names scope [] = refl
terms-blind names scope (term ∷ terms) =
    ap (λ (t : Option Term). with_both ◌∷◌ t (terms_in names scope (map bare_term terms))) (term-blind names scope term)
    ∙ ap (λ (ts : Option (List Term)). with_both ◌∷◌ (term_in names scope term) ts) (terms-blind names scope terms)

names-blind : (xs : List Binding) → binding_names (map bare_binding xs) ≡ binding_names xs
names-blind [] = refl
names-blind (x ∷ xs) = ap (λ (ns : List (List ℕ)). x.name ∷ ns) (names-blind xs)

variables-blind : (n : ℕ) (xs : List Binding) → bound_variables_from n (map bare_binding xs) ≡ bound_variables_from n xs
variables-blind n [] = refl
variables-blind n (x ∷ xs) = ap (λ (vs : List VarId). variable_numbered n ∷ vs) (variables-blind (n + 1) xs)

both_names : (a b c d : List (List ℕ)) → a ≡ c → b ≡ d → a ++ b ≡ c ++ d
both_names a b c d e h = ap (λ (ns : List (List ℕ)). ns ++ b) e ∙ ap (λ (ns : List (List ℕ)). c ++ ns) h

bound-blind : (f : SyntaxTree) → bound_names (bare_syntax_tree f) ≡ bound_names f
bound-blind (TrueTree place) = refl
bound-blind (FalseTree place) = refl
bound-blind (AtomTree place name terms) = refl
bound-blind (EqualTree place s t) = refl
bound-blind (LessTree place s t) = refl
bound-blind (AtMostTree place s t) = refl
bound-blind (NotTree place f) = bound-blind f
bound-blind (AndTree place f g) = both_names (bound_names (bare_syntax_tree f)) (bound_names (bare_syntax_tree g)) (bound_names f) (bound_names g) (bound-blind f) (bound-blind g)
bound-blind (OrTree place f g) = both_names (bound_names (bare_syntax_tree f)) (bound_names (bare_syntax_tree g)) (bound_names f) (bound_names g) (bound-blind f) (bound-blind g)
bound-blind (ImpliesTree place f g) = both_names (bound_names (bare_syntax_tree f)) (bound_names (bare_syntax_tree g)) (bound_names f) (bound_names g) (bound-blind f) (bound-blind g)
bound-blind (ExistsTree place xs f) = both_names (binding_names (map bare_binding xs)) (bound_names (bare_syntax_tree f)) (binding_names xs) (bound_names f) (names-blind xs) (bound-blind f)
bound-blind (ForallTree place xs f) = both_names (binding_names (map bare_binding xs)) (bound_names (bare_syntax_tree f)) (binding_names xs) (bound_names f) (names-blind xs) (bound-blind f)
bound-blind (PrevTree place interval f) = bound-blind f
bound-blind (NextTree place interval f) = bound-blind f
bound-blind (OnceTree place interval f) = bound-blind f
bound-blind (HistoricallyTree place interval f) = bound-blind f
bound-blind (SinceTree place interval f g) = both_names (bound_names (bare_syntax_tree f)) (bound_names (bare_syntax_tree g)) (bound_names f) (bound_names g) (bound-blind f) (bound-blind g)
bound-blind (EventuallyTree place interval f) = bound-blind f
bound-blind (AlwaysTree place interval f) = bound-blind f
bound-blind (UntilTree place interval f g) = both_names (bound_names (bare_syntax_tree f)) (bound_names (bare_syntax_tree g)) (bound_names f) (bound_names g) (bound-blind f) (bound-blind g)

map_through : {A B : Type 0} (make : A → B) (node : A → B) (back : B → B) (inside : A → A) (a : Option A)
    → ((x : A) → make (inside x) ≡ back (node x)) → option_map make (option_map inside a) ≡ option_map back (option_map node a)
map_through make node back inside None e = refl
map_through make node back inside (Some x) e = ap Some (e x)

both_through : {A B C : Type 0} (make node : A → B → C) (back : C → C) (left : A → A) (right : B → B) (a : Option A) (b : Option B)
    → ((x : A) (y : B) → make (left x) (right y) ≡ back (node x y)) → with_both make (option_map left a) (option_map right b) ≡ option_map back (with_both node a b)
both_through make node back left right None b e = refl
both_through make node back left right (Some x) None e = refl
both_through make node back left right (Some x) (Some y) e = ap Some (e x y)

both_there_through : {A B C : Type 0} (make node : A → B → C) (back : C → C) (a : Option A) (b : Option B)
    → ((x : A) (y : B) → make x y ≡ back (node x y)) → with_both make a b ≡ option_map back (with_both node a b)
both_there_through make node back None b e = refl
both_there_through make node back (Some x) None e = refl
both_there_through make node back (Some x) (Some y) e = ap Some (e x y)

one-blind : (entries : List NameEntry) (make node : tree.Formula → tree.Formula) (a b : Option tree.Formula)
    → ((x : tree.Formula) → make (bare_tree x) ≡ bare_tree (node x)) → a ≡ option_map bare_tree b → option_map make a ≡ option_map bare_tree (option_map node b)
one-blind entries make node a b e h = ap (option_map make) h ∙ map_through make node bare_tree bare_tree b e

two-blind : (entries : List NameEntry) (make node : tree.Formula → tree.Formula → tree.Formula) (names : List (List ℕ)) (scope : List VarId) (f g : SyntaxTree)
    → ((x y : tree.Formula) → make (bare_tree x) (bare_tree y) ≡ bare_tree (node x y))
    → formula_in entries names scope (bare_syntax_tree f) ≡ option_map bare_tree (formula_in entries names scope f)
    → formula_in entries (names ++ bound_names f) scope (bare_syntax_tree g) ≡ option_map bare_tree (formula_in entries (names ++ bound_names f) scope g)
    → with_both make (formula_in entries names scope (bare_syntax_tree f)) (formula_in entries (names ++ bound_names (bare_syntax_tree f)) scope (bare_syntax_tree g))
    ≡ option_map bare_tree (with_both node (formula_in entries names scope f) (formula_in entries (names ++ bound_names f) scope g))
two-blind entries make node names scope f g e left right =
    ap (λ (ns : List (List ℕ)). with_both make (formula_in entries names scope (bare_syntax_tree f)) (formula_in entries (names ++ ns) scope (bare_syntax_tree g))) (bound-blind f)
    ∙ ap (λ (a : Option tree.Formula). with_both make a (formula_in entries (names ++ bound_names f) scope (bare_syntax_tree g))) left
    ∙ ap (λ (b : Option tree.Formula). with_both make (option_map bare_tree (formula_in entries names scope f)) b) right
    ∙ both_through make node bare_tree bare_tree bare_tree (formula_in entries names scope f) (formula_in entries (names ++ bound_names f) scope g) e

terms-two : (make node : Term → Term → tree.Formula) (names : List (List ℕ)) (scope : List VarId) (s t : SyntaxTerm) → ((x y : Term) → make x y ≡ bare_tree (node x y))
    → with_both make (term_in names scope (bare_term s)) (term_in names scope (bare_term t)) ≡ option_map bare_tree (with_both node (term_in names scope s) (term_in names scope t))
terms-two make node names scope s t e =
    ap (λ (a : Option Term). with_both make a (term_in names scope (bare_term t))) (term-blind names scope s)
    ∙ ap (λ (b : Option Term). with_both make (term_in names scope s) b) (term-blind names scope t)
    ∙ both_there_through make node bare_tree (term_in names scope s) (term_in names scope t) e

quantified-blind : (entries : List NameEntry) (make : List VarId → tree.Formula → tree.Formula) (node : List VarId → tree.Formula → tree.Formula) (names : List (List ℕ)) (scope : List VarId)
    (xs : List Binding) (f : SyntaxTree) → ((vs : List VarId) (x : tree.Formula) → make vs (bare_tree x) ≡ bare_tree (node vs x))
    → formula_in entries (names ++ binding_names xs) (scope ++ bound_variables_from (length names) xs) (bare_syntax_tree f)
    ≡ option_map bare_tree (formula_in entries (names ++ binding_names xs) (scope ++ bound_variables_from (length names) xs) f)
    → option_map (make (bound_variables_from (length names) (map bare_binding xs)))
    (formula_in entries (names ++ binding_names (map bare_binding xs)) (scope ++ bound_variables_from (length names) (map bare_binding xs)) (bare_syntax_tree f))
    ≡ option_map bare_tree (option_map (node (bound_variables_from (length names) xs)) (formula_in entries (names ++ binding_names xs) (scope ++ bound_variables_from (length names) xs) f))
quantified-blind entries make node names scope xs f e h =
    ap (λ (vs : List VarId). option_map (make vs) (formula_in entries (names ++ binding_names (map bare_binding xs)) (scope ++ vs) (bare_syntax_tree f))) (variables-blind (length names) xs)
    ∙ ap (λ (ns : List (List ℕ)). option_map (make (bound_variables_from (length names) xs))
    (formula_in entries (names ++ ns) (scope ++ bound_variables_from (length names) xs) (bare_syntax_tree f))) (names-blind xs)
    ∙ one-blind entries (make (bound_variables_from (length names) xs)) (node (bound_variables_from (length names) xs)) _ _ (e (bound_variables_from (length names) xs)) h

-- the tree
pub formula-blind : (entries : List NameEntry) (names : List (List ℕ)) (scope : List VarId) (f : SyntaxTree)
    → formula_in entries names scope (bare_syntax_tree f) ≡ option_map bare_tree (formula_in entries names scope f)
formula-blind entries names scope (TrueTree place) = refl
formula-blind entries names scope (FalseTree place) = refl
formula-blind entries names scope (AtomTree place name terms) =
    ap (λ (ts : Option (List Term)). with_both (tree.Atom 0) (name_in entries name) ts) (terms-blind names scope terms)
    ∙ both_there_through (tree.Atom 0) (tree.Atom place) bare_tree (name_in entries name) (terms_in names scope terms) (λ x y. refl)
formula-blind entries names scope (EqualTree place s t) = terms-two (tree.Equal 0) (tree.Equal place) names scope s t (λ x y. refl)
formula-blind entries names scope (LessTree place s t) = terms-two (tree.Less 0) (tree.Less place) names scope s t (λ x y. refl)
formula-blind entries names scope (AtMostTree place s t) = terms-two (tree.AtMost 0) (tree.AtMost place) names scope s t (λ x y. refl)
formula-blind entries names scope (NotTree place f) =
    one-blind entries (tree.Not 0) (tree.Not place) (formula_in entries names scope (bare_syntax_tree f)) (formula_in entries names scope f) (λ x. refl) (formula-blind entries names scope f)
formula-blind entries names scope (AndTree place f g) =
    two-blind entries (tree.And 0) (tree.And place) names scope f g (λ x y. refl) (formula-blind entries names scope f) (formula-blind entries (names ++ bound_names f) scope g)
formula-blind entries names scope (OrTree place f g) =
    two-blind entries (tree.Or 0) (tree.Or place) names scope f g (λ x y. refl) (formula-blind entries names scope f) (formula-blind entries (names ++ bound_names f) scope g)
formula-blind entries names scope (ImpliesTree place f g) =
    two-blind entries (tree.Implies 0) (tree.Implies place) names scope f g (λ x y. refl) (formula-blind entries names scope f) (formula-blind entries (names ++ bound_names f) scope g)
formula-blind entries names scope (ExistsTree place xs f) =
    quantified-blind entries (tree.Exists 0) (tree.Exists place) names scope xs f (λ vs x. refl)
    (formula-blind entries (names ++ binding_names xs) (scope ++ bound_variables_from (length names) xs) f)
formula-blind entries names scope (ForallTree place xs f) =
    quantified-blind entries (tree.Forall 0) (tree.Forall place) names scope xs f (λ vs x. refl)
    (formula-blind entries (names ++ binding_names xs) (scope ++ bound_variables_from (length names) xs) f)
formula-blind entries names scope (PrevTree place interval f) =
    one-blind entries (tree.Prev 0 interval) (tree.Prev place interval) (formula_in entries names scope (bare_syntax_tree f)) (formula_in entries names scope f) (λ x. refl)
    (formula-blind entries names scope f)
formula-blind entries names scope (NextTree place interval f) =
    one-blind entries (tree.Next 0 interval) (tree.Next place interval) (formula_in entries names scope (bare_syntax_tree f)) (formula_in entries names scope f) (λ x. refl)
    (formula-blind entries names scope f)
formula-blind entries names scope (OnceTree place interval f) =
    one-blind entries (tree.Once 0 interval) (tree.Once place interval) (formula_in entries names scope (bare_syntax_tree f)) (formula_in entries names scope f) (λ x. refl)
    (formula-blind entries names scope f)
formula-blind entries names scope (HistoricallyTree place interval f) =
    one-blind entries (tree.Historically 0 interval) (tree.Historically place interval) (formula_in entries names scope (bare_syntax_tree f)) (formula_in entries names scope f) (λ x. refl)
    (formula-blind entries names scope f)
formula-blind entries names scope (SinceTree place interval f g) =
    two-blind entries (tree.Since 0 interval) (tree.Since place interval) names scope f g (λ x y. refl) (formula-blind entries names scope f) (formula-blind entries (names ++ bound_names f) scope g)
formula-blind entries names scope (EventuallyTree place interval f) =
    one-blind entries (tree.Eventually 0 interval) (tree.Eventually place interval) (formula_in entries names scope (bare_syntax_tree f)) (formula_in entries names scope f) (λ x. refl)
    (formula-blind entries names scope f)
formula-blind entries names scope (AlwaysTree place interval f) =
    one-blind entries (tree.Always 0 interval) (tree.Always place interval) (formula_in entries names scope (bare_syntax_tree f)) (formula_in entries names scope f) (λ x. refl)
    (formula-blind entries names scope f)
formula-blind entries names scope (UntilTree place interval f g) =
    two-blind entries (tree.Until 0 interval) (tree.Until place interval) names scope f g (λ x y. refl) (formula-blind entries names scope f) (formula-blind entries (names ++ bound_names f) scope g)

-- a point at place 0
abbrev bare_point : Point → Point
bare_point (EventName place name terms) = EventName 0 name terms
bare_point (Binder place taken) = Binder 0 taken
bare_point (Use place term wanted) = Use 0 term wanted

use-blind : (names : List (List ℕ)) (scope : List VarId) (term : SyntaxTerm) (wanted : Wanted) → use_of names scope (bare_term term) wanted ≡ bare_point (use_of names scope term wanted)
use-blind names scope (Variable place name) wanted = refl
use-blind names scope (Constant place value) wanted = refl

arguments-blind : (names : List (List ℕ)) (scope : List VarId) (sorts : List Sort) (terms : List SyntaxTerm)
    → argument_points names scope sorts (map bare_term terms) ≡ map bare_point (argument_points names scope sorts terms)
arguments-blind names scope sorts [] = refl
arguments-blind names scope [] (term ∷ terms) =
    ap (λ (p : Point). p ∷ argument_points names scope [] (map bare_term terms)) (use-blind names scope term NoSortWanted)
    ∙ ap (λ (ps : List Point). bare_point (use_of names scope term NoSortWanted) ∷ ps) (arguments-blind names scope [] terms)
arguments-blind names scope (sort ∷ sorts) (term ∷ terms) =
    ap (λ (p : Point). p ∷ argument_points names scope sorts (map bare_term terms)) (use-blind names scope term (ThisSort sort))
    ∙ ap (λ (ps : List Point). bare_point (use_of names scope term (ThisSort sort)) ∷ ps) (arguments-blind names scope sorts terms)

binders-blind : (names : List (List ℕ)) (scope : List VarId) (xs : List Binding) → binder_points names scope (map bare_binding xs) ≡ map bare_point (binder_points names scope xs)
binders-blind names scope [] = refl
binders-blind names scope (x ∷ xs) =
    ap (λ (ps : List Point). Binder 0 (variable_named names scope x.name) ∷ ps) (binders-blind (names ++ x.name ∷ []) (scope ++ variable_numbered (length names) ∷ []) xs)

two-points : (names : List (List ℕ)) (scope : List VarId) (s t : SyntaxTerm) (v w : Wanted)
    → use_of names scope (bare_term s) v ∷ use_of names scope (bare_term t) w ∷ [] ≡ map bare_point (use_of names scope s v ∷ use_of names scope t w ∷ [])
two-points names scope s t v w =
    ap (λ (p : Point). p ∷ use_of names scope (bare_term t) w ∷ []) (use-blind names scope s v)
    ∙ ap (λ (p : Point). bare_point (use_of names scope s v) ∷ p ∷ []) (use-blind names scope t w)

both-points : (entries : List NameEntry) (names : List (List ℕ)) (scope : List VarId) (f g : SyntaxTree)
    → points entries names scope (bare_syntax_tree f) ≡ map bare_point (points entries names scope f)
    → points entries (names ++ bound_names f) scope (bare_syntax_tree g) ≡ map bare_point (points entries (names ++ bound_names f) scope g)
    → points entries names scope (bare_syntax_tree f) ++ points entries (names ++ bound_names (bare_syntax_tree f)) scope (bare_syntax_tree g)
    ≡ map bare_point (points entries names scope f ++ points entries (names ++ bound_names f) scope g)
both-points entries names scope f g l r =
    ap (λ (ns : List (List ℕ)). points entries names scope (bare_syntax_tree f) ++ points entries (names ++ ns) scope (bare_syntax_tree g)) (bound-blind f)
    ∙ ap (λ (ps : List Point). ps ++ points entries (names ++ bound_names f) scope (bare_syntax_tree g)) l
    ∙ ap (λ (ps : List Point). map bare_point (points entries names scope f) ++ ps) r
    ∙ sym (map-append bare_point (points entries names scope f) (points entries (names ++ bound_names f) scope g))

quantified-points : (entries : List NameEntry) (names : List (List ℕ)) (scope : List VarId) (xs : List Binding) (f : SyntaxTree)
    → points entries (names ++ binding_names xs) (scope ++ bound_variables_from (length names) xs) (bare_syntax_tree f)
    ≡ map bare_point (points entries (names ++ binding_names xs) (scope ++ bound_variables_from (length names) xs) f)
    → binder_points names scope (map bare_binding xs)
    ++ points entries (names ++ binding_names (map bare_binding xs)) (scope ++ bound_variables_from (length names) (map bare_binding xs)) (bare_syntax_tree f)
    ≡ map bare_point (binder_points names scope xs ++ points entries (names ++ binding_names xs) (scope ++ bound_variables_from (length names) xs) f)
quantified-points entries names scope xs f h =
    ap (λ (vs : List VarId). binder_points names scope (map bare_binding xs) ++ points entries (names ++ binding_names (map bare_binding xs)) (scope ++ vs) (bare_syntax_tree f))
    (variables-blind (length names) xs)
    ∙ ap (λ (ns : List (List ℕ)). binder_points names scope (map bare_binding xs) ++ points entries (names ++ ns) (scope ++ bound_variables_from (length names) xs)
    (bare_syntax_tree f)) (names-blind xs)
    ∙ ap (λ (ps : List Point). ps ++ points entries (names ++ binding_names xs) (scope ++ bound_variables_from (length names) xs) (bare_syntax_tree f)) (binders-blind names scope xs)
    ∙ ap (λ (ps : List Point). map bare_point (binder_points names scope xs) ++ ps) h
    ∙ sym (map-append bare_point (binder_points names scope xs) (points entries (names ++ binding_names xs) (scope ++ bound_variables_from (length names) xs) f))

points-blind : (entries : List NameEntry) (names : List (List ℕ)) (scope : List VarId) (f : SyntaxTree)
    → points entries names scope (bare_syntax_tree f) ≡ map bare_point (points entries names scope f)
points-blind entries names scope (TrueTree place) = refl
points-blind entries names scope (FalseTree place) = refl
points-blind entries names scope (AtomTree place name terms) =
    ap (λ (n : ℕ). EventName 0 name n ∷ argument_points names scope (entry_columns (entry_named entries name)) (map bare_term terms)) (length-map terms bare_term)
    ∙ ap (λ (ps : List Point). EventName 0 name (length terms) ∷ ps) (arguments-blind names scope (entry_columns (entry_named entries name)) terms)
points-blind entries names scope (EqualTree place s t) =
    ap (λ (o : Option Term). use_of names scope (bare_term s) NoSortWanted ∷ use_of names scope (bare_term t) (SortOf o) ∷ []) (term-blind names scope s)
    ∙ two-points names scope s t NoSortWanted (SortOf (term_in names scope s))
points-blind entries names scope (LessTree place s t) = two-points names scope s t (ThisSort Int) (ThisSort Int)
points-blind entries names scope (AtMostTree place s t) = two-points names scope s t (ThisSort Int) (ThisSort Int)
points-blind entries names scope (NotTree place f) = points-blind entries names scope f
points-blind entries names scope (AndTree place f g) =
    both-points entries names scope f g (points-blind entries names scope f) (points-blind entries (names ++ bound_names f) scope g)
points-blind entries names scope (OrTree place f g) =
    both-points entries names scope f g (points-blind entries names scope f) (points-blind entries (names ++ bound_names f) scope g)
points-blind entries names scope (ImpliesTree place f g) =
    both-points entries names scope f g (points-blind entries names scope f) (points-blind entries (names ++ bound_names f) scope g)
points-blind entries names scope (ExistsTree place xs f) =
    quantified-points entries names scope xs f (points-blind entries (names ++ binding_names xs) (scope ++ bound_variables_from (length names) xs) f)
points-blind entries names scope (ForallTree place xs f) =
    quantified-points entries names scope xs f (points-blind entries (names ++ binding_names xs) (scope ++ bound_variables_from (length names) xs) f)
points-blind entries names scope (PrevTree place interval f) = points-blind entries names scope f
points-blind entries names scope (NextTree place interval f) = points-blind entries names scope f
points-blind entries names scope (OnceTree place interval f) = points-blind entries names scope f
points-blind entries names scope (HistoricallyTree place interval f) = points-blind entries names scope f
points-blind entries names scope (SinceTree place interval f g) =
    both-points entries names scope f g (points-blind entries names scope f) (points-blind entries (names ++ bound_names f) scope g)
points-blind entries names scope (EventuallyTree place interval f) = points-blind entries names scope f
points-blind entries names scope (AlwaysTree place interval f) = points-blind entries names scope f
points-blind entries names scope (UntilTree place interval f g) =
    both-points entries names scope f g (points-blind entries names scope f) (points-blind entries (names ++ bound_names f) scope g)

given-blind : (known : VarId → Option Sort) (x : VarId) (point : Point) → sort_given known x (bare_point point) ≡ sort_given known x point
given-blind known x (EventName place name terms) = refl
given-blind known x (Binder place taken) = refl
given-blind known x (Use place term NoSortWanted) = refl
given-blind known x (Use place term (ThisSort sort)) = refl
given-blind known x (Use place term (SortOf other)) = refl

known-blind : (before : List Point) (x : VarId) → known_after (map bare_point before) x ≡ known_after before x
known-blind [] x = refl
known-blind (point ∷ before) x =
    ap (λ (k : Option Sort). option_or k (sort_given (known_after (map bare_point before)) x (bare_point point))) (known-blind before x)
    ∙ ap (λ (g : Option Sort). option_or (known_after before x) g)
    (given-blind (known_after (map bare_point before)) x point ∙ same_given (known_after (map bare_point before)) (known_after before) (known-blind before) x point)

name-blind : (place terms : ℕ) (entry : Option NameEntry) → event_name_refusal 0 terms entry ≡ option_map bare_refusal (event_name_refusal place terms entry)
name-blind place terms None = refl
name-blind place terms (Some entry) = by (length entry.sorts == terms)
  where
    by : (b : Bool) → cond b None (Some (Arity 0)) ≡ option_map bare_refusal (cond b None (Some (Arity place)))
    by true = refl
    by false = refl

binder-blind : (place : ℕ) (taken : Option VarId) → binder_refusal 0 taken ≡ option_map bare_refusal (binder_refusal place taken)
binder-blind place None = refl
binder-blind place (Some x) = refl

clash-blind : (place : ℕ) (a b : Option Sort) → sort_clash 0 a b ≡ option_map bare_refusal (sort_clash place a b)
clash-blind place None b = refl
clash-blind place (Some Int) None = refl
clash-blind place (Some Text) None = refl
clash-blind place (Some Int) (Some Int) = refl
clash-blind place (Some Text) (Some Text) = refl
clash-blind place (Some Int) (Some Text) = refl
clash-blind place (Some Text) (Some Int) = refl

refusal-blind : (entries : List NameEntry) (known : VarId → Option Sort) (point : Point) → point_refusal entries known (bare_point point) ≡ option_map bare_refusal (point_refusal entries known point)
refusal-blind entries known (EventName place name terms) = name-blind place terms (entry_named entries name)
refusal-blind entries known (Binder place taken) = binder-blind place taken
refusal-blind entries known (Use place None wanted) = refl
refusal-blind entries known (Use place (Some term) wanted) = clash-blind place (sort_of_term known (Some term)) (wanted_sort known wanted)

or-through : {A B : Type 0} (f : A → B) (a b : Option A) → option_or (option_map f a) (option_map f b) ≡ option_map f (option_or a b)
or-through f None b = refl
or-through f (Some x) b = refl

first-blind : (entries : List NameEntry) (before rest : List Point)
    → first_point_refusal entries (map bare_point before) (map bare_point rest) ≡ option_map bare_refusal (first_point_refusal entries before rest)
first-blind entries before [] = refl
first-blind entries before (point ∷ rest) =
    ap (λ (r : Option PolicyRefusal). option_or r (first_point_refusal entries (map bare_point (point ∷ before)) (map bare_point rest)))
    (same_refusal entries (known_after (map bare_point before)) (known_after before) (known-blind before) (bare_point point) ∙ refusal-blind entries (known_after before) point)
    ∙ ap (λ (r : Option PolicyRefusal). option_or (option_map bare_refusal (point_refusal entries (known_after before) point)) r) (first-blind entries (point ∷ before) rest)
    ∙ or-through bare_refusal (point_refusal entries (known_after before) point) (first_point_refusal entries (point ∷ before) rest)

-- the refusal
pub rule_refusal-blind : (entries : List NameEntry) (rule : syntax.PolicyRule) → rule_refusal entries (bare_rule rule) ≡ option_map bare_refusal (rule_refusal entries rule)
rule_refusal-blind entries rule = ap (first_point_refusal entries []) (points-blind entries [] [] rule.formula) ∙ first-blind entries [] (points entries [] [] rule.formula)

-- the rule
pub rule-blind : (entries : List NameEntry) (rule : syntax.PolicyRule) → rule_in entries (bare_rule rule) ≡ option_map bare_resolved (rule_in entries rule)
rule-blind entries rule =
    ap (option_map (rule_with (bare_rule rule))) (formula-blind entries [] [] rule.formula)
    ∙ by (formula_in entries [] [] rule.formula)
  where
    by : (f : Option tree.Formula) → option_map (rule_with (bare_rule rule)) (option_map bare_tree f) ≡ option_map bare_resolved (option_map (rule_with rule) f)
    by None = refl
    by (Some f) = ap (λ (ns : List (List ℕ)). let r : Rule = record { name = rule.name; formula = bare_tree f; vars = ns; place = 0 } in Some r) (bound-blind rule.formula)
