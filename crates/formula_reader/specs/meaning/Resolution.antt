-- A policy under a signature: names and variables as numbers, and what the second pass looks at.
use Rattle.enf_data.specs.declared.events.NameId.{NameId}
use Rattle.enf_data.specs.declared.terms.Term.{Term}
use Rattle.enf_data.specs.declared.terms.Term.TheVariants.{Var, Const}
use Rattle.enf_data.specs.declared.terms.VarId.{VarId}
use Rattle.std.specs.List.{find}
use Rattle.std.specs.Option.{unwrap_or, option_map, option_and_then}
use Rattle.std.specs.Prelude.{ℕ, List, [], slice_get, Bool, false, Option, None, Some, ◌+◌, ◌∷◌, map, ◌++◌, length}
use Rattle.std.specs.Str.{bytes_eq}
use Rattle.signature.specs.declared.entries.NameEntry.{NameEntry}
use Rattle.signature.specs.meaning.Grammar.{name_number}
use Rattle.policy_syntax.specs.declared.trees.Binding.{Binding}
use Rattle.policy_syntax.specs.declared.trees.SyntaxTerm.{SyntaxTerm}
use Rattle.policy_syntax.specs.declared.trees.SyntaxTerm.TheVariants.{Variable, Constant}
use Rattle.policy_syntax.specs.meaning.Trees.{SyntaxTree, TrueTree, FalseTree, AtomTree, EqualTree, LessTree}
use Rattle.policy_syntax.specs.meaning.Trees.{AtMostTree, NotTree, AndTree, OrTree, ImpliesTree, ExistsTree, ForallTree}
use Rattle.policy_syntax.specs.meaning.Trees.{PrevTree, NextTree, OnceTree, HistoricallyTree, SinceTree, EventuallyTree}
use Rattle.policy_syntax.specs.meaning.Trees.{AlwaysTree, UntilTree}
use Rattle.signature.specs.declared.entries.Sort.{Sort}
use Rattle.signature.specs.declared.entries.Sort.TheVariants.{Int}
use Rattle.signature.specs.meaning.Columns.{entry_columns}
use Rattle.enf_formula.specs.meaning.Satisfaction as tree
use Rattle.policy_syntax.specs.meaning.Trees as syntax

-- the name of a variable; nothing, where it has none
abbrev pub variable_text : (vars : List (List ℕ)) → VarId → List ℕ
variable_text vars x = unwrap_or (slice_get vars x.0) []

-- whether the name of a variable is this one
abbrev pub is_named : List ℕ → Option (List ℕ) → Bool
is_named name None = false
is_named name (Some other) = bytes_eq other name

-- the variable in scope with a name; `names` has the name of each variable that the rule has bound so far, at the
-- variable's number
abbrev pub variable_named : (names : List (List ℕ)) → (scope : List VarId) → List ℕ → Option VarId
variable_named names scope name = find (λ x. is_named name (slice_get names x.0)) scope

-- what a term stands for: a constant, or a variable in scope
abbrev pub term_in : (names : List (List ℕ)) → (scope : List VarId) → SyntaxTerm → Option Term
term_in names scope (Variable place name) = option_map Var (variable_named names scope name)
term_in names scope (Constant place value) = Some (Const value)

-- the number of a variable
abbrev pub variable_numbered : ℕ → VarId
variable_numbered number = record { 0 = number }

-- the numbers of variables that are bound in turn, from a number on
abbrev pub bound_variables_from : ℕ → List Binding → List VarId
bound_variables_from next [] = []
bound_variables_from next (x ∷ xs) = variable_numbered next ∷ bound_variables_from (next + 1) xs

-- the names of variables
abbrev pub binding_names : List Binding → List (List ℕ)
binding_names xs = map (λ x. x.name) xs

-- the names of the variables that a formula binds, in the order of the text
abbrev pub bound_names : SyntaxTree → List (List ℕ)
bound_names (NotTree place f) = bound_names f
bound_names (AndTree place f g) = bound_names f ++ bound_names g
bound_names (OrTree place f g) = bound_names f ++ bound_names g
bound_names (ImpliesTree place f g) = bound_names f ++ bound_names g
bound_names (ExistsTree place xs f) = binding_names xs ++ bound_names f
bound_names (ForallTree place xs f) = binding_names xs ++ bound_names f
bound_names (PrevTree place interval f) = bound_names f
bound_names (NextTree place interval f) = bound_names f
bound_names (OnceTree place interval f) = bound_names f
bound_names (HistoricallyTree place interval f) = bound_names f
bound_names (SinceTree place interval f g) = bound_names f ++ bound_names g
bound_names (EventuallyTree place interval f) = bound_names f
bound_names (AlwaysTree place interval f) = bound_names f
bound_names (UntilTree place interval f g) = bound_names f ++ bound_names g
bound_names f = []

-- the value of a function at two values, where both are there
abbrev pub with_both : {A B C : Type 0} → (A → B → C) → Option A → Option B → Option C
with_both f (Some a) (Some b) = Some (f a b)
with_both f a b = None

-- the list of all values, where all are there
abbrev pub with_all : {A : Type 0} → List (Option A) → Option (List A)
with_all [] = Some []
with_all (first ∷ rest) = with_both ◌∷◌ first (with_all rest)

-- the number of a name
abbrev pub name_in : List NameEntry → List ℕ → Option NameId
name_in entries name = option_map (λ number. record { 0 = number }) (name_number entries name)

-- what terms stand for
abbrev pub terms_in : (names : List (List ℕ)) → (scope : List VarId) → List SyntaxTerm → Option (List Term)
terms_in names scope terms = with_all (map (term_in names scope) terms)

-- a formula under a signature, where the rule has bound variables with these names before it and those in scope are
-- these; none where a name is not in the signature or a variable not in scope
abbrev pub formula_in : List NameEntry → (names : List (List ℕ)) → (scope : List VarId)
    → SyntaxTree → Option tree.Formula
formula_in entries names scope (TrueTree place) = Some (tree.True place)
formula_in entries names scope (FalseTree place) = Some (tree.False place)
formula_in entries names scope (AtomTree place name terms) =
    with_both (tree.Atom place) (name_in entries name) (terms_in names scope terms)
formula_in entries names scope (EqualTree place s t) =
    with_both (tree.Equal place) (term_in names scope s) (term_in names scope t)
formula_in entries names scope (LessTree place s t) =
    with_both (tree.Less place) (term_in names scope s) (term_in names scope t)
formula_in entries names scope (AtMostTree place s t) =
    with_both (tree.AtMost place) (term_in names scope s) (term_in names scope t)
formula_in entries names scope (NotTree place f) = option_map (tree.Not place) (formula_in entries names scope f)
formula_in entries names scope (AndTree place f g) =
    with_both (tree.And place) (formula_in entries names scope f) (formula_in entries (names ++ bound_names f) scope g)
formula_in entries names scope (OrTree place f g) =
    with_both (tree.Or place) (formula_in entries names scope f) (formula_in entries (names ++ bound_names f) scope g)
formula_in entries names scope (ImpliesTree place f g) =
    with_both (tree.Implies place) (formula_in entries names scope f)
    (formula_in entries (names ++ bound_names f) scope g)
formula_in entries names scope (ExistsTree place xs f) =
    option_map (tree.Exists place (bound_variables_from (length names) xs))
    (formula_in entries (names ++ binding_names xs) (scope ++ bound_variables_from (length names) xs) f)
formula_in entries names scope (ForallTree place xs f) =
    option_map (tree.Forall place (bound_variables_from (length names) xs))
    (formula_in entries (names ++ binding_names xs) (scope ++ bound_variables_from (length names) xs) f)
formula_in entries names scope (PrevTree place interval f) =
    option_map (tree.Prev place interval) (formula_in entries names scope f)
formula_in entries names scope (NextTree place interval f) =
    option_map (tree.Next place interval) (formula_in entries names scope f)
formula_in entries names scope (OnceTree place interval f) =
    option_map (tree.Once place interval) (formula_in entries names scope f)
formula_in entries names scope (HistoricallyTree place interval f) =
    option_map (tree.Historically place interval) (formula_in entries names scope f)
formula_in entries names scope (SinceTree place interval f g) =
    with_both (tree.Since place interval) (formula_in entries names scope f)
    (formula_in entries (names ++ bound_names f) scope g)
formula_in entries names scope (EventuallyTree place interval f) =
    option_map (tree.Eventually place interval) (formula_in entries names scope f)
formula_in entries names scope (AlwaysTree place interval f) =
    option_map (tree.Always place interval) (formula_in entries names scope f)
formula_in entries names scope (UntilTree place interval f g) =
    with_both (tree.Until place interval) (formula_in entries names scope f)
    (formula_in entries (names ++ bound_names f) scope g)

-- a rule: its name, its formula, the name of each variable at the variable's number, and its place
pub record Rule : Type 0 where
  pub name : List ℕ
  pub formula : tree.Formula
  pub vars : List (List ℕ)
  pub place : ℕ

-- the rule with a formula
abbrev pub rule_with : syntax.PolicyRule → tree.Formula → Rule
rule_with rule formula =
    record { name = rule.name; formula = formula; vars = bound_names rule.formula; place = rule.place }

-- a rule under a signature; the variables of each rule are numbered anew
abbrev pub rule_in : List NameEntry → syntax.PolicyRule → Option Rule
rule_in entries rule = option_map (rule_with rule) (formula_in entries [] [] rule.formula)

-- the rules of a policy under a signature
abbrev pub rules_in : List NameEntry → List syntax.PolicyRule → Option (List Rule)
rules_in entries rules = with_all (map (rule_in entries) rules)

-- ---- What the second pass looks at, in the order of the text: event names, bound variables, and terms.

-- what is wanted of a term: nothing, a sort, or the sort of another term
pub data Wanted : Type 0 where
  NoSortWanted : Wanted
  ThisSort : Sort → Wanted
  SortOf : Option Term → Wanted

-- a place of a rule that the second pass looks at: an event name with so many terms; a variable of a quantifier, with
-- the variable of that name in scope, if there is one; a term, as what it stands for, which is nothing where it is a
-- variable that is not in scope
pub data Point : Type 0 where
  EventName : (place : ℕ) → (name : List ℕ) → (terms : ℕ) → Point
  Binder : (place : ℕ) → Option VarId → Point
  Use : (place : ℕ) → Option Term → Wanted → Point

-- the place of a term
abbrev pub syntax_term_place : SyntaxTerm → ℕ
syntax_term_place (Variable place name) = place
syntax_term_place (Constant place value) = place

-- the entry of a name
abbrev pub entry_named : List NameEntry → List ℕ → Option NameEntry
entry_named entries name = option_and_then (slice_get entries) (name_number entries name)

-- a term of which something is wanted
abbrev pub use_of : (names : List (List ℕ)) → (scope : List VarId) → SyntaxTerm → Wanted → Point
use_of names scope term wanted = Use (syntax_term_place term) (term_in names scope term) wanted

-- each argument wants the sort of its column
abbrev pub argument_points : (names : List (List ℕ)) → (scope : List VarId) → List Sort → List SyntaxTerm → List Point
argument_points names scope sorts [] = []
argument_points names scope [] (term ∷ terms) =
    use_of names scope term NoSortWanted ∷ argument_points names scope [] terms
argument_points names scope (sort ∷ sorts) (term ∷ terms) =
    use_of names scope term (ThisSort sort) ∷ argument_points names scope sorts terms

-- the variables of a quantifier are bound in turn, and each is in scope from then on
abbrev pub binder_points : (names : List (List ℕ)) → (scope : List VarId) → List Binding → List Point
binder_points names scope [] = []
binder_points names scope (x ∷ xs) =
    Binder x.place (variable_named names scope x.name) ∷ binder_points (names ++ x.name ∷ [])
    (scope ++ variable_numbered (length names) ∷ []) xs

-- the points of a formula, where the rule has bound variables with these names before it and those in scope are these
abbrev pub points : List NameEntry → (names : List (List ℕ)) → (scope : List VarId) → SyntaxTree → List Point
points entries names scope (AtomTree place name terms) =
    EventName place name (length terms) ∷ argument_points names scope (entry_columns (entry_named entries name)) terms
points entries names scope (EqualTree place s t) =
    use_of names scope s NoSortWanted ∷ use_of names scope t (SortOf (term_in names scope s)) ∷ []
points entries names scope (LessTree place s t) = use_of names scope s (ThisSort Int) ∷ use_of names scope t
    (ThisSort Int) ∷ []
points entries names scope (AtMostTree place s t) =
    use_of names scope s (ThisSort Int) ∷ use_of names scope t (ThisSort Int) ∷ []
points entries names scope (NotTree place f) = points entries names scope f
points entries names scope (AndTree place f g) =
    points entries names scope f ++ points entries (names ++ bound_names f) scope g
points entries names scope (OrTree place f g) =
    points entries names scope f ++ points entries (names ++ bound_names f) scope g
points entries names scope (ImpliesTree place f g) =
    points entries names scope f ++ points entries (names ++ bound_names f) scope g
points entries names scope (ExistsTree place xs f) =
    binder_points names scope xs ++ points entries (names ++ binding_names xs)
    (scope ++ bound_variables_from (length names) xs) f
points entries names scope (ForallTree place xs f) =
    binder_points names scope xs ++ points entries (names ++ binding_names xs)
    (scope ++ bound_variables_from (length names) xs) f
points entries names scope (PrevTree place interval f) = points entries names scope f
points entries names scope (NextTree place interval f) = points entries names scope f
points entries names scope (OnceTree place interval f) = points entries names scope f
points entries names scope (HistoricallyTree place interval f) = points entries names scope f
points entries names scope (SinceTree place interval f g) =
    points entries names scope f ++ points entries (names ++ bound_names f) scope g
points entries names scope (EventuallyTree place interval f) = points entries names scope f
points entries names scope (AlwaysTree place interval f) = points entries names scope f
points entries names scope (UntilTree place interval f g) =
    points entries names scope f ++ points entries (names ++ bound_names f) scope g
points entries names scope f = []
