-- How the reader passes points: with the sorts of the variables so far, at their numbers.
use Rattle.enf_data.specs.declared.terms.Term.{Term}
use Rattle.enf_data.specs.declared.terms.Term.TheVariants.{Var}
use Rattle.enf_data.specs.declared.terms.VarId.{VarId}
use Rattle.std.specs.Prelude.{List, Option, None, slice_index_or, ℕ, Some, slice_set, [], ◌∷◌, ◌++◌, Result}
use Rattle.std.specs.Prelude.{Err, Ok, ◌≡◌, ◌≢◌, length}
use Rattle.signature.specs.declared.entries.NameEntry.{NameEntry}
use Rattle.signature.specs.declared.entries.Sort.{Sort}
use Rattle.signature.specs.declared.entries.Sort.TheVariants.{Int}
use Rattle.signature.specs.meaning.Columns.{entry_columns}
use Rattle.policy_syntax.specs.declared.trees.Binding.{Binding}
use Rattle.policy_syntax.specs.declared.trees.SyntaxTerm.{SyntaxTerm}
use Rattle.policy_syntax.specs.meaning.Trees.{SyntaxTree}
use Rattle.formula_reader.specs.declared.policies.PolicyRefusal.{PolicyRefusal}
use Rattle.formula_reader.specs.declared.policies.PolicyRefusal.TheVariants.{NoMemory}
use Rattle.formula_reader.specs.declared.variables.Variables.{Variables}
use Rattle.formula_reader.specs.meaning.Resolution.{NoSortWanted, ThisSort, SortOf, Point, EventName, Binder, Use}
use Rattle.formula_reader.specs.meaning.Resolution.{Wanted, use_of, argument_points, binder_points, points, entry_named}
use Rattle.formula_reader.specs.meaning.Resolution.{variable_named, term_in, terms_in, formula_in, binding_names}
use Rattle.formula_reader.specs.meaning.Resolution.{bound_variables_from, bound_names, with_both}
use Rattle.formula_reader.specs.meaning.SortRefusals.{sort_of_term, point_refusal}
use Rattle.enf_formula.specs.meaning.Satisfaction as tree

-- the sort of each variable that was bound so far, where it is known
abbrev pub VariableSorts : Type 0
VariableSorts = List (Option Sort)

-- the sort of a variable
abbrev pub known_in : VariableSorts → VarId → Option Sort
known_in sorts x = slice_index_or sorts x.0 None

-- a variable without a sort gets this one
abbrev pub fill : VariableSorts → ℕ → Option Sort → Sort → VariableSorts
fill sorts number None sort = slice_set sorts number (Some sort)
fill sorts number (Some known) sort = sorts

-- the sorts, where a term gets a sort
abbrev pub with_sort : VariableSorts → Option Term → Option Sort → VariableSorts
with_sort sorts (Some (Var x)) (Some sort) = fill sorts x.0 (known_in sorts x) sort
with_sort sorts term sort = sorts

-- the sorts after a point
abbrev pub sorts_behind : VariableSorts → Point → VariableSorts
sorts_behind sorts (EventName place name terms) = sorts
sorts_behind sorts (Binder place taken) = sorts ++ None ∷ []
sorts_behind sorts (Use place term NoSortWanted) = sorts
sorts_behind sorts (Use place term (ThisSort sort)) = with_sort sorts term (Some sort)
sorts_behind sorts (Use place term (SortOf other)) =
    with_sort (with_sort sorts term (sort_of_term (known_in sorts) other)) other (sort_of_term (known_in sorts) term)

-- the refusal, or else what comes of the rest
abbrev pub passed_on : Option PolicyRefusal → Result VariableSorts PolicyRefusal
    → Result VariableSorts PolicyRefusal
passed_on None rest = rest
passed_on (Some refusal) rest = Err refusal

-- the sorts after points, or the first refusal
abbrev pub pass : List NameEntry → VariableSorts → List Point → Result VariableSorts PolicyRefusal
pass entries sorts [] = Ok sorts
pass entries sorts (point ∷ rest) =
    passed_on (point_refusal entries (known_in sorts) point) (pass entries (sorts_behind sorts point) rest)

-- no variables
pub record IsFreshVariables (variables : Variables) : Type 0 where
  pub names : variables.names.items ≡ []
  pub sorts : variables.sorts.items ≡ []
  pub scope : variables.scope.items ≡ []

-- a call answers the refusal, unless there was no memory
pub record IsRefusedPass (refusal : PolicyRefusal) (passed : Result VariableSorts PolicyRefusal) : Type 0 where
  pub else : refusal ≢ NoMemory → passed ≡ Err refusal

-- the variable in scope with a name
abbrev pub variable_with : Variables → List ℕ → Option VarId
variable_with old name = variable_named old.names.items old.scope.items name

-- what a term stands for
abbrev pub term_with : Variables → SyntaxTerm → Option Term
term_with old term = term_in old.names.items old.scope.items term

-- what terms stand for
abbrev pub terms_with : Variables → List SyntaxTerm → Option (List Term)
terms_with old terms = terms_in old.names.items old.scope.items terms

-- a formula under a signature
abbrev pub formula_with : List NameEntry → Variables → SyntaxTree → Option tree.Formula
formula_with entries old f = formula_in entries old.names.items old.scope.items f

-- a term of which something is wanted
abbrev pub use_with : Variables → SyntaxTerm → Wanted → Point
use_with old term wanted = use_of old.names.items old.scope.items term wanted

-- the points of arguments
abbrev pub arguments_with : Variables → List Sort → List SyntaxTerm → List Point
arguments_with old sorts terms = argument_points old.names.items old.scope.items sorts terms

-- the points of variables that are bound
abbrev pub binders_with : Variables → List Binding → List Point
binders_with old xs = binder_points old.names.items old.scope.items xs

-- the points of a formula
abbrev pub points_with : List NameEntry → Variables → SyntaxTree → List Point
points_with entries old f = points entries old.names.items old.scope.items f

-- the sorts after points, or the first refusal
abbrev pub pass_with : List NameEntry → Variables → List Point → Result VariableSorts PolicyRefusal
pass_with entries old passed = pass entries old.sorts.items passed

-- a call passed points, after which the rule has bound more variables, of these names; those in scope are as they
-- were
pub record PassesPoints (entries : List NameEntry) (old new : Variables) (passed : List Point)
    (bound : List (List ℕ)) :
    Type 0 where
  pub sorts : pass_with entries old passed ≡ Ok new.sorts.items
  pub names : new.names.items ≡ old.names.items ++ bound
  pub scope : new.scope.items ≡ old.scope.items

-- a call bound variables in turn, which are in scope from then on
pub record BindsQuantified (entries : List NameEntry) (old new : Variables) (xs : List Binding) : Type 0 where
  pub sorts : pass_with entries old (binders_with old xs) ≡ Ok new.sorts.items
  pub names : new.names.items ≡ old.names.items ++ binding_names xs
  pub scope : new.scope.items ≡ old.scope.items ++ bound_variables_from (length old.names.items) xs

-- the points of two formulas in turn
abbrev pub points_of_both : List NameEntry → Variables → SyntaxTree → SyntaxTree → List Point
points_of_both entries old f g =
    points_with entries old f ++ points entries (old.names.items ++ bound_names f) old.scope.items g

-- the points of variables that are bound, and of the formula in which they are in scope
abbrev pub points_of_bound : List NameEntry → Variables → List Binding → SyntaxTree → List Point
points_of_bound entries old xs f =
    binders_with old xs
    ++ points entries (old.names.items ++ binding_names xs)
    (old.scope.items ++ bound_variables_from (length old.names.items) xs) f

-- two formulas in turn, under a signature
abbrev pub both_in : List NameEntry → Variables → SyntaxTree → SyntaxTree
    → Option (tree.Formula × tree.Formula)
both_in entries old f g =
    with_both (λ a b. (a, b)) (formula_with entries old f)
    (formula_in entries (old.names.items ++ bound_names f) old.scope.items g)

-- the points of the sides of `<` or `<=`
abbrev pub points_of_ordered : Variables → SyntaxTerm → SyntaxTerm → List Point
points_of_ordered old s t = use_with old s (ThisSort Int) ∷ use_with old t (ThisSort Int) ∷ []

-- the points of the sides of `=`
abbrev pub points_of_equal : Variables → SyntaxTerm → SyntaxTerm → List Point
points_of_equal old s t = use_with old s NoSortWanted ∷ use_with old t (SortOf (term_with old s)) ∷ []

-- the points of an event name with its terms
abbrev pub points_of_atom : List NameEntry → Variables → ℕ → List ℕ → List SyntaxTerm → List Point
points_of_atom entries old place name terms =
    EventName place name (length terms) ∷ arguments_with old (entry_columns (entry_named entries name)) terms

-- the formula of a quantifier, under a signature
abbrev pub body_in : List NameEntry → Variables → List Binding → SyntaxTree → Option tree.Formula
body_in entries old xs f =
    formula_in entries (old.names.items ++ binding_names xs)
    (old.scope.items ++ bound_variables_from (length old.names.items) xs) f
