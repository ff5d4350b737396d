-- The sorts of variables, and the refusals of the second pass, in the order of the text.
use Rattle.enf_data.specs.declared.terms.Term.{Term}
use Rattle.enf_data.specs.declared.terms.Term.TheVariants.{Var, Const}
use Rattle.enf_data.specs.declared.terms.VarId.{VarId}
use Rattle.std.specs.Option.{option_or}
use Rattle.std.specs.Prelude.{Option, None, Some, ◌==◌, if◌then◌else◌, List, [], ◌∷◌, ℕ, length, ◌≡◌}
use Rattle.signature.specs.declared.entries.NameEntry.{NameEntry}
use Rattle.signature.specs.declared.entries.Sort.{Sort}
use Rattle.signature.specs.declared.entries.Sort.TheVariants.{Int, Text}
use Rattle.signature.specs.meaning.Columns.{value_sort}
use Rattle.policy_syntax.specs.meaning.Trees.{PolicyRule}
use Rattle.formula_reader.specs.declared.policies.PolicyRefusal.{PolicyRefusal}
use Rattle.formula_reader.specs.declared.policies.PolicyRefusal.TheVariants.{UnknownName, Arity, Rebound, SortClash}
use Rattle.formula_reader.specs.declared.policies.PolicyRefusal.TheVariants.{FreeVariable}
use Rattle.formula_reader.specs.meaning.Resolution.{Wanted, NoSortWanted, ThisSort, SortOf, Point, EventName, Binder}
use Rattle.formula_reader.specs.meaning.Resolution.{Use, entry_named, points, Rule, rules_in}
use Rattle.policy_syntax.specs.meaning.Grammar.{IsPolicyText}

-- the sort of a term, where those of variables are known or not
abbrev pub sort_of_term : (VarId → Option Sort) → Option Term → Option Sort
sort_of_term known None = None
sort_of_term known (Some (Var x)) = known x
sort_of_term known (Some (Const value)) = Some (value_sort value)

-- the sort that is wanted, where it is known
abbrev pub wanted_sort : (VarId → Option Sort) → Wanted → Option Sort
wanted_sort known NoSortWanted = None
wanted_sort known (ThisSort sort) = Some sort
wanted_sort known (SortOf term) = sort_of_term known term

-- the sort, where the term is the variable
abbrev pub for_variable : VarId → Option Term → Option Sort → Option Sort
for_variable x (Some (Var y)) sort = if y.0 == x.0 then sort else None
for_variable x term sort = None

-- the sort that a point gives to a variable. A term of which a sort is wanted gets it, and in `=` each side the
-- other's.
abbrev pub sort_given : (VarId → Option Sort) → VarId → Point → Option Sort
sort_given known x (Use place term (ThisSort sort)) = for_variable x term (Some sort)
sort_given known x (Use place term (SortOf other)) =
    option_or (for_variable x term (sort_of_term known other)) (for_variable x other (sort_of_term known term))
sort_given known x point = None

-- the sort of a variable after points, the latest of which stands first: the one that the first point of the text
-- that gave it a sort gave
abbrev pub known_after : List Point → VarId → Option Sort
known_after [] x = None
known_after (point ∷ before) x = option_or (known_after before x) (sort_given (known_after before) x point)

-- the refusal of an event name that the signature lacks, or that has another number of columns
abbrev pub event_name_refusal : ℕ → ℕ → Option NameEntry → Option PolicyRefusal
event_name_refusal place terms None = Some (UnknownName place)
event_name_refusal place terms (Some entry) = if length entry.sorts == terms then None else Some (Arity place)

-- the refusal of a variable of a quantifier that is already in scope
abbrev pub binder_refusal : ℕ → Option VarId → Option PolicyRefusal
binder_refusal place None = None
binder_refusal place (Some x) = Some (Rebound place)

-- the refusal of a sort that is not the one wanted
abbrev pub sort_clash : ℕ → Option Sort → Option Sort → Option PolicyRefusal
sort_clash place (Some Int) (Some Text) = Some (SortClash place)
sort_clash place (Some Text) (Some Int) = Some (SortClash place)
sort_clash place sort wanted = None

-- the refusal that stands at a point, where the sorts of variables are known or not
abbrev pub point_refusal : List NameEntry → (VarId → Option Sort) → Point → Option PolicyRefusal
point_refusal entries known (EventName place name terms) = event_name_refusal place terms (entry_named entries name)
point_refusal entries known (Binder place taken) = binder_refusal place taken
point_refusal entries known (Use place None wanted) = Some (FreeVariable place)
point_refusal entries known (Use place (Some term) wanted) =
    sort_clash place (sort_of_term known (Some term)) (wanted_sort known wanted)

-- the first refusal of points, which come after others, of which the latest stands first
abbrev pub first_point_refusal : List NameEntry → (before : List Point) → List Point → Option PolicyRefusal
first_point_refusal entries before [] = None
first_point_refusal entries before (point ∷ rest) =
    option_or (point_refusal entries (known_after before) point) (first_point_refusal entries (point ∷ before) rest)

-- the first refusal of a rule
abbrev pub rule_refusal : List NameEntry → PolicyRule → Option PolicyRefusal
rule_refusal entries rule = first_point_refusal entries [] (points entries [] [] rule.formula)

-- the first refusal of rules
abbrev pub policy_refusal : List NameEntry → List PolicyRule → Option PolicyRefusal
policy_refusal entries [] = None
policy_refusal entries (rule ∷ rules) = option_or (rule_refusal entries rule) (policy_refusal entries rules)

-- the text is a policy of syntax trees; no refusal of the second pass stands in them, and under the signature they are
-- these rules
pub record SpellsRules (entries : List NameEntry) (bytes : List ℕ) (rules : List Rule) : Type 0 where
  pub trees : List PolicyRule
  pub text : IsPolicyText bytes trees
  pub unrefused : policy_refusal entries trees ≡ None
  pub resolved : rules_in entries trees ≡ Some rules
