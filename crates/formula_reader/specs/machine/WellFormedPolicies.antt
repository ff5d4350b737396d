-- What a policy that was read is: the rules of policies under a signature.
use Rattle.enf_data.specs.declared.events.NameId.{NameId}
use Rattle.enf_data.specs.declared.limits.TheConstants.{MOST_NAME_BYTES}
use Rattle.enf_data.specs.meaning.Membership.{HasNoRepeats}
use Rattle.std.specs.List.{AllByRecursion}
use Rattle.std.specs.Option.{option_map}
use Rattle.std.specs.Prelude.{ℕ, List, Option, length, slice_get, ◌≡◌, ◌+◌, ◌≤◌, Some, IsTrue, []}
use Rattle.std.specs.Prelude.{map}
use Rattle.enf_value.specs.meaning.Tokens.{is_name}
use Rattle.enf_formula.specs.machine.Variables.{IsClosed, bound_variables, numbered_variables, IsScopedFormula}
use Rattle.enf_formula.specs.machine.FormulaShape.{BindsFresh, formula_size}
use Rattle.enf_formula.specs.meaning.Satisfaction.{Formula, True, False, Atom, Equal, Less, AtMost, Not, And, Or}
use Rattle.enf_formula.specs.meaning.Satisfaction.{Implies, Exists, Forall, Prev, Next, Once, Historically, Since}
use Rattle.enf_formula.specs.meaning.Satisfaction.{Eventually, Always, Until}
use Rattle.signature.specs.declared.entries.NameEntry.{NameEntry}
use Rattle.policy_syntax.specs.declared.limits.TheConstants.{MOST_VARIABLES, MOST_NODES, MOST_RULES}
use Rattle.policy_syntax.specs.meaning.Trees.{IsBounded}
use Rattle.formula_reader.specs.meaning.Resolution.{Rule}

-- how many columns the name with a number has
abbrev pub arity_of : List NameEntry → NameId → Option ℕ
arity_of entries name = option_map (λ (entry : NameEntry). length entry.sorts) (slice_get entries name.0)

-- a formula where so many variables are in scope: each event name is one of the signature, with as many terms as it has
-- columns; scopes are within their limit; so are intervals, and their first end is at most the second
abbrev pub IsPolicyFormula : List NameEntry → (scope : ℕ) → Formula → Type 0
IsPolicyFormula entries scope (True place) = Unit {0}
IsPolicyFormula entries scope (False place) = Unit {0}
IsPolicyFormula entries scope (Atom place name terms) = arity_of entries name ≡ Some (length terms)
IsPolicyFormula entries scope (Equal place s t) = Unit {0}
IsPolicyFormula entries scope (Less place s t) = Unit {0}
IsPolicyFormula entries scope (AtMost place s t) = Unit {0}
IsPolicyFormula entries scope (Not place f) = IsPolicyFormula entries scope f
IsPolicyFormula entries scope (And place f g) = IsPolicyFormula entries scope f × IsPolicyFormula entries scope g
IsPolicyFormula entries scope (Or place f g) = IsPolicyFormula entries scope f × IsPolicyFormula entries scope g
IsPolicyFormula entries scope (Implies place f g) = IsPolicyFormula entries scope f × IsPolicyFormula entries scope g
IsPolicyFormula entries scope (Exists place xs f) = (scope + length xs ≤ MOST_VARIABLES)
    × IsPolicyFormula entries (scope + length xs) f
IsPolicyFormula entries scope (Forall place xs f) = (scope + length xs ≤ MOST_VARIABLES)
    × IsPolicyFormula entries (scope + length xs) f
IsPolicyFormula entries scope (Prev place interval f) = IsBounded interval × IsPolicyFormula entries scope f
IsPolicyFormula entries scope (Next place interval f) = IsBounded interval × IsPolicyFormula entries scope f
IsPolicyFormula entries scope (Once place interval f) = IsBounded interval × IsPolicyFormula entries scope f
IsPolicyFormula entries scope (Historically place interval f) = IsBounded interval × IsPolicyFormula entries scope f
IsPolicyFormula entries scope (Since place interval f g) = IsBounded interval × IsPolicyFormula entries scope f
    × IsPolicyFormula entries scope g
IsPolicyFormula entries scope (Eventually place interval f) = IsBounded interval × IsPolicyFormula entries scope f
IsPolicyFormula entries scope (Always place interval f) = IsBounded interval × IsPolicyFormula entries scope f
IsPolicyFormula entries scope (Until place interval f g) = IsBounded interval × IsPolicyFormula entries scope f
    × IsPolicyFormula entries scope g

-- the name of a rule or of a variable
abbrev pub IsName : List ℕ → Type 0
IsName name = IsTrue (is_name name) × (length name ≤ MOST_NAME_BYTES)

-- a rule: each variable is in scope where it stands, and each quantifier binds new ones, so that the rule is closed and
-- no variable is bound where it is in scope; variables are numbered in the order of their binding, and the name of each
-- stands at its number
pub record IsWellFormedRule (entries : List NameEntry) (rule : Rule) : Type 0 where
  pub name : IsName rule.name
  pub formula : IsPolicyFormula entries 0 rule.formula
  pub scoped : IsScopedFormula rule.formula []
  pub closed : IsClosed rule.formula
  pub fresh : BindsFresh rule.formula (λ x. ⊥)
  pub numbered : bound_variables rule.formula ≡ numbered_variables 0 (length rule.vars)
  pub vars : AllByRecursion IsName rule.vars
  pub small : formula_size rule.formula ≤ MOST_NODES

-- a policy: each rule's name once
pub record IsWellFormedPolicy (entries : List NameEntry) (rules : List Rule) : Type 0 where
  pub few : length rules ≤ MOST_RULES
  pub each : AllByRecursion (IsWellFormedRule entries) rules
  pub distinct : HasNoRepeats (map (λ (rule : Rule). rule.name) rules)
