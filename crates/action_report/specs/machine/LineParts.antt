-- What is read of a line, part by part.
use Rattle.enf_data.specs.declared.terms.VarId.{VarId}
use Rattle.enf_data.specs.declared.values.Value.{Value}
use Rattle.enf_data.specs.meaning.Membership.{HasNoRepeats}
use Rattle.enf_data.specs.meaning.Valuations.{variable_cmp, Valuation}
use Rattle.enf_data.specs.meaning.Values.{IsValue}
use Rattle.std.specs.List.{AllByRecursion, flat_map}
use Rattle.std.specs.List.Sorted.{IsStrictlySortedBy}
use Rattle.std.specs.Prelude.{◌≡◌, ℕ, List, Some, IsTrue, map, slice_get, ◌++◌, Bool, true, false, []}
use Rattle.std.specs.Prelude.{◌∷◌, Option}
use Rattle.enf_value.specs.meaning.Tokens.{is_word, is_word_byte, spelled}
use Rattle.signature.specs.declared.entries.Sort.{Sort}
use Rattle.signature.specs.meaning.Columns.{has_sort}
use Rattle.formula_reader.specs.meaning.Resolution.{Rule}
use Rattle.plan_terms.specs.meaning.Plans.{Plan}
use Rattle.obligations.specs.declared.actions.Action.{Action}
use Rattle.log_stream.specs.machine.StepLimits.{FitColumns}
use Rattle.action_report.specs.declared.reading.Cause.{Cause}
use Rattle.action_report.specs.machine.ReportedActions.{BindsJust, StandIn}

-- a rule of the policy, which no other has the name of
pub record IsRuleNamedOnce (rules : List Rule) (number : ℕ) (rule : Rule) : Type 0 where
  pub found : slice_get rules number ≡ Some rule
  pub word : IsTrue (is_word rule.name)
  pub distinct : HasNoRepeats (map (λ other. other.name) rules)

abbrev pub cause_of_action : Action → Cause
cause_of_action action = record { rule = action.rule; node = action.node; leaf = action.leaf; origin = action.origin }

-- the variables that are bound rise, and those that are to be bound rise after them
abbrev pub IsRising : List (VarId × Value) → (scope : List VarId) → Type 0
IsRising values scope = IsStrictlySortedBy variable_cmp (map (λ binding. binding.0) values ++ scope)

-- where all were there, each of these variables is bound, after those that were bound before
abbrev pub AddsBindings : (scope : List VarId) → (before after : List (VarId × Value)) → (all : Bool) → Type 0
AddsBindings scope before after false = Unit {0}
AddsBindings scope before after true =
    (values : List (VarId × Value)) × (map (λ binding. binding.0) values ≡ scope)
    × AllByRecursion (λ binding. IsValue binding.1) values × (after ≡ before ++ values)

-- the valuation binds just the variables in scope at the node
abbrev pub TellsBindings : List Plan → Cause → Valuation → Type 0
TellsBindings plans cause v =
    (scope : List VarId) × StandIn plans cause.rule cause.node cause.leaf scope × BindsJust scope v

-- the bytes after a word do not go on with it
abbrev pub EndsWord : List ℕ → Type 0
EndsWord [] = Unit {0}
EndsWord (byte ∷ rest) = is_word_byte byte ≡ false

-- this field was read, and this is left after it
abbrev pub IsFieldRead : {A : Type 0} → Option A → (left : List ℕ) → A → (rest : List ℕ) → Type 0
IsFieldRead result left read rest = (result ≡ Some read) × (left ≡ rest)

-- a value of the program for a column
abbrev pub IsColumnValue : Sort → Value → Type 0
IsColumnValue sort value = IsTrue (has_sort sort value) × IsValue value

-- values, the first of them after these bytes and the others after commas
abbrev pub marked_values : (mark : List ℕ) → List Value → List ℕ
marked_values mark [] = []
marked_values mark (value ∷ values) = mark ++ (spelled value ++ flat_map (λ next. 44 ∷ spelled next) values)

-- where all were there, the row has one more value for each column
abbrev pub AddsFitting : List Sort → (before after : List Value) → (all : Bool) → Type 0
AddsFitting sorts before after false = Unit {0}
AddsFitting sorts before after true = (args : List Value) × FitColumns sorts args × (after ≡ before ++ args)
