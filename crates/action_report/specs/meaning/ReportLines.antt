-- The report line of an action.
use Rattle.enf_data.specs.declared.terms.VarId.{VarId}
use Rattle.enf_data.specs.declared.values.Value.{Value}
use Rattle.enf_data.specs.meaning.Valuations.{bindings}
use Rattle.std.specs.List.{flat_map}
use Rattle.std.specs.Prelude.{ℕ, List, codes, ◌++◌, decimal, [], Option, None, Some, slice_get}
use Rattle.enf_value.specs.meaning.Tokens.{spelled}
use Rattle.signature.specs.declared.entries.NameEntry.{NameEntry}
use Rattle.signature.specs.meaning.Grammar.{entry_names}
use Rattle.formula_reader.specs.meaning.Resolution.{variable_text, Rule}
use Rattle.obligations.specs.declared.actions.Action.{Action}
use Rattle.obligations.specs.declared.literals.LiteralKind.{LiteralKind}
use Rattle.obligations.specs.declared.literals.LiteralKind.TheVariants.{Cause, Suppress}
use Rattle.log_stream.specs.meaning.LogGrammar.{spelled_event}

abbrev pub kind_text : LiteralKind → List ℕ
kind_text Cause = codes "cause"
kind_text Suppress = codes "suppress"

-- a number after a word
abbrev pub labelled : (word : List ℕ) → ℕ → List ℕ
labelled word number = word ++ decimal number

-- the time and the position at which an action was done
abbrev pub when_text : Action → List ℕ
when_text action = labelled (codes " at ") action.time ++ labelled (codes " step ") action.position

-- the rule, node, leaf and origin for which an action was done, where the rule has this name
abbrev pub cause_text : (name : List ℕ) → Action → List ℕ
cause_text name action = codes " rule " ++ (name ++ (labelled (codes " node ") action.node
    ++ (labelled (codes " leaf ") action.leaf ++ labelled (codes " origin ") action.origin)))

-- a variable and its value
abbrev pub binding_text : (vars : List (List ℕ)) → VarId × Value → List ℕ
binding_text vars binding = codes " " ++ (variable_text vars binding.0 ++ (codes "=" ++ spelled binding.1))

-- the bindings in rising number, which is the order in which the variables were bound in the rule
abbrev pub bindings_text : (vars : List (List ℕ)) → List (VarId × Value) → List ℕ
bindings_text vars values = flat_map (binding_text vars) values

-- the name of a rule; nothing where there is no such rule
abbrev pub rule_name : Option Rule → List ℕ
rule_name None = []
rule_name (Some rule) = rule.name

abbrev pub rule_variable_names : Option Rule → List (List ℕ)
rule_variable_names None = []
rule_variable_names (Some rule) = rule.vars

abbrev pub action_line : List NameEntry → List Rule → Action → List ℕ
action_line entries rules action =
    kind_text action.kind ++ (codes " " ++ (spelled_event (entry_names entries) action.event ++ (when_text action
    ++ (cause_text (rule_name (slice_get rules action.rule)) action
    ++ (bindings_text (rule_variable_names (slice_get rules action.rule)) (bindings action.valuation) ++ codes "\n")))))
