-- Report lines, and the actions that they tell.
use Rattle.enf_data.specs.declared.terms.VarId.{VarId}
use Rattle.enf_data.specs.meaning.Valuations.{Valuation, bindings}
use Rattle.enf_data.specs.meaning.Values.{IsValue}
use Rattle.std.specs.List.{AllByRecursion, find}
use Rattle.std.specs.Prelude.{◌≡◌, List, map, ◌<◌, ◌^◌, ℕ, Some, IsSome, slice_get}
use Rattle.signature.specs.declared.entries.NameEntry.{NameEntry}
use Rattle.formula_reader.specs.meaning.Resolution.{Rule}
use Rattle.plan_terms.specs.meaning.Plans.{has_number, nodes, Plan}
use Rattle.plan_terms.specs.machine.NamedNodes.{scope_at}
use Rattle.obligations.specs.declared.actions.Action.{Action}
use Rattle.log_stream.specs.machine.StepLimits.{IsDeclared}
use Rattle.action_report.specs.declared.refusals.ReportRefusal.{ReportRefusal}
use Rattle.action_report.specs.declared.refusals.ReportRefusal.TheVariants.{Syntax, NoMemory}
use Rattle.action_report.specs.meaning.ReportLines.{action_line}

-- just these variables are bound, which rise, each to a value of the program
pub record BindsJust (scope : List VarId) (v : Valuation) : Type 0 where
  pub variables : map (λ binding. binding.0) (bindings v) ≡ scope
  pub values : AllByRecursion (λ binding. IsValue binding.1) (bindings v)

-- an action of the program: its numbers have 64 bits, and those of rules and nodes 32
pub record IsWithinBits (action : Action) : Type 0 where
  pub time : action.time < 2 ^ 64
  pub position : action.position < 2 ^ 64
  pub rule : action.rule < 2 ^ 32
  pub node : action.node < 2 ^ 32
  pub leaf : action.leaf < 2 ^ 32
  pub origin : action.origin < 2 ^ 64

-- both are nodes of the rule's plan, and these variables are in scope at the first of them
pub record StandIn (plans : List Plan) (rule node leaf : ℕ) (scope : List VarId) : Type 0 where
  pub plan : Plan
  pub planned : slice_get plans rule ≡ Some plan
  pub in_scope : scope_at node plan ≡ Some scope
  pub has_leaf : IsSome (find (has_number leaf) (nodes plan))

-- an action under a signature and a policy: its event fits the signature, its rule is one of the policy, its node and
-- its leaf are nodes of that rule's plan, and its valuation binds just the variables in scope at the node
pub record CanBeTold (entries : List NameEntry) (rules : List Rule) (plans : List Plan) (action : Action) : Type 0 where
  pub event : IsDeclared entries action.event
  pub rule : Rule
  pub of_rule : slice_get rules action.rule ≡ Some rule
  pub scope : List VarId
  pub nodes : StandIn plans action.rule action.node action.leaf scope
  pub binds : BindsJust scope action.valuation

-- the bytes are the line of the action
pub record IsReportLine (entries : List NameEntry) (rules : List Rule) (plans : List Plan) (line : List ℕ)
    (action : Action) : Type 0 where
  pub told : CanBeTold entries rules plans action
  pub line_is : line ≡ action_line entries rules action

-- the bytes are the line of no action of the program; running out of memory says nothing of them
abbrev pub RefusesReportLine : List NameEntry → List Rule → List Plan → (line : List ℕ) → ReportRefusal
    → Type 0
RefusesReportLine entries rules plans line Syntax =
    (action : Action) → IsWithinBits action → IsReportLine entries rules plans line action → ⊥
RefusesReportLine entries rules plans line NoMemory = Unit {0}
