-- Literals that are wanted at a step, whatever trace it stands for, and the values that are known there.
use Rattle.enf_data.specs.declared.values.Value.{Value}
use Rattle.enf_data.specs.meaning.Valuations.{Valuation}
use Rattle.std.specs.Prelude.{◌⊎◌, Contains, ◌≡◌, List, Some}
use Rattle.valuations.specs.machine.Bindings.{filled_from_row}
use Rattle.valuations.specs.machine.Tables.{Relation}
use Rattle.monitorable_guard.specs.machine.Evaluation.{IsTabled}
use Rattle.monitorable_guard.specs.machine.ValueSources.{IsArgument}
use Rattle.plan_terms.specs.meaning.Plans.{nodes, Plan}
use Rattle.past_state.specs.machine.Past.{formulas_of_guards}
use Rattle.past_state.specs.machine.ValueSources.{IsConstantOf}
use Rattle.obligations.specs.declared.instances.Instance.{Instance}
use Rattle.obligations.specs.declared.literals.Literal.{Literal}
use Rattle.obligations.specs.declared.present_step.Now.{Now}
use Rattle.obligations.specs.machine.Leaves.{IsLeafConstant, IsBound, IsLeaf, ChangesEvents}
use Rattle.obligations.specs.machine.Parts.{HasPart}
use Rattle.obligations.specs.machine.TriggeredNodes.{IsReachedBy}
use Rattle.obligations.specs.meaning.Pending.{node_of}

-- a value that is bound, or one of the events, of the tables, of the constants of their guards or of those of the plan
abbrev pub IsKnownAt : Now → Plan → Valuation → Value → Type 0
IsKnownAt now plan v value = IsBound v value ⊎ (IsArgument now.ordered.now value
    ⊎ (IsTabled now.tables.now.stack value ⊎ (IsConstantOf (formulas_of_guards now.tables.now.guards) value
    ⊎ IsLeafConstant plan value)))

-- the literal is that of a leaf of the plan, below guards that are triggered at the step, it changes the events, and
-- each of its values is known
pub record IsWanted (now : Now) (plan : Plan) (v : Valuation) (literal : Literal) : Type 0 where
  pub leaf : Plan
  pub there : Contains (nodes plan) leaf
  pub reached : IsReachedBy now.ordered.now plan leaf
  pub is : IsLeaf leaf literal.kind literal.leaf literal.event
  pub changes : ChangesEvents literal.kind literal.event now.events.now
  pub known : (value : Value) → Contains literal.event.args value → IsKnownAt now plan v value

-- the literal is wanted by a part of the node of the instance
pub record IsWantedOf (now : Now) (plans : List Plan) (i : Instance) (literal : Literal) : Type 0 where
  pub node : Plan
  pub found : node_of plans i ≡ Some node
  pub part : Plan
  pub has : HasPart node part
  pub inside : (leaf : Plan) → Contains (nodes part) leaf → Contains (nodes node) leaf
  pub wanted : IsWanted now part i.valuation literal

-- it is wanted by a plan under one of the rows, which have the values of the columns that v does not bind
pub record IsWantedUnder (now : Now) (plan : Plan) (v : Valuation) (rows : Relation) (literal : Literal) : Type 0 where
  pub row : List Value
  pub there : Contains rows.rows row
  pub wanted : IsWanted now plan (filled_from_row v rows.columns row) literal
