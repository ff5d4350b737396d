-- When a state keeps its bounds, by its rows and instances.
use Rattle.enf_data.specs.declared.terms.VarId.{VarId}
use Rattle.enf_data.specs.declared.values.Value.{Value}
use Rattle.enf_data.specs.meaning.Valuations.{value_at}
use Rattle.std.specs.Prelude.{◌≡◌, ℕ, ◌<◌, ◌^◌, List, Some, slice_get, Contains, ◌↔◌, ◌≤◌}
use Rattle.std.specs.Prelude.{All, None}
use Rattle.enf_formula.specs.meaning.Satisfaction.{Formula, AreFreeVariables}
use Rattle.plan_terms.specs.meaning.Plans.{Plan}
use Rattle.plan_terms.specs.meaning.Scopes.{future_in}
use Rattle.past_state.specs.declared.kept_rows.KeptRow.{KeptRow}
use Rattle.past_state.specs.meaning.RowBounds.{IsFrom, numbered_operators, AreWithinBounds}
use Rattle.past_state.specs.meaning.KeptRows.{kept_operand, all_operators}
use Rattle.obligations.specs.declared.instances.Instance.{Instance}
use Rattle.obligations.specs.meaning.PendingBounds.{CanBePending}
use Rattle.save_codec.specs.declared.limits.TheConstants.{MOST_STATE_TIME}
use Rattle.save_codec.specs.declared.snapshots.Snapshot.{Snapshot}
use Rattle.save_codec.specs.meaning.SavedBounds.{SaveSetting, RuleTells}
use Rattle.save_codec.specs.meaning.ToldSorts.{FitTold, GuardTells, FitsTold}

-- a window's number has 32 bits, and the values of a row are of the sorts that are known of the window's columns
pub record IsSoundRow (s : SaveSetting) (r : KeptRow) : Type 0 where
  pub bits : r.window < 2 ^ 32
  pub sorts : (guard : ℕ) (operator : Formula)
      → slice_get (numbered_operators 0 s.guards) r.window ≡ Some (guard, operator)
      → (columns : List VarId) × AreFreeVariables (kept_operand operator) columns
      × FitTold (GuardTells s.entries s.plans guard) columns r.row

-- the numbers of an instance's rule and node have 32 bits, and the values of the variables in scope are of the sorts
-- that are known
pub record IsSoundInstance (s : SaveSetting) (i : Instance) : Type 0 where
  pub rule_bits : i.rule < 2 ^ 32
  pub node_bits : i.node < 2 ^ 32
  pub sorts : (node : Plan) (scope : List VarId) → future_in s.plans i.rule i.node ≡ Some (node, scope)
      → (x : VarId) (value : Value) → Contains scope x → value_at i.valuation x ≡ Some value
      → FitsTold (RuleTells s.entries s.plans i.rule) x value

-- the numbers are within their limits, the rows can be kept and the instances be pending, and each of them is sound
pub record IsSoundState (s : SaveSetting) (state : Snapshot) : Type 0 where
  pub clock : state.clock ≤ MOST_STATE_TIME
  pub last : IsFrom state.last state.clock
  pub position : (state.last ≡ None) ↔ (state.position ≡ 0)
  pub small : state.position < 2 ^ 63
  pub kept : AreWithinBounds (all_operators s.guards) state.last state.kept
  pub pending : All (CanBePending s.plans state.clock state.position) state.pending
  pub due : All (λ i. i.high ≤ MOST_STATE_TIME) state.pending
  pub rows : (r : KeptRow) → Contains state.kept r → IsSoundRow s r
  pub instances : (i : Instance) → Contains state.pending i → IsSoundInstance s i
