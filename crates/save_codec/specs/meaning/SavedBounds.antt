-- The bounds of saved states, line by line.
use Rattle.enf_data.specs.declared.terms.VarId.{VarId}
use Rattle.std.specs.List.{AllByRecursion, flat_map}
use Rattle.std.specs.Prelude.{List, ◌≡◌, ◌↔◌, ℕ, Option, None, Some, slice_get, ◌<◌, ◌^◌, ◌≤◌, [], ◌∷◌, map, ◌+◌}
use Rattle.std.specs.Prelude.{length, take, All}
use Rattle.enf_formula.specs.meaning.Satisfaction.{Formula, AreFreeVariables}
use Rattle.signature.specs.declared.entries.NameEntry.{NameEntry}
use Rattle.signature.specs.declared.entries.Sort.{Sort}
use Rattle.plan_terms.specs.meaning.Plans.{Plan}
use Rattle.plan_terms.specs.meaning.Scopes.{future_in}
use Rattle.past_state.specs.declared.kept_rows.KeptRow.{KeptRow}
use Rattle.past_state.specs.meaning.KeptRows.{kept_operand, all_operators}
use Rattle.past_state.specs.meaning.RowBounds.{AreWithinBounds, numbered_operators, IsFrom}
use Rattle.obligations.specs.declared.instances.Instance.{Instance}
use Rattle.obligations.specs.meaning.PendingBounds.{CanWait, CanBePending}
use Rattle.save_codec.specs.declared.limits.TheConstants.{MOST_STATE_TIME}
use Rattle.save_codec.specs.declared.lines.Line.{Line}
use Rattle.save_codec.specs.declared.lines.Line.TheVariants.{Position, Row, Due, Clock, Last}
use Rattle.save_codec.specs.declared.parts.DueLine.{DueLine}
use Rattle.save_codec.specs.declared.parts.RowLine.{RowLine}
use Rattle.save_codec.specs.declared.snapshots.Snapshot.{Snapshot}
use Rattle.save_codec.specs.meaning.SavedTexts.{lines_of}
use Rattle.save_codec.specs.meaning.ToldSorts.{FitTold, GuardTells, PlanTells}

-- what a state is resumed under: the names of the signature, the plans of the policy, and its guards
pub record SaveSetting : Type 0 where
  pub entries : List NameEntry
  pub plans : List Plan
  pub guards : List Formula

abbrev pub kept_row_of : RowLine → KeptRow
kept_row_of r = record { window = r.window; row = r.values; time = r.time }

-- the position is 0 just where there is no last time
abbrev pub AgreesWith : (last : Option ℕ) → Line → Type 0
AgreesWith last (Position position) = (last ≡ None) ↔ (position ≡ 0)
AgreesWith last line = Unit {0}

-- the values of a row are of the sorts that are known of its window's columns
abbrev pub HasSorts : SaveSetting → RowLine → Type 0
HasSorts s r = (guard : ℕ) (operator : Formula) (columns : List VarId)
    → slice_get (numbered_operators 0 s.guards) r.window ≡ Some (guard, operator)
    → AreFreeVariables (kept_operand operator) columns → FitTold (GuardTells s.entries s.plans guard) columns r.values

-- a row keeps the bounds: it can be kept by an operator, its values are of the sorts that are known, and its window's
-- number has 32 bits
pub record RowFits (s : SaveSetting) (r : RowLine) : Type 0 where
  pub bits : r.window < 2 ^ 32
  pub sorts : HasSorts s r

-- what the plan of a rule tells
abbrev pub RuleTells : List NameEntry → List Plan → (rule : ℕ) → VarId → Sort → Type 0
RuleTells entries plans rule x sort = (plan : Plan) × (slice_get plans rule ≡ Some plan) × PlanTells entries plan x sort

-- an instance keeps the bounds: it is one of an operator on the future, has values for the variables in scope there,
-- of the sorts that are known, and can wait at the clock; the numbers of its rule and node have 32 bits
pub record DueFits (s : SaveSetting) (clock position : ℕ) (d : DueLine) : Type 0 where
  pub rule_bits : d.rule < 2 ^ 32
  pub node_bits : d.node < 2 ^ 32
  pub node : Plan
  pub scope : List VarId
  pub named : future_in s.plans d.rule d.node ≡ Some (node, scope)
  pub sorts : FitTold (RuleTells s.entries s.plans d.rule) scope d.values
  pub low : d.low ≤ MOST_STATE_TIME
  pub high : d.high ≤ MOST_STATE_TIME
  pub waits : (i : Instance) → i.origin ≡ d.origin → i.low ≡ d.low → i.high ≡ d.high → CanWait node clock position i

-- the row of a line, if it is one of a row
abbrev pub row_in : Line → List RowLine
row_in (Row window time values) = record { window = window; time = time; values = values } ∷ []
row_in line = []

abbrev pub due_in : Line → List DueLine
due_in (Due rule node origin low high values) =
    record { rule = rule; node = node; origin = origin; low = low; high = high; values = values } ∷ []
due_in line = []

-- the clock after a line, where this was the clock before it
abbrev pub clock_behind_line : ℕ → Line → ℕ
clock_behind_line clock (Clock time) = time
clock_behind_line clock line = clock

abbrev pub clock_from : ℕ → List Line → ℕ
clock_from clock [] = clock
clock_from clock (line ∷ lines) = clock_from (clock_behind_line clock line) lines

abbrev pub last_behind_line : Option ℕ → Line → Option ℕ
last_behind_line last (Last time) = time
last_behind_line last line = last

abbrev pub last_time_from : Option ℕ → List Line → Option ℕ
last_time_from last [] = last
last_time_from last (line ∷ lines) = last_time_from (last_behind_line last line) lines

abbrev pub position_behind_line : ℕ → Line → ℕ
position_behind_line position (Position number) = number
position_behind_line position line = position

abbrev pub position_from : ℕ → List Line → ℕ
position_from position [] = position
position_from position (line ∷ lines) = position_from (position_behind_line position line) lines

-- the lines, or the first of them, keep the bounds. The last time is missing just where the position is 0, and then
-- there is no row and no instance
pub record AreLinesWithin (s : SaveSetting) (lines : List Line) : Type 0 where
  pub clock : clock_from 0 lines ≤ MOST_STATE_TIME
  pub last : IsFrom (last_time_from None lines) (clock_from 0 lines)
  pub position : AllByRecursion (AgreesWith (last_time_from None lines)) lines
  pub rows : AllByRecursion (RowFits s) (flat_map row_in lines)
  pub kept : AreWithinBounds (all_operators s.guards) (last_time_from None lines)
      (map kept_row_of (flat_map row_in lines))
  pub dues : AllByRecursion (DueFits s (clock_from 0 lines) (position_from 0 lines)) (flat_map due_in lines)

-- this is the first line that breaks the bounds: those before it keep them, and with it they are not kept; lines are
-- counted from 1 on
pub record IsFirstUnfitLine (s : SaveSetting) (lines : List Line) (number : ℕ) : Type 0 where
  pub count : ℕ
  pub numbered : number ≡ count + 1
  pub there : count < length lines
  pub before : AreLinesWithin s (take count lines)
  pub unfit : AreLinesWithin s (take (count + 1) lines) → ⊥

-- the state keeps its bounds: its rows can be kept, its instances can be pending, and line by line its numbers are
-- within their limits and its values of the sorts that are known
pub record KeepsBounds (s : SaveSetting) (state : Snapshot) : Type 0 where
  pub clock : state.clock ≤ MOST_STATE_TIME
  pub last : IsFrom state.last state.clock
  pub position : (state.last ≡ None) ↔ (state.position ≡ 0)
  pub small : state.position < 2 ^ 63
  pub kept : AreWithinBounds (all_operators s.guards) state.last state.kept
  pub pending : All (CanBePending s.plans state.clock state.position) state.pending
  pub due : All (λ i. i.high ≤ MOST_STATE_TIME) state.pending
  pub lines : AreLinesWithin s (lines_of state)
