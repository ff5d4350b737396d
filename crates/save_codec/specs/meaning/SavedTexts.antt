-- The lines of saved texts, the grammar of such texts, and the saved text of a state and of a trace.
use Rattle.enf_data.specs.declared.values.Value.{Value}
use Rattle.enf_data.specs.meaning.Values.{IsValue}
use Rattle.std.specs.List.{AllByRecursion, flat_map}
use Rattle.std.specs.Option.{option_map}
use Rattle.std.specs.Prelude.{Bool, true, false, Option, None, Some, ℕ, ◌<◌, ◌^◌, List, [], ◌∷◌, IsTrue, decimal, codes}
use Rattle.std.specs.Prelude.{◌++◌, length, ◌≡◌, map}
use Rattle.enf_value.specs.meaning.Tokens.{spelled}
use Rattle.save_codec.specs.declared.lines.Kind.{Kind}
use Rattle.save_codec.specs.declared.lines.Line.{Line}
use Rattle.save_codec.specs.declared.lines.Line.TheVariants.{Clock, Last, Position, Row, Due, End}
use Rattle.enf_data.specs.declared.steps.Step.{Step}
use Rattle.enf_data.specs.meaning.Valuations.{Valuation, bindings}
use Rattle.enf_formula.specs.meaning.Satisfaction.{Formula}
use Rattle.plan_terms.specs.meaning.Plans.{Plan}
use Rattle.past_state.specs.declared.kept_rows.KeptRow.{KeptRow}
use Rattle.past_state.specs.meaning.KeptRows.{AreKeptOf, AreRowsRising, IsLastTime}
use Rattle.obligations.specs.declared.instances.Instance.{Instance}
use Rattle.obligations.specs.meaning.Pending.{Pend}
use Rattle.save_codec.specs.declared.snapshots.Snapshot.{Snapshot}
use Rattle.save_codec.specs.declared.lines.Kind.TheVariants as kinds

abbrev pub line_kind : Line → Kind
line_kind (Clock time) = kinds.Clock
line_kind (Last last) = kinds.Last
line_kind (Position position) = kinds.Position
line_kind (Row window time values) = kinds.Row
line_kind (Due rule node origin low high values) = kinds.Due
line_kind End = kinds.End

-- whether a line of a kind may follow another: the line of the clock is the first; then come the last time, the
-- position, rows, instances and the end
abbrev pub kind_may_follow : (before : Option Kind) → Kind → Bool
kind_may_follow None kinds.Clock = true
kind_may_follow (Some kinds.Clock) kinds.Last = true
kind_may_follow (Some kinds.Last) kinds.Position = true
kind_may_follow (Some kinds.Position) kinds.Row = true
kind_may_follow (Some kinds.Position) kinds.Due = true
kind_may_follow (Some kinds.Position) kinds.End = true
kind_may_follow (Some kinds.Row) kinds.Row = true
kind_may_follow (Some kinds.Row) kinds.Due = true
kind_may_follow (Some kinds.Row) kinds.End = true
kind_may_follow (Some kinds.Due) kinds.Due = true
kind_may_follow (Some kinds.Due) kinds.End = true
kind_may_follow before kind = false

-- whether a line may stand after the one before it, as their kinds do
abbrev pub line_follows : (before : Option Line) → Line → Bool
line_follows before line = kind_may_follow (option_map line_kind before) (line_kind line)

-- a number of a line is below 2^63
abbrev pub IsSmallNumber : ℕ → Type 0
IsSmallNumber number = number < 2 ^ 63

abbrev pub IsSmallTime : Option ℕ → Type 0
IsSmallTime None = Unit {0}
IsSmallTime (Some time) = IsSmallNumber time

-- each number of the line is below 2^63, and its values are values of the program
abbrev pub IsLine : Line → Type 0
IsLine (Clock time) = IsSmallNumber time
IsLine (Last last) = IsSmallTime last
IsLine (Position position) = IsSmallNumber position
IsLine (Row window time values) = IsSmallNumber window × IsSmallNumber time × AllByRecursion IsValue values
IsLine (Due rule node origin low high values) =
    IsSmallNumber rule × IsSmallNumber node × IsSmallNumber origin × IsSmallNumber low × IsSmallNumber high
    × AllByRecursion IsValue values
IsLine End = Unit {0}

-- each of these lines may stand after the one before it
abbrev pub LinesFollow : (before : Option Line) → List Line → Type 0
LinesFollow before [] = Unit {0}
LinesFollow before (line ∷ lines) = IsTrue (line_follows before line) × IsLine line × LinesFollow (Some line) lines

-- the last of some lines, or the one before them
abbrev pub last_line : (before : Option Line) → List Line → Option Line
last_line before [] = before
last_line before (line ∷ lines) = last_line (Some line) lines

abbrev pub ends_text : Option Kind → Bool
ends_text (Some kinds.End) = true
ends_text before = false

abbrev pub is_end_line : Option Line → Bool
is_end_line before = ends_text (option_map line_kind before)

-- all lines of a text: each may stand where it stands, and the last one is the end
abbrev pub AreLines : List Line → Type 0
AreLines lines = LinesFollow None lines × IsTrue (is_end_line (last_line None lines))

-- a number after a space
abbrev pub spaced : ℕ → List ℕ
spaced number = 32 ∷ decimal number

-- values, each after a space
abbrev pub values_text : List Value → List ℕ
values_text values = flat_map (λ value. 32 ∷ spelled value) values

-- the last time, or a dash where there is none
abbrev pub last_text : Option ℕ → List ℕ
last_text None = codes " -"
last_text (Some last) = spaced last

-- what stands in the line of an instance before its values
abbrev pub due_text : (rule node origin low high : ℕ) → List ℕ
due_text rule node origin low high =
    codes "due" ++ (spaced rule ++ (spaced node ++ (spaced origin ++ (spaced low ++ spaced high))))

abbrev pub line_text : Line → List ℕ
line_text (Clock time) = codes "clock" ++ (spaced time ++ codes "\n")
line_text (Last last) = codes "last" ++ (last_text last ++ codes "\n")
line_text (Position position) = codes "position" ++ (spaced position ++ codes "\n")
line_text (Row window time values) =
    codes "row" ++ (spaced window ++ (spaced time ++ (values_text values ++ codes "\n")))
line_text (Due rule node origin low high values) =
    due_text rule node origin low high ++ (values_text values ++ codes "\n")
line_text End = codes "end\n"

-- the texts of lines, one after the other
abbrev pub lines_text : List Line → List ℕ
lines_text lines = flat_map line_text lines

-- the number of some bytes, and then the bytes, each with a line feed
abbrev pub sized : (word bytes : List ℕ) → List ℕ
sized word bytes = word ++ (spaced (length bytes) ++ (codes "\n" ++ (bytes ++ codes "\n")))

-- the head of a saved text: the number of its form, and the bytes of the signature and of the policy
abbrev pub head_text : (signature policy : List ℕ) → List ℕ
head_text signature policy =
    codes "enfstate 1\n" ++ (sized (codes "signature") signature ++ sized (codes "policy") policy)

-- the bytes are a saved text for the bytes of a signature and of a policy, with these lines
pub record IsTextOfLines (bytes signature policy : List ℕ) (lines : List Line) : Type 0 where
  pub form : AreLines lines
  pub text : bytes ≡ head_text signature policy ++ lines_text lines

-- ---- The saved text of a state, and of a trace.
abbrev pub row_line : KeptRow → Line
row_line r = Row r.window r.time r.row

-- the values of the variables that are bound, in rising number, which is the order in which the rule binds them
abbrev pub values_in : Valuation → List Value
values_in v = map (λ binding. binding.1) (bindings v)

abbrev pub due_line : Instance → Line
due_line i = Due i.rule i.node i.origin i.low i.high (values_in i.valuation)

-- the lines of a state: the clock, the last time, the position, the rows, the instances and the end
abbrev pub lines_of : Snapshot → List Line
lines_of s = Clock s.clock ∷ Last s.last ∷ Position s.position
    ∷ (map row_line s.kept ++ (map due_line s.pending ++ End ∷ []))

-- the saved text of a state, under the bytes of a signature and of a policy
abbrev pub saved_text : (signature policy : List ℕ) → Snapshot → List ℕ
saved_text signature policy s = head_text signature policy ++ lines_text (lines_of s)

-- what is kept after a trace, under the plans of a policy and the operators on the past in its guards: its last time
-- and its length, the rows that have to be kept of it, in order, and what is pending after it
pub record IsSnapshotOf (plans : List Plan) (operators : List Formula) (trace : List Step) (clock : ℕ) (s : Snapshot)
    : Type 0 where
  pub clocked : s.clock ≡ clock
  pub last : IsLastTime trace s.last
  pub position : s.position ≡ length trace
  pub rising : AreRowsRising s.kept
  pub kept : AreKeptOf trace operators s.kept
  pub pending : Pend plans trace s.pending

-- the bytes are the saved text of a trace and a clock
abbrev pub IsSavedText : (signature policy : List ℕ) → List Plan → List Formula → List Step → (clock : ℕ) → List ℕ
    → Type 0
IsSavedText signature policy plans operators trace clock bytes =
    (s : Snapshot) × IsSnapshotOf plans operators trace clock s × (bytes ≡ saved_text signature policy s)
