-- The last time of a trace, its operators on the past, and the rows that have to be kept for them.
use Rattle.enf_data.specs.declared.steps.Step.{Step}
use Rattle.std.specs.Prelude.{ℕ, Option, None, Some, ◌≡◌, ◌<◌, List, [], length, ◌∷◌, ◌++◌, ◌+◌, ◌⊎◌, ◌-◌, slice_get}
use Rattle.std.specs.Prelude.{◌↔◌, Contains}
use Rattle.trace_meaning.specs.meaning.Traces.{last_time}
use Rattle.enf_formula.specs.meaning.Satisfaction.{Formula, Not, And, Or, Implies, Exists, Forall, Prev, Once}
use Rattle.enf_formula.specs.meaning.Satisfaction.{Historically, Since, AreFreeVariables, Classically, Sat}
use Rattle.enf_formula.specs.meaning.Satisfaction.{HoldsAnywhere}
use Rattle.monitorable_guard.specs.meaning.Safety.{denial}
use Rattle.enf_data.specs.declared.intervals.Interval.{Interval}
use Rattle.enf_data.specs.declared.terms.VarId.{VarId}
use Rattle.enf_data.specs.meaning.Data.{step_at}
use Rattle.enf_data.specs.meaning.Valuations.{Valuation, valuation_of}
use Rattle.windows.specs.declared.kept_pairs.KeptPair.{KeptPair}
use Rattle.windows.specs.meaning.KeptPairs.{Chosen, pair, IsPairBefore, IsRisingBy}
use Rattle.past_state.specs.declared.kept_rows.KeptRow.{KeptRow}

-- the trace ends with a step at this time; where no time is given, the trace is empty
abbrev pub IsLastTime : List Step → Option ℕ → Type 0
IsLastTime trace None = trace ≡ []
IsLastTime trace (Some last) = (0 < length trace) × (last ≡ last_time trace)

-- ---- The operators on the past in a formula, and the operand of each from which its columns are taken.

-- all operators on the past in a formula, in pre-order, except those below an operator on the future
abbrev pub operators : Formula → List Formula
operators (Not place g) = operators g
operators (And place g h) = operators g ++ operators h
operators (Or place g h) = operators g ++ operators h
operators (Implies place g h) = operators g ++ operators h
operators (Exists place xs g) = operators g
operators (Forall place xs g) = operators g
operators (Prev place interval g) = Prev place interval g ∷ operators g
operators (Once place interval g) = Once place interval g ∷ operators g
operators (Historically place interval g) = Historically place interval g ∷ operators g
operators (Since place interval g h) = Since place interval g h ∷ (operators g ++ operators h)
operators f = []

-- the operators on the past in several formulas, one formula after another
abbrev pub all_operators : List Formula → List Formula
all_operators [] = []
all_operators (f ∷ fs) = operators f ++ all_operators fs

-- the operand of an operator whose free variables are the columns of its rows
abbrev pub kept_operand : Formula → Formula
kept_operand (Prev place interval g) = g
kept_operand (Once place interval g) = g
kept_operand (Historically place interval g) = denial g
kept_operand (Since place interval g h) = h
kept_operand f = f

-- ---- The rows that have to be kept of a trace for operators on the past: what held, when, and in which order.

-- some position, at a time that counts, has G, and each position after it has F; as in the definition of
-- satisfaction, "some" is classical
abbrev pub HeldWhere : List Step → (ℕ → Type 0) → (ℕ → Type 0) → (ℕ → Type 0) → Type 0
HeldWhere trace Counts F G =
    Classically ((j : ℕ) × (j < length trace) × Counts (step_at trace j).time × G j × ((k : ℕ) → j < k
    → k < length trace → F k))

-- a position at this time has G, and each position after it has F
abbrev pub HasPairAt : List Step → (ℕ → Type 0) → (ℕ → Type 0) → ℕ → Type 0
HasPairAt trace F G time = HeldWhere trace (λ earlier. earlier ≡ time) F G

-- the time is one at which a pair stands and that the interval asks to be kept, by the ages of such times at the last
-- position
abbrev pub KeptAt : List Step → Interval → (ℕ → Type 0) → (ℕ → Type 0) → ℕ → Type 0
KeptAt trace interval F G time = Chosen interval (last_time trace) (HasPairAt trace F G) time

abbrev pub pair_of : KeptRow → KeptPair
pair_of r = pair r.row r.time

-- the order of rows: by window, then by values, and then by time
abbrev pub IsRowBefore : KeptRow → KeptRow → Type 0
IsRowBefore r s = (r.window < s.window) ⊎ ((r.window ≡ s.window) × IsPairBefore (pair_of r) (pair_of s))

abbrev pub AreRowsRising : List KeptRow → Type 0
AreRowsRising rows = IsRisingBy IsRowBefore rows

-- the valuation has to be kept of the trace for the operator, with this time: for `prev` where the operand holds at the
-- last position, with the last time
abbrev pub KeptFor : List Step → Formula → Valuation → ℕ → Type 0
KeptFor trace (Prev place interval g) v time =
    (0 < length trace) × (time ≡ last_time trace) × Sat trace (length trace - 1) v g
KeptFor trace (Once place interval g) v time = KeptAt trace interval HoldsAnywhere (λ i. Sat trace i v g) time
KeptFor trace (Historically place interval g) v time =
    KeptAt trace interval HoldsAnywhere (λ i. Sat trace i v (denial g)) time
KeptFor trace (Since place interval g h) v time =
    KeptAt trace interval (λ i. Sat trace i v g) (λ i. Sat trace i v h) time
KeptFor trace f v time = ⊥

-- the row has to be kept of the trace: it is for one of the operators, which are numbered in order, and has its
-- values in rising variable number
pub record IsRowToKeep (trace : List Step) (fs : List Formula) (r : KeptRow) : Type 0 where
  pub operator : Formula
  pub numbered : slice_get fs r.window ≡ Some operator
  pub columns : List VarId
  pub free : AreFreeVariables (kept_operand operator) columns
  pub fits : length r.row ≡ length columns
  pub kept : KeptFor trace operator (valuation_of columns r.row) r.time

-- these are just the rows that have to be kept of a trace
abbrev pub AreKeptOf : List Step → List Formula → List KeptRow → Type 0
AreKeptOf trace fs rows = (r : KeptRow) → Contains rows r ↔ IsRowToKeep trace fs r
