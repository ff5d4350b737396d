-- Past states that are made again stand for the traces whose rows they were made of.
use Rattle.enf_data.specs.declared.steps.Step.{Step}
use Rattle.enf_data.specs.meaning.Data.{IsTrace}
use Rattle.std.specs.Prelude.{ℕ, List, Option}
use Rattle.enf_formula.specs.meaning.Satisfaction.{Formula}
use Rattle.past_state.specs.declared.kept_rows.KeptRow.{KeptRow}
use Rattle.past_state.specs.machine.Past.{Past, PastStands}
use Rattle.past_state.specs.meaning.KeptRows.{AreKeptOf, AreRowsRising, IsLastTime}
use Rattle.past_state.specs.meaning.RowBounds.{AreWithinBounds}

-- the past state stands for each trace with this last time of which the rows are kept
abbrev pub WillStandFor : List Formula → Option ℕ → List KeptRow → Past → Type 0
WillStandFor fs last rows past = (trace : List Step) → IsLastTime trace last → AreKeptOf trace fs rows
    → PastStands trace past

-- what has to be kept of a trace is within the bounds at its last time
abbrev pub KeptAreWithinBounds : Type 0
KeptAreWithinBounds =
    (trace : List Step) (last : Option ℕ) (fs : List Formula) (rows : List KeptRow) → IsTrace trace
    → IsLastTime trace last → AreRowsRising rows → AreKeptOf trace fs rows → AreWithinBounds fs last rows
