-- The rows of a window that agree with rows of some of its columns.
use Rattle.enf_data.specs.declared.intervals.Interval.{Interval}
use Rattle.enf_data.specs.declared.terms.VarId.{VarId}
use Rattle.enf_data.specs.declared.values.Value.{Value}
use Rattle.enf_data.specs.meaning.Valuations.{no_values}
use Rattle.std.specs.Prelude.{ℕ, List, Contains}
use Rattle.valuations.specs.machine.Bindings.{filled_from_row}
use Rattle.windows.specs.declared.surviving_rows.Surviving.TheVariants.{All as Whole}
use Rattle.windows.specs.machine.RowQueries.{SurvivesUnder, cells}
use Rattle.windows.specs.machine.WindowEntries.{GivesRow}

-- a row of the entries, which have these columns, has a time at a distance in the interval, and the values that the
-- part has of some of the columns
abbrev pub GivesPart : Interval → ℕ → List VarId → List (List Value × List ℕ) → List VarId → List Value
    → List Value → Type 0
GivesPart interval now columns entries of part row =
    GivesRow interval now (SurvivesUnder Whole (cells columns (filled_from_row no_values of part))) entries row

-- so it is with some part
abbrev pub GivesSomePart : Interval → ℕ → List VarId → List (List Value × List ℕ) → List VarId
    → List (List Value) → List Value → Type 0
GivesSomePart interval now columns entries of parts row =
    (part : List Value) × Contains parts part × GivesPart interval now columns entries of part row
