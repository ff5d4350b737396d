-- What windows and slots answer at a step, as tables that functions determine.
use Rattle.enf_data.specs.declared.intervals.Interval.{Interval}
use Rattle.enf_data.specs.declared.terms.VarId.{VarId}
use Rattle.enf_data.specs.declared.values.Value.{Value}
use Rattle.std.specs.List.{list_any}
use Rattle.std.specs.Prelude.{ℕ, leb, Bool, true, Option, None, Some, ◌&&◌, ◌-◌, List, map, not}
use Rattle.std.specs.Prelude.{if◌then◌else◌, [], ◌++◌, filter}
use Rattle.valuations.specs.machine.Tables.{row_cell, Relation}
use Rattle.windows.specs.declared.steps.LastStep.{LastStep}
use Rattle.windows.specs.machine.RowQueries.{cells_eq}
use Rattle.windows.specs.machine.Slots.{Slot}
use Rattle.windows.specs.machine.Windows.{Window}

-- whether the difference is in the interval
abbrev pub is_up_to : Option ℕ → ℕ → Bool
is_up_to None difference = true
is_up_to (Some high) difference = leb difference high

abbrev pub is_in : Interval → ℕ → Bool
is_in interval difference = leb interval.low difference && is_up_to interval.high difference

-- whether one of the times is at such a distance
abbrev pub is_some_in : Interval → ℕ → List ℕ → Bool
is_some_in interval now times = list_any (λ time. is_in interval (now - time)) times

-- whether two rows have the same value for each column
abbrev pub have_same_cells : List VarId → List Value → List Value → Bool
have_same_cells columns row other = cells_eq (map (row_cell columns row) columns) (map (row_cell columns other) columns)

-- whether a row survives where all do, where those of a table do, and where all but those of a table do
abbrev pub survives_always : List Value → Bool
survives_always row = true

abbrev pub survives_among : Relation → List Value → Bool
survives_among told row = list_any (have_same_cells told.columns row) told.rows

abbrev pub survives_outside : Relation → List Value → Bool
survives_outside told row = not (survives_among told row)

-- whether the row of this entry survives and has a time at a distance in the interval
abbrev pub is_given : Interval → ℕ → (List Value → Bool) → List Value × List ℕ → Bool
is_given interval time survives e = is_some_in interval time e.1 && survives e.0

-- the rows where the difference is in the interval, and else none
abbrev pub rows_within : Interval → ℕ → Relation → List (List Value)
rows_within interval difference t = if is_in interval difference then t.rows else []

-- what a window answers at a step at this time
abbrev pub window_given : Window → ℕ → (List Value → Bool) → Relation → Relation
window_given window time survives right = record {
  columns = window.columns;
  rows = rows_within window.interval 0 right
      ++ map (λ e. e.0) (filter (is_given window.interval time survives) window.kept);
}

-- what a slot answers at a step at this time
abbrev pub rows_of_last : Interval → ℕ → Option LastStep → List (List Value)
rows_of_last interval time None = []
rows_of_last interval time (Some last) = rows_within interval (time - last.time) last.rows

abbrev pub given_by_slot : Slot → ℕ → Relation
given_by_slot slot time = record { columns = slot.columns; rows = rows_of_last slot.interval time slot.last }
