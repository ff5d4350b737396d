-- The tables that windows and slots answer have just the valuations that are answered.
use Rattle.enf_data.specs.declared.values.Value.{Value}
use Rattle.enf_data.specs.meaning.Valuations.{Valuation}
use Rattle.std.specs.Prelude.{◌≡◌, ◌↔◌, ℕ, ◌⊎◌, Bool, List, Contains}
use Rattle.valuations.specs.machine.Tables.{Relation, HasValuation}
use Rattle.windows.specs.machine.AnswerTables.{survives_always, window_given, survives_among, survives_outside}
use Rattle.windows.specs.machine.AnswerTables.{given_by_slot}
use Rattle.windows.specs.machine.Slots.{Slot, GivesLast, LastHasColumns}
use Rattle.windows.specs.machine.StoredPairs.{Stores, pairs_of_last}
use Rattle.windows.specs.machine.Windows.{Window, AnswersBy}
use Rattle.windows.specs.meaning.KeptPairs.{pair}

-- ---- laws

-- these tables have just the valuations that are answered
abbrev pub AllAreGiven : Type 0
AllAreGiven = (window : Window) (time : ℕ) (right : Relation) (v : Valuation) → right.columns ≡ window.columns
    → HasValuation (window_given window time survives_always right) v ↔ AnswersBy window time (λ w. Unit {0})
    right v

abbrev pub AmongAreGiven : Type 0
AmongAreGiven =
    (window : Window) (time : ℕ) (told right : Relation) (v : Valuation) → told.columns ≡ window.columns
    → right.columns ≡ window.columns
    → HasValuation (window_given window time (survives_among told) right) v ↔ AnswersBy window time
    (HasValuation told) right v

abbrev pub OutsideAreGiven : Type 0
OutsideAreGiven =
    (window : Window) (time : ℕ) (told right : Relation) (v : Valuation) → told.columns ≡ window.columns
    → right.columns ≡ window.columns
    → HasValuation (window_given window time (survives_outside told) right) v
    ↔ AnswersBy window time (λ w. HasValuation told w → ⊥) right v

abbrev pub LastIsGiven : Type 0
LastIsGiven = (slot : Slot) (time : ℕ) (v : Valuation) → LastHasColumns slot.columns slot.last
    → HasValuation (given_by_slot slot time) v ↔ GivesLast slot.interval time slot.last v

-- each row of a table that is answered is right now, or is kept with a time
abbrev pub GivenIsKept : Type 0
GivenIsKept = (window : Window) (time : ℕ) (survives : List Value → Bool) (right : Relation) (row : List Value)
    → Contains (window_given window time survives right).rows row
    → Contains right.rows row ⊎ ((earlier : ℕ) × Stores window row earlier)

abbrev pub GivenLastIsKept : Type 0
GivenLastIsKept = (slot : Slot) (time : ℕ) (row : List Value) → Contains (given_by_slot slot time).rows row
    → (earlier : ℕ) × Contains (pairs_of_last slot.last) (pair row earlier)
