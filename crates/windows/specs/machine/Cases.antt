-- Small steps over one variable, on which the definitions can be checked by eye.
use Rattle.enf_data.specs.declared.intervals.Interval.{Interval}
use Rattle.enf_data.specs.declared.terms.VarId.{VarId}
use Rattle.enf_data.specs.declared.values.Value.{Value}
use Rattle.enf_data.specs.declared.values.Value.TheVariants.{Num}
use Rattle.enf_data.specs.meaning.Valuations.{Valuation, valuation_of}
use Rattle.std.specs.Prelude.{ℕ, Some, None, List, [], ◌∷◌, pos, map, Option}
use Rattle.valuations.specs.machine.Tables.{Relation}
use Rattle.windows.specs.declared.steps.LastStep.{LastStep}
use Rattle.windows.specs.machine.CommittedSteps.{committed_step, CommittedStep, StepsAnswer, IsKeptTime}
use Rattle.windows.specs.machine.Slots.{GivesLast, with_rows}
use Rattle.windows.specs.machine.Windows.{Window, WindowRemembers, WindowKeeps}

-- [low,high]
abbrev pub case_within : ℕ → ℕ → Interval
case_within low high = record { low = low; high = Some high }

-- [low,*]
abbrev pub case_from : ℕ → Interval
case_from low = record { low = low; high = None }

-- the variable x
abbrev pub x_columns : List VarId
x_columns = record { 0 = 0 } ∷ []

-- the row of a number
abbrev pub number_row : ℕ → List Value
number_row n = Num (pos n) ∷ []

-- x has this number
abbrev pub x_number : ℕ → Valuation
x_number n = valuation_of x_columns (number_row n)

-- a table of numbers
abbrev pub number_table : List ℕ → Relation
number_table ns = record { columns = x_columns; rows = map number_row ns }

-- a time, the numbers that survive and those that are right
pub record Entry : Type 0 where
  pub time : ℕ
  pub surviving : List ℕ
  pub right : List ℕ

abbrev pub entry : ℕ → List ℕ → List ℕ → Entry
entry time surviving right = record { time = time; surviving = surviving; right = right }

abbrev pub step_of : Entry → CommittedStep
step_of e = committed_step e.time (number_table e.surviving) (number_table e.right)

-- the steps answer the number at the time, by the interval
abbrev pub IsGiven : Interval → ℕ → List Entry → ℕ → Type 0
IsGiven interval time entries n = StepsAnswer interval time (map step_of entries) (x_number n)

abbrev pub IsNotGiven : Interval → ℕ → List Entry → ℕ → Type 0
IsNotGiven interval time entries n = IsGiven interval time entries n → ⊥

-- of intervals about the difference 3: where 3 is the first or the last of the interval the number is given, and where
-- 3 is one before or one past it the number is not
pub record IsGivenFor3 (time : ℕ) (entries : List Entry) (n : ℕ) : Type 0 where
  pub first : IsGiven (case_within 3 5) time entries n
  pub last : IsGiven (case_within 1 3) time entries n
  pub before : IsNotGiven (case_within 4 6) time entries n
  pub past : IsNotGiven (case_within 0 2) time entries n

-- 1 is right at time 0, and 1 and 2 survive at time 3
abbrev pub right_at_0 : List Entry
right_at_0 = entry 0 [] (1 ∷ []) ∷ entry 3 (1 ∷ 2 ∷ []) [] ∷ []

-- 1 and 2 are right at time 0, 2 alone survives at time 1, 1 is right again at time 2, and both survive at time 3
abbrev pub again_at_2 : List Entry
again_at_2 =
    entry 0 [] (1 ∷ 2 ∷ []) ∷ entry 1 (2 ∷ []) [] ∷ entry 2 (2 ∷ []) (1 ∷ [])
    ∷ entry 3 (1 ∷ 2 ∷ []) [] ∷ []

-- 1 is right at times 0 and 2, and survives
abbrev pub at_0_and_2 : List Entry
at_0_and_2 = entry 0 (1 ∷ []) (1 ∷ []) ∷ entry 2 (1 ∷ []) (1 ∷ []) ∷ entry 3 (1 ∷ []) [] ∷ []

-- 1 is right at time 4, and then survives at time 4
abbrev pub both_at_4 : List Entry
both_at_4 = entry 4 [] (1 ∷ []) ∷ entry 4 (1 ∷ []) [] ∷ []

-- 1 is right at time 3 alone, and does not survive there
abbrev pub right_now : List Entry
right_now = entry 0 (1 ∷ []) [] ∷ entry 3 [] (1 ∷ []) ∷ []

-- the steps, the last of which was at the time `last`, ask for the number to be kept with the time
abbrev pub IsKeptByEntries : Interval → ℕ → List Entry → ℕ → ℕ → Type 0
IsKeptByEntries interval last entries n time = IsKeptTime interval last (map step_of entries) (x_number n) time

abbrev pub IsNotKeptByEntries : Interval → ℕ → List Entry → ℕ → ℕ → Type 0
IsNotKeptByEntries interval last entries n time = IsKeptByEntries interval last entries n time → ⊥

-- the first step of two at time 4 is right for 1, which does not survive the second
abbrev pub dies_at_once : List Entry
dies_at_once = entry 4 [] (1 ∷ []) ∷ entry 4 [] [] ∷ []

-- a window with the number 1, right at this time
abbrev pub with_1 : Interval → ℕ → Window
with_1 interval time =
    record { interval = interval; columns = x_columns; last = time; kept = (number_row 1, time ∷ []) ∷ [] }

-- the window remembers the number at a later time
abbrev pub IsRemembered : Interval → ℕ → ℕ → ℕ → Type 0
IsRemembered interval time later n = WindowRemembers (with_1 interval time) later (x_number n)

abbrev pub IsNotRemembered : Interval → ℕ → ℕ → ℕ → Type 0
IsNotRemembered interval time later n = IsRemembered interval time later n → ⊥

-- the window keeps the number for that time or a later one
abbrev pub IsKeptWith1 : Interval → ℕ → ℕ → ℕ → Type 0
IsKeptWith1 interval time later n = WindowKeeps (with_1 interval time) later (x_number n)

abbrev pub IsNotKeptWith1 : Interval → ℕ → ℕ → ℕ → Type 0
IsNotKeptWith1 interval time later n = IsKeptWith1 interval time later n → ⊥

-- 1 is right at time 3, the only step
abbrev pub right_at_3 : List CommittedStep
right_at_3 = step_of (entry 3 [] (1 ∷ [])) ∷ []

-- that window at a later time
abbrev pub window_at_last : ℕ → Window → Window
window_at_last last window = record window { last = last }

-- the last step, of these numbers at this time, gives the number
abbrev pub IsGivenBy : Interval → ℕ → Option LastStep → ℕ → Type 0
IsGivenBy interval time last n = GivesLast interval time last (x_number n)

abbrev pub IsNotGivenBy : Interval → ℕ → Option LastStep → ℕ → Type 0
IsNotGivenBy interval time last n = IsGivenBy interval time last n → ⊥

abbrev pub last_at : ℕ → List ℕ → Option LastStep
last_at time ns = Some (with_rows time (number_table ns))
