-- Small traces, on which what has to be kept can be checked by eye.
use Rattle.enf_data.specs.declared.events.Event.{Event}
use Rattle.enf_data.specs.declared.intervals.Interval.{Interval}
use Rattle.enf_data.specs.declared.steps.Step.{Step}
use Rattle.enf_data.specs.declared.terms.Term.TheVariants.{Var}
use Rattle.std.specs.Prelude.{List, [], ◌∷◌, ℕ, ◌≤◌, ◌≡◌}
use Rattle.enf_formula.specs.machine.Cases.{at_time, name_p, variable_x, formula_q, event_p, formula_p}
use Rattle.enf_formula.specs.meaning.Satisfaction.{Formula, Atom, Since, Prev, Once}
use Rattle.windows.specs.machine.Cases.{case_within, number_row, x_number}
use Rattle.past_state.specs.meaning.KeptRows.{KeptAt, KeptFor, IsRowToKeep, all_operators}

-- steps at the times 0, 2 and 3
abbrev pub three_times : List Step
three_times = at_time 0 [] ∷ at_time 2 [] ∷ at_time 3 [] ∷ []

-- at the first two positions, and at the last one
abbrev pub at_two : ℕ → Type 0
at_two i = i ≤ 1

abbrev pub at_third : ℕ → Type 0
at_third i = i ≡ 2

-- the times that are kept of an operator whose right side holds at the first two positions, and whose left side is F
abbrev pub IsKeptIn : Interval → (ℕ → Type 0) → ℕ → Type 0
IsKeptIn interval F time = KeptAt three_times interval F at_two time

abbrev pub IsNotKeptIn : Interval → (ℕ → Type 0) → ℕ → Type 0
IsNotKeptIn interval F time = IsKeptIn interval F time → ⊥

-- p(x)
abbrev pub p_of_x : Formula
p_of_x = Atom 0 name_p (Var variable_x ∷ [])

-- q() since[0,5] p(x)
abbrev pub q_since_p : Formula
q_since_p = Since 0 (case_within 0 5) formula_q p_of_x

-- the event p of a number
abbrev pub p_of : ℕ → Event
p_of n = record { name = name_p; args = number_row n }

-- p(1) at time 0, p(2) at 2, p(1) at 3
abbrev pub number_steps : List Step
number_steps = at_time 0 (p_of 1 ∷ []) ∷ at_time 2 (p_of 2 ∷ []) ∷ at_time 3 (p_of 1 ∷ []) ∷ []

-- the number has to be kept of these steps for the operator, with the time
abbrev pub IsKeptBy : Formula → ℕ → ℕ → Type 0
IsKeptBy f n time = KeptFor number_steps f (x_number n) time

abbrev pub IsNotKeptBy : Formula → ℕ → ℕ → Type 0
IsNotKeptBy f n time = IsKeptBy f n time → ⊥

-- p() at time 1, and nothing at time 4
abbrev pub p_then_nothing : List Step
p_then_nothing = at_time 1 (event_p ∷ []) ∷ at_time 4 [] ∷ []

-- nothing at time 1, and p() at time 4
abbrev pub nothing_then_p : List Step
nothing_then_p = at_time 1 [] ∷ at_time 4 (event_p ∷ []) ∷ []

-- once[0,5] prev[0,9] p(), and prev[0,9] p()
abbrev pub case_guards : List Formula
case_guards = Once 0 (case_within 0 5) (Prev 0 (case_within 0 9) formula_p) ∷ Prev 0 (case_within 0 9) formula_p ∷
    []

-- the empty row has to be kept of the trace for these guards, with time 4, in the window of this number
abbrev pub IsKeptInWindow : List Step → ℕ → Type 0
IsKeptInWindow three_times window =
    IsRowToKeep three_times (all_operators case_guards) (record { window = window; row = []; time = 4 })

abbrev pub IsNotKeptInWindow : List Step → ℕ → Type 0
IsNotKeptInWindow three_times window = IsKeptInWindow three_times window → ⊥
