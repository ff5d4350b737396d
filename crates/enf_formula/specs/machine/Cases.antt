-- Small traces and formulas, on which the definition of satisfaction can be checked by eye.
use Rattle.enf_data.specs.declared.events.Event.{Event}
use Rattle.enf_data.specs.declared.events.NameId.{NameId}
use Rattle.enf_data.specs.declared.intervals.Interval.{Interval}
use Rattle.enf_data.specs.declared.steps.Step.{Step}
use Rattle.enf_data.specs.declared.terms.Term.{Term}
use Rattle.enf_data.specs.declared.terms.Term.TheVariants.{Const, Var}
use Rattle.enf_data.specs.declared.terms.VarId.{VarId}
use Rattle.enf_data.specs.declared.values.Value.{Value}
use Rattle.enf_data.specs.declared.values.Value.TheVariants.{Num, Text}
use Rattle.enf_data.specs.meaning.Valuations.{no_values}
use Rattle.std.specs.Prelude.{ℕ, Some, None, [], List, ◌∷◌, ℤ, pos}
use Rattle.enf_formula.specs.meaning.Satisfaction.{Formula, Atom, Sat}

-- [low,high]
abbrev pub interval_between : ℕ → ℕ → Interval
interval_between low high = record { low = low; high = Some high }

-- [low,*]
abbrev pub interval_from : ℕ → Interval
interval_from low = record { low = low; high = None }

-- the names p and q
abbrev pub name_p : NameId
name_p = record { 0 = 0 }

abbrev pub name_q : NameId
name_q = record { 0 = 1 }

-- the events p() and q()
abbrev pub event_p : Event
event_p = record { name = name_p; args = [] }

abbrev pub event_q : Event
event_q = record { name = name_q; args = [] }

-- a step at a time with these events
abbrev pub at_time : ℕ → List Event → Step
at_time time events = record { time = time; events = events }

-- the formulas p() and q()
abbrev pub formula_p : Formula
formula_p = Atom 0 name_p []

abbrev pub formula_q : Formula
formula_q = Atom 0 name_q []

-- q() at time 0, p() at time 3
abbrev pub two_steps : List Step
two_steps = at_time 0 (event_q ∷ []) ∷ at_time 3 (event_p ∷ []) ∷ []

-- q() at time 0, p() at 1, nothing at 2, p() at 3
abbrev pub broken_after : List Step
broken_after =
    at_time 0 (event_q ∷ []) ∷ at_time 1 (event_p ∷ []) ∷ at_time 2 [] ∷ at_time 3 (event_p ∷ []) ∷ []

-- p() at time 0, nothing at 1, p() at 2, q() at 3
abbrev pub broken_before : List Step
broken_before =
    at_time 0 (event_p ∷ []) ∷ at_time 1 [] ∷ at_time 2 (event_p ∷ []) ∷ at_time 3 (event_q ∷ []) ∷ []

-- q() at time 4, then p() at time 4
abbrev pub q_p_at_4 : List Step
q_p_at_4 = at_time 4 (event_q ∷ []) ∷ at_time 4 (event_p ∷ []) ∷ []

-- the formula holds at the position of the trace, where nothing is bound
abbrev pub HoldsUnbound : List Step → ℕ → Formula → Type 0
HoldsUnbound trace i f = Sat trace i no_values f

-- the formula fails at the position of the trace, where nothing is bound
abbrev pub FailsUnbound : List Step → ℕ → Formula → Type 0
FailsUnbound trace i f = Sat trace i no_values f → ⊥

-- a formula of intervals about the difference 3 holds where 3 is the first or the last of the interval, and fails
-- where 3 is one before or one past it
pub record HoldsFor3 (trace : List Step) (i : ℕ) (f : Interval → Formula) : Type 0 where
  pub first : HoldsUnbound trace i (f (interval_between 3 5))
  pub last : HoldsUnbound trace i (f (interval_between 1 3))
  pub before : FailsUnbound trace i (f (interval_between 4 6))
  pub past : FailsUnbound trace i (f (interval_between 0 2))

-- a formula of intervals about the difference 3 fails where 3 is the first or the last of the interval, and holds
-- where 3 is one before or one past it
pub record FailsFor3 (trace : List Step) (i : ℕ) (f : Interval → Formula) : Type 0 where
  pub first : FailsUnbound trace i (f (interval_between 3 5))
  pub last : FailsUnbound trace i (f (interval_between 1 3))
  pub before : HoldsUnbound trace i (f (interval_between 4 6))
  pub past : HoldsUnbound trace i (f (interval_between 0 2))

-- the variable x
abbrev pub variable_x : VarId
variable_x = record { 0 = 0 }

-- a number as a term
abbrev pub number_term : ℤ → Term
number_term n = Const (Num n)

-- a text as a term, by its bytes
abbrev pub text_term : List ℕ → Term
text_term bytes = Const (Text bytes)

-- p(x) and q(x)
abbrev pub formula_p_x : Formula
formula_p_x = Atom 0 name_p (Var variable_x ∷ [])

abbrev pub formula_q_x : Formula
formula_q_x = Atom 0 name_q (Var variable_x ∷ [])

-- the events p(value) and q(value)
abbrev pub event_p_of : Value → Event
event_p_of value = record { name = name_p; args = value ∷ [] }

abbrev pub event_q_of : Value → Event
event_q_of value = record { name = name_q; args = value ∷ [] }

-- p(1) q(1) at time 0
abbrev pub p_1_q_1 : List Step
p_1_q_1 = at_time 0 (event_p_of (Num (pos 1)) ∷ event_q_of (Num (pos 1)) ∷ []) ∷ []

-- p(1) q(1) p("a") at time 0
abbrev pub p_1_q_1_p_a : List Step
p_1_q_1_p_a =
    at_time 0 (event_p_of (Num (pos 1)) ∷ event_q_of (Num (pos 1)) ∷ event_p_of (Text (97 ∷ [])) ∷ []) ∷ []

-- p(1) q(2) at time 0
abbrev pub p_1_q_2 : List Step
p_1_q_2 = at_time 0 (event_p_of (Num (pos 1)) ∷ event_q_of (Num (pos 2)) ∷ []) ∷ []

-- nothing at time 0
abbrev pub empty_step : List Step
empty_step = at_time 0 [] ∷ []
