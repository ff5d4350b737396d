-- Which valuations a list of committed steps answers, by a walk over the whole list, and what to keep of it.
use Rattle.enf_data.specs.declared.intervals.Interval.{Interval}
use Rattle.enf_data.specs.declared.terms.VarId.{VarId}
use Rattle.enf_data.specs.meaning.Membership.{IsIn}
use Rattle.enf_data.specs.meaning.Valuations.{Valuation}
use Rattle.std.specs.Prelude.{ℕ, ◌≡◌, List, ◌∷◌, ◌++◌, All, ◌-◌, [], ◌≤◌}
use Rattle.valuations.specs.machine.Tables.{Relation, HasValuation}
use Rattle.windows.specs.meaning.KeptPairs.{Chosen}

-- a time, with the rows that survive the step at it and those that are right at it
pub record CommittedStep : Type 0 where
  pub time : ℕ
  pub surviving : Relation
  pub right : Relation

-- one of the steps, at a time that counts, has the valuation among its right rows, and the valuation survives each
-- step after it
pub record IsHeld (Counts : ℕ → Type 0) (steps : List CommittedStep) (v : Valuation) : Type 0 where
  pub before : List CommittedStep
  pub step : CommittedStep
  pub after : List CommittedStep
  pub split : steps ≡ before ++ step ∷ after
  pub counts : Counts step.time
  pub right : HasValuation step.right v
  pub survives : All (λ later. HasValuation later.surviving v) after

-- a step counts whose distance from the time is in the interval
abbrev pub StepsAnswer : Interval → ℕ → List CommittedStep → Valuation → Type 0
StepsAnswer interval time steps v = IsHeld (λ earlier. IsIn interval (time - earlier)) steps v

-- from 0 to the end of the interval: what is at such a distance from a time is in the interval then or later
abbrev pub to_the_end : Interval → Interval
to_the_end interval = record interval { low = 0 }

-- a step at this time, with the rows that survive it and those that are right at it
abbrev pub committed_step : ℕ → Relation → Relation → CommittedStep
committed_step time surviving right = record { time = time; surviving = surviving; right = right }

-- the steps with this one more
abbrev pub with_committed_step : List CommittedStep → ℕ → Relation → Relation → List CommittedStep
with_committed_step steps time surviving right = steps ++ committed_step time surviving right ∷ []

-- no step is later than the time
abbrev pub AreUpTo : ℕ → List CommittedStep → Type 0
AreUpTo time steps = All (λ step. step.time ≤ time) steps

-- both tables have these columns, in this order
abbrev pub HasColumns : List VarId → CommittedStep → Type 0
HasColumns columns step = (step.surviving.columns ≡ columns) × (step.right.columns ≡ columns)

-- the valuation was right at a step of this time, and survives each step after it
abbrev pub HasPair : List CommittedStep → Valuation → ℕ → Type 0
HasPair steps v time = IsHeld (λ earlier. earlier ≡ time) steps v

-- what an interval asks to be kept of the steps, the last of which was at the last time
abbrev pub IsKeptTime : Interval → ℕ → List CommittedStep → Valuation → ℕ → Type 0
IsKeptTime interval last steps v time = Chosen interval last (HasPair steps v) time
