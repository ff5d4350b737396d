-- What pending instances wait for: events, and a moment.
use Rattle.enf_data.specs.declared.events.Event.{Event}
use Rattle.std.specs.Prelude.{◌≡◌, ◌⊎◌, ℕ, ◌<◌, List, Option, Some, cond, false, min, nat_lt, true}
use Rattle.plan_terms.specs.meaning.Plans.{Plan}
use Rattle.sleepers.specs.declared.patterns.Pattern.{Pattern}
use Rattle.sleepers.specs.machine.Patterns.{HasNone}
use Rattle.obligations.specs.declared.instances.Instance.{Instance}
use Rattle.pending.specs.machine.InstancePatterns.{early_patterns_of, wake_patterns_of}
use Rattle.pending.specs.machine.Moments.{step_moment}

-- events of some patterns, where these are known, up to a moment
pub record Wait : Type 0 where
  pub patterns : Option (List Pattern)
  pub until : ℕ

-- the last moment of a window, and the first one, where that is not behind the last
abbrev pub open_until : Instance → ℕ
open_until i = step_moment true i.high

abbrev pub early_until : Instance → ℕ
early_until i = min (step_moment false i.low) (step_moment true i.high)

-- what can change an instance, up to the last moment of its window, and up to the first
abbrev pub open_wait : List Plan → Instance → Wait
open_wait plans i = record { patterns = wake_patterns_of plans i; until = open_until i }

abbrev pub early_wait : List Plan → Instance → Wait
early_wait plans i = record { patterns = early_patterns_of plans i; until = early_until i }

-- at a time, that of an instance whose window has not begun is the early one
abbrev pub until_at : (time : ℕ) → Instance → ℕ
until_at time i = cond (nat_lt time i.low) (early_until i) (open_until i)

abbrev pub patterns_at : List Plan → (time : ℕ) → Instance → Option (List Pattern)
patterns_at plans time i = cond (nat_lt time i.low) (early_patterns_of plans i) (wake_patterns_of plans i)

-- it is one of the two, at whatever time it was made
abbrev pub IsWaitOf : List Plan → Wait → Instance → Type 0
IsWaitOf plans wait i = (wait ≡ open_wait plans i) ⊎ (wait ≡ early_wait plans i)

-- an instance with what it waits for
pub record Listed : Type 0 where
  pub wait : Wait
  pub instance : Instance

-- no event can change it at a moment, before the one up to which it waits
pub record SleepsNow (events : List Event) (moment : ℕ) (x : Listed) : Type 0 where
  pub patterns : List Pattern
  pub waits : x.wait.patterns ≡ Some patterns
  pub none : HasNone patterns events
  pub in_time : moment < x.wait.until
