-- The patterns of the events that can change what is pending, and instances that sleep.
use Rattle.enf_data.specs.declared.steps.Step.{Step}
use Rattle.enf_data.specs.meaning.Data.{step_at}
use Rattle.std.specs.Prelude.{List, Option, Some, None, ◌≡◌, ℕ, ◌<◌, ◌≤◌}
use Rattle.plan_terms.specs.meaning.Plans.{Plan, AlwaysPlan}
use Rattle.sleepers.specs.declared.patterns.Pattern.{Pattern}
use Rattle.sleepers.specs.machine.Patterns.{HasNone}
use Rattle.wake_patterns.specs.machine.WakePatterns.{early_patterns, waiting_patterns}
use Rattle.obligations.specs.declared.instances.Instance.{Instance}
use Rattle.obligations.specs.meaning.Obligations.{last_position, time_now}
use Rattle.obligations.specs.meaning.Pending.{node_of}

-- the patterns of an instance, where it has a node
abbrev pub wake_patterns_at : Option Plan → Instance → Option (List Pattern)
wake_patterns_at None i = None
wake_patterns_at (Some node) i = waiting_patterns i.valuation node

abbrev pub wake_patterns_of : List Plan → Instance → Option (List Pattern)
wake_patterns_of plans i = wake_patterns_at (node_of plans i) i

-- and those before its window begins
abbrev pub early_patterns_at : Option Plan → Instance → Option (List Pattern)
early_patterns_at None i = None
early_patterns_at (Some node) i = early_patterns i.valuation node

abbrev pub early_patterns_of : List Plan → Instance → Option (List Pattern)
early_patterns_of plans i = early_patterns_at (node_of plans i) i

-- an instance that can be asked sleeps at the last step of a trace
pub record InstanceSleeps (plans : List Plan) (trace : List Step) (i : Instance) : Type 0 where
  pub patterns : List Pattern
  pub wakes : wake_patterns_of plans i ≡ Some patterns
  pub none : HasNone patterns (step_at trace (last_position trace)).events

-- so does one whose window has not begun
pub record InstanceIsEarly (plans : List Plan) (trace : List Step) (i : Instance) : Type 0 where
  pub patterns : List Pattern
  pub wakes : early_patterns_of plans i ≡ Some patterns
  pub none : HasNone patterns (step_at trace (last_position trace)).events
  pub before : time_now trace < i.low

-- a time to which the window of an Always reaches
abbrev pub IsWindowNotOver : Option Plan → Instance → (time : ℕ) → Type 0
IsWindowNotOver (Some (AlwaysPlan node place low high body)) i time = time ≤ i.high
IsWindowNotOver other i time = Unit {0}
