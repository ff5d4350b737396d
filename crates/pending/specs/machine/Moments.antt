-- Moments: a time at steps of the system, and after it the time at the step that is inserted there.
use Rattle.std.specs.Prelude.{Bool, ℕ, cond, min, ◌+◌, ◌*◌, ◌-◌, ◌^◌}

-- the number of a moment; those that would be above the greatest number are one
abbrev pub step_moment : (inserted : Bool) → (time : ℕ) → ℕ
step_moment inserted time = min (2 * time + cond inserted 1 0) (2 ^ 64 - 1)
