-- Deadlines with how many entries of each are held.
use Rattle.std.specs.BTreeMap.{is_at}
use Rattle.std.specs.List.Sorted.{IsStrictlySortedBy}
use Rattle.std.specs.Map.{keys_of, values_of, lookup}
use Rattle.std.specs.Option.{unwrap_or}
use Rattle.std.specs.Ordering.{nat_cmp}
use Rattle.std.specs.Prelude.{ℕ, ◌≤◌, List, All, ◌≡◌, ◌+◌, [], ◌∷◌, ◌++◌, replicate, Option}
use Rattle.std.specs.Prelude.{None, Some, Contains}

-- pairs of a deadline and how often it is held: the deadlines rise, and each is held at least once
pub record IsDeadlineQueue (queue : List (ℕ × ℕ)) : Type 0 where
  pub rising : IsStrictlySortedBy nat_cmp (keys_of queue)
  pub some : All (λ count. 1 ≤ count) (values_of queue)

-- how often a deadline is held
abbrev pub held_count : List (ℕ × ℕ) → (deadline : ℕ) → ℕ
held_count queue deadline = unwrap_or (lookup (is_at (nat_cmp deadline)) queue) 0

-- this deadline is held once more by one queue than by the other, and each other deadline as often
abbrev pub HoldsOneMore : (deadline : ℕ) → (queue more : List (ℕ × ℕ)) → Type 0
HoldsOneMore deadline queue more =
    (other : ℕ) → held_count more other ≡ held_count queue other + held_count ((deadline, 1) ∷ []) other

-- the deadlines, each as often as it is held
abbrev pub held_deadlines : List (ℕ × ℕ) → List ℕ
held_deadlines [] = []
held_deadlines (pair ∷ pairs) = replicate pair.1 pair.0 ++ held_deadlines pairs

-- the least of some numbers, if there are any
abbrev pub IsLeastOf : List ℕ → Option ℕ → Type 0
IsLeastOf numbers None = numbers ≡ []
IsLeastOf numbers (Some least) =
    Contains numbers least × ((number : ℕ) → Contains numbers number → least ≤ number)
