-- Up to when something can be owed of what is pending.
use Rattle.std.specs.List.{AllByRecursion}
use Rattle.std.specs.Prelude.{ℕ, List, map, ◌+◌, ◌*◌, cond, Option, None, Some, ◌≤◌, ◌&&◌, Bool}
use Rattle.std.specs.Prelude.{false, nat_eq, count_by, ◌≡◌, ◌<◌, zero, suc, [], ◌∷◌}
use Rattle.plan_terms.specs.meaning.Plans.{window_end, has_deadline, Plan}
use Rattle.obligations.specs.declared.instances.Instance.{Instance}
use Rattle.obligations.specs.meaning.Pending.{node_of}
use Rattle.rank_check.specs.meaning.Horizon.{greatest, with_deadlines, class_of}

-- the greatest end of the intervals of nodes with a deadline
abbrev pub widest_window : List Plan → ℕ
widest_window plans = greatest (map window_end (with_deadlines plans))

-- up to when an instance of the node can be owed something, and all that follows from it at inserted steps: its
-- deadline, and the widest interval once for each class below its own. 0 where it has no deadline
abbrev pub reach_at : (ranks : List ℕ) → List Plan → (high : ℕ) → Option Plan → ℕ
reach_at ranks plans high None = 0
reach_at ranks plans high (Some node) =
    cond (has_deadline node) (high + class_of ranks plans node * widest_window plans) 0

-- the greatest time up to which something can be owed, over what is pending
abbrev pub reach_of : (ranks : List ℕ) → List Plan → List Instance → ℕ
reach_of ranks plans pending = greatest (map (λ i. reach_at ranks plans i.high (node_of plans i)) pending)

-- ---- from whatever is pending

-- the windows do not end before they begin
abbrev pub WindowsAreOrdered : List Instance → Type 0
WindowsAreOrdered pending = AllByRecursion (λ i. i.low ≤ i.high) pending

-- the instance is of a node with a deadline, of this class
abbrev pub is_of_class : (ranks : List ℕ) → List Plan → (class : ℕ) → Option Plan → Bool
is_of_class ranks plans class None = false
is_of_class ranks plans class (Some node) = has_deadline node && nat_eq (class_of ranks plans node) class

-- how many instances of this class there are
abbrev pub count_of_class : (ranks : List ℕ) → List Plan → (class : ℕ) → List Instance → ℕ
count_of_class ranks plans class pending = count_by (λ i. is_of_class ranks plans class (node_of plans i)) pending

-- of some class there are fewer, and of each class above it as many
pub record CountsFall (ranks : List ℕ) (plans : List Plan) (before after : List Instance) : Type 0 where
  pub class : ℕ
  pub fewer : count_of_class ranks plans class after < count_of_class ranks plans class before
  pub above : (higher : ℕ) → class < higher
      → count_of_class ranks plans higher after ≡ count_of_class ranks plans higher before

-- one above the greatest class of a node with a deadline
abbrev pub classes_of : (ranks : List ℕ) → List Plan → ℕ
classes_of ranks plans = greatest (map (class_of ranks plans) (with_deadlines plans)) + 1

-- how many instances there are of each class below a number, from the greatest down
abbrev pub counts_below : (ranks : List ℕ) → List Plan → (classes : ℕ) → List Instance → List ℕ
counts_below ranks plans zero pending = []
counts_below ranks plans (suc class) pending =
    count_of_class ranks plans class pending ∷ counts_below ranks plans class pending

-- how many there are of each class, from the greatest down
abbrev pub class_counts : (ranks : List ℕ) → List Plan → List Instance → List ℕ
class_counts ranks plans pending = counts_below ranks plans (classes_of ranks plans) pending
