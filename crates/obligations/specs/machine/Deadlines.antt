-- The deadlines of pending instances.
use Rattle.std.specs.List.{count_by}
use Rattle.std.specs.Prelude.{ℕ, cond, Option, None, Some, List, ◌==◌, Bool, false}
use Rattle.plan_terms.specs.meaning.Plans.{has_deadline, Plan}
use Rattle.obligations.specs.declared.instances.Instance.{Instance}
use Rattle.obligations.specs.meaning.Pending.{node_of}

-- the deadline of an instance of a node, if the node has one
abbrev pub deadline_at : Option Plan → Instance → Option ℕ
deadline_at None i = None
deadline_at (Some node) i = cond (has_deadline node) (Some i.high) None

abbrev pub deadline_of : List Plan → Instance → Option ℕ
deadline_of plans i = deadline_at (node_of plans i) i

-- a deadline, if there is one, is this time
abbrev pub is_deadline_at : Option ℕ → (time : ℕ) → Bool
is_deadline_at None time = false
is_deadline_at (Some deadline) time = deadline == time

abbrev pub is_due : List Plan → (deadline : ℕ) → Instance → Bool
is_due plans deadline i = is_deadline_at (deadline_of plans i) deadline

-- how many of the instances have the deadline
abbrev pub count_due : List Plan → List Instance → (deadline : ℕ) → ℕ
count_due plans instances deadline = count_by (is_due plans deadline) instances
