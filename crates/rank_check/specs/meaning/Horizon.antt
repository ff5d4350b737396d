-- The horizon of a policy, which bounds how long something is owed where no further event triggers anything.
use Rattle.enf_data.specs.declared.events.NameId.{NameId}
use Rattle.std.specs.List.{flat_map}
use Rattle.std.specs.Prelude.{ℕ, max, List, [], ◌∷◌, min, length, filter, slice_index_or, map, ◌+◌, ◌-◌, ◌*◌}
use Rattle.plan_terms.specs.meaning.Plans.{caused_below, nodes, has_deadline, window_end, Plan}

-- the greatest number of a list, 0 where there is none
abbrev pub greatest : List ℕ → ℕ
greatest [] = 0
greatest (n ∷ ns) = max n (greatest ns)

-- the least number of a list and of one more
abbrev pub least_with : ℕ → List ℕ → ℕ
least_with most [] = most
least_with most (n ∷ ns) = min n (least_with most ns)

-- how many nodes a plan has
abbrev pub plan_size : Plan → ℕ
plan_size plan = length (nodes plan)

-- the nodes with deadlines of all plans
abbrev pub with_deadlines : List Plan → List Plan
with_deadlines plans = filter has_deadline (flat_map nodes plans)

-- the rank of a name in a list by name
abbrev pub rank_in : List ℕ → NameId → ℕ
rank_in ranks name = slice_index_or ranks name.0 0

-- the least rank of a name that is caused below a node, or `above` where none is
abbrev pub least_rank : (above : ℕ) → List ℕ → Plan → ℕ
least_rank above ranks node = least_with above (map (rank_in ranks) (caused_below node))

-- the class of a node, where `above` is one above all ranks and `step` one above all sizes of plans, and so of nodes:
-- by the least rank below it, and then by its size
abbrev pub class_in : (above step : ℕ) → List ℕ → Plan → ℕ
class_in above step ranks node = (above - least_rank above ranks node) * step + plan_size node

abbrev pub class_of : List ℕ → List Plan → Plan → ℕ
class_of ranks plans = class_in (greatest ranks + 1) (greatest (map plan_size plans) + 1) ranks

-- one more than the greatest class times the greatest end, over the nodes with deadlines; 0 where there is none
abbrev pub horizon_of : List ℕ → List Plan → ℕ
horizon_of ranks plans = (greatest (map (class_of ranks plans) (with_deadlines plans)) + 1)
    * greatest (map window_end (with_deadlines plans))
