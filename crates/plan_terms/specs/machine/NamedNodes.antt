-- The nodes that stand in the plan of a rule, each the one that its number names, with guards that look back.
use Rattle.enf_data.specs.declared.terms.VarId.{VarId}
use Rattle.std.specs.List.{AllByRecursion}
use Rattle.std.specs.Option.{option_map}
use Rattle.std.specs.Prelude.{◌≡◌, ℕ, Bool, true, false, List, None, Some, Option, []}
use Rattle.plan_terms.specs.machine.GuardProperties.{GuardLooksBack}
use Rattle.plan_terms.specs.meaning.Plans.{node_number, node_in, nodes, Plan}
use Rattle.plan_terms.specs.meaning.Scopes.{scoped_at}

-- the variables in scope at the first node with the number, in the order in which they were bound; none is in scope at
-- the root of a rule's plan
abbrev pub scope_at : ℕ → Plan → Option (List VarId)
scope_at number plan = option_map (λ node. node.1) (scoped_at number plan [])

-- the variables in scope at the first node with the number, below a plan where some are in scope; where there is no
-- such node, they stay
abbrev pub FindsScope : (number : ℕ) → Plan → (before after : List VarId) → (found : Bool) → Type 0
FindsScope number plan before after true =
    option_map (λ node. node.1) (scoped_at number plan before) ≡ Some after
FindsScope number plan before after false = (scoped_at number plan before ≡ None) × (after ≡ before)

-- the node is the one that its number names in the plan of a rule
abbrev pub IsNodeByNumber : List Plan → (rule : ℕ) → Plan → Type 0
IsNodeByNumber plans rule node = node_in plans rule (node_number node) ≡ Some node

-- the nodes of a plan that stands in that of a rule
pub record StandsIn (plans : List Plan) (rule : ℕ) (plan : Plan) : Type 0 where
  pub back : AllByRecursion GuardLooksBack (nodes plan)
  pub named : AllByRecursion (IsNodeByNumber plans rule) (nodes plan)
