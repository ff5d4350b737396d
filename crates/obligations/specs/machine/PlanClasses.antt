-- Classes of plans: patient ones, ones without choices, ones that do not look ahead, ones that stand.
use Rattle.enf_data.specs.declared.steps.Step.{Step}
use Rattle.enf_data.specs.meaning.Valuations.{Valuation}
use Rattle.std.specs.List.{AllByRecursion}
use Rattle.std.specs.Prelude.{◌≡◌, List, [], ℕ, Some, slice_get, false}
use Rattle.plan_terms.specs.machine.NamedNodes.{StandsIn}
use Rattle.plan_terms.specs.meaning.Plans.{is_future, nodes, Plan, Either, UntilPlan}
use Rattle.obligations.specs.declared.literals.Literal.{Literal}
use Rattle.obligations.specs.meaning.Obligations.{Missing}

-- what the plan misses at the last position of a trace, under a valuation, is nothing
abbrev pub IsPatient : Plan → Type 0
IsPatient plan = (trace : List Step) (v : Valuation) (literals : List Literal)
    → Missing trace plan v literals → literals ≡ []

-- guards and tests look back alone, and nodes are those that their numbers name
abbrev pub PlansStand : List Plan → Type 0
PlansStand plans = (rule : ℕ) (plan : Plan) → slice_get plans rule ≡ Some plan → StandsIn plans rule plan

-- no node looks ahead
abbrev pub LooksAtNow : Plan → Type 0
LooksAtNow plan = AllByRecursion (λ node. is_future node ≡ false) (nodes plan)

-- no choice between two sides, which another event can turn
abbrev pub IsPlain : Plan → Type 0
IsPlain (Either node left right) = ⊥
IsPlain (UntilPlan node place low high left right) = ⊥
IsPlain plan = Unit {0}
