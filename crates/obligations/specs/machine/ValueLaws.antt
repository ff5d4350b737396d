-- That each literal that is missed is of a leaf, and its values are known and right.
use Rattle.enf_data.specs.declared.steps.Step.{Step}
use Rattle.enf_data.specs.declared.terms.VarId.{VarId}
use Rattle.enf_data.specs.declared.values.Value.{Value}
use Rattle.enf_data.specs.meaning.Valuations.{Valuation}
use Rattle.std.specs.List.{AllByRecursion}
use Rattle.std.specs.Prelude.{◌≡◌, ℕ, Bool, List, Contains, Some, ◌<◌, length, [], ◌∷◌, ◌++◌}
use Rattle.enf_formula.specs.meaning.Satisfaction.{Formula}
use Rattle.plan_terms.specs.meaning.Plans.{Plan}
use Rattle.plan_terms.specs.meaning.Scopes.{future_in}
use Rattle.plan_terms.specs.machine.WellFormed.{AtEach, AreWellFormed}
use Rattle.obligations.specs.declared.instances.Instance.{Instance}
use Rattle.obligations.specs.declared.literals.Literal.{Literal}
use Rattle.obligations.specs.machine.AskablePlans.{CanAskPlan, CanAskOf}
use Rattle.obligations.specs.machine.RightValues.{AreRight, GuardsGiveRight, GivesRight, IsRightLiteral, IsRightIn}
use Rattle.obligations.specs.machine.ValueSources.{IsOwnLiteral}
use Rattle.obligations.specs.meaning.Obligations.{Missing}
use Rattle.obligations.specs.meaning.Pending.{Pend, MissingOf, node_of}

-- where guards give right values, what is pending after the trace has right values
abbrev pub PendingIsRight : Type 0
PendingIsRight = (plans : List Plan) (guards : List (Formula × List VarId)) (trace : List Step)
    (pending : List Instance) (right : (rule : ℕ) → VarId → Value → Bool)
    → AreWellFormed plans guards → GuardsGiveRight plans trace right → Pend plans trace pending
    → (i : Instance) → Contains pending i → (node : Plan) (scope : List VarId)
    → future_in plans i.rule i.node ≡ Some (node, scope) → AreRight (right i.rule) scope i.valuation

-- each literal that a plan misses at the last position under right values has right values, where guards give such
abbrev pub MissedIsRight : Type 0
MissedIsRight = (trace : List Step) (plan : Plan) (scope : List VarId) (right : VarId → Value → Bool)
    (v : Valuation) (literals : List Literal) (literal : Literal) → 0 < length trace
    → AtEach (GivesRight trace right) plan scope → AreRight right scope v
    → Missing trace plan v literals → Contains literals literal → IsRightLiteral right plan scope literal

-- each literal that an instance misses at the step after the trace at which it is pending has right values
abbrev pub MissedOfIsRight : Type 0
MissedOfIsRight = (plans : List Plan) (guards : List (Formula × List VarId)) (trace : List Step) (step : Step)
    (pending : List Instance) (right : (rule : ℕ) → VarId → Value → Bool) (i : Instance) (forced : Bool)
    (literals : List Literal) (literal : Literal)
    → AreWellFormed plans guards → GuardsGiveRight plans (trace ++ step ∷ []) right → Pend plans trace pending
    → Contains pending i → MissingOf plans (trace ++ step ∷ []) i forced literals → Contains literals literal
    → IsRightIn plans i.rule (right i.rule) literal

-- each literal that a plan misses that can be asked is one of its own leaves
abbrev pub MissedAreOwn : Type 0
MissedAreOwn = (guards : List (Formula × List VarId)) (trace : List Step) (plan : Plan) (v : Valuation)
    (literals : List Literal) → CanAskPlan guards plan v → Missing trace plan v literals
    → AllByRecursion (IsOwnLiteral guards trace plan v) literals

-- each literal that an instance misses is one of a leaf of its node
abbrev pub MissedOfAreOwn : Type 0
MissedOfAreOwn = (guards : List (Formula × List VarId)) (plans : List Plan) (trace : List Step) (i : Instance)
    (forced : Bool) (literals : List Literal) (node : Plan) → CanAskOf guards plans i
    → node_of plans i ≡ Some node
    → MissingOf plans trace i forced literals → AllByRecursion (IsOwnLiteral guards trace node i.valuation) literals
