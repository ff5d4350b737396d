-- That what misses nothing misses nothing after an action on a name that does not move it.
use Rattle.enf_data.specs.declared.events.NameId.{NameId}
use Rattle.enf_data.specs.declared.steps.Step.{Step}
use Rattle.enf_data.specs.declared.terms.VarId.{VarId}
use Rattle.enf_data.specs.meaning.Valuations.{Valuation}
use Rattle.std.specs.List.{AllByRecursion}
use Rattle.std.specs.Prelude.{List, [], Bool, ◌≡◌, Some}
use Rattle.enf_formula.specs.meaning.Satisfaction.{Formula}
use Rattle.plan_terms.specs.meaning.Plans.{nodes, Plan}
use Rattle.obligations.specs.declared.instances.Instance.{Instance}
use Rattle.obligations.specs.declared.literals.Literal.{Literal}
use Rattle.obligations.specs.declared.literals.LiteralKind.{LiteralKind}
use Rattle.obligations.specs.machine.AskablePlans.{CanAskPlan, CanAskOf}
use Rattle.obligations.specs.machine.PlanClasses.{IsPlain}
use Rattle.obligations.specs.machine.MovedPlans.{IsUnmovedIn, LeavesRestIn}
use Rattle.obligations.specs.machine.UnreadNames.{DiffersIn, IsStillWanted, AreThoseWith}
use Rattle.obligations.specs.meaning.Obligations.{Missing}
use Rattle.obligations.specs.meaning.Pending.{MissingOf, node_of}

-- a plan that missed nothing still misses nothing after an action on a name that does not move it
abbrev pub UnreadStaysMet : Type 0
UnreadStaysMet = (guards : List (Formula × List VarId)) (k : LiteralKind) (name : NameId) (trace other : List Step)
    (plan : Plan) (v : Valuation) → DiffersIn k name trace other → IsUnmovedIn k name plan
    → CanAskPlan guards plan v → Missing trace plan v [] → Missing other plan v []

-- a pending instance that missed nothing still misses nothing after an action on a name that does not move its node
abbrev pub UnreadInstanceStaysMet : Type 0
UnreadInstanceStaysMet = (guards : List (Formula × List VarId)) (k : LiteralKind) (name : NameId)
    (trace other : List Step) (plans : List Plan) (i : Instance) (forced : Bool) → DiffersIn k name trace other
    → ((node : Plan) → node_of plans i ≡ Some node → IsUnmovedIn k name node) → CanAskOf guards plans i
    → MissingOf plans trace i forced [] → MissingOf plans other i forced []

-- a plan without such choices misses after an action on a name what it missed, but for what is no longer wanted, where
-- its guards do not look for the name, or the action takes out what such a guard holds for
abbrev pub UnreadLeavesRest : Type 0
UnreadLeavesRest = (k : LiteralKind) (name : NameId) (trace other : List Step) (plan : Plan) (v : Valuation)
    (literals : List Literal) → DiffersIn k name trace other → LeavesRestIn k name plan
    → AllByRecursion IsPlain (nodes plan) → Missing trace plan v literals
    → (left : List Literal) × AreThoseWith (IsStillWanted other) literals left × Missing other plan v left
