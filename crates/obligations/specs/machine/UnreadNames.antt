-- Names that a plan does not read, and traces that differ in such a name alone.
use Rattle.enf_data.specs.declared.events.NameId.{NameId}
use Rattle.enf_data.specs.declared.steps.Step.{Step}
use Rattle.enf_data.specs.meaning.Data.{step_at}
use Rattle.std.specs.List.{AllByRecursion}
use Rattle.std.specs.Prelude.{List, Contains, ◌≡◌, [], ◌⊎◌, ◌∷◌}
use Rattle.enf_formula.specs.machine.Agreement.{names_in_formula}
use Rattle.enf_formula.specs.machine.Polarity.{HaveMoreOf}
use Rattle.enf_formula.specs.meaning.Satisfaction.{Formula}
use Rattle.plan_terms.specs.machine.GuardProperties.{OfGuard}
use Rattle.plan_terms.specs.meaning.Plans.{nodes, Plan, CausePlan, SuppressPlan}
use Rattle.obligations.specs.declared.literals.Literal.{Literal}
use Rattle.obligations.specs.declared.literals.LiteralKind.{LiteralKind}
use Rattle.obligations.specs.machine.Leaves.{ChangesEvents}
use Rattle.obligations.specs.meaning.Obligations.{last_position}
use Rattle.obligations.specs.declared.literals.LiteralKind.TheVariants as kind

-- the traces differ in events of the name alone, of which the other has more, or fewer
abbrev pub DiffersIn : LiteralKind → NameId → (trace other : List Step) → Type 0
DiffersIn kind.Cause name trace other = HaveMoreOf name trace other
DiffersIn kind.Suppress name trace other = HaveMoreOf name other trace

-- the formula does not look for the name
abbrev pub Ignores : NameId → Formula → Type 0
Ignores name f = Contains (names_in_formula f) name → ⊥

-- the guard or test of a node does not look for the name
abbrev pub IgnoresAt : NameId → Plan → Type 0
IgnoresAt name node = OfGuard (λ guard. Ignores name guard.0) node []

-- the guard or test of a node does not look for the name, and a leaf does not want the contrary of an action on it
abbrev pub IsUnread : LiteralKind → NameId → Plan → Type 0
IsUnread k name (CausePlan node place other terms) = k ≡ kind.Suppress → other ≡ name → ⊥
IsUnread k name (SuppressPlan node place other terms) = k ≡ kind.Cause → other ≡ name → ⊥
IsUnread k name plan = IgnoresAt name plan

-- no guard or test of a plan looks for the name, and none of its leaves wants the contrary of an action on it
abbrev pub IsUnreadIn : LiteralKind → NameId → Plan → Type 0
IsUnreadIn k name plan = AllByRecursion (IsUnread k name) (nodes plan)

-- the literal's event is absent from the last step and to be caused, or there and to be suppressed
abbrev pub IsStillWanted : List Step → Literal → Type 0
IsStillWanted trace literal = ChangesEvents literal.kind literal.event (step_at trace (last_position trace)).events

-- the items of a list that have a property, in their order
abbrev pub AreThoseWith : {X : Type 0} → (X → Type 0) → (all those : List X) → Type 0
AreThoseWith P [] those = those ≡ []
AreThoseWith {X} P (x ∷ all) those =
    (P x × (more : List X) × AreThoseWith P all more × (those ≡ x ∷ more))
    ⊎ ((P x → ⊥) × AreThoseWith P all those)
