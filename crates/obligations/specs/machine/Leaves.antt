-- Leaves of plans: the literals that are theirs, their terms and constants.
use Rattle.enf_data.specs.declared.events.Event.{Event}
use Rattle.enf_data.specs.declared.terms.Term.{Term}
use Rattle.enf_data.specs.declared.terms.Term.TheVariants.{Const}
use Rattle.enf_data.specs.declared.terms.VarId.{VarId}
use Rattle.enf_data.specs.declared.values.Value.{Value}
use Rattle.enf_data.specs.meaning.Valuations.{Valuation, value_at}
use Rattle.std.specs.Prelude.{◌≡◌, ℕ, length, List, Contains, [], Some}
use Rattle.plan_terms.specs.meaning.Plans.{nodes, Plan, CausePlan, SuppressPlan}
use Rattle.obligations.specs.declared.literals.LiteralKind.{LiteralKind}
use Rattle.obligations.specs.declared.literals.LiteralKind.TheVariants as kind

-- ---- literals that are wanted

-- a leaf, of this kind, number, name and with these terms
abbrev pub IsLeaf : Plan → LiteralKind → (number : ℕ) → Event → Type 0
IsLeaf (CausePlan node place name terms) k number event =
    (k ≡ kind.Cause) × (number ≡ node) × (event.name ≡ name) × (length event.args ≡ length terms)
IsLeaf (SuppressPlan node place name terms) k number event =
    (k ≡ kind.Suppress) × (number ≡ node) × (event.name ≡ name) × (length event.args ≡ length terms)
IsLeaf plan k number event = ⊥

-- what is caused is not there, and what is suppressed is
abbrev pub ChangesEvents : LiteralKind → Event → List Event → Type 0
ChangesEvents kind.Cause event events = Contains events event → ⊥
ChangesEvents kind.Suppress event events = Contains events event

abbrev pub terms_of : Plan → List Term
terms_of (CausePlan node place name terms) = terms
terms_of (SuppressPlan node place name terms) = terms
terms_of plan = []

-- a constant of a leaf
abbrev pub IsLeafConstant : Plan → Value → Type 0
IsLeafConstant plan value = (leaf : Plan) × Contains (nodes plan) leaf × Contains (terms_of leaf) (Const value)

-- the value of a variable
abbrev pub IsBound : Valuation → Value → Type 0
IsBound v value = (x : VarId) × (value_at v x ≡ Some value)
