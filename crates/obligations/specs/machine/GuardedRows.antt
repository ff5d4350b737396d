-- The rows of a guard that tell what a plan below it misses.
use Rattle.enf_data.specs.declared.events.NameId.{NameId}
use Rattle.enf_data.specs.declared.steps.Step.{Step}
use Rattle.enf_data.specs.declared.terms.Term.{Term}
use Rattle.enf_data.specs.declared.terms.Term.TheVariants.{Var}
use Rattle.enf_data.specs.declared.terms.VarId.{VarId}
use Rattle.enf_data.specs.declared.values.Value.{Value}
use Rattle.enf_data.specs.meaning.Valuations.{Valuation}
use Rattle.std.specs.List.{list_any}
use Rattle.std.specs.Prelude.{Bool, List, Contains, Option, None, Some, false, nat_eq, ℕ, ◌≡◌}
use Rattle.enf_formula.specs.meaning.Satisfaction.{Formula}
use Rattle.plan_terms.specs.meaning.Plans.{Plan, SuppressPlan, TestOr, Guarded}
use Rattle.valuations.specs.machine.Bindings.{filled_from_row}
use Rattle.valuations.specs.machine.Tables.{Relation}
use Rattle.obligations.specs.declared.literals.Literal.{Literal}
use Rattle.obligations.specs.declared.present_step.Now.{Now}
use Rattle.obligations.specs.machine.AskablePlans.{CanAskPlan}
use Rattle.obligations.specs.machine.FreshGuards.{guards_now}
use Rattle.obligations.specs.machine.PresentStep.{IsNowOf}
use Rattle.obligations.specs.machine.WantedLiterals.{IsWanted, IsWantedUnder}
use Rattle.obligations.specs.meaning.Obligations.{Missing, Gathers}

-- the name and the terms of the events that the plan suppresses, where below tests it does nothing else
abbrev pub suppressed_alone : Plan → Option (NameId × List Term)
suppressed_alone (SuppressPlan node place name terms) = Some (name, terms)
suppressed_alone (TestOr node guard test body) = suppressed_alone body
suppressed_alone plan = None

-- whether a term is the variable
abbrev pub is_term_of : VarId → Term → Bool
is_term_of x (Var y) = nat_eq y.0 x.0
is_term_of x term = false

-- whether the variable is one of the terms
abbrev pub is_in_terms : List Term → VarId → Bool
is_in_terms terms x = list_any (is_term_of x) terms

-- under each of the rows the body can be asked; what it misses under all of them is what the plan misses, and what it
-- wants under one the plan wants
pub record TellMissing (now : Now) (plan body : Plan) (v : Valuation) (rows : Relation) : Type 0 where
  pub asked : (row : List Value) → Contains rows.rows row
      → CanAskPlan (guards_now now) body (filled_from_row v rows.columns row)
  pub missed : (trace : List Step) → IsNowOf now trace → (literals : List Literal)
      → Gathers (λ row. Missing trace body (filled_from_row v rows.columns row)) rows.rows literals
      → Missing trace plan v literals
  pub wanted : (literal : Literal) → IsWantedUnder now body v rows literal → IsWanted now plan v literal

-- the plan with such a guard above the body, which can be asked
pub record IsGuardedBy (now : Now) (guard : ℕ) (test : Formula) (xs : List VarId) (body : Plan) (v : Valuation)
    (plan : Plan) : Type 0 where
  pub node : ℕ
  pub is : plan ≡ Guarded node xs guard test body
  pub can : CanAskPlan (guards_now now) plan v
