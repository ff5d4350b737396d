-- What the code gives for a formula, and what it makes of what was given for operands.
use Rattle.enf_data.specs.declared.terms.VarId.{VarId}
use Rattle.std.specs.Prelude.{Result, Ok, Err, ◌≡◌, Bool, true, false, ℕ, zero, suc, None, Some, Option, List}
use Rattle.std.specs.Prelude.{[], ◌∷◌}
use Rattle.enf_formula.specs.meaning.Satisfaction.{Formula, Not, formula_place, And}
use Rattle.plan_terms.specs.machine.StoredPlans.{plan_of}
use Rattle.plan_terms.specs.meaning.Plans.{Plan, Guarded, TestOr}
use Rattle.enforce_types.specs.declared.refusals.Refusal.{Refusal}
use Rattle.enforce_types.specs.declared.refusals.TypeRefusal.{TypeRefusal}
use Rattle.enforce_types.specs.declared.refusals.TypeRefusal.TheVariants.{Unguarded, NotEnforceable, RoleClash}
use Rattle.enforce_types.specs.declared.refusals.TypeRefusal.TheVariants.{Untriggered, Cyclic, NoMemory}
use Rattle.enforce_types.specs.meaning.Elab.{Answer, Aim, Up, Down}
use Rattle.enforce_types.specs.declared.refusals.Refusal.TheVariants as rule
use Rattle.plan_terms.specs.declared.plans.Plan as stored

-- a refusal of the code, where these are the right ones of a formula or of rules: one of them, or that memory ran out
abbrev pub GivesRefusal : (Refusal → Type 0) → TypeRefusal → Type 0
GivesRefusal refuses (Unguarded place) = refuses (rule.Unguarded place)
GivesRefusal refuses (NotEnforceable place) = refuses (rule.NotEnforceable place)
GivesRefusal refuses (RoleClash name) = ⊥
GivesRefusal refuses (Untriggered place) = ⊥
GivesRefusal refuses (Cyclic name) = ⊥
GivesRefusal refuses NoMemory = Unit {0}

-- what the code gives for a formula, where these are the right answers: a plan that is one of them, or a refusal
abbrev pub GivesAnswer : (Answer → Type 0) → Result stored.Plan TypeRefusal → Type 0
GivesAnswer answers (Ok plan) = answers (Ok (plan_of plan))
GivesAnswer answers (Err refusal) = GivesRefusal (λ why. answers (Err why)) refusal

-- a formula, or its denial
abbrev pub denied_where : Bool → Formula → Formula
denied_where true f = Not (formula_place f) f
denied_where false f = f

-- what a formula is to be made whose denial is to be made true, or itself
abbrev pub aim_where : (denied : Bool) → Aim
aim_where true = Down
aim_where false = Up

-- a number that is at least 1
abbrev pub positive_end : Option ℕ → Option ℕ
positive_end None = None
positive_end (Some zero) = None
positive_end (Some (suc n)) = Some (suc n)

-- the same of an interval that begins at 0
abbrev pub positive_end_from : (low : ℕ) → Option ℕ → Option ℕ
positive_end_from zero high = positive_end high
positive_end_from (suc low) high = None

-- what an implication gives whose right side h is refused and a test, with a plan that makes the left side false
abbrev pub test_answer : (place arrow : ℕ) → List VarId → (guards : Bool) → (g h : Formula) → Plan → Answer
test_answer place arrow xs true g h plan = Ok (Guarded 0 xs 0 (And arrow g (Not (formula_place h) h)) plan)
test_answer place arrow [] false g h plan = Ok (TestOr 0 0 h plan)
test_answer place arrow (x ∷ xs) false g h plan = Err (rule.Unguarded place)
