-- What is known of the sorts of the variables of rules and windows.
use Rattle.enf_data.specs.declared.terms.VarId.{VarId}
use Rattle.std.specs.Prelude.{Contains, ◌↔◌, List, [], ◌∷◌, ℕ, ◌≡◌, ◌⊎◌, IsTrue}
use Rattle.enf_formula.specs.meaning.Satisfaction.{Formula}
use Rattle.signature.specs.declared.entries.NameEntry.{NameEntry}
use Rattle.signature.specs.declared.entries.Sort.{Sort}
use Rattle.signature.specs.declared.entries.Sort.TheVariants.{Int, Text}
use Rattle.plan_terms.specs.meaning.Plans.{Plan}
use Rattle.save_codec.specs.declared.sorts.Known.{Known}
use Rattle.save_codec.specs.meaning.ToldSorts.{PlanTells, GuardTells, has_guard}
use Rattle.plan_terms.specs.meaning.Plans as plans

-- the variable is known to be of this sort
abbrev pub Knows : Known → VarId → Sort → Type 0
Knows known x Int = Contains known.ints.items x
Knows known x Text = Contains known.texts.items x

-- just this is known
abbrev pub KnowsJust : (VarId → Sort → Type 0) → Known → Type 0
KnowsJust tells known = (x : VarId) (sort : Sort) → Knows known x sort ↔ tells x sort

-- of each rule just what its plan tells
abbrev pub KnowRules : List NameEntry → List Plan → List Known → Type 0
KnowRules entries [] [] = Unit {0}
KnowRules entries [] (known ∷ more) = ⊥
KnowRules entries (plan ∷ plans) [] = ⊥
KnowRules entries (plan ∷ plans) (known ∷ more) =
    KnowsJust (PlanTells entries plan) known × KnowRules entries plans more

-- of each window just what the plans that have its guard tell
abbrev pub KnowWindows : List NameEntry → List Plan → List (ℕ × Formula) → List Known → Type 0
KnowWindows entries plans [] [] = Unit {0}
KnowWindows entries plans [] (known ∷ more) = ⊥
KnowWindows entries plans (window ∷ windows) [] = ⊥
KnowWindows entries plans (window ∷ windows) (known ∷ more) =
    KnowsJust (GuardTells entries plans window.0) known × KnowWindows entries plans windows more

-- the list has just this variable besides
abbrev pub HasBesides : VarId → (before after : List VarId) → Type 0
HasBesides x before after = (y : VarId) → Contains after y ↔ (Contains before y ⊎ (x ≡ y))

-- just this became known besides
abbrev pub Learns : (tells : VarId → Sort → Type 0) → (before after : Known) → Type 0
Learns tells before after = (x : VarId) (sort : Sort) → Knows after x sort ↔ (Knows before x sort ⊎ tells x sort)

-- what the plan tells, if it has the guard
abbrev pub GuardedPlanTells : List NameEntry → (guard : ℕ) → plans.Plan → VarId → Sort → Type 0
GuardedPlanTells entries guard plan x sort = IsTrue (has_guard guard plan) × PlanTells entries plan x sort
