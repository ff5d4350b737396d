-- From formulas to plans: what is answered for a formula, the numbers of nodes, and which policies are accepted.
use Rattle.enf_data.specs.declared.terms.VarId.{VarId}
use Rattle.std.specs.Prelude.{Result, ◌≡◌, ℕ, Err, Bool, true, false, Ok, zero, suc, Option, None, Some, List, Contains}
use Rattle.std.specs.Prelude.{[], ◌++◌, ◌+◌, ◌∷◌, length, slice_get}
use Rattle.enf_formula.specs.meaning.Satisfaction.{Formula, IsFree, And, Not, formula_place, Atom, Or, Implies, Exists}
use Rattle.enf_formula.specs.meaning.Satisfaction.{Forall, Next, Eventually, Always, Until}
use Rattle.monitorable_guard.specs.meaning.Safety.{IsTest, Safe}
use Rattle.plan_terms.specs.meaning.Plans.{Plan, Either, TestOr, Guarded, CausePlan, SuppressPlan, Both, EventuallyPlan}
use Rattle.plan_terms.specs.meaning.Plans.{AlwaysPlan, UntilPlan, NextPlan, nodes, all_guards}
use Rattle.enforce_types.specs.declared.refusals.Refusal.{Refusal}
use Rattle.enforce_types.specs.declared.refusals.Refusal.TheVariants.{NotEnforceable, Unguarded}
use Rattle.enf_data.specs.declared.events.NameId.{NameId}
use Rattle.std.specs.List.{AllZip}
use Rattle.signature.specs.declared.entries.NameEntry.{NameEntry}
use Rattle.rank_check.specs.meaning.AcceptedPlans.{AreAccepted}
use Rattle.plan_terms.specs.meaning.Plans as plan

-- what is answered for a formula: a plan, whose nodes and guards all have the number 0, or the first refusal
abbrev pub Answer : Type 0
Answer = Result Plan Refusal

-- the answer is the refusal at the place
abbrev pub IsRefusedAt : ℕ → Answer → Type 0
IsRefusedAt place answer = answer ≡ Err (NotEnforceable place)

-- the answer is the leaf where events of the name may be changed so, and else the refusal at the place
abbrev pub LeafWhere : Bool → ℕ → Plan → Answer → Type 0
LeafWhere true place leaf answer = answer ≡ Ok leaf
LeafWhere false place leaf answer = IsRefusedAt place answer

-- the answer is a node over the plan of one formula, or the refusal of that formula
pub data OverOne (one : Answer → Type 0) (node : Plan → Plan) (answer : Answer) : Type 0 where
  operand_made : (plan : Plan) → one (Ok plan) → answer ≡ Ok (node plan) → OverOne one node answer
  operand_refused : (refusal : Refusal) → one (Err refusal) → answer ≡ Err refusal → OverOne one node answer

-- the answer is a node over the plans of two formulas, or the refusal of the first, or else that of the second
pub data OverTwo (first second : Answer → Type 0) (node : Plan → Plan → Plan) (answer : Answer) : Type 0 where
  two_made : (left right : Plan) → first (Ok left) → second (Ok right) → answer ≡ Ok (node left right)
      → OverTwo first second node answer
  first_refused : (refusal : Refusal) → first (Err refusal) → answer ≡ Err refusal → OverTwo first second node answer
  second_refused : (left : Plan) (refusal : Refusal) → first (Ok left) → second (Err refusal) → answer ≡ Err refusal
      → OverTwo first second node answer

-- an interval has an end of at least 1, or the formula is refused before its operands are looked at
abbrev pub WithEnd : ℕ → Option ℕ → (ℕ → Answer → Type 0) → Answer → Type 0
WithEnd place None within answer = IsRefusedAt place answer
WithEnd place (Some zero) within answer = IsRefusedAt place answer
WithEnd place (Some (suc high)) within answer = within (suc high) answer

-- an interval begins at 0 and has an end of at least 1, or the formula is refused before its operands are looked at
abbrev pub FromNow : ℕ → (low : ℕ) → Option ℕ → (ℕ → Answer → Type 0) → Answer → Type 0
FromNow place zero high within answer = WithEnd place high within answer
FromNow place (suc low) high within answer = IsRefusedAt place answer

-- of two formulas one is to be made true, with what is answered for each: the right side is tried first
pub data OneOfTwo (scope : List VarId) (l r : Formula) (left right : Answer → Type 0) (answer : Answer) : Type 0 where
  left_test : (plan : Plan) → right (Ok plan) → IsTest l (Contains scope) → answer ≡ Ok (TestOr 0 0 l plan)
      → OneOfTwo scope l r left right answer
  either_made : (plan other : Plan) → right (Ok plan) → (IsTest l (Contains scope) → ⊥) → left (Ok other)
      → answer ≡ Ok (Either 0 other plan) → OneOfTwo scope l r left right answer
  left_refused : (plan : Plan) (refusal : Refusal) → right (Ok plan) → (IsTest l (Contains scope) → ⊥)
      → left (Err refusal) → answer ≡ Err refusal → OneOfTwo scope l r left right answer
  right_refused : (refusal : Refusal) → right (Err refusal) → (IsTest r (Contains scope) → ⊥)
      → answer ≡ Err refusal → OneOfTwo scope l r left right answer
  right_test : (refusal : Refusal) (plan : Plan) → right (Err refusal) → IsTest r (Contains scope) → left (Ok plan)
      → answer ≡ Ok (TestOr 0 0 r plan) → OneOfTwo scope l r left right answer
  both_refused : (refusal other : Refusal) → right (Err refusal) → IsTest r (Contains scope) → left (Err other)
      → answer ≡ Err other → OneOfTwo scope l r left right answer

-- g can be evaluated with the variables in scope, and tells the values of xs
pub record IsGuardFor (scope xs : List VarId) (g : Formula) : Type 0 where
  pub safe : Safe g (Contains scope)
  pub tells : (x : VarId) → Contains xs x → IsFree x g

-- `forall xs. g -> h` is to be made true, with what is answered for g made false and for h made true under variables
-- that are given. The first place is that of the `forall`, or else of the implication, and the other that of the
-- implication
pub data ImplicationAnswer (place arrow : ℕ) (scope xs : List VarId) (g h : Formula)
    (down_g up_h : List VarId → Answer → Type 0) (answer : Answer) : Type 0 where
  implication_guarded : (plan : Plan) → up_h (scope ++ xs) (Ok plan) → IsGuardFor scope xs g
      → answer ≡ Ok (Guarded 0 xs 0 g plan) → ImplicationAnswer place arrow scope xs g h down_g up_h answer
  implication_unguarded : (plan : Plan) → up_h (scope ++ xs) (Ok plan) → (IsGuardFor scope xs g → ⊥) → (xs ≡ [] → ⊥)
      → answer ≡ Err (Unguarded place) → ImplicationAnswer place arrow scope xs g h down_g up_h answer
  implication_either : (plan other : Plan) → up_h (scope ++ xs) (Ok plan) → (IsGuardFor scope xs g → ⊥) → xs ≡ []
      → down_g scope (Ok other) → answer ≡ Ok (Either 0 other plan)
      → ImplicationAnswer place arrow scope xs g h down_g up_h answer
  premise_refused : (plan : Plan) (refusal : Refusal) → up_h (scope ++ xs) (Ok plan) → (IsGuardFor scope xs g → ⊥)
      → xs ≡ [] → down_g scope (Err refusal) → answer ≡ Err refusal
      → ImplicationAnswer place arrow scope xs g h down_g up_h answer
  conclusion_refused : (refusal : Refusal) → up_h (scope ++ xs) (Err refusal)
      → (IsTest h (Contains (scope ++ xs)) → ⊥) → answer ≡ Err refusal
      → ImplicationAnswer place arrow scope xs g h down_g up_h answer
  implication_refused : (refusal other : Refusal) → up_h (scope ++ xs) (Err refusal) → IsTest h (Contains (scope ++ xs))
      → down_g (scope ++ xs) (Err other) → answer ≡ Err other
      → ImplicationAnswer place arrow scope xs g h down_g up_h answer
  test_guarded : (refusal : Refusal) (plan : Plan) → up_h (scope ++ xs) (Err refusal)
      → IsTest h (Contains (scope ++ xs)) → down_g (scope ++ xs) (Ok plan) → IsGuardFor scope xs g
      → answer ≡ Ok (Guarded 0 xs 0 (And arrow g (Not (formula_place h) h)) plan)
      → ImplicationAnswer place arrow scope xs g h down_g up_h answer
  test_unguarded : (refusal : Refusal) (plan : Plan) → up_h (scope ++ xs) (Err refusal)
      → IsTest h (Contains (scope ++ xs)) → down_g (scope ++ xs) (Ok plan) → (IsGuardFor scope xs g → ⊥)
      → (xs ≡ [] → ⊥) → answer ≡ Err (Unguarded place) → ImplicationAnswer place arrow scope xs g h down_g up_h answer
  implication_tested : (refusal : Refusal) (plan : Plan) → up_h (scope ++ xs) (Err refusal)
      → IsTest h (Contains (scope ++ xs)) → down_g (scope ++ xs) (Ok plan) → (IsGuardFor scope xs g → ⊥)
      → xs ≡ [] → answer ≡ Ok (TestOr 0 0 h plan) → ImplicationAnswer place arrow scope xs g h down_g up_h answer

-- g is to be made false for all values of xs, with what is answered for g made false under variables that are given
pub data Exclusion (place : ℕ) (scope xs : List VarId) (g : Formula) (down_g : List VarId → Answer → Type 0)
    (answer : Answer) : Type 0 where
  exclusion_refused : (refusal : Refusal) → down_g (scope ++ xs) (Err refusal) → answer ≡ Err refusal
      → Exclusion place scope xs g down_g answer
  exclusion_unguarded : (plan : Plan) → down_g (scope ++ xs) (Ok plan) → (IsGuardFor scope xs g → ⊥)
      → answer ≡ Err (Unguarded place) → Exclusion place scope xs g down_g answer
  exclusion_guarded : (plan : Plan) → down_g (scope ++ xs) (Ok plan) → IsGuardFor scope xs g
      → answer ≡ Ok (Guarded 0 xs 0 g plan) → Exclusion place scope xs g down_g answer

-- ---- From formulas to plans: how a formula is made true or made false by causing and suppressing events, or why not.

-- what a formula is to be made: true, false, or true for all values of the variables of the `forall`s directly above
-- it, of which the first is at a place
pub data Aim : Type 0 where
  Up : Aim
  Down : Aim
  UpForAll : (place : ℕ) → List VarId → Aim

-- what is answered for a formula, with the variables in scope; directly nested `forall`s count as one
abbrev pub Elab : (causable suppressible : NameId → Bool) → Aim → Formula → List VarId → Answer → Type 0
Elab c s Up (Atom place name terms) scope answer = LeafWhere (c name) place (plan.CausePlan 0 place name terms) answer
Elab c s Up (Not place g) scope answer = Elab c s Down g scope answer
Elab c s Up (And place g h) scope answer = OverTwo (Elab c s Up g scope) (Elab c s Up h scope) (plan.Both 0) answer
Elab c s Up (Or place g h) scope answer = OneOfTwo scope g h (Elab c s Up g scope) (Elab c s Up h scope) answer
Elab c s Up (Implies place g h) scope answer =
    ImplicationAnswer place place scope [] g h (Elab c s Down g) (Elab c s Up h) answer
Elab c s Up (Forall place xs g) scope answer = Elab c s (UpForAll place xs) g scope answer
Elab c s Up (Eventually place interval g) scope answer = WithEnd place interval.high (λ high.
    OverOne (Elab c s Up g scope) (plan.EventuallyPlan 0 place interval.low high)) answer
Elab c s Up (Always place interval g) scope answer = WithEnd place interval.high (λ high.
    OverOne (Elab c s Up g scope) (plan.AlwaysPlan 0 place interval.low high)) answer
Elab c s Up (Until place interval g h) scope answer = WithEnd place interval.high (λ high.
    OverTwo (Elab c s Up g scope) (Elab c s Up h scope) (plan.UntilPlan 0 place interval.low high)) answer
Elab c s Up (Next place interval g) scope answer = FromNow place interval.low interval.high (λ high.
    OverOne (Elab c s Up g scope) (plan.NextPlan 0 place high)) answer
Elab c s Up f scope answer = IsRefusedAt (formula_place f) answer
Elab c s Down (Atom place name terms) scope answer =
    LeafWhere (s name) place (plan.SuppressPlan 0 place name terms) answer
Elab c s Down (Not place g) scope answer = Elab c s Up g scope answer
Elab c s Down (And place g h) scope answer =
    OneOfTwo scope (Not (formula_place g) g) (Not (formula_place h) h) (Elab c s Down g scope) (Elab c s Down h scope)
    answer
Elab c s Down (Or place g h) scope answer = OverTwo (Elab c s Down g scope) (Elab c s Down h scope) (plan.Both 0) answer
Elab c s Down (Implies place g h) scope answer =
    OverTwo (Elab c s Up g scope) (Elab c s Down h scope) (plan.Both 0) answer
Elab c s Down (Exists place xs g) scope answer = Exclusion place scope xs g (Elab c s Down g) answer
Elab c s Down (Eventually place interval g) scope answer = WithEnd place interval.high (λ high.
    OverOne (Elab c s Down g scope) (plan.AlwaysPlan 0 place interval.low high)) answer
Elab c s Down (Always place interval g) scope answer = WithEnd place interval.high (λ high.
    OverOne (Elab c s Down g scope) (plan.EventuallyPlan 0 place interval.low high)) answer
Elab c s Down f scope answer = IsRefusedAt (formula_place f) answer
Elab c s (UpForAll first xs) (Forall place ys g) scope answer = Elab c s (UpForAll first (xs ++ ys)) g scope answer
Elab c s (UpForAll first xs) (Implies place g h) scope answer =
    ImplicationAnswer first place scope xs g h (Elab c s Down g) (Elab c s Up h) answer
Elab c s (UpForAll first xs) (Not place g) scope answer = Exclusion first scope xs g (Elab c s Down g) answer
Elab c s (UpForAll first xs) g scope answer = answer ≡ Err (Unguarded first)

-- ---- Numbers of nodes, guards and tests, which are given once plans are made.

-- the numbers of the guards and tests of a plan in pre-order
abbrev pub guard_numbers : Plan → List ℕ
guard_numbers (Both node left right) = guard_numbers left ++ guard_numbers right
guard_numbers (Either node left right) = guard_numbers left ++ guard_numbers right
guard_numbers (TestOr node guard test body) = guard ∷ guard_numbers body
guard_numbers (Guarded node vars guard test body) = guard ∷ guard_numbers body
guard_numbers (EventuallyPlan node place low high body) = guard_numbers body
guard_numbers (AlwaysPlan node place low high body) = guard_numbers body
guard_numbers (UntilPlan node place low high left right) = guard_numbers left ++ guard_numbers right
guard_numbers (NextPlan node place high body) = guard_numbers body
guard_numbers plan = []

-- how many nodes a plan has
abbrev pub node_count : Plan → ℕ
node_count plan = length (nodes plan)

abbrev pub guard_count : Plan → ℕ
guard_count plan = length (guard_numbers plan)

-- the plan with its nodes numbered in pre-order from a number, and its guards and tests from another
abbrev pub renumber : (node guard : ℕ) → Plan → Plan
renumber n g (CausePlan node place name terms) = CausePlan n place name terms
renumber n g (SuppressPlan node place name terms) = SuppressPlan n place name terms
renumber n g (Both node left right) =
    Both n (renumber (n + 1) g left) (renumber (n + 1 + node_count left) (g + guard_count left) right)
renumber n g (Either node left right) =
    Either n (renumber (n + 1) g left) (renumber (n + 1 + node_count left) (g + guard_count left) right)
renumber n g (TestOr node guard test body) = TestOr n g test (renumber (n + 1) (g + 1) body)
renumber n g (Guarded node vars guard test body) = Guarded n vars g test (renumber (n + 1) (g + 1) body)
renumber n g (EventuallyPlan node place low high body) = EventuallyPlan n place low high (renumber (n + 1) g body)
renumber n g (AlwaysPlan node place low high body) = AlwaysPlan n place low high (renumber (n + 1) g body)
renumber n g (UntilPlan node place low high left right) = UntilPlan n place low high
    (renumber (n + 1) g left) (renumber (n + 1 + node_count left) (g + guard_count left) right)
renumber n g (NextPlan node place high body) = NextPlan n place high (renumber (n + 1) g body)

-- the plans of a policy in rule order: the nodes of each from 0, guards and tests from a number over all of them
abbrev pub renumber_all : (guard : ℕ) → List Plan → List Plan
renumber_all guard [] = []
renumber_all guard (plan ∷ plans) = renumber 0 guard plan ∷ renumber_all (guard + guard_count plan) plans

-- ---- Which names a signature permits to change, the plans of a policy, and which policies are accepted.

-- whether the entry of a name has a mark; it has none where there is no entry
abbrev pub has_mark : (NameEntry → Bool) → Option NameEntry → Bool
has_mark mark None = false
has_mark mark (Some entry) = mark entry

-- whether the signature permits to cause events of the name
abbrev pub is_causable : List NameEntry → NameId → Bool
is_causable entries name = has_mark (λ entry. entry.causable) (slice_get entries name.0)

abbrev pub is_suppressible : List NameEntry → NameId → Bool
is_suppressible entries name = has_mark (λ entry. entry.suppressible) (slice_get entries name.0)

-- under a signature, what is answered for a rule's formula: no variable is in scope there
abbrev pub RuleAnswer : List NameEntry → Formula → Answer → Type 0
RuleAnswer entries f answer = Elab (is_causable entries) (is_suppressible entries) Up f [] answer

-- the formula of a rule has this plan
abbrev pub HasPlan : List NameEntry → Formula → Plan → Type 0
HasPlan entries f plan = RuleAnswer entries f (Ok plan)

-- each formula of the policy has a plan; these are the plans, with their nodes, guards and tests numbered, and these
-- are the guards and tests by their numbers
pub record ArePlanned (entries : List NameEntry) (policy : List Formula) (plans : List Plan)
    (guards : List (Formula × List VarId)) : Type 0 where
  pub made : List Plan
  pub answered : AllZip (HasPlan entries) policy made
  pub numbered : plans ≡ renumber_all 0 made
  pub guarded : guards ≡ all_guards plans

-- the rules have plans, which have the property
abbrev pub HasPlansWith : List NameEntry → List Formula → (List Plan → Type 0) → Type 0
HasPlansWith entries policy P = (made : List Plan) × (guards : List (Formula × List VarId))
    × ArePlanned entries policy made guards × P made

-- the rules have plans, and these can work together
abbrev pub IsAccepted : List NameEntry → List Formula → Type 0
IsAccepted entries policy = HasPlansWith entries policy AreAccepted
