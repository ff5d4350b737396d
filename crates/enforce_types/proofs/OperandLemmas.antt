-- From what a plan is made of to the rule that it follows.
use Rattle.enforce_types.proofs.Vocabulary.{◌≡◌, ℕ, zero, suc, Option, None, Some, refl, subst, Bool, true, false, IsTrue, Result, Ok, Err, IfOk, IsErrAnd, List, [], ◌∷◌, ◌++◌, Contains, ◌↔◌, sym}
use Rattle.enforce_types.proofs.Vocabulary.{true≢false, ◌∙◌, ok_or, VarId, Formula, IsFree, Safe, IsTest, Plan, plan_of, Answer, FromNow, IsGuardFor, ImplicationAnswer, WithEnd, GivesAnswer}
use Rattle.enforce_types.proofs.Vocabulary.{GivesRefusal, denied_where, positive_end, positive_end_from, test_answer, Refusal, TypeRefusal}
use Rattle.plan_terms.specs.declared.plans.Plan.{Plan as Stored}
use Rattle.enforce_types.specs.declared.refusals.Refusal.TheVariants as rule
use Rattle.enforce_types.specs.declared.refusals.TypeRefusal.TheVariants as code

-- the code's refusals and answers are also these where each is
pub refusal_map : (P Q : Refusal → Type 0) (e : TypeRefusal) → ((why : Refusal) → P why → Q why) → GivesRefusal P e → GivesRefusal Q e
refusal_map P Q (code.Unguarded place) each h = each (rule.Unguarded place) h
refusal_map P Q (code.NotEnforceable place) each h = each (rule.NotEnforceable place) h
refusal_map P Q (code.RoleClash name) each h = h
refusal_map P Q (code.Untriggered place) each h = h
refusal_map P Q (code.Cyclic name) each h = h
refusal_map P Q code.NoMemory each h = tt

pub answer_map : (P Q : Answer → Type 0) (r : Result Stored TypeRefusal) → ((a : Answer) → P a → Q a) → GivesAnswer P r → GivesAnswer Q r
answer_map P Q (Ok p) each h = each (Ok (plan_of p)) h
answer_map P Q (Err e) each h = refusal_map (λ why. P (Err why)) (λ why. Q (Err why)) e (λ why. each (Err why)) h

-- what is answered with the refusal of a part that is passed on
pub passed_on : (P : Refusal → Type 0) (Q : Answer → Type 0) (e : TypeRefusal) (r : Result Stored TypeRefusal) → IsErrAnd r (λ x. x ≡ e) → GivesRefusal P e
    → ((why : Refusal) → P why → Q (Err why)) → GivesAnswer Q r
passed_on P Q e (Ok p) is h each = absurd is
passed_on P Q e (Err x) is h each = subst (GivesRefusal (λ why. Q (Err why))) (sym is) (refusal_map P (λ why. Q (Err why)) e each h)

-- a refusal of the code other than out of memory is one of the right ones
pub refused_by : (P : Refusal → Type 0) (e : TypeRefusal) → (e ≡ code.NoMemory → ⊥) → GivesRefusal P e → (why : Refusal) × P why
refused_by P (code.Unguarded place) not h = (rule.Unguarded place, h)
refused_by P (code.NotEnforceable place) not h = (rule.NotEnforceable place, h)
refused_by P (code.RoleClash name) not h = absurd h
refused_by P (code.Untriggered place) not h = absurd h
refused_by P (code.Cyclic name) not h = absurd h
refused_by P code.NoMemory not h = absurd (not refl)

-- a denial is a test where the formula is one
pub side_test : (denied : Bool) (f : Formula) (B : VarId → Type 0) → IsTest f B → IsTest (denied_where denied f) B
side_test true f B test = ((test.1, test.0), test.1)
side_test false f B test = test

pub test_of_side : (denied : Bool) (f : Formula) (B : VarId → Type 0) → IsTest (denied_where denied f) B → IsTest f B
test_of_side true f B test = (test.0.1, test.1)
test_of_side false f B test = test

-- a decision that was found false
pub found_false : (b : Bool) (P : Type 0) → IsTrue b ↔ P → b ≡ false → P → ⊥
found_false b P told is p = true≢false (sym (told.1 p) ∙ is)

-- both parts of a guard
pub guard_decided : {E : Type 0} (r : Result Bool E) (scope xs : List VarId) (g : Formula) (b : Bool)
    → IsTrue b ↔ Safe g (Contains scope) → b ≡ true → IfOk r
    (λ all. IsTrue all ↔ ((x : VarId) → Contains xs x → IsFree x g))
    → IfOk r (λ guards. IsTrue guards ↔ IsGuardFor scope xs g)
guard_decided (Ok a) scope xs g b safe is told = (λ t. record { safe = safe.0 is; tells = told.0 t }, λ guards. told.1 guards.tells)
guard_decided (Err e) scope xs g b safe is told = tt

-- an interval with an end of at least 1, and one without
pub has_end : (place : ℕ) (high : Option ℕ) (n : ℕ) (within : ℕ → Answer → Type 0) (a : Answer)
    → ◌≡◌ {A = Result ℕ TypeRefusal} (Ok n) (ok_or (positive_end high) (code.NotEnforceable place)) → within n a → WithEnd place high within a
has_end place None n within a is holds = absurd (cc)
has_end place (Some zero) n within a is holds = absurd (cc)
has_end place (Some (suc m)) n within a is holds = subst (λ (k : ℕ). within k a) (same m n is) holds
  where
    same : (m n : ℕ) → ◌≡◌ {A = Result ℕ TypeRefusal} (Ok n) (Ok (suc m)) → n ≡ suc m
    same m n e = cc

-- where there is no such end, that is what is answered
pub no_end : (Q : Answer → Type 0) (place : ℕ) (end : Option ℕ) (e : TypeRefusal) (r : Result Stored TypeRefusal)
    → ◌≡◌ {A = Result ℕ TypeRefusal} (Err e) (ok_or end (code.NotEnforceable place)) → IsErrAnd r (λ x. x ≡ e)
    → (end ≡ None → Q (Err (rule.NotEnforceable place))) → GivesAnswer Q r
no_end Q place end e (Ok p) not is answered = absurd is
no_end Q place (Some n) e (Err x) not is answered = absurd (cc)
no_end Q place None e (Err x) not is answered = subst (GivesRefusal (λ why. Q (Err why))) (same e x not is) (answered refl)
  where
    same : (e x : TypeRefusal) → ◌≡◌ {A = Result ℕ TypeRefusal} (Err e) (Err (code.NotEnforceable place)) → x ≡ e → code.NotEnforceable place ≡ x
    same e x not is = cc

pub endless : (place : ℕ) (high : Option ℕ) (within : ℕ → Answer → Type 0) → positive_end high ≡ None → WithEnd place high within (Err (rule.NotEnforceable place))
endless place None within is = refl
endless place (Some zero) within is = refl
endless place (Some (suc n)) within is = absurd (cc)

-- the same of an interval that begins at 0
pub has_end_from : (place low : ℕ) (high : Option ℕ) (n : ℕ) (within : ℕ → Answer → Type 0) (a : Answer)
    → ◌≡◌ {A = Result ℕ TypeRefusal} (Ok n) (ok_or (positive_end_from low high) (code.NotEnforceable place)) → within n a
    → FromNow place low high within a
has_end_from place zero high n within a is holds = has_end place high n within a is holds
has_end_from place (suc low) high n within a is holds = absurd (cc)

pub endless_from : (place low : ℕ) (high : Option ℕ) (within : ℕ → Answer → Type 0) → positive_end_from low high ≡ None
    → FromNow place low high within (Err (rule.NotEnforceable place))
endless_from place zero high within is = endless place high within is
endless_from place (suc low) high within is = refl

-- an implication whose right side is a test
pub tested_keeps : (place arrow : ℕ) (scope xs : List VarId) (g h : Formula)
    (down up : List VarId → Answer → Type 0) (refusal : Refusal) (p : Plan) (guards : Bool) (a : Answer)
    → IsTrue guards ↔ IsGuardFor scope xs g → up (scope ++ xs) (Err refusal)
    → IsTest h (Contains (scope ++ xs)) → down (scope ++ xs) (Ok p) → a
    ≡ test_answer place arrow xs guards g h p → ImplicationAnswer place arrow scope xs g h down up a
tested_keeps place arrow scope xs g h down up refusal p true a told k t j is = ImplicationAnswer.test_guarded refusal p k t j (told.0 refl) is
tested_keeps place arrow scope [] g h down up refusal p false a told k t j is = ImplicationAnswer.implication_tested refusal p k t j (found_false false _ told refl) refl is
tested_keeps place arrow scope (x ∷ xs) g h down up refusal p false a told k t j is = ImplicationAnswer.test_unguarded refusal p k t j (found_false false _ told refl) (λ e. cc) is
