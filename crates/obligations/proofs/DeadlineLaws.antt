-- The deadlines of what is pending, one by one.
use Rattle.obligations.proofs.Vocabulary.{true_from_eq, first_or_later, none_in_nil, here, later, ◌∙◌, ap, arith, ⊎_elim, refl, subst, false≢true, sum_by-cons, count_by, ◌==◌, has_deadline, Plan}
use Rattle.obligations.proofs.Vocabulary.{Instance, is_deadline_at, deadline_at, is_due, count_due, AtNode, HasDeadline, node_of}
use Rattle.std.specs.Prelude.{◌≡◌, ℕ, ◌<◌, Bool, true, cond, List, [], ◌∷◌, Contains, false, None, Some, Option}

-- of what is in a list and passes a test, one at least is counted
counted : {X : Type 0} (p : X → Bool) (xs : List X) (x : X) → Contains xs x → p x ≡ true → 0 < count_by p xs
counted p [] x there passes = absurd (none_in_nil x there)
counted p (y ∷ xs) x there passes =
    let both = sum_by-cons (λ z. cond (p z) 1 0) y xs in
    ⊎_elim (λ same. let first = ap {B = ℕ} (λ b. cond b 1 0) (ap p same ∙ passes) in omega (arith, both, first))
    (λ behind. let rest = counted p xs x behind passes in omega (arith, both, rest)) (first_or_later x y xs there)

-- and where one is counted, one is there
one_there : {X : Type 0} (p : X → Bool) (xs : List X) → 0 < count_by p xs
    → (x : X) × Contains xs x × (p x ≡ true)
one_there {X} p [] some = absurd (omega (arith, some))
one_there {X} p (y ∷ xs) some = by (p y) refl (λ more. one_there p xs more)
  where
    by : (b : Bool) → p y ≡ b → (0 < count_by p xs → (x : X) × Contains xs x × (p x ≡ true))
        → (x : X) × Contains (y ∷ xs) x × (p x ≡ true)
    by true passes rest = (y, here y xs, passes)
    by false fails rest =
        let both = sum_by-cons (λ z. cond (p z) 1 0) y xs in
        let none = ap {B = ℕ} (λ b. cond b 1 0) fails in
        let found = rest (omega (arith, some, both, none)) in
        (found.0, later found.0 y xs found.1, found.2)

same_number : (x y : ℕ) → (x == y) ≡ true → x ≡ y
same_number x y is = grind (arith, is)

due_at : (b : Bool) (high deadline : ℕ) → b ≡ true → high ≡ deadline
    → is_deadline_at (cond b (Some high) None) deadline ≡ true
due_at true high deadline it same = true_from_eq high deadline same
due_at false high deadline it same = absurd (false≢true it)

has_at : (b : Bool) (high deadline : ℕ) → is_deadline_at (cond b (Some high) None) deadline ≡ true
    → (b ≡ true) × (high ≡ deadline)
has_at true high deadline due = (refl, same_number high deadline due)
has_at false high deadline due = absurd (false≢true due)

due_from_has : (plans : List Plan) (i : Instance) (deadline : ℕ) → HasDeadline plans i deadline
    → is_due plans deadline i ≡ true
due_from_has plans i deadline = by (node_of plans i)
  where
    by : (at : Option Plan) → AtNode at (λ node. (has_deadline node ≡ true) × (i.high ≡ deadline))
        → is_deadline_at (deadline_at at i) deadline ≡ true
    by None has = absurd has
    by (Some node) has = due_at (has_deadline node) i.high deadline has.0 has.1

has_from_due : (plans : List Plan) (i : Instance) (deadline : ℕ) → is_due plans deadline i ≡ true
    → HasDeadline plans i deadline
has_from_due plans i deadline = by (node_of plans i)
  where
    by : (at : Option Plan) → is_deadline_at (deadline_at at i) deadline ≡ true
        → AtNode at (λ node. (has_deadline node ≡ true) × (i.high ≡ deadline))
    by None due = absurd (false≢true due)
    by (Some node) due = has_at (has_deadline node) i.high deadline due

-- a list has the deadlines of instances, each as often as one of them has it
abbrev pub AreDeadlines : List Plan → List Instance → List ℕ → Type 0
AreDeadlines plans instances deadlines = (deadline : ℕ)
    → count_by (λ entry. entry == deadline) deadlines ≡ count_due plans instances deadline

-- the deadline of one of them is listed,
pub deadline_is_listed : (plans : List Plan) (instances : List Instance) (deadlines : List ℕ)
    → AreDeadlines plans instances deadlines → (i : Instance) (deadline : ℕ) → Contains instances i
    → HasDeadline plans i deadline → Contains deadlines deadline
deadline_is_listed plans instances deadlines are i deadline there has =
    let some = counted (is_due plans deadline) instances i there (due_from_has plans i deadline has) in
    let same = are deadline in
    let found = one_there (λ entry. entry == deadline) deadlines (omega (arith, some, same)) in
    subst (Contains deadlines) (same_number found.0 deadline found.2) found.1

-- and what is listed is the deadline of one of them
pub listed_is_deadline : (plans : List Plan) (instances : List Instance) (deadlines : List ℕ)
    → AreDeadlines plans instances deadlines → (deadline : ℕ) → Contains deadlines deadline
    → (i : Instance) × Contains instances i × HasDeadline plans i deadline
listed_is_deadline plans instances deadlines are deadline there =
    let some = counted (λ entry. entry == deadline) deadlines deadline there (true_from_eq deadline deadline refl) in
    let same = are deadline in
    let found = one_there (is_due plans deadline) instances (omega (arith, some, same)) in
    (found.0, found.1, has_from_due plans found.0 deadline found.2)
