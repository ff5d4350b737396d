-- The nodes of a well-formed plan stand in it.
use Rattle.plan_terms.proofs.Vocabulary.{◌≡◌, ℕ, zero, suc, List, [], ◌∷◌, ◌++◌, Option, None, Some, Contains, ⊎_elim, refl, sym, ap, subst, ◌∙◌, arith, AllByRecursion, find, slice_get}
use Rattle.plan_terms.proofs.Vocabulary.{Contains-append_left, Contains-append_right, none-some, later, first_or_later, none_in_nil, AllByRecursion-contains, AllByRecursion-find}
use Rattle.plan_terms.proofs.Vocabulary.{AllByRecursion-from_contains, Contains-append, VarId, Formula, GuardLooksBack, IsSafeNode, IsWellFormed, IsNumberedPlan, has_number, nodes, node_number}
use Rattle.plan_terms.proofs.Vocabulary.{node_in, nodes_of, Plan, CausePlan, SuppressPlan, Both, Either, TestOr, Guarded, EventuallyPlan, AlwaysPlan, UntilPlan, NextPlan, IsNodeByNumber, StandsIn}
use Rattle.plan_terms.proofs.ScopeLaws.{AtEach-nodes, AtEach-weaker}
use Rattle.plan_terms.proofs.NodeSearch.{placed}

-- what stands below a node of a plan stands below the plan: below one operand, and below two
abbrev Below : Plan → Plan → Plan → Type 0
Below plan node x = Contains (nodes node) x → Contains (nodes plan) x

one : (plan body node x : Plan) → nodes plan ≡ plan ∷ nodes body → (Contains (nodes body) node → Below body node x)
    → Contains (nodes plan) node → Below plan node x
one plan body node x are inner at there =
    ⊎_elim (λ (same : plan ≡ node). subst (λ (n : Plan). Contains (nodes n) x) (sym same) there)
    (λ behind. subst (λ (ns : List Plan). Contains ns x) (sym are) (later x plan (nodes body) (inner behind there)))
    (first_or_later node plan (nodes body) (subst (λ (ns : List Plan). Contains ns node) are at))

two : (plan left right node x : Plan) → nodes plan ≡ plan ∷ nodes left ++ nodes right
    → (Contains (nodes left) node → Below left node x) → (Contains (nodes right) node → Below right node x)
    → Contains (nodes plan) node → Below plan node x
two plan left right node x are first second at there =
    ⊎_elim (λ (same : plan ≡ node). subst (λ (n : Plan). Contains (nodes n) x) (sym same) there)
    (λ behind. subst (λ (ns : List Plan). Contains ns x) (sym are) (later x plan (nodes left ++ nodes right)
    (⊎_elim (λ l. Contains-append_left (nodes left) (nodes right) x (first l there))
    (λ r. Contains-append_right (nodes left) (nodes right) x (second r there))
    (Contains-append (nodes left) (nodes right) node behind))))
    (first_or_later node plan (nodes left ++ nodes right) (subst (λ (ns : List Plan). Contains ns node) are at))

only : (plan node x : Plan) → nodes plan ≡ plan ∷ [] → Contains (nodes plan) node → Below plan node x
only plan node x are at there =
    ⊎_elim (λ (same : plan ≡ node). subst (λ (n : Plan). Contains (nodes n) x) (sym same) there)
    (λ none. absurd (none_in_nil node none))
    (first_or_later node plan [] (subst (λ (ns : List Plan). Contains ns node) are at))

pub below : (plan node x : Plan) → Contains (nodes plan) node → Below plan node x
below (CausePlan node place name terms) n x at there = only (CausePlan node place name terms) n x refl at there
below (SuppressPlan node place name terms) n x at there = only (SuppressPlan node place name terms) n x refl at there
below (Both node left right) n x at there =
    two (Both node left right) left right n x refl (below left n x) (below right n x) at there
below (Either node left right) n x at there =
    two (Either node left right) left right n x refl (below left n x) (below right n x) at there
below (TestOr node guard test body) n x at there =
    one (TestOr node guard test body) body n x refl (below body n x) at there
below (Guarded node xs guard test body) n x at there =
    one (Guarded node xs guard test body) body n x refl (below body n x) at there
below (EventuallyPlan node place low high body) n x at there =
    one (EventuallyPlan node place low high body) body n x refl (below body n x) at there
below (AlwaysPlan node place low high body) n x at there =
    one (AlwaysPlan node place low high body) body n x refl (below body n x) at there
below (UntilPlan node place low high left right) n x at there =
    two (UntilPlan node place low high left right) left right n x refl (below left n x) (below right n x) at there
below (NextPlan node place high body) n x at there =
    one (NextPlan node place high body) body n x refl (below body n x) at there

-- a safe guard looks back
looks_back : (plan : Plan) (scope : List VarId) → IsSafeNode plan scope → GuardLooksBack plan
looks_back (CausePlan node place name terms) scope safe = tt
looks_back (SuppressPlan node place name terms) scope safe = tt
looks_back (Both node left right) scope safe = tt
looks_back (Either node left right) scope safe = tt
looks_back (TestOr node guard test body) scope safe = safe.1
looks_back (Guarded node xs guard test body) scope safe = safe.2
looks_back (EventuallyPlan node place low high body) scope safe = tt
looks_back (AlwaysPlan node place low high body) scope safe = tt
looks_back (UntilPlan node place low high left right) scope safe = tt
looks_back (NextPlan node place high body) scope safe = tt

all_back : (guards : List (Formula × List VarId)) (plan : Plan) → IsWellFormed guards plan
    → AllByRecursion GuardLooksBack (nodes plan)
all_back guards plan formed = AtEach-nodes GuardLooksBack plan []
    (AtEach-weaker IsSafeNode (λ node inner. GuardLooksBack node) looks_back plan [] formed.safe)

-- an item of a list stands at a place
place_of : {X : Type 0} (xs : List X) (x : X) → Contains xs x → (k : ℕ) × (slice_get xs k ≡ Some x)
place_of [] x there = absurd (none_in_nil x there)
place_of (y ∷ ys) x there =
    ⊎_elim (λ (same : y ≡ x). (zero, ap Some same))
    (λ behind. let found = place_of ys x behind in (suc found.0, found.1)) (first_or_later x y ys there)

-- in a numbered plan each node is the one that its number names
named : (plan node : Plan) → IsNumberedPlan plan → Contains (nodes plan) node
    → find (has_number (node_number node)) (nodes plan) ≡ Some node
named plan node numbered there =
    let at = place_of (nodes plan) node there in
    let is : node_number node ≡ at.0 = numbered at.0 node at.1 in
    placed (nodes plan) 0 (node_number node) at.0 (omega (arith, is))
    (λ i other found. let n : node_number other ≡ i = numbered i other found in omega (arith, n)) ∙ at.1

module _ (guards : List (Formula × List VarId)) (plans : List Plan) where
  -- a node of the plan of a rule
  stands_at : (rule : ℕ) (plan node : Plan) → IsWellFormed guards plan → slice_get plans rule ≡ Some plan
      → Contains (nodes plan) node → StandsIn plans rule node
  stands_at rule plan node formed at there = record {
    back = AllByRecursion-from_contains GuardLooksBack (nodes node)
        (λ x inner. AllByRecursion-contains GuardLooksBack (nodes plan) x (all_back guards plan formed)
        (below plan node x there inner));
    named = AllByRecursion-from_contains (IsNodeByNumber plans rule) (nodes node)
        (λ x inner. subst (λ (p : Option Plan). find (has_number (node_number x)) (nodes_of p) ≡ Some x) (sym at)
        (named plan x formed.numbered (below plan node x there inner)));
  }

  plan_at : (ps : List Plan) (rule : ℕ) (plan : Plan) → AllByRecursion (IsWellFormed guards) ps
      → slice_get ps rule ≡ Some plan → IsWellFormed guards plan
  plan_at [] rule plan formed at = absurd (none-some plan at)
  plan_at (p ∷ ps) zero plan formed at =
      let same : p ≡ plan = cc in subst (IsWellFormed guards) same formed.0
  plan_at (p ∷ ps) (suc rule) plan formed at = plan_at ps rule plan formed.1 at

  pub node_stands : (rule : ℕ) (plan node : Plan) → AllByRecursion (IsWellFormed guards) plans
      → slice_get plans rule ≡ Some plan → Contains (nodes plan) node → StandsIn plans rule node
  node_stands rule plan node formed at there = stands_at rule plan node (plan_at plans rule plan formed at) at there

  pub found_stands : (rule number : ℕ) (node : Plan) → AllByRecursion (IsWellFormed guards) plans
      → node_in plans rule number ≡ Some node → StandsIn plans rule node
  found_stands rule number node formed found = by (slice_get plans rule) refl
    where
      by : (p : Option Plan) → slice_get plans rule ≡ p → StandsIn plans rule node
      by None at =
          absurd (none-some node (subst (λ (q : Option Plan). find (has_number number) (nodes_of q) ≡ Some node) at found))
      by (Some plan) at =
          let in_plan = subst (λ (q : Option Plan). find (has_number number) (nodes_of q) ≡ Some node) at found in
          node_stands rule plan node formed at
          (AllByRecursion-find (Contains (nodes plan)) (has_number number) (nodes plan) node
          (AllByRecursion-from_contains (Contains (nodes plan)) (nodes plan) (λ x there. there)) in_plan)
