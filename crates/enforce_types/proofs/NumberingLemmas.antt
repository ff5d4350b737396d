-- How many nodes there are, and where numbers stand.
use Rattle.enforce_types.proofs.Vocabulary.{◌≡◌, ℕ, zero, suc, ◌+◌, ◌≤◌, List, [], ◌∷◌, ◌++◌, length, Some, arith, refl, ap, subst, flat_map, slice_get, length-append, VarId, nodes, node_number}
use Rattle.enforce_types.proofs.Vocabulary.{formula_for, Plan, CausePlan, SuppressPlan, Both, Either, TestOr, Guarded, EventuallyPlan, AlwaysPlan, UntilPlan, NextPlan, GuardsAreSafe, IsSafeNode}
use Rattle.enforce_types.proofs.Vocabulary.{AtEach, node_count, guard_count, guard_numbers, renumber, renumber_all}

pub has_node : (p : Plan) → 1 ≤ node_count p
has_node (CausePlan node place name terms) = omega arith
has_node (SuppressPlan node place name terms) = omega arith
has_node (Both node left right) = omega arith
has_node (Either node left right) = omega arith
has_node (TestOr node guard test body) = omega arith
has_node (Guarded node vars guard test body) = omega arith
has_node (EventuallyPlan node place low high body) = omega arith
has_node (AlwaysPlan node place low high body) = omega arith
has_node (UntilPlan node place low high left right) = omega arith
has_node (NextPlan node place high body) = omega arith

-- each is one more than the one before
module _ {A : Type 0} (f : A → ℕ) where
  abbrev pub Rises : ℕ → List A → Type 0
  Rises n [] = Unit {0}
  Rises n (x ∷ xs) = (f x ≡ n) × Rises (n + 1) xs

  pub rises_then : (n m : ℕ) (xs ys : List A) → m ≡ n + length xs → Rises n xs → Rises m ys → Rises n (xs ++ ys)
  rises_then n m [] ys is a b = subst (λ (k : ℕ). Rises k ys) (omega arith) b
  rises_then n m (x ∷ xs) ys is a b = (a.0, rises_then (n + 1) m xs ys (omega arith) a.1 b)

  pub at_place : (n k : ℕ) (xs : List A) (x : A) → Rises n xs → slice_get xs k ≡ Some x → f x ≡ n + k
  at_place n k [] x r is = absurd (cc)
  at_place n zero (y ∷ xs) x r is =
      let same : y ≡ x = cc in
      let e : f y ≡ f x = ap f same in
      let h : f y ≡ n = r.0 in
      omega arith
  at_place n (suc k) (y ∷ xs) x r is =
      let e : f x ≡ n + 1 + k = at_place (n + 1) k xs x r.1 is in
      omega arith

two_lengths : (A : Type 0) (xs ys zs ws : List A) → length xs ≡ length zs → length ys ≡ length ws → length (xs ++ ys) ≡ length (zs ++ ws)
two_lengths A xs ys zs ws a b = omega (arith, length-append xs ys, length-append zs ws)

pub same_count : (n g : ℕ) (p : Plan) → node_count (renumber n g p) ≡ node_count p
same_count n g (CausePlan node place name terms) = refl
same_count n g (SuppressPlan node place name terms) = refl
same_count n g (Both node l r) = ap suc (two_lengths Plan _ _ _ _ (same_count (n + 1) g l) (same_count (n + 1 + node_count l) (g + guard_count l) r))
same_count n g (Either node l r) = ap suc (two_lengths Plan _ _ _ _ (same_count (n + 1) g l) (same_count (n + 1 + node_count l) (g + guard_count l) r))
same_count n g (TestOr node guard test body) = ap suc (same_count (n + 1) (g + 1) body)
same_count n g (Guarded node vars guard test body) = ap suc (same_count (n + 1) (g + 1) body)
same_count n g (EventuallyPlan node place low high body) = ap suc (same_count (n + 1) g body)
same_count n g (AlwaysPlan node place low high body) = ap suc (same_count (n + 1) g body)
same_count n g (UntilPlan node place low high l r) = ap suc (two_lengths Plan _ _ _ _ (same_count (n + 1) g l) (same_count (n + 1 + node_count l) (g + guard_count l) r))
same_count n g (NextPlan node place high body) = ap suc (same_count (n + 1) g body)

pub same_guards : (n g : ℕ) (p : Plan) → guard_count (renumber n g p) ≡ guard_count p
same_guards n g (CausePlan node place name terms) = refl
same_guards n g (SuppressPlan node place name terms) = refl
same_guards n g (Both node l r) = two_lengths ℕ _ _ _ _ (same_guards (n + 1) g l) (same_guards (n + 1 + node_count l) (g + guard_count l) r)
same_guards n g (Either node l r) = two_lengths ℕ _ _ _ _ (same_guards (n + 1) g l) (same_guards (n + 1 + node_count l) (g + guard_count l) r)
same_guards n g (TestOr node guard test body) = ap suc (same_guards (n + 1) (g + 1) body)
same_guards n g (Guarded node vars guard test body) = ap suc (same_guards (n + 1) (g + 1) body)
same_guards n g (EventuallyPlan node place low high body) = same_guards (n + 1) g body
same_guards n g (AlwaysPlan node place low high body) = same_guards (n + 1) g body
same_guards n g (UntilPlan node place low high l r) = two_lengths ℕ _ _ _ _ (same_guards (n + 1) g l) (same_guards (n + 1 + node_count l) (g + guard_count l) r)
same_guards n g (NextPlan node place high body) = same_guards (n + 1) g body

-- nodes below two sides
two_sides : (n g m h : ℕ) (l r : Plan) → m ≡ n + node_count l → Rises node_number n (nodes (renumber n g l))
    → Rises node_number m (nodes (renumber m h r)) → Rises node_number n
    (nodes (renumber n g l) ++ nodes (renumber m h r))
two_sides n g m h l r is a b = rises_then node_number n m (nodes (renumber n g l)) (nodes (renumber m h r)) (omega (arith, same_count n g l)) a b

pub nodes_rise : (n g : ℕ) (p : Plan) → Rises node_number n (nodes (renumber n g p))
nodes_rise n g (CausePlan node place name terms) = (refl, tt)
nodes_rise n g (SuppressPlan node place name terms) = (refl, tt)
nodes_rise n g (Both node l r) = (refl, two_sides (n + 1) g (n + 1 + node_count l) (g + guard_count l) l r refl (nodes_rise (n + 1) g l) (nodes_rise (n + 1 + node_count l) (g + guard_count l) r))
nodes_rise n g (Either node l r) = (refl, two_sides (n + 1) g (n + 1 + node_count l) (g + guard_count l) l r refl (nodes_rise (n + 1) g l) (nodes_rise (n + 1 + node_count l) (g + guard_count l) r))
nodes_rise n g (TestOr node guard test body) = (refl, nodes_rise (n + 1) (g + 1) body)
nodes_rise n g (Guarded node vars guard test body) = (refl, nodes_rise (n + 1) (g + 1) body)
nodes_rise n g (EventuallyPlan node place low high body) = (refl, nodes_rise (n + 1) g body)
nodes_rise n g (AlwaysPlan node place low high body) = (refl, nodes_rise (n + 1) g body)
nodes_rise n g (UntilPlan node place low high l r) = (
  refl,
  two_sides (n + 1) g (n + 1 + node_count l)
      (g + guard_count l) l r refl (nodes_rise (n + 1) g l) (nodes_rise (n + 1 + node_count l) (g + guard_count l) r),
)
nodes_rise n g (NextPlan node place high body) = (refl, nodes_rise (n + 1) g body)

abbrev itself : ℕ → ℕ
itself n = n

two_guards : (n g m h : ℕ) (l r : Plan) → h ≡ g + guard_count l
    → Rises itself g (guard_numbers (renumber n g l)) → Rises itself h (guard_numbers (renumber m h r))
    → Rises itself g (guard_numbers (renumber n g l) ++ guard_numbers (renumber m h r))
two_guards n g m h l r is a b = rises_then itself g h (guard_numbers (renumber n g l)) (guard_numbers (renumber m h r)) (omega (arith, same_guards n g l)) a b

pub guards_rise : (n g : ℕ) (p : Plan) → Rises itself g (guard_numbers (renumber n g p))
guards_rise n g (CausePlan node place name terms) = tt
guards_rise n g (SuppressPlan node place name terms) = tt
guards_rise n g (Both node l r) = two_guards (n + 1) g (n + 1 + node_count l) (g + guard_count l) l r refl (guards_rise (n + 1) g l) (guards_rise (n + 1 + node_count l) (g + guard_count l) r)
guards_rise n g (Either node l r) = two_guards (n + 1) g (n + 1 + node_count l) (g + guard_count l) l r refl (guards_rise (n + 1) g l) (guards_rise (n + 1 + node_count l) (g + guard_count l) r)
guards_rise n g (TestOr node guard test body) = (refl, guards_rise (n + 1) (g + 1) body)
guards_rise n g (Guarded node vars guard test body) = (refl, guards_rise (n + 1) (g + 1) body)
guards_rise n g (EventuallyPlan node place low high body) = guards_rise (n + 1) g body
guards_rise n g (AlwaysPlan node place low high body) = guards_rise (n + 1) g body
guards_rise n g (UntilPlan node place low high l r) = two_guards (n + 1) g (n + 1 + node_count l) (g + guard_count l)
    l r refl (guards_rise (n + 1) g l) (guards_rise (n + 1 + node_count l) (g + guard_count l) r)
guards_rise n g (NextPlan node place high body) = guards_rise (n + 1) g body

pub all_rise : (g : ℕ) (plans : List Plan) → Rises itself g (flat_map guard_numbers (renumber_all g plans))
all_rise g [] = tt
all_rise g (p ∷ plans) =
    rises_then itself g (g + guard_count p) (guard_numbers (renumber 0 g p))
    (flat_map guard_numbers (renumber_all (g + guard_count p) plans)) (omega (arith, same_guards 0 g p))
    (guards_rise 0 g p) (all_rise (g + guard_count p) plans)

pub nodes_numbered : (p : Plan) (g k : ℕ) (node : Plan) → slice_get (nodes (renumber 0 g p)) k ≡ Some node → node_number node ≡ k
nodes_numbered p g k node is = let e : node_number node ≡ 0 + k = at_place node_number 0 k (nodes (renumber 0 g p)) node (nodes_rise 0 g p) is in omega arith

pub guards_numbered : (plans : List Plan) (k number : ℕ) → slice_get (flat_map guard_numbers (renumber_all 0 plans)) k ≡ Some number → number ≡ k
guards_numbered plans k number is = let e : number ≡ 0 + k = at_place itself 0 k (flat_map guard_numbers (renumber_all 0 plans)) number (all_rise 0 plans) is in omega arith

pub same_formula : (p : Plan) (n g : ℕ) → formula_for (renumber n g p) ≡ formula_for p
same_formula (CausePlan node place name terms) n g = refl
same_formula (SuppressPlan node place name terms) n g = refl
same_formula (Both node l r) n g = cc (same_formula l (n + 1) g, same_formula r (n + 1 + node_count l) (g + guard_count l))
same_formula (Either node l r) n g = cc (same_formula l (n + 1) g, same_formula r (n + 1 + node_count l) (g + guard_count l))
same_formula (TestOr node guard test body) n g = cc (same_formula body (n + 1) (g + 1))
same_formula (Guarded node vars guard test body) n g = cc (same_formula body (n + 1) (g + 1))
same_formula (EventuallyPlan node place low high body) n g = cc (same_formula body (n + 1) g)
same_formula (AlwaysPlan node place low high body) n g = cc (same_formula body (n + 1) g)
same_formula (UntilPlan node place low high l r) n g = cc (same_formula l (n + 1) g, same_formula r (n + 1 + node_count l) (g + guard_count l))
same_formula (NextPlan node place high body) n g = cc (same_formula body (n + 1) g)

-- what does not depend on numbers stays at each node
pub each_stays : (P : Plan → List VarId → Type 0) → ((p : Plan) (n g : ℕ) (scope : List VarId) → P p scope
    → P (renumber n g p) scope) → (p : Plan) (n g : ℕ) (scope : List VarId) → AtEach P p scope
    → AtEach P (renumber n g p) scope
each_stays P stay (CausePlan node place name terms) n g scope h = stay (CausePlan node place name terms) n g scope h
each_stays P stay (SuppressPlan node place name terms) n g scope h = stay (SuppressPlan node place name terms) n g scope h
each_stays P stay (Both node l r) n g scope h = (stay (Both node l r) n g scope h.0, each_stays P stay l (n + 1) g scope h.1, each_stays P stay r (n + 1 + node_count l) (g + guard_count l) scope h.2)
each_stays P stay (Either node l r) n g scope h = (
  stay (Either node l r) n g scope h.0,
  each_stays P stay l (n + 1)
      g scope h.1,
  each_stays P stay r (n + 1 + node_count l) (g + guard_count l) scope h.2,
)
each_stays P stay (TestOr node guard test body) n g scope h = (stay (TestOr node guard test body) n g scope h.0, each_stays P stay body (n + 1) (g + 1) scope h.1)
each_stays P stay (Guarded node vars guard test body) n g scope h = (stay (Guarded node vars guard test body) n g scope h.0, each_stays P stay body (n + 1) (g + 1) (scope ++ vars) h.1)
each_stays P stay (EventuallyPlan node place low high body) n g scope h = (stay (EventuallyPlan node place low high body) n g scope h.0, each_stays P stay body (n + 1) g scope h.1)
each_stays P stay (AlwaysPlan node place low high body) n g scope h = (stay (AlwaysPlan node place low high body) n g scope h.0, each_stays P stay body (n + 1) g scope h.1)
each_stays P stay (UntilPlan node place low high l r) n g scope h = (
  stay (UntilPlan node place low high l r) n g scope h.0,
  each_stays P stay l (n + 1) g scope h.1,
  each_stays P
      stay r (n + 1 + node_count l) (g + guard_count l) scope h.2,
)
each_stays P stay (NextPlan node place high body) n g scope h = (stay (NextPlan node place high body) n g scope h.0, each_stays P stay body (n + 1) g scope h.1)

safe_node : (p : Plan) (n g : ℕ) (scope : List VarId) → IsSafeNode p scope → IsSafeNode (renumber n g p) scope
safe_node (CausePlan node place name terms) n g scope s = s
safe_node (SuppressPlan node place name terms) n g scope s = s
safe_node (Both node l r) n g scope s = s
safe_node (Either node l r) n g scope s = s
safe_node (TestOr node guard test body) n g scope s = s
safe_node (Guarded node vars guard test body) n g scope s = s
safe_node (EventuallyPlan node place low high body) n g scope s = s
safe_node (AlwaysPlan node place low high body) n g scope s = s
safe_node (UntilPlan node place low high l r) n g scope s = s
safe_node (NextPlan node place high body) n g scope s = s

pub safe_stays : (p : Plan) (n g : ℕ) (scope : List VarId) → GuardsAreSafe p scope → GuardsAreSafe (renumber n g p) scope
safe_stays p n g scope safe = each_stays IsSafeNode safe_node p n g scope safe
