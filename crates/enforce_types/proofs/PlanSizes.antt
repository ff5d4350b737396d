-- A plan has at most as many nodes as its formula.
use Rattle.enforce_types.proofs.Vocabulary.{ℕ, ◌+◌, ◌≤◌, Bool, List, [], ◌++◌, length, Ok, arith, length-append, NameId, VarId, Formula, Atom, Not, And, Or, Implies, Exists, Forall, Next, Eventually}
use Rattle.enforce_types.proofs.Vocabulary.{Always, Until, formula_size, nodes, Plan, Answer, LeafWhere, OverOne, OverTwo, OneOfTwo, ImplicationAnswer, Exclusion, Elab, Aim, Up, Down, UpForAll}
use Rattle.enforce_types.proofs.Vocabulary.{node_count, guard_count, guard_numbers}
use Rattle.enforce_types.proofs.MadePlans.{by_leaf, by_one, by_two, by_one_of_two, by_exclusion, by_implication, not_refused, with_end, from_now}
use Rattle.plan_terms.specs.meaning.Plans as plan

small_leaf : (may : Bool) (place : ℕ) (l p : Plan) → LeafWhere may place l (Ok p) → node_count l ≤ 1 → node_count p ≤ 1
small_leaf may place l p e small = by_leaf (λ (r : Plan). node_count r ≤ 1) p may place l e small

small_over : (one : Answer → Type 0) (node : Plan → Plan) (p : Plan) (m : ℕ) → OverOne one node (Ok p) → ((q : Plan) → one (Ok q) → node_count (node q) ≤ m) → node_count p ≤ m
small_over one node p m e each = by_one (λ (r : Plan). node_count r ≤ m) p one node e each

small_over_two : (first second : Answer → Type 0) (node : Plan → Plan → Plan) (p : Plan) (m : ℕ)
    → OverTwo first second node (Ok p) → ((l r : Plan) → first (Ok l) → second (Ok r)
    → node_count (node l r) ≤ m) → node_count p ≤ m
small_over_two first second node p m e each = by_two (λ (r : Plan). node_count r ≤ m) p first second node e each

-- two sides, and a node above them
small_sides : (l r : Plan) (a b : ℕ) → node_count l ≤ a → node_count r ≤ b → length (nodes l ++ nodes r) + 1 ≤ a + b + 1
small_sides l r a b x y = omega (arith, length-append (nodes l) (nodes r))

-- one side, and a node above it
small_left : (q : Plan) (a b : ℕ) → node_count q ≤ a → node_count q + 1 ≤ a + b + 1
small_left q a b small = omega arith

small_right : (q : Plan) (a b : ℕ) → node_count q ≤ b → node_count q + 1 ≤ a + b + 1
small_right q a b small = omega arith

small_one_of_two : (scope : List VarId) (l r : Formula) (left right : Answer → Type 0) (p : Plan) (a b : ℕ)
    → OneOfTwo scope l r left right (Ok p) → ((q : Plan) → left (Ok q) → node_count q ≤ a)
    → ((q : Plan) → right (Ok q) → node_count q ≤ b) → node_count p ≤ a + b + 1
small_one_of_two scope l r left right p a b e ls rs =
    by_one_of_two (λ (made : Plan). node_count made ≤ a + b + 1) p scope l r left right e
    (λ q k t. let small : node_count q + 1 ≤ a + b + 1 = small_right q a b (rs q k) in omega arith)
    (λ o q h k. let small : length (nodes o ++ nodes q) + 1 ≤ a + b + 1 = small_sides o q a b (ls o h) (rs q k) in omega arith)
    (λ q h t. let small : node_count q + 1 ≤ a + b + 1 = small_left q a b (ls q h) in omega arith)

small_exclusion : (place : ℕ) (scope xs : List VarId) (g : Formula) (down : List VarId → Answer → Type 0)
    (p : Plan) (a : ℕ) → Exclusion place scope xs g down (Ok p)
    → ((W : List VarId) (q : Plan) → down W (Ok q) → node_count q ≤ a) → node_count p ≤ a + 1
small_exclusion place scope xs g down p a e downs =
    by_exclusion (λ (made : Plan). node_count made ≤ a + 1) p place scope xs g down e (λ q h guards. let small : node_count q ≤ a = downs (scope ++ xs) q h in omega arith)

small_implication : (place arrow : ℕ) (scope xs : List VarId) (g h : Formula)
    (down up : List VarId → Answer → Type 0) (p : Plan) (a b : ℕ)
    → ImplicationAnswer place arrow scope xs g h down up (Ok p)
    → ((W : List VarId) (q : Plan) → down W (Ok q) → node_count q ≤ a)
    → ((W : List VarId) (q : Plan) → up W (Ok q) → node_count q ≤ b) → node_count p ≤ a + b + 1
small_implication place arrow scope xs g h down up p a b e downs ups =
    by_implication (λ (made : Plan). node_count made ≤ a + b + 1) p place arrow scope xs g h down up e
    (λ q k guards. let small : node_count q + 1 ≤ a + b + 1 = small_right q a b (ups (scope ++ xs) q k) in omega arith)
    (λ o q i k none. let small : length (nodes o ++ nodes q) + 1 ≤ a + b + 1 = small_sides o q a b (downs scope o i) (ups (scope ++ xs) q k) in omega arith)
    (λ q i guards t. let small : node_count q + 1 ≤ a + b + 1 = small_left q a b (downs (scope ++ xs) q i) in omega arith)
    (λ q i t none. let small : node_count q + 1 ≤ a + b + 1 = small_left q a b (downs (scope ++ xs) q i) in omega arith)

pub plan_fits : (c s : NameId → Bool) (aim : Aim) (f : Formula) (scope : List VarId) (p : Plan) → Elab c s aim f scope (Ok p) → node_count p ≤ formula_size f
plan_fits c s Up (Atom place name terms) scope p e = small_leaf (c name) place _ p e (omega arith)
plan_fits c s Up (Not place g) scope p e = let small : node_count p ≤ formula_size g = plan_fits c s Down g scope p e in omega arith
plan_fits c s Up (And place g h) scope p e =
    small_over_two _ _ _ p (formula_size g + formula_size h + 1) e
    (λ l r a b. let small : length (nodes l ++ nodes r) + 1 ≤ formula_size g + formula_size h + 1 =
    small_sides l r _ _ (plan_fits c s Up g scope l a) (plan_fits c s Up h scope r b) in omega arith)
plan_fits c s Up (Or place g h) scope p e = small_one_of_two scope g h _ _ p (formula_size g) (formula_size h) e (plan_fits c s Up g scope) (plan_fits c s Up h scope)
plan_fits c s Up (Implies place g h) scope p e = small_implication place place scope [] g h (Elab c s Down g)
    (Elab c s Up h) p (formula_size g) (formula_size h) e (plan_fits c s Down g) (plan_fits c s Up h)
plan_fits c s Up (Forall place xs g) scope p e = let small : node_count p ≤ formula_size g = plan_fits c s (UpForAll place xs) g scope p e in omega arith
plan_fits c s Up (Eventually place interval g) scope p e =
    small_over _ _ p (formula_size g + 1) (with_end place interval.high _ p e).2 (λ q a. let small : node_count q ≤ formula_size g = plan_fits c s Up g scope q a in omega arith)
plan_fits c s Up (Always place interval g) scope p e =
    small_over _ _ p (formula_size g + 1) (with_end place interval.high _ p e).2 (λ q a. let small : node_count q ≤ formula_size g = plan_fits c s Up g scope q a in omega arith)
plan_fits c s Up (Until place interval g h) scope p e =
    small_over_two _ _ _ p (formula_size g + formula_size h + 1) (with_end place interval.high _ p e).2
    (λ l r a b. let small : length (nodes l ++ nodes r) + 1 ≤ formula_size g + formula_size h + 1 =
    small_sides l r _ _ (plan_fits c s Up g scope l a) (plan_fits c s Up h scope r b) in omega arith)
plan_fits c s Up (Next place interval g) scope p e =
    small_over _ _ p (formula_size g + 1) (from_now place interval.low interval.high _ p e).3 (λ q a. let small : node_count q ≤ formula_size g = plan_fits c s Up g scope q a in omega arith)
plan_fits c s Down (Atom place name terms) scope p e = small_leaf (s name) place _ p e (omega arith)
plan_fits c s Down (Not place g) scope p e = let small : node_count p ≤ formula_size g = plan_fits c s Up g scope p e in omega arith
plan_fits c s Down (And place g h) scope p e = small_one_of_two scope _ _ _ _ p (formula_size g) (formula_size h) e (plan_fits c s Down g scope) (plan_fits c s Down h scope)
plan_fits c s Down (Or place g h) scope p e =
    small_over_two _ _ _ p (formula_size g + formula_size h + 1) e
    (λ l r a b. let small : length (nodes l ++ nodes r) + 1 ≤ formula_size g + formula_size h + 1 =
    small_sides l r _ _ (plan_fits c s Down g scope l a) (plan_fits c s Down h scope r b) in omega arith)
plan_fits c s Down (Implies place g h) scope p e =
    small_over_two _ _ _ p (formula_size g + formula_size h + 1) e
    (λ l r a b. let small : length (nodes l ++ nodes r) + 1 ≤ formula_size g + formula_size h + 1 =
    small_sides l r _ _ (plan_fits c s Up g scope l a) (plan_fits c s Down h scope r b) in omega arith)
plan_fits c s Down (Exists place xs g) scope p e = small_exclusion place scope xs g (Elab c s Down g) p (formula_size g) e (plan_fits c s Down g)
plan_fits c s Down (Eventually place interval g) scope p e =
    small_over _ _ p (formula_size g + 1) (with_end place interval.high _ p e).2 (λ q a. let small : node_count q ≤ formula_size g = plan_fits c s Down g scope q a in omega arith)
plan_fits c s Down (Always place interval g) scope p e =
    small_over _ _ p (formula_size g + 1) (with_end place interval.high _ p e).2 (λ q a. let small : node_count q ≤ formula_size g = plan_fits c s Down g scope q a in omega arith)
plan_fits c s (UpForAll first xs) (Forall place ys g) scope p e = let small : node_count p ≤ formula_size g = plan_fits c s (UpForAll first (xs ++ ys)) g scope p e in omega arith
plan_fits c s (UpForAll first xs) (Implies place g h) scope p e = small_implication first place scope xs g h
    (Elab c s Down g) (Elab c s Up h) p (formula_size g) (formula_size h) e (plan_fits c s Down g)
    (plan_fits c s Up h)
plan_fits c s (UpForAll first xs) (Not place g) scope p e = small_exclusion first scope xs g (Elab c s Down g) p (formula_size g) e (plan_fits c s Down g)
plan_fits c s (UpForAll first xs) f scope p e = absurd (not_refused p _ e)
plan_fits c s aim f scope p e = absurd (not_refused p _ e)

more_sides : (l r : Plan) → guard_count l ≤ node_count l → guard_count r ≤ node_count r → length (guard_numbers l ++ guard_numbers r) ≤ length (nodes l ++ nodes r) + 1
more_sides l r a b = omega (arith, length-append (nodes l) (nodes r), length-append (guard_numbers l) (guard_numbers r))

-- a guard or a test is a node
pub guards_are_nodes : (p : Plan) → guard_count p ≤ node_count p
guards_are_nodes (plan.CausePlan node place name terms) = omega arith
guards_are_nodes (plan.SuppressPlan node place name terms) = omega arith
guards_are_nodes (plan.Both node l r) = let more : length (guard_numbers l ++ guard_numbers r) ≤ length
    (nodes l ++ nodes r) + 1 = more_sides l r (guards_are_nodes l) (guards_are_nodes r) in omega arith
guards_are_nodes (plan.Either node l r) = let more : length (guard_numbers l ++ guard_numbers r) ≤ length
    (nodes l ++ nodes r) + 1 = more_sides l r (guards_are_nodes l) (guards_are_nodes r) in omega arith
guards_are_nodes (plan.TestOr node guard test body) = let more : guard_count body ≤ node_count body = guards_are_nodes body in omega arith
guards_are_nodes (plan.Guarded node vars guard test body) = let more : guard_count body ≤ node_count body = guards_are_nodes body in omega arith
guards_are_nodes (plan.EventuallyPlan node place low high body) = let more : guard_count body ≤ node_count body = guards_are_nodes body in omega arith
guards_are_nodes (plan.AlwaysPlan node place low high body) = let more : guard_count body ≤ node_count body = guards_are_nodes body in omega arith
guards_are_nodes (plan.UntilPlan node place low high l r) = let more : length (guard_numbers l ++ guard_numbers r)
    ≤ length (nodes l ++ nodes r) + 1 = more_sides l r (guards_are_nodes l) (guards_are_nodes r) in omega arith
guards_are_nodes (plan.NextPlan node place high body) = let more : guard_count body ≤ node_count body = guards_are_nodes body in omega arith
