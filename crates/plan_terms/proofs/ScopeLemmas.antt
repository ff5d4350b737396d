-- What a node inherits from the plan in which it stands.
use Rattle.plan_terms.proofs.Vocabulary.{◌≡◌, ℕ, Bool, true, false, cond, List, [], ◌∷◌, ◌++◌, map, Some, Contains, ⊎_elim, refl, sym, ap, ◌∙◌, append_assoc, AllByRecursion, find, option_map}
use Rattle.plan_terms.proofs.Vocabulary.{append-nil, map-append, AllByRecursion-append, AllByRecursion-contains, AllByRecursion-find, AllByRecursion-weaker, Contains-append, variable_cmp, Var, VarId}
use Rattle.plan_terms.proofs.Vocabulary.{IsFree, IsTermInScope, has_number, nodes, formula_for, Plan, CausePlan, SuppressPlan, Both, Either, TestOr, Guarded, EventuallyPlan, AlwaysPlan, UntilPlan}
use Rattle.plan_terms.proofs.Vocabulary.{NextPlan, IsScopedPlan, scoped_at, scoped_nodes}
use Rattle.std.specs.List.Sorted.{IsStrictlySortedBy}

abbrev Scoped : Type 0
Scoped = Plan × List VarId

abbrev node_of : Scoped → Plan
node_of node = node.0

two_sides : (xs ys : List Scoped) (ls rs : List Plan) → map node_of xs ≡ ls → map node_of ys ≡ rs → map node_of (xs ++ ys) ≡ ls ++ rs
two_sides xs ys ls rs a b = map-append node_of xs ys ∙ ap (λ (zs : List Plan). zs ++ map node_of ys) a ∙ ap (λ (zs : List Plan). ls ++ zs) b

pub same_nodes : (plan : Plan) (scope : List VarId) → map node_of (scoped_nodes plan scope) ≡ nodes plan
same_nodes (CausePlan node place name terms) scope = refl
same_nodes (SuppressPlan node place name terms) scope = refl
same_nodes (Both node left right) scope =
    ap (λ (zs : List Plan). (Both node left right) ∷ zs) (two_sides _ _ _ _ (same_nodes left scope) (same_nodes right scope))
same_nodes (Either node left right) scope =
    ap (λ (zs : List Plan). (Either node left right) ∷ zs) (two_sides _ _ _ _ (same_nodes left scope) (same_nodes right scope))
same_nodes (TestOr node guard test body) scope =
    ap (λ (zs : List Plan). (TestOr node guard test body) ∷ zs) (same_nodes body scope)
same_nodes (Guarded node xs guard test body) scope =
    ap (λ (zs : List Plan). (Guarded node xs guard test body) ∷ zs) (same_nodes body (scope ++ xs))
same_nodes (EventuallyPlan node place low high body) scope =
    ap (λ (zs : List Plan). (EventuallyPlan node place low high body) ∷ zs) (same_nodes body scope)
same_nodes (AlwaysPlan node place low high body) scope =
    ap (λ (zs : List Plan). (AlwaysPlan node place low high body) ∷ zs) (same_nodes body scope)
same_nodes (UntilPlan node place low high left right) scope =
    ap (λ (zs : List Plan). (UntilPlan node place low high left right) ∷ zs) (two_sides _ _ _ _ (same_nodes left scope) (same_nodes right scope))
same_nodes (NextPlan node place high body) scope =
    ap (λ (zs : List Plan). (NextPlan node place high body) ∷ zs) (same_nodes body scope)

found_in : (number : ℕ) (xs : List Scoped) → option_map node_of (find (λ (n : Scoped). has_number number n.0) xs) ≡ find (has_number number) (map node_of xs)
found_in number [] = refl
found_in number (x ∷ xs) = by (has_number number x.0) (found_in number xs)
  where
    by : (b : Bool) → option_map node_of (find (λ (n : Scoped). has_number number n.0) xs) ≡ find (has_number number) (map node_of xs)
        → option_map node_of (cond b (Some x) (find (λ (n : Scoped). has_number number n.0) xs)) ≡ cond b (Some x.0) (find (has_number number) (map node_of xs))
    by true rest = refl
    by false rest = rest

pub first_found : (plan : Plan) (scope : List VarId) (number : ℕ) → option_map node_of (scoped_at number plan scope) ≡ find (has_number number) (nodes plan)
first_found plan scope number = found_in number (scoped_nodes plan scope) ∙ ap (find (has_number number)) (same_nodes plan scope)

-- the variables in scope are those, and more
abbrev Begins : List VarId → Scoped → Type 0
Begins scope node = (more : List VarId) × (node.1 ≡ scope ++ more)

here : (plan : Plan) (scope : List VarId) → Begins scope (plan, scope)
here plan scope = ([], sym (append-nil scope))

more_in : (scope xs : List VarId) (node : Scoped) → Begins (scope ++ xs) node → Begins scope node
more_in scope xs node begins = (xs ++ begins.0, begins.1 ∙ append_assoc scope xs begins.0)

begin : (plan : Plan) (scope : List VarId) → AllByRecursion (Begins scope) (scoped_nodes plan scope)
begin (CausePlan node place name terms) scope = (here (CausePlan node place name terms) scope, tt)
begin (SuppressPlan node place name terms) scope = (here (SuppressPlan node place name terms) scope, tt)
begin (Both node left right) scope =
    (here (Both node left right) scope, AllByRecursion-append (Begins scope) (scoped_nodes left scope) (scoped_nodes right scope) (begin left scope) (begin right scope))
begin (Either node left right) scope =
    (here (Either node left right) scope, AllByRecursion-append (Begins scope) (scoped_nodes left scope) (scoped_nodes right scope) (begin left scope) (begin right scope))
begin (TestOr node guard test body) scope = (here (TestOr node guard test body) scope, begin body scope)
begin (Guarded node xs guard test body) scope =
    (here (Guarded node xs guard test body) scope, AllByRecursion-weaker (Begins (scope ++ xs)) (Begins scope) (scoped_nodes body (scope ++ xs)) (more_in scope xs) (begin body (scope ++ xs)))
begin (EventuallyPlan node place low high body) scope =
    (here (EventuallyPlan node place low high body) scope, begin body scope)
begin (AlwaysPlan node place low high body) scope = (here (AlwaysPlan node place low high body) scope, begin body scope)
begin (UntilPlan node place low high left right) scope =
    (here (UntilPlan node place low high left right) scope, AllByRecursion-append (Begins scope) (scoped_nodes left scope) (scoped_nodes right scope) (begin left scope) (begin right scope))
begin (NextPlan node place high body) scope = (here (NextPlan node place high body) scope, begin body scope)

pub begins : (plan node : Plan) (scope inner : List VarId) (number : ℕ) → scoped_at number plan scope ≡ Some (node, inner) → (more : List VarId) × (inner ≡ scope ++ more)
begins plan node scope inner number found = AllByRecursion-find (Begins scope) (λ (n : Scoped). has_number number n.0) (scoped_nodes plan scope) (node, inner) (begin plan scope) found

abbrev Rises : Scoped → Type 0
Rises node = IsStrictlySortedBy variable_cmp node.1

all_rise : (plan : Plan) (scope : List VarId) → IsScopedPlan plan scope → IsStrictlySortedBy variable_cmp scope → AllByRecursion Rises (scoped_nodes plan scope)
all_rise (CausePlan node place name terms) scope each rises = (rises, tt)
all_rise (SuppressPlan node place name terms) scope each rises = (rises, tt)
all_rise (Both node left right) scope each rises =
    (rises, AllByRecursion-append Rises (scoped_nodes left scope) (scoped_nodes right scope) (all_rise left scope each.1 rises) (all_rise right scope each.2 rises))
all_rise (Either node left right) scope each rises =
    (rises, AllByRecursion-append Rises (scoped_nodes left scope) (scoped_nodes right scope) (all_rise left scope each.1 rises) (all_rise right scope each.2 rises))
all_rise (TestOr node guard test body) scope each rises = (rises, all_rise body scope each.1 rises)
all_rise (Guarded node xs guard test body) scope each rises = (rises, all_rise body (scope ++ xs) each.1 each.0.0)
all_rise (EventuallyPlan node place low high body) scope each rises = (rises, all_rise body scope each.1 rises)
all_rise (AlwaysPlan node place low high body) scope each rises = (rises, all_rise body scope each.1 rises)
all_rise (UntilPlan node place low high left right) scope each rises =
    (rises, AllByRecursion-append Rises (scoped_nodes left scope) (scoped_nodes right scope) (all_rise left scope each.1 rises) (all_rise right scope each.2 rises))
all_rise (NextPlan node place high body) scope each rises = (rises, all_rise body scope each.1 rises)

pub rises : (plan node : Plan) (scope inner : List VarId) (number : ℕ) → scoped_at number plan scope ≡ Some (node, inner) → IsScopedPlan plan scope
    → IsStrictlySortedBy variable_cmp scope → IsStrictlySortedBy variable_cmp inner
rises plan node scope inner number found each rising = AllByRecursion-find Rises (λ (n : Scoped). has_number number n.0) (scoped_nodes plan scope) (node, inner) (all_rise plan scope each rising) found

pub free_in_scope : (plan : Plan) (scope : List VarId) (x : VarId) → IsScopedPlan plan scope → IsFree x (formula_for plan) → Contains scope x
free_in_scope (CausePlan node place name terms) scope x each free = AllByRecursion-contains (IsTermInScope scope) terms (Var x) each free
free_in_scope (SuppressPlan node place name terms) scope x each free = AllByRecursion-contains (IsTermInScope scope) terms (Var x) each free
free_in_scope (Both node left right) scope x each free = ⊎_elim (λ l. free_in_scope left scope x each.1 l) (λ r. free_in_scope right scope x each.2 r) free
free_in_scope (Either node left right) scope x each free = ⊎_elim (λ l. free_in_scope left scope x each.1 l) (λ r. free_in_scope right scope x each.2 r) free
free_in_scope (TestOr node guard test body) scope x each free = ⊎_elim (λ l. each.0 x l) (λ r. free_in_scope body scope x each.1 r) free
free_in_scope (Guarded node xs guard test body) scope x each free =
    let there : Contains (scope ++ xs) x = ⊎_elim (λ l. each.0.1 x l) (λ r. free_in_scope body (scope ++ xs) x each.1 r) free.0 in
    ⊎_elim (λ front. front) (λ own. absurd (free.1 own)) (Contains-append scope xs x there)
free_in_scope (EventuallyPlan node place low high body) scope x each free = free_in_scope body scope x each.1 free
free_in_scope (AlwaysPlan node place low high body) scope x each free = free_in_scope body scope x each.1 free
free_in_scope (UntilPlan node place low high left right) scope x each free = ⊎_elim (λ l. free_in_scope left scope x each.1 l) (λ r. free_in_scope right scope x each.2 r) free
free_in_scope (NextPlan node place high body) scope x each free = free_in_scope body scope x each.1 free
