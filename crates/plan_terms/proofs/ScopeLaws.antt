-- What holds at each node of a plan, with the variables in scope there.
use Rattle.plan_terms.proofs.Vocabulary.{AllByRecursion-append, AllByRecursion-find, AllByRecursion-of_append, VarId, AllByRecursion, Formula, OfGuard, has_number, nodes, guards_of_plan, Plan}
use Rattle.plan_terms.proofs.Vocabulary.{CausePlan, SuppressPlan, Both, Either, TestOr, Guarded, EventuallyPlan, AlwaysPlan, UntilPlan, NextPlan, AtEach, scoped_nodes, scoped_at}
use Rattle.std.specs.Prelude.{List, ◌++◌, ◌≡◌, ℕ, Some}

-- ---- what holds at each node of a plan

-- it holds at the root
pub AtEach-root : (P : Plan → List VarId → Type 0) (plan : Plan) (scope : List VarId) → AtEach P plan scope
    → P plan scope
AtEach-root P (CausePlan node place name terms) scope each = each
AtEach-root P (SuppressPlan node place name terms) scope each = each
AtEach-root P (Both node left right) scope each = each.0
AtEach-root P (Either node left right) scope each = each.0
AtEach-root P (TestOr node guard test body) scope each = each.0
AtEach-root P (Guarded node xs guard test body) scope each = each.0
AtEach-root P (EventuallyPlan node place low high body) scope each = each.0
AtEach-root P (AlwaysPlan node place low high body) scope each = each.0
AtEach-root P (UntilPlan node place low high left right) scope each = each.0
AtEach-root P (NextPlan node place high body) scope each = each.0

-- so does what follows from it
pub AtEach-weaker : (P Q : Plan → List VarId → Type 0) → ((plan : Plan) (scope : List VarId) → P plan scope
    → Q plan scope) → (plan : Plan) (scope : List VarId) → AtEach P plan scope → AtEach Q plan scope
AtEach-weaker P Q w (CausePlan node place name terms) scope each = w _ scope each
AtEach-weaker P Q w (SuppressPlan node place name terms) scope each = w _ scope each
AtEach-weaker P Q w (Both node left right) scope each =
    (w _ scope each.0, AtEach-weaker P Q w left scope each.1, AtEach-weaker P Q w right scope each.2)
AtEach-weaker P Q w (Either node left right) scope each =
    (w _ scope each.0, AtEach-weaker P Q w left scope each.1, AtEach-weaker P Q w right scope each.2)
AtEach-weaker P Q w (TestOr node guard test body) scope each =
    (w _ scope each.0, AtEach-weaker P Q w body scope each.1)
AtEach-weaker P Q w (Guarded node xs guard test body) scope each =
    (w _ scope each.0, AtEach-weaker P Q w body (scope ++ xs) each.1)
AtEach-weaker P Q w (EventuallyPlan node place low high body) scope each =
    (w _ scope each.0, AtEach-weaker P Q w body scope each.1)
AtEach-weaker P Q w (AlwaysPlan node place low high body) scope each =
    (w _ scope each.0, AtEach-weaker P Q w body scope each.1)
AtEach-weaker P Q w (UntilPlan node place low high left right) scope each =
    (w _ scope each.0, AtEach-weaker P Q w left scope each.1, AtEach-weaker P Q w right scope each.2)
AtEach-weaker P Q w (NextPlan node place high body) scope each =
    (w _ scope each.0, AtEach-weaker P Q w body scope each.1)

-- it holds at each node of those below
abbrev HasAll : (Plan → List VarId → Type 0) → Plan × List VarId → Type 0
HasAll P node = AtEach P node.0 node.1

pub AtEach-below : (P : Plan → List VarId → Type 0) (plan : Plan) (scope : List VarId) → AtEach P plan scope
    → AllByRecursion (HasAll P) (scoped_nodes plan scope)
AtEach-below P (CausePlan node place name terms) scope each = (each, tt)
AtEach-below P (SuppressPlan node place name terms) scope each = (each, tt)
AtEach-below P (Both node left right) scope each = (
  each,
  AllByRecursion-append (HasAll P) (scoped_nodes left scope) (scoped_nodes right scope)
      (AtEach-below P left scope each.1) (AtEach-below P right scope each.2),
)
AtEach-below P (Either node left right) scope each = (
  each,
  AllByRecursion-append (HasAll P) (scoped_nodes left scope) (scoped_nodes right scope)
      (AtEach-below P left scope each.1) (AtEach-below P right scope each.2),
)
AtEach-below P (TestOr node guard test body) scope each = (each, AtEach-below P body scope each.1)
AtEach-below P (Guarded node xs guard test body) scope each = (each, AtEach-below P body (scope ++ xs) each.1)
AtEach-below P (EventuallyPlan node place low high body) scope each = (each, AtEach-below P body scope each.1)
AtEach-below P (AlwaysPlan node place low high body) scope each = (each, AtEach-below P body scope each.1)
AtEach-below P (UntilPlan node place low high left right) scope each = (
  each,
  AllByRecursion-append (HasAll P) (scoped_nodes left scope) (scoped_nodes right scope)
      (AtEach-below P left scope each.1) (AtEach-below P right scope each.2),
)
AtEach-below P (NextPlan node place high body) scope each = (each, AtEach-below P body scope each.1)

-- and so at each of the node that is found by a number
pub AtEach-found : (P : Plan → List VarId → Type 0) (plan node : Plan) (scope inner : List VarId) (number : ℕ)
    → scoped_at number plan scope ≡ Some (node, inner) → AtEach P plan scope → AtEach P node inner
AtEach-found P plan node scope inner number found each = AllByRecursion-find (HasAll P)
    (λ (n : Plan × List VarId). has_number number n.0) (scoped_nodes plan scope) (node, inner)
    (AtEach-below P plan scope each) found

-- what does not depend on the variables holds at each of the nodes
pub AtEach-from_nodes : (R : Plan → Type 0) (plan : Plan) (scope : List VarId) → AllByRecursion R (nodes plan)
    → AtEach (λ node inner. R node) plan scope
AtEach-from_nodes R (CausePlan node place name terms) scope each = each.0
AtEach-from_nodes R (SuppressPlan node place name terms) scope each = each.0
AtEach-from_nodes R (Both node left right) scope each =
    let rest = AllByRecursion-of_append R (nodes left) (nodes right) each.1 in
    (each.0, AtEach-from_nodes R left scope rest.0, AtEach-from_nodes R right scope rest.1)
AtEach-from_nodes R (Either node left right) scope each =
    let rest = AllByRecursion-of_append R (nodes left) (nodes right) each.1 in
    (each.0, AtEach-from_nodes R left scope rest.0, AtEach-from_nodes R right scope rest.1)
AtEach-from_nodes R (TestOr node guard test body) scope each = (each.0, AtEach-from_nodes R body scope each.1)
AtEach-from_nodes R (Guarded node xs guard test body) scope each =
    (each.0, AtEach-from_nodes R body (scope ++ xs) each.1)
AtEach-from_nodes R (EventuallyPlan node place low high body) scope each =
    (each.0, AtEach-from_nodes R body scope each.1)
AtEach-from_nodes R (AlwaysPlan node place low high body) scope each = (each.0, AtEach-from_nodes R body scope each.1)
AtEach-from_nodes R (UntilPlan node place low high left right) scope each =
    let rest = AllByRecursion-of_append R (nodes left) (nodes right) each.1 in
    (each.0, AtEach-from_nodes R left scope rest.0, AtEach-from_nodes R right scope rest.1)
AtEach-from_nodes R (NextPlan node place high body) scope each = (each.0, AtEach-from_nodes R body scope each.1)

pub AtEach-nodes : (R : Plan → Type 0) (plan : Plan) (scope : List VarId)
    → AtEach (λ node inner. R node) plan scope
    → AllByRecursion R (nodes plan)
AtEach-nodes R (CausePlan node place name terms) scope each = (each, tt)
AtEach-nodes R (SuppressPlan node place name terms) scope each = (each, tt)
AtEach-nodes R (Both node left right) scope each = (
  each.0,
  AllByRecursion-append R (nodes left) (nodes right) (AtEach-nodes R left scope each.1)
      (AtEach-nodes R right scope each.2),
)
AtEach-nodes R (Either node left right) scope each = (
  each.0,
  AllByRecursion-append R (nodes left) (nodes right) (AtEach-nodes R left scope each.1)
      (AtEach-nodes R right scope each.2),
)
AtEach-nodes R (TestOr node guard test body) scope each = (each.0, AtEach-nodes R body scope each.1)
AtEach-nodes R (Guarded node xs guard test body) scope each = (each.0, AtEach-nodes R body (scope ++ xs) each.1)
AtEach-nodes R (EventuallyPlan node place low high body) scope each = (each.0, AtEach-nodes R body scope each.1)
AtEach-nodes R (AlwaysPlan node place low high body) scope each = (each.0, AtEach-nodes R body scope each.1)
AtEach-nodes R (UntilPlan node place low high left right) scope each = (
  each.0,
  AllByRecursion-append R (nodes left) (nodes right) (AtEach-nodes R left scope each.1)
      (AtEach-nodes R right scope each.2),
)
AtEach-nodes R (NextPlan node place high body) scope each = (each.0, AtEach-nodes R body scope each.1)

-- what holds of each guard and test of a plan holds of each of the list
pub AtEach-guards : (Q : Formula × List VarId → Type 0) (plan : Plan) (scope : List VarId)
    → AtEach (OfGuard Q) plan scope → AllByRecursion Q (guards_of_plan plan scope)
AtEach-guards Q (CausePlan node place name terms) scope each = tt
AtEach-guards Q (SuppressPlan node place name terms) scope each = tt
AtEach-guards Q (Both node left right) scope each =
    AllByRecursion-append Q (guards_of_plan left scope) (guards_of_plan right scope) (AtEach-guards Q left scope each.1)
    (AtEach-guards Q right scope each.2)
AtEach-guards Q (Either node left right) scope each =
    AllByRecursion-append Q (guards_of_plan left scope) (guards_of_plan right scope) (AtEach-guards Q left scope each.1)
    (AtEach-guards Q right scope each.2)
AtEach-guards Q (TestOr node guard test body) scope each = (each.0, AtEach-guards Q body scope each.1)
AtEach-guards Q (Guarded node xs guard test body) scope each = (each.0, AtEach-guards Q body (scope ++ xs) each.1)
AtEach-guards Q (EventuallyPlan node place low high body) scope each = AtEach-guards Q body scope each.1
AtEach-guards Q (AlwaysPlan node place low high body) scope each = AtEach-guards Q body scope each.1
AtEach-guards Q (UntilPlan node place low high left right) scope each =
    AllByRecursion-append Q (guards_of_plan left scope) (guards_of_plan right scope) (AtEach-guards Q left scope each.1)
    (AtEach-guards Q right scope each.2)
AtEach-guards Q (NextPlan node place high body) scope each = AtEach-guards Q body scope each.1
