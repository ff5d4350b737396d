-- What is missed is of right values, where guards give such: by induction over plans.
use Rattle.obligations.proofs.Vocabulary.{◌≡◌, ℕ, zero, suc, ◌+◌, ◌-◌, ◌<◌, Bool, true, false, List, [], ◌∷◌, ◌++◌, length, take, Contains, Option, None, Some, ⊎_elim, refl, sym, subst, arith}
use Rattle.obligations.proofs.Vocabulary.{length-append, take_all, All-contains, Contains-append_left, Contains-append_right, AllByRecursion-contains, Contains-append, first_or_later, here, later}
use Rattle.obligations.proofs.Vocabulary.{none_in_nil, Valuation, values_of_terms, with_values, Event, NameId, Step, Term, VarId, Value, as_many_values, Plan, CausePlan, SuppressPlan, Both, Either}
use Rattle.obligations.proofs.Vocabulary.{TestOr, Guarded, EventuallyPlan, AlwaysPlan, UntilPlan, NextPlan, AtEach-below, AtEach-found, AtEach-root, FoundIsFirst, NodesHaveScopes, AtEach}
use Rattle.obligations.proofs.Vocabulary.{scoped_nodes, IfElse, IsAbsent, IsPresent, LiteralUnless, Missing, MissesAlways, MissesUntil, OfEvent, cause_literal, suppress_literal, HoldsLast, AtNode}
use Rattle.obligations.proofs.Vocabulary.{MissesAt, AreRight, GivesRight, IsRightLiteral, MissedIsRight, MissedOfIsRight, Instance, Literal}
use Rattle.obligations.proofs.GatheredLists.{Gathers-contains}
use Rattle.obligations.proofs.PendingBoundLemmas.{each_from_nodes, named_node, node_in_plan}
use Rattle.obligations.proofs.RightValueLemmas.{pends_right}
use Rattle.obligations.proofs.TraceLemmas.{longer_pends}

up_to_last : (trace : List Step) → 0 < length trace → take (suc (length trace - 1)) trace ≡ trace
up_to_last trace some = take_all (suc (length trace - 1)) trace (omega (arith, some))

module _ (trace : List Step) (some : 0 < length trace) (right : VarId → Value → Bool) (literal : Literal) where
  abbrev Wanted : Plan → List VarId → Type 0
  Wanted plan scope = IsRightLiteral right plan scope literal

  in_none : (ls : List Literal) (R : Type 0) → ls ≡ [] → Contains ls literal → R
  in_none ls R none there = absurd (none_in_nil literal (subst (λ (l : List Literal). Contains l literal) none there))

  inner : (plan body : Plan) (scope behind : List VarId) → ((n : Plan × List VarId) → Contains (scoped_nodes body behind) n → Contains (scoped_nodes plan scope) n)
      → Wanted body behind → Wanted plan scope
  inner plan body scope behind within w = record {
    leaf = w.leaf;
    scope_there = w.scope_there;
    there = within (w.leaf, w.scope_there) w.there;
    is = w.is;
    valuation = w.valuation;
    values = w.values;
    args = w.args;
  }

  -- below a node with one part, and with two
  below : (plan body : Plan) (scope behind : List VarId) → scoped_nodes plan scope ≡ (plan, scope) ∷ scoped_nodes body behind
      → Wanted body behind → Wanted plan scope
  below plan body scope behind are w =
      inner plan body scope behind (λ n at. subst (λ (l : List (Plan × List VarId)). Contains l n) (sym are) (later n (plan, scope) (scoped_nodes body behind) at)) w

  below_left : (plan l r : Plan) (scope : List VarId) → scoped_nodes plan scope ≡ (plan, scope) ∷ scoped_nodes l scope ++ scoped_nodes r scope
      → Wanted l scope → Wanted plan scope
  below_left plan l r scope are w =
      inner plan l scope scope
      (λ n at. subst (λ (l : List (Plan × List VarId)). Contains l n) (sym are)
      (later n (plan, scope) (scoped_nodes l scope ++ scoped_nodes r scope) (Contains-append_left (scoped_nodes l scope) (scoped_nodes r scope) n at))) w

  below_right : (plan l r : Plan) (scope : List VarId) → scoped_nodes plan scope ≡ (plan, scope) ∷ scoped_nodes l scope ++ scoped_nodes r scope
      → Wanted r scope → Wanted plan scope
  below_right plan l r scope are w =
      inner plan r scope scope
      (λ n at. subst (λ (l : List (Plan × List VarId)). Contains l n) (sym are)
      (later n (plan, scope) (scoped_nodes l scope ++ scoped_nodes r scope) (Contains-append_right (scoped_nodes l scope) (scoped_nodes r scope) n at))) w

  one_literal : (P : Type 0) (l : Literal) (literals : List Literal) → LiteralUnless P l literals → Contains literals literal → l ≡ literal
  one_literal P l literals unless there =
      ⊎_elim (λ met. in_none literals (l ≡ literal) met.1 there)
      (λ fails. ⊎_elim (λ same. same) (λ none. absurd (none_in_nil literal none))
      (first_or_later literal l [] (subst (λ (ls : List Literal). Contains ls literal) fails.1 there))) unless

  caused : (node place : ℕ) (name : NameId) (terms : List Term) (scope : List VarId) (v : Valuation) → AreRight right scope v → (literals : List Literal) (got : Option (List Value))
      → values_of_terms v terms ≡ got → OfEvent name got (λ e. LiteralUnless (IsPresent trace e) (cause_literal e node) literals) → Contains literals literal
      → Wanted (CausePlan node place name terms) scope
  caused node place name terms scope v values literals None is misses there = absurd misses
  caused node place name terms scope v values literals (Some args) is misses there =
      let e : Event = record { name = name; args = args } in
      subst (λ (l : Literal). IsRightLiteral right (CausePlan node place name terms) scope l) (one_literal (IsPresent trace e) (cause_literal e node) literals misses there) (record {
        leaf = CausePlan node place name terms;
        scope_there = scope;
        there = here (CausePlan node place name terms, scope) [];
        is = (refl, refl, refl, as_many_values v terms args is);
        valuation = v;
        values = values;
        args = is;
      })

  suppressed : (node place : ℕ) (name : NameId) (terms : List Term) (scope : List VarId) (v : Valuation) → AreRight right scope v → (literals : List Literal) (got : Option (List Value))
      → values_of_terms v terms ≡ got → OfEvent name got (λ e. LiteralUnless (IsAbsent trace e) (suppress_literal e node) literals) → Contains literals literal
      → Wanted (SuppressPlan node place name terms) scope
  suppressed node place name terms scope v values literals None is misses there = absurd misses
  suppressed node place name terms scope v values literals (Some args) is misses there =
      let e : Event = record { name = name; args = args } in
      subst (λ (l : Literal). IsRightLiteral right (SuppressPlan node place name terms) scope l) (one_literal (IsAbsent trace e) (suppress_literal e node) literals misses there) (record {
        leaf = SuppressPlan node place name terms;
        scope_there = scope;
        there = here (SuppressPlan node place name terms, scope) [];
        is = (refl, refl, refl, as_many_values v terms args is);
        valuation = v;
        values = values;
        args = is;
      })

  at_always : (low : ℕ) (P : List Literal → Type 0) (literals : List Literal) (R : Type 0) → MissesAlways low P literals → Contains literals literal → (P literals → R) → R
  at_always zero P literals R misses there go = go misses
  at_always (suc low) P literals R misses there go = in_none literals R misses there

  at_until : (low : ℕ) (left other : List Literal → Type 0) (literals : List Literal) (R : Type 0) → MissesUntil low left other literals → Contains literals literal → (left literals → R) → R
  at_until zero left other literals R misses there go = ⊎_elim (λ met. in_none literals R met.1 there) (λ fails. go fails.1) misses
  at_until (suc low) left other literals R misses there go = go misses

  missed : (plan : Plan) (scope : List VarId) → AtEach (GivesRight trace right) plan scope → (v : Valuation) → AreRight right scope v → (literals : List Literal) → Missing trace plan v literals
      → Contains literals literal → Wanted plan scope
  missed (CausePlan node place name terms) scope give v values literals misses there = caused node place name terms scope v values literals (values_of_terms v terms) refl misses there
  missed (SuppressPlan node place name terms) scope give v values literals misses there = suppressed node place name terms scope v values literals (values_of_terms v terms) refl misses there
  missed (Both node l r) scope give v values literals (first, rest, one, two, are) there =
      ⊎_elim (λ front. below_left (Both node l r) l r scope refl (missed l scope give.1 v values first one front))
      (λ back. below_right (Both node l r) l r scope refl (missed r scope give.2 v values rest two back))
      (Contains-append first rest literal (subst (λ (ls : List Literal). Contains ls literal) are there))
  missed (Either node l r) scope give v values literals misses there =
      ⊎_elim (λ met. in_none literals (Wanted (Either node l r) scope) met.1 there)
      (λ others. ⊎_elim (λ met. in_none literals (Wanted (Either node l r) scope) met.1 there)
      (λ both. below_right (Either node l r) l r scope refl (missed r scope give.2 v values literals both.2 there)) others) misses
  missed (TestOr node guard test body) scope give v values literals misses there =
      ⊎_elim (λ met. in_none literals (Wanted (TestOr node guard test body) scope) met.1 there)
      (λ fails. below (TestOr node guard test body) body scope scope refl (missed body scope give.1 v values literals fails.1 there)) misses
  missed (Guarded node xs guard test body) scope give v values literals (rows, are, gathered) there =
      let found = Gathers-contains (λ (row : List Value) (ls : List Literal). Missing trace body (with_values xs row v) ls) rows literals literal gathered there in
      let long = All-contains (λ (r : List Value). length r ≡ length xs) rows found.0 are.fit found.1 in
      let holds = subst (λ (t : List Step). HoldsLast t (with_values xs found.0 v) test) (sym (up_to_last trace some)) ((are.are found.0 long).0 found.1) in
      below (Guarded node xs guard test body) body scope (scope ++ xs) refl
      (missed body (scope ++ xs) give.1 (with_values xs found.0 v) (give.0 (length trace - 1) v found.0 (omega (arith, some)) long values holds) found.2 found.3 found.4)
  missed (EventuallyPlan node place low high body) scope give v values literals none there = in_none literals (Wanted (EventuallyPlan node place low high body) scope) none there
  missed (AlwaysPlan node place low high body) scope give v values literals misses there =
      at_always low (Missing trace body v) literals (Wanted (AlwaysPlan node place low high body) scope) misses there
      (λ now. below (AlwaysPlan node place low high body) body scope scope refl (missed body scope give.1 v values literals now there))
  missed (UntilPlan node place low high l r) scope give v values literals misses there =
      at_until low (Missing trace l v) (Missing trace r v) literals (Wanted (UntilPlan node place low high l r) scope) misses there
      (λ now. below_left (UntilPlan node place low high l r) l r scope refl (missed l scope give.1 v values literals now there))
  missed (NextPlan node place high body) scope give v values literals none there = in_none literals (Wanted (NextPlan node place high body) scope) none there

  -- ---- a pending instance

  by_force : (forced : Bool) (A B R : Type 0) → (A → R) → (B → R) → IfElse forced A B → R
  by_force true A B R first second is = first is
  by_force false A B R first second is = second is

  missed_at : (node : Plan) (scope : List VarId) → AtEach (GivesRight trace right) node scope → (i : Instance) → AreRight right scope i.valuation → (forced : Bool) (literals : List Literal)
      → MissesAt trace node i forced literals → Contains literals literal → Wanted node scope
  missed_at (EventuallyPlan node place low high body) scope give i values forced literals misses there =
      by_force forced (Missing trace body i.valuation literals) (literals ≡ []) (Wanted (EventuallyPlan node place low high body) scope)
      (λ now. below (EventuallyPlan node place low high body) body scope scope refl (missed body scope give.1 i.valuation values literals now there))
      (λ none. in_none literals (Wanted (EventuallyPlan node place low high body) scope) none there) misses
  missed_at (NextPlan node place high body) scope give i values forced literals misses there =
      below (NextPlan node place high body) body scope scope refl (missed body scope give.1 i.valuation values literals misses there)
  missed_at (AlwaysPlan node place low high body) scope give i values forced literals misses there =
      ⊎_elim (λ inside. below (AlwaysPlan node place low high body) body scope scope refl (missed body scope give.1 i.valuation values literals inside.1 there))
      (λ outside. in_none literals (Wanted (AlwaysPlan node place low high body) scope) outside.1 there) misses
  missed_at (UntilPlan node place low high l r) scope give i values forced literals misses there =
      ⊎_elim (λ met. in_none literals (Wanted (UntilPlan node place low high l r) scope) met.2 there)
      (λ waits. by_force forced (Missing trace r i.valuation literals) (Missing trace l i.valuation literals) (Wanted (UntilPlan node place low high l r) scope)
      (λ now. below_right (UntilPlan node place low high l r) l r scope refl (missed r scope give.2 i.valuation values literals now there))
      (λ now. below_left (UntilPlan node place low high l r) l r scope refl (missed l scope give.1 i.valuation values literals now there)) waits.1) misses
  missed_at (CausePlan node place name terms) scope give i values forced literals misses there = absurd misses
  missed_at (SuppressPlan node place name terms) scope give i values forced literals misses there = absurd misses
  missed_at (Both node l r) scope give i values forced literals misses there = absurd misses
  missed_at (Either node l r) scope give i values forced literals misses there = absurd misses
  missed_at (TestOr node guard test body) scope give i values forced literals misses there = absurd misses
  missed_at (Guarded node xs guard test body) scope give i values forced literals misses there = absurd misses

  -- what is of a leaf of a node is of one of the plan in which the node is found
  abbrev IsOneOf : Plan → Plan → List VarId → Type 0
  IsOneOf plan node scope = Contains (scoped_nodes plan []) (node, scope)

  of_plan : (plan node : Plan) (scope : List VarId) → AtEach (IsOneOf plan) node scope → Wanted node scope → Wanted plan []
  of_plan plan node scope each w =
      inner plan node [] scope
      (λ n at. AtEach-root (IsOneOf plan) n.0 n.1
      (AllByRecursion-contains (λ (m : Plan × List VarId). AtEach (IsOneOf plan) m.0 m.1) (scoped_nodes node scope) n (AtEach-below (IsOneOf plan) node scope each) at)) w

pub missed_right : MissedIsRight
missed_right trace plan scope right v literals literal some give values misses there = missed trace some right literal plan scope give v values literals misses there

pub missed_of_right : FoundIsFirst → NodesHaveScopes → MissedOfIsRight
missed_of_right is_first have_scopes plans guards trace step pending right i forced literals literal well give pend waits misses there =
    let longer : List Step = trace ++ step ∷ [] in
    let count : length longer ≡ length trace + 1 = length-append trace (step ∷ []) in
    let some : 0 < length longer = omega (arith, count) in
    let can = pends_right plans longer right is_first have_scopes guards well give (length trace) (omega (arith, count)) pending
    (longer_pends plans trace (step ∷ []) (length trace) (omega arith) pending pend) i waits in
    let found = node_in_plan is_first plans i.rule i.node can.node can.scope can.named in
    let missed_there = subst (λ o. AtNode o (λ node. MissesAt longer node i forced literals)) (named_node is_first plans i.rule i.node can.node can.scope can.named) misses in
    let each = AtEach-found (IsOneOf longer some (right i.rule) literal found.0) found.0 can.node [] can.scope i.node found.2
    (each_from_nodes (IsOneOf longer some (right i.rule) literal found.0) found.0 [] (λ n at. at)) in record {
      plan = found.0;
      of_rule = found.1;
      is = of_plan longer some (right i.rule) literal found.0 can.node can.scope each
          (missed_at longer some (right i.rule) literal can.node can.scope can.give.1 i can.values forced literals missed_there there);
    }
