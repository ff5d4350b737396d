-- The first of some that are asked at a step, and the action for it.
use Rattle.choice_step.proofs.Vocabulary.{◌≡◌, ℕ, zero, suc, ◌+◌, ◌<◌, ◌≤◌, Bool, List, [], ◌∷◌, ◌++◌, Option, None, Some, length, map, Contains, take, refl, sym, subst, ap, ◌∙◌, ⊎_elim}
use Rattle.choice_step.proofs.Vocabulary.{inl, inr, arith, IfSome, slice_get, get-empty, AllByRecursion, find, flat_map, remove, Contains-append_left, Contains-append_right, cases_lt, none-some}
use Rattle.choice_step.proofs.Vocabulary.{same_Some, AllByRecursion-append, AllByRecursion-find, AllByRecursion-from_contains, Contains-append, first_or_later, later, none_in_nil}
use Rattle.choice_step.proofs.Vocabulary.{there_from_get, Valuation, no_values, variable_cmp, Step, Value, Contains-flat_map, has_number, nodes, nodes_of, Plan, CausePlan, SuppressPlan, Both, Either}
use Rattle.choice_step.proofs.Vocabulary.{TestOr, Guarded, EventuallyPlan, AlwaysPlan, UntilPlan, NextPlan, IsBound, IsKnownAt, IsWanted, IsWantedOf, IsNowOf, time_now, Missing, node_of, FirstMissing}
use Rattle.choice_step.proofs.Vocabulary.{FirstMissingOf, FirstOf, Action, Instance, Literal, Now, Candidate, IsFirstMissing, CandidateMisses, MissesNothing, Root, Waiting, action_at}
use Rattle.choice_step.proofs.Vocabulary.{action_for, is_forced, roots_from, IsActionFor, IsKnownFor, IsLiteralAt, IsWantedAt}
use Rattle.std.specs.Prelude.{slice_index_or}

module _ (plans : List Plan) (inserted : Bool) (trace : List Step) where
  abbrev pub MissesFirst : Candidate → Literal → Type 0
  MissesFirst asked literal = (rest : List Literal) × CandidateMisses plans inserted trace asked (literal ∷ rest)

  abbrev pub Met : Instance → Type 0
  Met i = MissesNothing plans inserted trace (Waiting i)

  pub waiting_met : (xs : List Instance) (x : Instance) → AllByRecursion (MissesNothing plans inserted trace) (map Waiting xs) → Contains xs x → Met x
  waiting_met [] x none there = absurd (none_in_nil x there)
  waiting_met (y ∷ xs) x none there = ⊎_elim (λ same. subst Met same none.0) (λ on. waiting_met xs x none.1 on) (first_or_later x y xs there)

  -- so many of the first roots of rules miss nothing
  abbrev NoRootBefore : (rule : ℕ) → List Plan → ℕ → Type 0
  NoRootBefore rule ps k = AllByRecursion (MissesNothing plans inserted trace) (roots_from rule (take k ps))

  pub root_first : (rule number : ℕ) (ps : List Plan) (k : ℕ) (plan : Plan) (literal : Literal) (more : List Literal) → number ≡ rule + k
      → slice_get ps k ≡ Some plan → NoRootBefore rule ps k → Missing trace plan no_values (literal ∷ more)
      → IsFirstMissing plans inserted trace (roots_from rule ps) (Root number plan) literal
  root_first rule number [] k plan literal more at e none misses = absurd (none-some plan e)
  root_first rule number (first ∷ ps) zero plan literal more at e none misses =
      let same : first ≡ plan = same_Some first plan e in
      let number_is : rule ≡ number = omega (arith, at) in
      inl ((λ i. Root (number_is i) (same i)), more, subst (λ p. Missing trace p no_values (literal ∷ more)) (sym same) misses)
  root_first rule number (first ∷ ps) (suc k) plan literal more at e none misses =
      inr (none.0, root_first (suc rule) number ps k plan literal more (omega (arith, at)) e none.1 misses)

  pub no_root : (rule : ℕ) (ps : List Plan) (k : ℕ) → length ps ≤ k → NoRootBefore rule ps k
      → AllByRecursion (MissesNothing plans inserted trace) (roots_from rule ps)
  no_root rule [] k within none = tt
  no_root rule (p ∷ ps) zero within none = absurd (omega (arith, within))
  no_root rule (p ∷ ps) (suc k) within none = (none.0, no_root (suc rule) ps k (omega (arith, within)) none.1)

  next_root : (rule number : ℕ) (ps : List Plan) (k : ℕ) (plan : Plan) → number ≡ rule + k → slice_get ps k ≡ Some plan
      → NoRootBefore rule ps k → MissesNothing plans inserted trace (Root number plan) → NoRootBefore rule ps (suc k)
  next_root rule number [] k plan at e none this = absurd (none-some plan e)
  next_root rule number (first ∷ ps) zero plan at e none this =
      (subst (λ p. Missing trace p no_values []) (sym (same_Some first plan e)) this, tt)
  next_root rule number (first ∷ ps) (suc k) plan at e none this =
      (none.0, next_root (suc rule) number ps k plan (omega (arith, at)) e none.1 this)

  pub one_more_root : (ps : List Plan) (k : ℕ) (plan : Plan) → slice_get ps k ≡ Some plan → NoRootBefore 0 ps k
      → MissesNothing plans inserted trace (Root k plan) → NoRootBefore 0 ps (k + 1)
  one_more_root ps k plan e none this =
      subst (NoRootBefore 0 ps) {x = suc k} {y = k + 1} (omega arith) (next_root 0 k ps k plan (omega arith) e none this)

  -- what a pending instance misses first, by the answer of the call, and whether it misses nothing
  at_its_time : (now : Now) (i : Instance) (forced : Bool) (found other : Option Literal) → IsNowOf now trace
      → forced ≡ is_forced inserted now.time i → found ≡ other → FirstMissingOf plans trace i forced found
      → FirstMissingOf plans trace i (is_forced inserted (time_now trace) i) other
  at_its_time now i forced found other of is same misses =
      let at : forced ≡ is_forced inserted (time_now trace) i = is ∙ ap (λ t. is_forced inserted t i) (sym of.time) in
      subst (λ b. FirstMissingOf plans trace i b other) at (subst (FirstMissingOf plans trace i forced) same misses)

  pub misses_waiting : (now : Now) (i : Instance) (forced : Bool) (found : Option Literal) (literal : Literal) → IsNowOf now trace
      → forced ≡ is_forced inserted now.time i → found ≡ Some literal → FirstMissingOf plans trace i forced found
      → MissesFirst (Waiting i) literal
  misses_waiting now i forced found literal of is same misses = at_its_time now i forced found (Some literal) of is same misses

  pub waits : (now : Now) (i : Instance) (forced : Bool) (found : Option Literal) → IsNowOf now trace
      → forced ≡ is_forced inserted now.time i → found ≡ None → FirstMissingOf plans trace i forced found
      → MissesNothing plans inserted trace (Waiting i)
  waits now i forced found of is same misses = at_its_time now i forced found None of is same misses

  -- and the same of a root
  at_root : (plan : Plan) (v : Valuation) (found other : Option Literal) → v ≡ no_values → found ≡ other
      → FirstMissing trace plan v found → FirstMissing trace plan no_values other
  at_root plan v found other none same misses =
      subst (λ w. FirstMissing trace plan w other) none (subst (FirstMissing trace plan v) same misses)

  pub misses_root : (rule : ℕ) (plan : Plan) (v : Valuation) (found : Option Literal) (literal : Literal) → v ≡ no_values
      → found ≡ Some literal → FirstMissing trace plan v found → MissesFirst (Root rule plan) literal
  misses_root rule plan v found literal none same misses = at_root plan v found (Some literal) none same misses

  pub stays_root : (rule : ℕ) (plan : Plan) (v : Valuation) (found : Option Literal) → v ≡ no_values → found ≡ None
      → FirstMissing trace plan v found → MissesNothing plans inserted trace (Root rule plan)
  stays_root rule plan v found none same misses = at_root plan v found None none same misses

  -- those that are asked later change nothing where one was found
  first_of_more : (xs ys : List Candidate) (asked : Candidate) (literal : Literal) → IsFirstMissing plans inserted trace xs asked literal
      → IsFirstMissing plans inserted trace (xs ++ ys) asked literal
  first_of_more [] ys asked literal first = absurd first
  first_of_more (x ∷ xs) ys asked literal first =
      ⊎_elim (λ found. inl found) (λ behind. inr (behind.0, first_of_more xs ys asked literal behind.1)) first

  first_behind : (xs ys : List Candidate) (asked : Candidate) (literal : Literal)
      → AllByRecursion (MissesNothing plans inserted trace) xs → IsFirstMissing plans inserted trace ys asked literal
      → IsFirstMissing plans inserted trace (xs ++ ys) asked literal
  first_behind [] ys asked literal none first = first
  first_behind (x ∷ xs) ys asked literal none first = inr (none.0, first_behind xs ys asked literal none.1 first)

  pub found_first : (xs ys : List Candidate) (action : Action) → IsActionFor plans inserted trace xs (Some action)
      → IsActionFor plans inserted trace (xs ++ ys) (Some action)
  found_first xs ys action (asked, literal, first, is) = (asked, literal, first_of_more xs ys asked literal first, is)

  pub found_behind : (xs ys : List Candidate) (found : Option Action) → IsActionFor plans inserted trace xs None
      → IsActionFor plans inserted trace ys found → IsActionFor plans inserted trace (xs ++ ys) found
  found_behind xs ys None none behind = AllByRecursion-append (MissesNothing plans inserted trace) xs ys none behind
  found_behind xs ys (Some action) none (asked, literal, first, is) =
      (asked, literal, first_behind xs ys asked literal none first, is)

-- the action at a step is the action for its trace
pub for_trace : (now : Now) (trace : List Step) (asked : Candidate) (literal : Literal) (action : Action) → IsNowOf now trace
    → action ≡ action_at now.time now.position asked literal → action ≡ action_for trace asked literal
for_trace now trace asked literal action of is =
    is ∙ (λ i. action_at (sym of.time i) (sym of.position i) asked literal)

-- ---- what is wanted

nodes_within : (plan node leaf : Plan) → Contains (nodes plan) node → Contains (nodes node) leaf → Contains (nodes plan) leaf
nodes_within (CausePlan number place name terms) node leaf there below =
    one (CausePlan number place name terms) node leaf there below
  where
    one : (plan node leaf : Plan) → Contains (plan ∷ []) node → Contains (nodes node) leaf → Contains (nodes plan) leaf
    one plan node leaf there below =
        ⊎_elim
        (λ same. subst (λ p. Contains (nodes p) leaf) (sym same) below)
        (λ behind. absurd (none_in_nil node behind))
        (first_or_later node plan [] there)
nodes_within (SuppressPlan number place name terms) node leaf there below =
    ⊎_elim
    (λ same. subst (λ p. Contains (nodes p) leaf) (sym same) below)
    (λ behind. absurd (none_in_nil node behind))
    (first_or_later node (SuppressPlan number place name terms) [] there)
nodes_within (Both number left right) node leaf there below =
    ⊎_elim
    (λ same. subst (λ p. Contains (nodes p) leaf) (sym same) below)
    (λ behind. later leaf (Both number left right) (nodes left ++ nodes right) (⊎_elim
    (λ front. Contains-append_left (nodes left) (nodes right) leaf (nodes_within left node leaf front below))
    (λ back. Contains-append_right (nodes left) (nodes right) leaf (nodes_within right node leaf back below))
    (Contains-append (nodes left) (nodes right) node behind)))
    (first_or_later node (Both number left right) (nodes left ++ nodes right) there)
nodes_within (Either number left right) node leaf there below =
    ⊎_elim
    (λ same. subst (λ p. Contains (nodes p) leaf) (sym same) below)
    (λ behind. later leaf (Either number left right) (nodes left ++ nodes right) (⊎_elim
    (λ front. Contains-append_left (nodes left) (nodes right) leaf (nodes_within left node leaf front below))
    (λ back. Contains-append_right (nodes left) (nodes right) leaf (nodes_within right node leaf back below))
    (Contains-append (nodes left) (nodes right) node behind)))
    (first_or_later node (Either number left right) (nodes left ++ nodes right) there)
nodes_within (TestOr number guard test body) node leaf there below =
    ⊎_elim
    (λ same. subst (λ p. Contains (nodes p) leaf) (sym same) below)
    (λ behind. later leaf (TestOr number guard test body) (nodes body) (nodes_within body node leaf behind below))
    (first_or_later node (TestOr number guard test body) (nodes body) there)
nodes_within (Guarded number xs guard test body) node leaf there below =
    ⊎_elim
    (λ same. subst (λ p. Contains (nodes p) leaf) (sym same) below)
    (λ behind. later leaf (Guarded number xs guard test body) (nodes body) (nodes_within body node leaf behind below))
    (first_or_later node (Guarded number xs guard test body) (nodes body) there)
nodes_within (EventuallyPlan number place low high body) node leaf there below =
    ⊎_elim
    (λ same. subst (λ p. Contains (nodes p) leaf) (sym same) below)
    (λ behind. later leaf (EventuallyPlan number place low high body) (nodes body) (nodes_within body node leaf behind below))
    (first_or_later node (EventuallyPlan number place low high body) (nodes body) there)
nodes_within (AlwaysPlan number place low high body) node leaf there below =
    ⊎_elim
    (λ same. subst (λ p. Contains (nodes p) leaf) (sym same) below)
    (λ behind. later leaf (AlwaysPlan number place low high body) (nodes body) (nodes_within body node leaf behind below))
    (first_or_later node (AlwaysPlan number place low high body) (nodes body) there)
nodes_within (UntilPlan number place low high left right) node leaf there below =
    ⊎_elim
    (λ same. subst (λ p. Contains (nodes p) leaf) (sym same) below)
    (λ behind. later leaf (UntilPlan number place low high left right) (nodes left ++ nodes right) (⊎_elim
    (λ front. Contains-append_left (nodes left) (nodes right) leaf (nodes_within left node leaf front below))
    (λ back. Contains-append_right (nodes left) (nodes right) leaf (nodes_within right node leaf back below))
    (Contains-append (nodes left) (nodes right) node behind)))
    (first_or_later node (UntilPlan number place low high left right) (nodes left ++ nodes right) there)
nodes_within (NextPlan number place high body) node leaf there below =
    ⊎_elim
    (λ same. subst (λ p. Contains (nodes p) leaf) (sym same) below)
    (λ behind. later leaf (NextPlan number place high body) (nodes body) (nodes_within body node leaf behind below))
    (first_or_later node (NextPlan number place high body) (nodes body) there)

-- a node that is found in the plan of a rule is one of all nodes, and so is each below it
below_found : (plans : List Plan) (rule number : ℕ) (plan : Option Plan) (node leaf : Plan) → slice_get plans rule ≡ plan
    → find (has_number number) (nodes_of plan) ≡ Some node → Contains (nodes node) leaf → Contains (flat_map nodes plans) leaf
below_found plans rule number None node leaf at found below = absurd (none-some node found)
below_found plans rule number (Some plan) node leaf at found below =
    let there : Contains (nodes plan) node =
    AllByRecursion-find (Contains (nodes plan)) (has_number number) (nodes plan) node
    (AllByRecursion-from_contains (Contains (nodes plan)) (nodes plan) (λ other is. is)) found
    in
    Contains-flat_map nodes plans plan leaf (there_from_get plans rule plan at) (nodes_within plan node leaf there below)

pub node_below : (plans : List Plan) (i : Instance) (node leaf : Plan) → node_of plans i ≡ Some node → Contains (nodes node) leaf
    → Contains (flat_map nodes plans) leaf
node_below plans i node leaf found below =
    below_found plans i.rule i.node (slice_get plans i.rule) node leaf refl found below

-- what is known to a plan is known, where the leaves below it are among those of all plans
known_for : (plans : List Plan) (pending : List Instance) (now : Now) (plan : Plan) (i : Instance) (value : Value)
    → Contains pending i → ((leaf : Plan) → Contains (nodes plan) leaf → Contains (flat_map nodes plans) leaf)
    → IsKnownAt now plan i.valuation value → IsKnownFor plans pending now.ordered.now now.tables.now value
known_for plans pending now plan i value there all known =
    ⊎_elim
    (λ bound. inl (i, there, bound))
    (λ others. inr (⊎_elim
    (λ argument. inl argument)
    (λ others. inr (⊎_elim
    (λ tabled. inl tabled)
    (λ others. inr (⊎_elim
    (λ constant. inl constant)
    (λ leaf. inr (leaf.0, all leaf.0 leaf.1, leaf.2))
    others))
    others))
    others))
    known

pub wanted_waiting : (plans : List Plan) (pending : List Instance) (now : Now) (i : Instance) (literal : Literal) (action : Action)
    → Contains pending i → IsWantedOf now plans i literal → action ≡ action_at now.time now.position (Waiting i) literal
    → IsWantedAt plans pending now.events.now now.ordered.now now.tables.now action
wanted_waiting plans pending now i literal action there wanted is =
    let all : (leaf : Plan) → Contains (nodes wanted.part) leaf → Contains (flat_map nodes plans) leaf =
    λ leaf below. node_below plans i wanted.node leaf wanted.found (wanted.inside leaf below)
    in
    let by : IsWantedAt plans pending now.events.now now.ordered.now now.tables.now (action_at now.time now.position (Waiting i) literal) = record {
      leaf = wanted.wanted.leaf;
      there = all wanted.wanted.leaf wanted.wanted.there;
      asked = inr (record {
        instance = i;
        waits = there;
        node = wanted.node;
        found = wanted.found;
        part = wanted.part;
        has = wanted.has;
        reached = wanted.wanted.reached;
      });
      is = wanted.wanted.is;
      changes = wanted.wanted.changes;
      known = λ value arg. known_for plans pending now wanted.part i value there all (wanted.wanted.known value arg);
    } in
    subst (IsWantedAt plans pending now.events.now now.ordered.now now.tables.now) (sym is) by

-- nothing is bound at the root of a rule
pub nothing_bound : (value : Value) → IsBound no_values value → ⊥
nothing_bound value (x, is) = none-some value (sym (get-empty variable_cmp x) ∙ is)

pub wanted_root : (plans : List Plan) (pending : List Instance) (now : Now) (rule : ℕ) (plan : Plan) (literal : Literal) (action : Action)
    → Contains plans plan → IsWanted now plan no_values literal → action ≡ action_at now.time now.position (Root rule plan) literal
    → IsWantedAt plans pending now.events.now now.ordered.now now.tables.now action
wanted_root plans pending now rule plan literal action there wanted is =
    let all : (leaf : Plan) → Contains (nodes plan) leaf → Contains (flat_map nodes plans) leaf =
    λ leaf below. Contains-flat_map nodes plans plan leaf there below
    in
    let known : (value : Value) → IsKnownAt now plan no_values value → IsKnownFor plans pending now.ordered.now now.tables.now value =
    λ value known. ⊎_elim
    (λ bound. absurd (nothing_bound value bound))
    (λ others. inr (⊎_elim
    (λ argument. inl argument)
    (λ others. inr (⊎_elim
    (λ tabled. inl tabled)
    (λ others. inr (⊎_elim
    (λ constant. inl constant)
    (λ leaf. inr (leaf.0, all leaf.0 leaf.1, leaf.2))
    others))
    others))
    others))
    known
    in
    let by : IsWantedAt plans pending now.events.now now.ordered.now now.tables.now (action_at now.time now.position (Root rule plan) literal) = record {
      leaf = wanted.leaf;
      there = all wanted.leaf wanted.there;
      asked = inl (record { plan = plan; among = there; reached = wanted.reached });
      is = wanted.is;
      changes = wanted.changes;
      known = λ value arg. known value (wanted.known value arg);
    } in
    subst (IsWantedAt plans pending now.events.now now.ordered.now now.tables.now) (sym is) by

pub literal_root : (plans : List Plan) (pending : List Instance) (now : Now) (plan : Plan) (literal : Literal)
    → Contains plans plan → IsWanted now plan no_values literal
    → IsLiteralAt plans pending now.ordered.now now.tables.now literal
literal_root plans pending now plan literal there wanted =
    let by =
    wanted_root plans pending now 0 plan literal (action_at now.time now.position (Root 0 plan) literal) there wanted refl
    in
    record {
      leaf = wanted.leaf;
      there = Contains-flat_map nodes plans plan wanted.leaf there wanted.there;
      root = record { plan = plan; among = there; reached = wanted.reached };
      is = wanted.is;
      known = by.known;
    }

-- the first of all that is missed
pub first_of_all : (P : List Literal → Type 0) (literals : List Literal) → P literals → FirstOf P (slice_get literals 0)
first_of_all P [] is = is
first_of_all P (l ∷ ls) is = (ls, is)

pub if_some : {X : Type 0} (o : Option X) (P Q : X → Type 0) → ((x : X) → P x → Q x) → IfSome o P → IfSome o Q
if_some None P Q turn is = tt
if_some (Some x) P Q turn is = turn x is

pub above : (n : ℕ) → (n ≡ 0 → ⊥) → 0 < n
above n some = ⊎_elim (λ lt. lt) (λ le. absurd (some (omega (arith, le)))) (cases_lt 0 n)

pub nil_of : {X : Type 0} (xs : List X) → length xs ≡ 0 → xs ≡ []
nil_of [] none = refl
nil_of (x ∷ xs) none = absurd (omega (arith, none))

-- the first that was taken out, and the rest
pub split_first : (literals : List Literal) (first : Literal) (rest : List Literal) → 0 < length literals → first ≡ slice_index_or literals 0 first
    → rest ≡ remove literals 0 → literals ≡ first ∷ rest
split_first [] first rest some is behind = absurd (omega (arith, some))
split_first (l ∷ ls) first rest some is behind = λ i. sym is i ∷ sym behind i
