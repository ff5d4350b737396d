-- What a pending instance missed nothing of it misses nothing of after an action on a name that does not move its node.
use Rattle.obligations.proofs.Vocabulary.{◌≡◌, ◌⊎◌, ℕ, zero, suc, Bool, true, false, cond, List, [], ◌∷◌, ◌++◌, Contains, Option, None, Some, refl, sym, ap, subst, arith, inl, inr, ⊎_elim, ◌∙◌}
use Rattle.obligations.proofs.Vocabulary.{slice_get, AllByRecursion, find, none-some, same_Some, step_at, AllByRecursion-contains, Contains-append, first_or_later, here, later, none_in_nil, NameId}
use Rattle.obligations.proofs.Vocabulary.{Step, VarId, cases_le, Formula, has_number, nodes, node_in, nodes_of, Plan, CausePlan, SuppressPlan, Both, Either, TestOr, Guarded, EventuallyPlan}
use Rattle.obligations.proofs.Vocabulary.{AlwaysPlan, UntilPlan, NextPlan, CanAskPlan, LacksNothing, LacksSome, IfElse, time_now, Missing, last_position, MissingExists, AtNode, IsInWindow, IsNowIn}
use Rattle.obligations.proofs.Vocabulary.{MissesAt, DiffersIn, IsUnmoved, IsUnmovedIn, node_of, UnreadInstanceStaysMet, Instance, Literal, LiteralKind, MoreEventsKeep}
use Rattle.obligations.proofs.SoundnessLemmas.{all_left, all_right}
use Rattle.obligations.proofs.UnreadNameLemmas.{same_last, same_times, unread_stays_met}

-- ---- what holds at each node of a plan holds below each of them

module _ (P : Plan → Type 0) where
  abbrev All : Plan → Type 0
  All plan = AllByRecursion P (nodes plan)

  at_or_below : (plan node : Plan) (below : List Plan) → All plan → (Contains below node → All node)
      → Contains (plan ∷ below) node → All node
  at_or_below plan node below all behind there =
      ⊎_elim (λ (same : plan ≡ node). subst All same all) behind (first_or_later node plan below there)

  one_of_two : (left right node : Plan) → (Contains (nodes left) node → All node) → (Contains (nodes right) node → All node)
      → Contains (nodes left ++ nodes right) node → All node
  one_of_two left right node first second there = ⊎_elim first second (Contains-append (nodes left) (nodes right) node there)

  inside : (plan node : Plan) → All plan → Contains (nodes plan) node → All node
  inside (CausePlan n place name terms) node all there =
      at_or_below (CausePlan n place name terms) node [] all (λ none. absurd (none_in_nil node none)) there
  inside (SuppressPlan n place name terms) node all there =
      at_or_below (SuppressPlan n place name terms) node [] all (λ none. absurd (none_in_nil node none)) there
  inside (Both n left right) node all there =
      at_or_below (Both n left right) node (nodes left ++ nodes right) all
      (one_of_two left right node (inside left node (all_left P (nodes left) (nodes right) all.1)) (inside right node (all_right P (nodes left) (nodes right) all.1))) there
  inside (Either n left right) node all there =
      at_or_below (Either n left right) node (nodes left ++ nodes right) all
      (one_of_two left right node (inside left node (all_left P (nodes left) (nodes right) all.1)) (inside right node (all_right P (nodes left) (nodes right) all.1))) there
  inside (TestOr n guard test body) node all there =
      at_or_below (TestOr n guard test body) node (nodes body) all (inside body node all.1) there
  inside (Guarded n xs guard test body) node all there =
      at_or_below (Guarded n xs guard test body) node (nodes body) all (inside body node all.1) there
  inside (EventuallyPlan n place low high body) node all there =
      at_or_below (EventuallyPlan n place low high body) node (nodes body) all (inside body node all.1) there
  inside (AlwaysPlan n place low high body) node all there =
      at_or_below (AlwaysPlan n place low high body) node (nodes body) all (inside body node all.1) there
  inside (UntilPlan n place low high left right) node all there =
      at_or_below (UntilPlan n place low high left right) node (nodes left ++ nodes right) all
      (one_of_two left right node (inside left node (all_left P (nodes left) (nodes right) all.1)) (inside right node (all_right P (nodes left) (nodes right) all.1))) there
  inside (NextPlan n place high body) node all there =
      at_or_below (NextPlan n place high body) node (nodes body) all (inside body node all.1) there

  found_in : (p : Plan → Bool) (plans : List Plan) (node : Plan) → find p plans ≡ Some node → Contains plans node
  found_in p [] node e = absurd (none-some node e)
  found_in p (plan ∷ plans) node e = by (p plan) e (found_in p plans node)
    where
      by : (b : Bool) → cond b (Some plan) (find p plans) ≡ Some node → (find p plans ≡ Some node → Contains plans node)
          → Contains (plan ∷ plans) node
      by true is again = subst (Contains (plan ∷ plans)) (same_Some plan node is) (here plan plans)
      by false is again = later node plan plans (again is)

  got : (plans : List Plan) (rule : ℕ) (plan : Plan) → slice_get plans rule ≡ Some plan → Contains plans plan
  got [] rule plan e = absurd (none-some plan e)
  got (first ∷ plans) zero plan e = subst (Contains (first ∷ plans)) (same_Some first plan e) (here first plans)
  got (first ∷ plans) (suc rule) plan e = later plan first plans (got plans rule plan e)

  at_node : (plans : List Plan) (rule number : ℕ) (node : Plan) → AllByRecursion All plans
      → node_in plans rule number ≡ Some node → All node
  at_node plans rule number node all e = by (slice_get plans rule) refl e
    where
      by : (o : Option Plan) → slice_get plans rule ≡ o → find (has_number number) (nodes_of o) ≡ Some node → All node
      by None is found = absurd (none-some node found)
      by (Some plan) is found =
          inside plan node (AllByRecursion-contains All plans plan all (got plans rule plan is)) (found_in (has_number number) (nodes plan) node found)

-- ---- the window of an instance

in_or_not : (i : Instance) (time : ℕ) → IsInWindow i time ⊎ (IsInWindow i time → ⊥)
in_or_not i time =
    ⊎_elim
    (λ low. ⊎_elim
    (λ high. inl (low, high))
    (λ over. inr (λ within. let high = within.1 in omega (arith, over, high)))
    (cases_le time i.high))
    (λ early. inr (λ within. let low = within.0 in omega (arith, early, low)))
    (cases_le i.low time)

-- ---- an instance

module _ (exist : MissingExists) (guards : List (Formula × List VarId)) (P : Plan → Type 0) (trace other : List Step) (i : Instance)
    (same_time : time_now trace ≡ time_now other)
    (stays : (plan : Plan) → AllByRecursion P (nodes plan) → CanAskPlan guards plan i.valuation → Missing trace plan i.valuation []
    → Missing other plan i.valuation []) where
  abbrev Nothing : List Literal
  Nothing = []

  into : IsNowIn trace i → IsNowIn other i
  into within = subst (IsInWindow i) same_time within

  from : IsNowIn other i → IsNowIn trace i
  from within = subst (IsInWindow i) (sym same_time) within

  where_stays : (forced : Bool) (P Q P' Q' : Type 0) → (P → P') → (Q → Q') → IfElse forced P Q → IfElse forced P' Q'
  where_stays true P Q P' Q' p q is = p is
  where_stays false P Q P' Q' p q is = q is

  until_stays : (N L R : Type 0) (right : Plan) → N → ((ls : List Literal) × Missing other right i.valuation ls)
      → (Missing trace right i.valuation [] → Missing other right i.valuation [])
      → (IsNowIn trace i × LacksNothing trace right i.valuation × N)
      ⊎ ((IsNowIn trace i → LacksSome trace right i.valuation) × L) → (L → R)
      → (IsNowIn other i × LacksNothing other right i.valuation × N)
      ⊎ ((IsNowIn other i → LacksSome other right i.valuation) × R)
  until_stays N L R right none ([], is) r missing l =
      ⊎_elim
      (λ within. inl (within, is, none))
      (λ outside. ⊎_elim
      (λ met. absurd (outside (into met.0)))
      (λ lacks. inr ((λ within. absurd (outside within)), l lacks.1))
      missing)
      (in_or_not i (time_now other))
  until_stays N L R right none (x ∷ xs, is) r missing l =
      ⊎_elim
      (λ met. inl (into met.0, r met.1, none))
      (λ lacks. inr ((λ within. (x, xs, is)), l lacks.1))
      missing

  at_stays : (node : Plan) (forced : Bool) → AllByRecursion P (nodes node) → CanAskPlan guards node i.valuation
      → MissesAt trace node i forced [] → MissesAt other node i forced []
  at_stays (EventuallyPlan n place low high body) forced unread can missing =
      where_stays forced (Missing trace body i.valuation []) ([] ≡ []) (Missing other body i.valuation []) ([] ≡ [])
      (stays body unread.1 (record { scope = can.scope; can = can.can.1; fits = can.fits })) (λ none. none) missing
  at_stays (NextPlan n place high body) forced unread can missing =
      stays body unread.1 (record { scope = can.scope; can = can.can.1; fits = can.fits }) missing
  at_stays (AlwaysPlan n place low high body) forced unread can missing =
      ⊎_elim
      (λ inside. inl (into inside.0, stays body unread.1 (record { scope = can.scope; can = can.can.1; fits = can.fits }) inside.1))
      (λ outside. inr ((λ within. outside.0 (from within)), refl))
      missing
  at_stays (UntilPlan n place low high left right) forced unread can missing =
      let on_left = stays left (all_left P (nodes left) (nodes right) unread.1) (record { scope = can.scope; can = can.can.1; fits = can.fits }) in
      let on_right = stays right (all_right P (nodes left) (nodes right) unread.1) (record { scope = can.scope; can = can.can.2; fits = can.fits }) in
      until_stays (Nothing ≡ Nothing)
      (IfElse forced (Missing trace right i.valuation []) (Missing trace left i.valuation []))
      (IfElse forced (Missing other right i.valuation []) (Missing other left i.valuation []))
      right refl (exist guards other right i.valuation (record { scope = can.scope; can = can.can.2; fits = can.fits })) on_right missing
      (where_stays forced (Missing trace right i.valuation []) (Missing trace left i.valuation []) (Missing other right i.valuation []) (Missing other left i.valuation []) on_right on_left)
  at_stays (CausePlan n place other_name terms) forced unread can missing = absurd missing
  at_stays (SuppressPlan n place other_name terms) forced unread can missing = absurd missing
  at_stays (Both n left right) forced unread can missing = absurd missing
  at_stays (Either n left right) forced unread can missing = absurd missing
  at_stays (TestOr n guard test body) forced unread can missing = absurd missing
  at_stays (Guarded n xs guard test body) forced unread can missing = absurd missing

pub same_time : (k : LiteralKind) (name : NameId) (trace other : List Step) → DiffersIn k name trace other
    → time_now trace ≡ time_now other
same_time k name trace other differs =
    same_times k name trace other differs (last_position trace)
    ∙ ap (λ n. (step_at other n).time) (same_last k name trace other differs)

pub unread_instance_stays_met : MoreEventsKeep → MissingExists → UnreadInstanceStaysMet
unread_instance_stays_met keep exist guards k name trace other plans i forced differs unmoved can missing =
    subst (λ o. AtNode o (λ node. MissesAt other node i forced [])) (sym can.found)
    (at_stays exist guards (IsUnmoved k name) trace other i (same_time k name trace other differs)
    (λ plan all can_plan misses. unread_stays_met keep exist guards k name trace other plan i.valuation differs all can_plan misses)
    can.node forced (unmoved can.node can.found) can.can
    (subst (λ o. AtNode o (λ node. MissesAt trace node i forced [])) can.found missing))

-- where an action moves none of the plans, it moves no node of them
pub node_unmoved : (k : LiteralKind) (name : NameId) (plans : List Plan) → AllByRecursion (IsUnmovedIn k name) plans
    → (i : Instance) (node : Plan) → node_of plans i ≡ Some node → IsUnmovedIn k name node
node_unmoved k name plans all i node found = at_node (IsUnmoved k name) plans i.rule i.node node all found
