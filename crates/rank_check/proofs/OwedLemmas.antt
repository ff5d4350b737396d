-- Under transparent plans what is owed holds wherever a trace goes on to satisfy the plans.
use Rattle.rank_check.proofs.Vocabulary.{◌≡◌, ◌⊎◌, ℕ, zero, suc, ◌<◌, ◌≤◌, Bool, true, false, not, ◌&&◌, ◌||◌, IsTrue, List, [], ◌∷◌, ◌++◌, length, map, Some, ⊎_elim, refl, sym, subst, arith, le_refl}
use Rattle.rank_check.proofs.Vocabulary.{length-append, list_all, list_any, false≢true, All-head, All-nil, All-tail, list_all-append, list_any-append, none-some, same_Some, IsTrace, Valuation}
use Rattle.rank_check.proofs.Vocabulary.{no_values, with_values, Step, cases_le, both_true as both, not_both as never, Formula, Sat, IsStable, Satisfies, IsLost, IsAhead, IsOwed, IsStillLost}
use Rattle.rank_check.proofs.Vocabulary.{LeadsThrough, LeadsTo, Obligation, obligation, has_future, is_future, nodes, formula_for, Plan, CausePlan, SuppressPlan, Both, Either, TestOr, Guarded}
use Rattle.rank_check.proofs.Vocabulary.{EventuallyPlan, AlwaysPlan, UntilPlan, NextPlan, OwedStaysOwed, OwedNodesHold, RootsHold, is_transparent, is_transparent_at}
use Rattle.std.proofs.Common.{slice_get, append-nil}

-- ---- tests

from_left : (a b : Bool) → IsTrue a → IsTrue (a || b)
from_left true b is = refl
from_left false b is = absurd (false≢true is)

from_right : (a b : Bool) → IsTrue b → IsTrue (a || b)
from_right true b is = refl
from_right false b is = is

second_not : (a b : Bool) → IsTrue (not (a && b)) → IsTrue a → b ≡ false
second_not true true none is = absurd (false≢true none)
second_not true false none is = refl
second_not false b none is = absurd (false≢true is)

first_not : (a b : Bool) → IsTrue (not (a && b)) → IsTrue b → a ≡ false
first_not false b none is = refl
first_not true true none is = absurd (false≢true none)
first_not true false none is = absurd (false≢true is)

-- ---- nodes

abbrev HoldsThroughout : List Step → Formula → Type 0
HoldsThroughout trace f = (i : ℕ) → i < length trace → Sat trace i no_values f

abbrev IsMarked : Plan → Type 0
IsMarked plan = IsTrue (list_all is_transparent_at (nodes plan))

abbrev Ahead : Plan → Type 0
Ahead plan = IsTrue (has_future plan)

parts : (left right : Plan) → IsTrue (list_all is_transparent_at (nodes left ++ nodes right)) → IsMarked left × IsMarked right
parts left right marked =
    both (list_all is_transparent_at (nodes left)) (list_all is_transparent_at (nodes right))
    (subst IsTrue (list_all-append is_transparent_at (nodes left) (nodes right)) marked)

left_ahead : (left right : Plan) → Ahead left → IsTrue (list_any is_future (nodes left ++ nodes right))
left_ahead left right ahead =
    subst IsTrue (sym (list_any-append is_future (nodes left) (nodes right)))
    (from_left (has_future left) (has_future right) ahead)

right_ahead : (left right : Plan) → Ahead right → IsTrue (list_any is_future (nodes left ++ nodes right))
right_ahead left right ahead =
    subst IsTrue (sym (list_any-append is_future (nodes left) (nodes right)))
    (from_right (has_future left) (has_future right) ahead)

-- ---- one move on a trace

module _ (stable : (trace : List Step) (i : ℕ) (v : Valuation) (f : Formula) → IsStable (Sat trace i v f))
    (trace : List Step) (clock : ℕ) (is_trace : IsTrace trace) where
  abbrev Holds : Obligation → Type 0
  Holds o = Sat trace o.position o.valuation (formula_for o.node)

  -- what holds is not lost
  not_lost : (node : Plan) (v : Valuation) (i : ℕ) → Sat trace i v (formula_for node) → IsLost trace clock node v i → ⊥
  not_lost node v i holds lost =
      lost trace (record {
        more = [];
        begins = sym (append-nil trace);
        later = All-nil (λ (step : Step). clock ≤ step.time);
        is_trace = is_trace;
      }) holds

  -- marked, and it holds
  abbrev Kept : Obligation → Type 0
  Kept o = IsMarked o.node × Holds o

  below : (side : Plan) (v : Valuation) (k : ℕ) (next : Obligation) → obligation side v k ≡ next → Ahead next.node
      → Ahead side
  below side v k next is ahead = subst (λ (o : Obligation). Ahead o.node) (sym is) ahead

  -- a node that is marked and holds leads to what is so too, where that looks ahead
  moves : (node : Plan) (v : Valuation) (j : ℕ) (next : Obligation) → IsMarked node → Sat trace j v (formula_for node)
      → LeadsTo trace clock node v j next → Ahead next.node → Kept next
  moves (CausePlan node place name terms) v j next marked holds leads ahead = absurd leads
  moves (SuppressPlan node place name terms) v j next marked holds leads ahead = absurd leads
  moves (Both node left right) v j next marked holds leads ahead =
      let sides = parts left right marked in
      ⊎_elim (λ is. subst Kept is (sides.0, holds.0)) (λ is. subst Kept is (sides.1, holds.1)) leads
  moves (Either node left right) v j next marked holds leads ahead =
      let here = both (not (has_future left && has_future right)) (list_all is_transparent_at (nodes left ++ nodes right)) marked in
      let sides = parts left right here.1 in
      ⊎_elim
      (λ is. subst Kept is (
        sides.0,
        stable trace j v (formula_for left) (λ fails. holds fails (leads.1
            (second_not (has_future left) (has_future right) here.0 (below left v j next is ahead)))),
      ))
      (λ is. subst Kept is (
        sides.1,
        stable trace j v (formula_for right) (λ fails. holds (leads.0
            (first_not (has_future left) (has_future right) here.0 (below right v j next is ahead))) fails),
      ))
      leads.2
  moves (TestOr node guard test body) v j next marked holds leads ahead =
      subst Kept leads.1 (marked, stable trace j v (formula_for body) (λ fails. holds leads.0 fails))
  moves (Guarded node xs guard test body) v j next marked holds leads ahead =
      subst Kept leads.3 (marked, holds leads.0 leads.1 leads.2)
  moves (NextPlan node place high body) v j next marked holds leads ahead = subst Kept leads.1 (marked, holds.2)
  moves (AlwaysPlan node place low high body) v j next marked holds leads ahead =
      let k : ℕ = leads.0 in
      let is_ahead = leads.1 in
      subst Kept leads.2 (
        marked,
        stable trace k v (formula_for body) (λ fails. holds (λ none. none
            (k, is_ahead.not_before, is_ahead.there, is_ahead.distance, fails, λ i from before. tt))),
      )
  moves (EventuallyPlan node place low high body) v j next marked holds leads ahead =
      let here = both (not (has_future body)) (list_all is_transparent_at (nodes body)) marked in
      absurd (never (has_future body) here.0 (below body v leads.0 next leads.3 ahead))
  moves (UntilPlan node place low high left right) v j next marked holds leads ahead =
      let here = both (not (has_future right)) (list_all is_transparent_at (nodes left ++ nodes right)) marked in
      ⊎_elim
      (λ to_right. absurd (never (has_future right) here.0 (below right v to_right.0 next to_right.3 ahead)))
      (λ to_left. subst Kept to_left.3 ((parts left right here.1).0, left_side low high left right v j to_left.0 to_left.1 to_left.2 holds))
      leads
    where
      -- the right side is met after the positions at which it is lost, and up to there the left side holds
      left_side : (low high : ℕ) (left right : Plan) (v : Valuation) (j k : ℕ) → IsAhead trace 0 high j k
          → IsStillLost trace clock low high right v j k → Sat trace j v (formula_for (UntilPlan 0 0 low high left right))
          → Sat trace k v (formula_for left)
      left_side low high left right v j k is_ahead lost holds =
          stable trace k v (formula_for left) (λ fails. holds (λ met. ⊎_elim
          (λ up_to. not_lost right v met.0 met.4 (lost met.0 (record { not_before = met.1; there = met.2; distance = met.3 }) up_to))
          (λ above. fails (met.5 k is_ahead.not_before above))
          (cases_le met.0 k)))

  -- what leads to what looks ahead looks ahead
  side_ahead : (left right : Plan) (v : Valuation) (j : ℕ) (next : Obligation)
      → (obligation left v j ≡ next) ⊎ (obligation right v j ≡ next) → Ahead next.node
      → IsTrue (list_any is_future (nodes left ++ nodes right))
  side_ahead left right v j next leads ahead =
      ⊎_elim (λ is. left_ahead left right (below left v j next is ahead))
      (λ is. right_ahead left right (below right v j next is ahead)) leads

  move_ahead : (node : Plan) (v : Valuation) (j : ℕ) (next : Obligation) → LeadsTo trace clock node v j next
      → Ahead next.node → Ahead node
  move_ahead (CausePlan node place name terms) v j next leads ahead = absurd leads
  move_ahead (SuppressPlan node place name terms) v j next leads ahead = absurd leads
  move_ahead (Both node left right) v j next leads ahead = side_ahead left right v j next leads ahead
  move_ahead (Either node left right) v j next leads ahead = side_ahead left right v j next leads.2 ahead
  move_ahead (TestOr node guard test body) v j next leads ahead = below body v j next leads.1 ahead
  move_ahead (Guarded node xs guard test body) v j next leads ahead =
      below body (with_values xs leads.0 v) j next leads.3 ahead
  move_ahead (NextPlan node place high body) v j next leads ahead = refl
  move_ahead (AlwaysPlan node place low high body) v j next leads ahead = refl
  move_ahead (EventuallyPlan node place low high body) v j next leads ahead = refl
  move_ahead (UntilPlan node place low high left right) v j next leads ahead = refl

  through_ahead : (from : Obligation) (others : List Obligation) (to : Obligation)
      → LeadsThrough trace clock from others to → Ahead to.node → Ahead from.node
  through_ahead from [] to is ahead = below from.node from.valuation from.position to is ahead
  through_ahead from (next ∷ others) to leads ahead =
      move_ahead from.node from.valuation from.position next leads.0 (through_ahead next others to leads.1 ahead)

  -- so through any number of moves
  through : (from : Obligation) (others : List Obligation) (to : Obligation) → Kept from
      → LeadsThrough trace clock from others to → Ahead to.node → Holds to
  through from [] to kept is ahead = subst Holds is kept.1
  through from (next ∷ others) to kept leads ahead =
      through next others to
      (moves from.node from.valuation from.position next kept.0 kept.1 leads.0 (through_ahead next others to leads.1 ahead))
      leads.1 ahead

-- ---- the rules of a policy

each_marked : (plans : List Plan) (rule : ℕ) (root : Plan) → IsTrue (is_transparent plans)
    → slice_get plans rule ≡ Some root → IsMarked root
each_marked [] rule root marked at = absurd (none-some root at)
each_marked (plan ∷ plans) zero root marked at =
    subst IsMarked (same_Some plan root at)
    (both (list_all is_transparent_at (nodes plan)) (is_transparent plans) marked).0
each_marked (plan ∷ plans) (suc rule) root marked at =
    each_marked plans rule root (both (list_all is_transparent_at (nodes plan)) (is_transparent plans) marked).1 at

each_satisfied : (trace : List Step) (plans : List Plan) (rule : ℕ) (root : Plan) (i : ℕ)
    → Satisfies trace (map formula_for plans) → slice_get plans rule ≡ Some root → i < length trace
    → Sat trace i no_values (formula_for root)
each_satisfied trace [] rule root i satisfied at there = absurd (none-some root at)
each_satisfied trace (plan ∷ plans) zero root i satisfied at there =
    subst (λ (p : Plan). Sat trace i no_values (formula_for p)) (same_Some plan root at)
    (All-head (HoldsThroughout trace) (formula_for plan) (map formula_for plans) satisfied i there)
each_satisfied trace (plan ∷ plans) (suc rule) root i satisfied at there =
    each_satisfied trace plans rule root i
    (All-tail (HoldsThroughout trace) (formula_for plan) (map formula_for plans) satisfied) at there

in_longer : (trace longer more : List Step) (i : ℕ) → longer ≡ trace ++ more → i < length trace → i < length longer
in_longer trace longer more i is there =
    subst (λ (l : List Step). i < length l) (sym is) (omega (arith, there, length-append trace more))

pub roots_hold : RootsHold
roots_hold plans trace longer clock rule root i well at there =
    each_satisfied longer plans rule root i well.satisfied at
    (in_longer trace longer well.continued.more i well.continued.begins there)

pub owed_nodes_hold : ((trace : List Step) (i : ℕ) (v : Valuation) (f : Formula) → IsStable (Sat trace i v f))
    → OwedStaysOwed → OwedNodesHold
owed_nodes_hold stable stays plans trace longer clock rule node v i marked back well owed ahead =
    let more = well.continued.more in
    let there : IsOwed plans longer clock rule node v i =
    subst (λ (t : List Step). IsOwed plans t clock rule node v i) (sym well.continued.begins)
    (stays plans trace more clock clock rule node v i (back rule) well.continued.later (le_refl clock) owed) in
    through stable longer clock well.continued.is_trace (obligation there.root no_values there.begun) there.moves
    (obligation node v i)
    (each_marked plans rule there.root marked there.of_rule, each_satisfied longer plans rule there.root there.begun well.satisfied there.of_rule there.there)
    there.leads ahead
