-- What is owed is not lost while a trace can be continued well.
use Rattle.rank_check.proofs.Vocabulary.{◌≡◌, ℕ, IsTrue, List, map, Option, None, Some, refl, sym, ◌∙◌, AllByRecursion, find, false≢true, none-some, AllByRecursion-contains, there_from_get, Step}
use Rattle.rank_check.proofs.Vocabulary.{VarId, Formula, Good, NumberIsPlace, PlansStandIn, has_deadline, has_future, has_number, is_future, node_in, nodes_of, formula_for, Plan, CausePlan}
use Rattle.rank_check.proofs.Vocabulary.{SuppressPlan, Both, Either, TestOr, Guarded, EventuallyPlan, AlwaysPlan, UntilPlan, NextPlan, IsWellFormed, first_node, DeadlinesAreNotLost, GoesWell}
use Rattle.rank_check.proofs.Vocabulary.{LookBack, OwedNodesAreNotLost, OwedNodesHold, RootsAreNotLost, RootsHold}
use Rattle.std.proofs.Common.{slice_get}

-- ---- nodes

operator_ahead : (node : Plan) → IsTrue (is_future node) → IsTrue (has_future node)
operator_ahead (CausePlan node place name terms) is = absurd (false≢true is)
operator_ahead (SuppressPlan node place name terms) is = absurd (false≢true is)
operator_ahead (Both node left right) is = absurd (false≢true is)
operator_ahead (Either node left right) is = absurd (false≢true is)
operator_ahead (TestOr node guard test body) is = absurd (false≢true is)
operator_ahead (Guarded node xs guard test body) is = absurd (false≢true is)
operator_ahead (EventuallyPlan node place low high body) is = refl
operator_ahead (AlwaysPlan node place low high body) is = refl
operator_ahead (UntilPlan node place low high left right) is = refl
operator_ahead (NextPlan node place high body) is = refl

deadline_ahead : (node : Plan) → IsTrue (has_deadline node) → IsTrue (is_future node)
deadline_ahead (CausePlan node place name terms) is = absurd (false≢true is)
deadline_ahead (SuppressPlan node place name terms) is = absurd (false≢true is)
deadline_ahead (Both node left right) is = absurd (false≢true is)
deadline_ahead (Either node left right) is = absurd (false≢true is)
deadline_ahead (TestOr node guard test body) is = absurd (false≢true is)
deadline_ahead (Guarded node xs guard test body) is = absurd (false≢true is)
deadline_ahead (EventuallyPlan node place low high body) is = refl
deadline_ahead (AlwaysPlan node place low high body) is = absurd (false≢true is)
deadline_ahead (UntilPlan node place low high left right) is = refl
deadline_ahead (NextPlan node place high body) is = refl

-- the node with number 0 is the root
root_of : NumberIsPlace → (guards : List (Formula × List VarId)) (plans : List Plan) (rule : ℕ) (node : Plan)
    → AllByRecursion (IsWellFormed guards) plans → node_in plans rule 0 ≡ Some node → slice_get plans rule ≡ Some node
root_of place guards plans rule node formed found = by (slice_get plans rule) refl found
  where
    by : (o : Option Plan) → slice_get plans rule ≡ o → find (has_number 0) (nodes_of o) ≡ Some node
        → slice_get plans rule ≡ Some node
    by None is found = absurd (none-some node found)
    by (Some root) is found =
        let well = AllByRecursion-contains (IsWellFormed guards) plans root formed (there_from_get plans rule root is) in
        is ∙ (sym (place root 0 well.numbered ∙ first_node root) ∙ found)

-- ---- laws

goes_well : (plans : List Plan) (trace : List Step) (clock : ℕ) (good : Good (map formula_for plans) trace clock)
    → GoesWell plans trace clock good.0
goes_well plans trace clock good = record { continued = good.1; satisfied = good.2 }

pub roots_are_not_lost : NumberIsPlace → RootsHold → RootsAreNotLost
roots_are_not_lost place hold guards plans trace clock rule node i formed good found there lost =
    lost good.0 good.1
    (hold plans trace good.0 clock rule node i (goes_well plans trace clock good) (root_of place guards plans rule node formed.each found) there)

pub owed_nodes_are_not_lost : PlansStandIn → OwedNodesHold → OwedNodesAreNotLost
owed_nodes_are_not_lost stand hold guards plans trace clock rule node v i formed marked good future owed lost =
    let back : LookBack plans = λ rule root at. (stand guards plans rule root formed.each at).back in
    lost good.0 good.1
    (hold plans trace good.0 clock rule node v i marked back (goes_well plans trace clock good) owed (operator_ahead node future))

pub deadlines_are_not_lost : PlansStandIn → OwedNodesHold → DeadlinesAreNotLost
deadlines_are_not_lost stand hold guards plans trace clock rule node v i formed marked good deadline owed lost =
    owed_nodes_are_not_lost stand hold guards plans trace clock rule node v i formed marked good (deadline_ahead node deadline) owed lost
