-- The laws of what is missed, begun and pending, over whole traces.
use Rattle.obligations.proofs.Vocabulary.{◌≡◌, ℕ, ◌<◌, ◌≤◌, true, false, List, [], ◌++◌, length, Option, Some, refl, sym, subst, arith, AllByRecursion, IsTrace, step_at, Step, PastDecides, nodes}
use Rattle.obligations.proofs.Vocabulary.{has_deadline, Plan, CausePlan, SuppressPlan, Both, Either, TestOr, Guarded, EventuallyPlan, AlwaysPlan, UntilPlan, NextPlan, time_now, last_position}
use Rattle.obligations.proofs.Vocabulary.{GuardLooksBack, IsNodeByNumber, StandsIn, NothingMissedIsEnough, NothingMissedIsEnoughPending, SomethingMissedIsLost, AtNode, BecomesAt, MissesAt, node_of}
use Rattle.obligations.proofs.Vocabulary.{OwesAt, Residual, Instance}
use Rattle.obligations.proofs.SoundnessLemmas.{all_left, all_right, enough, lost, meets_always, meets_eventually, meets_next, meets_until}
use Rattle.obligations.proofs.UniquenessLemmas.{missing_is_one}
use Rattle.obligations.proofs.RowsLemmas.{rows_are_one}

-- the times of a trace do not fall after a position
in_order : (longer : List Step) (now : ℕ) → IsTrace longer → (j : ℕ) → now ≤ j → j < length longer
    → (step_at longer now).time ≤ (step_at longer j).time
in_order longer now is j from below = is.ordered now j from below

pub nothing_missed_is_enough : PastDecides → NothingMissedIsEnough
nothing_missed_is_enough past plans rule plan trace more v begun stands is_trace some missing begins owed =
    enough past rows_are_one (missing_is_one rows_are_one) plans rule trace more some (in_order (trace ++ more) (last_position trace) is_trace) plan stands.back stands.named v begun missing
    begins owed

pub something_missed_is_lost : PastDecides → SomethingMissedIsLost
something_missed_is_lost past plan trace more v l ls back some missing holds =
    lost past rows_are_one (missing_is_one rows_are_one) [] 0 trace more some plan back v l ls missing holds

module _ (past : PastDecides) (plans : List Plan) (trace more : List Step) (i : Instance)
    (is_trace : IsTrace (trace ++ more)) (some : 0 < length trace) where
  ordered : (j : ℕ) → last_position trace ≤ j → j < length (trace ++ more)
      → (step_at (trace ++ more) (last_position trace)).time ≤ (step_at (trace ++ more) j).time
  ordered = in_order (trace ++ more) (last_position trace) is_trace

  pending_at : (node : Plan) (after : List Instance) → node_of plans i ≡ Some node → StandsIn plans i.rule node
      → MissesAt trace node i false [] → (has_deadline node ≡ true → time_now trace ≤ i.high)
      → BecomesAt trace node i after → AllByRecursion (Residual plans (trace ++ more) (length trace)) after
      → OwesAt (trace ++ more) (last_position trace) node i
  pending_at (CausePlan node place name terms) after found stands misses in_time becomes owed = absurd misses
  pending_at (SuppressPlan node place name terms) after found stands misses in_time becomes owed = absurd misses
  pending_at (Both node left right) after found stands misses in_time becomes owed = absurd misses
  pending_at (Either node left right) after found stands misses in_time becomes owed = absurd misses
  pending_at (TestOr node guard test body) after found stands misses in_time becomes owed = absurd misses
  pending_at (Guarded node xs guard test body) after found stands misses in_time becomes owed = absurd misses
  pending_at (EventuallyPlan node place low high body) after found stands misses in_time becomes owed =
      meets_eventually past rows_are_one (missing_is_one rows_are_one) plans i.rule trace more some ordered i refl node place low high body found stands.back.1 stands.named.1 after misses
      in_time becomes owed
  pending_at (AlwaysPlan node place low high body) after found stands misses in_time becomes owed =
      meets_always past rows_are_one (missing_is_one rows_are_one) plans i.rule trace more some ordered i refl node place low high body found stands.back.1 stands.named.1 after misses
      in_time becomes owed
  pending_at (UntilPlan node place low high left right) after found stands misses in_time becomes owed =
      meets_until past rows_are_one (missing_is_one rows_are_one) plans i.rule trace more some ordered i refl node place low high left right found
      (all_left GuardLooksBack (nodes left) (nodes right) stands.back.1) (all_left (IsNodeByNumber plans i.rule) (nodes left) (nodes right) stands.named.1)
      (all_right GuardLooksBack (nodes left) (nodes right) stands.back.1) (all_right (IsNodeByNumber plans i.rule) (nodes left) (nodes right) stands.named.1)
      after misses in_time becomes owed
  pending_at (NextPlan node place high body) after found stands misses in_time becomes owed =
      meets_next past rows_are_one (missing_is_one rows_are_one) plans i.rule trace more some ordered i refl node place high body stands.back.1 stands.named.1 after misses in_time becomes owed

pub nothing_missed_is_enough_pending : PastDecides → NothingMissedIsEnoughPending
nothing_missed_is_enough_pending past plans node trace more i after found stands is_trace some missing in_time becomes owed =
    subst (λ (n : Option Plan). AtNode n (λ m. OwesAt (trace ++ more) (last_position trace) m i)) (sym found)
    (pending_at past plans trace more i is_trace some node after found stands
    (subst (λ (n : Option Plan). AtNode n (λ m. MissesAt trace m i false [])) found missing)
    (λ is. in_time 0 i (omega arith) i.high (subst (λ (n : Option Plan). AtNode n (λ m. (has_deadline m ≡ true) × (i.high ≡ i.high))) (sym found) (is, refl)))
    (subst (λ (n : Option Plan). AtNode n (λ m. BecomesAt trace m i after)) found becomes)
    owed)
