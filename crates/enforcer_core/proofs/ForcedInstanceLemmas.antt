-- Where nothing is missed at a step, the instances that are forced there are served.
use Rattle.enforcer_core.proofs.Vocabulary.{◌≡◌, ◌&&◌, ◌==◌, ℕ, ◌≤◌, Bool, true, false, List, [], map, Contains, Option, None, Some, sym, subst, ◌∙◌, ⊎_elim, AllByRecursion, false≢true}
use Rattle.enforcer_core.proofs.Vocabulary.{Contains-append_left, same_Some, AllByRecursion-contains, AllByRecursion-from_contains, Contains-map, Event, Step, VarId, Formula, EndsInTime, nodes, Plan}
use Rattle.enforcer_core.proofs.Vocabulary.{CausePlan, SuppressPlan, Both, Either, TestOr, Guarded, EventuallyPlan, AlwaysPlan, UntilPlan, NextPlan, time_now, AreServed, IsInstanceServed}
use Rattle.enforcer_core.proofs.Vocabulary.{AtNode, IsNowIn, MissesAt, MissingOf, Pend, node_of, PendingWasBegun, PlansStand, CanAskOf, Action, Instance, Decides, MissesNothing, Waiting}
use Rattle.enforcer_core.proofs.Vocabulary.{all_asked, is_forced, roots_from, trace_with_step, DecidedMissesNothing}
use Rattle.enforcer_core.proofs.ClassLemmas.{self_in}
use Rattle.enforcer_core.proofs.ReachLemmas.{at_end, ordered_window}

-- at an inserted step alone
forced_end : (inserted same : Bool) → inserted && same ≡ true → true && same ≡ true
forced_end true same is = is
forced_end false same is = absurd (false≢true is)

served_at : (trace : List Step) (i : Instance) (node : Plan) → IsNowIn trace i → MissesAt trace node i true [] → IsInstanceServed trace node i
served_at trace i (EventuallyPlan n place low high body) now quiet = (now, quiet)
served_at trace i (UntilPlan n place low high left right) now quiet = ⊎_elim (λ met. (met.0, met.1)) (λ waits. (now, waits.1)) quiet
served_at trace i (NextPlan n place high body) now quiet = tt
served_at trace i (AlwaysPlan n place low high body) now quiet = tt
served_at trace i (CausePlan n place name terms) now quiet = tt
served_at trace i (SuppressPlan n place name terms) now quiet = tt
served_at trace i (Both n left right) now quiet = tt
served_at trace i (Either n left right) now quiet = tt
served_at trace i (TestOr n guard test body) now quiet = tt
served_at trace i (Guarded n xs guard test body) now quiet = tt

-- the window of what is pending after a trace is in order
window_ordered : PendingWasBegun → (guards : List (Formula × List VarId)) (plans : List Plan) (trace : List Step) (pending : List Instance) (i : Instance)
    → PlansStand plans → CanAskOf guards plans i → Pend plans trace pending → Contains pending i → i.low ≤ i.high
window_ordered was_begun guards plans trace pending i stand can pend there =
    let was = was_begun plans trace pending i stand pend there in
    let same : can.node ≡ was.0 = same_Some can.node was.0 (sym can.found ∙ was.1) in
    ordered_window was.2 i.rule was.0 i was.6
    (AllByRecursion-contains EndsInTime (nodes was.0) was.0 (subst (λ (n : Plan). AllByRecursion EndsInTime (nodes n)) same can.ends) (self_in was.0))

served_node : (trace : List Step) (i : Instance) (at : Option Plan) → IsNowIn trace i → AtNode at (λ node. MissesAt trace node i true [])
    → AtNode at (λ node. IsInstanceServed trace node i)
served_node trace i None now quiet = quiet
served_node trace i (Some node) now quiet = served_at trace i node now quiet

module _ (was_begun : PendingWasBegun) (nothing : DecidedMissesNothing) (guards : List (Formula × List VarId)) (plans : List Plan) (trace : List Step)
    (pending : List Instance) (inserted : Bool) (time : ℕ) (before : List Event) (actions : List Action) (after : List Event) where
  abbrev longer : List Step
  longer = trace_with_step trace time after

  pub are_served : PlansStand plans → AllByRecursion (CanAskOf guards plans) pending → Pend plans trace pending
      → Decides plans trace pending inserted time before actions after → AreServed plans inserted longer pending
  are_served stand can pend decided =
      AllByRecursion-from_contains (λ (i : Instance). is_forced inserted (time_now longer) i ≡ true → AtNode (node_of plans i) (λ node. IsInstanceServed longer node i)) pending
      (λ i there forced.
      let ordered = window_ordered was_begun guards plans trace pending i stand (AllByRecursion-contains (CanAskOf guards plans) pending i can there) pend there in
      let now = at_end longer i ordered (forced_end inserted (time_now longer == i.high) forced) in
      let quiet : MissingOf plans longer i (is_forced inserted (time_now longer) i) [] =
      AllByRecursion-contains (MissesNothing plans inserted longer) (all_asked plans pending) (Waiting i)
      (nothing plans trace pending inserted time before actions after decided)
      (Contains-append_left (map Waiting pending) (roots_from 0 plans) (Waiting i) (Contains-map Waiting pending i there)) in
      served_node longer i (node_of plans i) now (subst (λ (b : Bool). MissingOf plans longer i b []) forced quiet))
