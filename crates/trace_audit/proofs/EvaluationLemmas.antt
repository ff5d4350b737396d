-- What a plan's parts ask of the steps to come is what the plan asks.
use Rattle.trace_audit.proofs.Vocabulary.{◌≡◌, ℕ, ◌+◌, ◌<◌, ◌≤◌, List, [], ◌∷◌, ◌++◌, length, take, get_or, sym, ap, subst, ◌∙◌, ◌↔◌, AllByRecursion, take_more, AllByRecursion-append}
use Rattle.trace_audit.proofs.Vocabulary.{AllByRecursion-of_append, Valuation, Step, Value, Formula, Sat, formula_for, Plan, TestOr, EventuallyPlan, AlwaysPlan, UntilPlan, plan_of, CanEvaluatePlan}
use Rattle.trace_audit.proofs.Vocabulary.{IsAt, IsBegunWaiting, AuditMoment, TellsRest, guards_at, OperatorAsks, WaitingAsks, PlanHoldsAt, IsAllOf, IsAnyOf, LinksMean, Means, ClassicallyOr, Link}
use Rattle.trace_audit.proofs.Vocabulary.{Residual, Waiting}
use Rattle.trace_audit.proofs.ResidualLemmas.{IsClassical, all_turned, any_turned, links_more}
use Rattle.trace_audit.proofs.WindowLemmas.{always_begun, eventually_begun, eventually_early, eventually_now, until_begun, until_early, until_now}
use Rattle.trace_audit.specs.declared.residuals.Link.TheVariants as link
use Rattle.trace_audit.specs.declared.residuals.Residual.TheVariants as stored

module _ (now : AuditMoment) where
  -- what holds where another thing does
  pub tells_as : (P Q : List Step → Type 0) (rest : Residual) → ((trace : List Step) → IsAt now trace → Q trace ↔ P trace)
      → TellsRest now P rest → TellsRest now Q rest
  tells_as P Q rest same tells = record {
    means = λ trace is. (
      λ q. (tells.means trace is).0 ((same trace is).0 q),
      λ m. (same trace is).1 ((tells.means trace is).1 m),
    );
    can = tells.can;
  }

  pub tells_met : (P : List Step → Type 0) → ((trace : List Step) → IsAt now trace → P trace) → TellsRest now P stored.Met
  tells_met P holds = record { means = λ trace is. (λ p. tt, λ m. holds trace is); can = tt }

  pub tells_all : (P Q : List Step → Type 0) (left right rest : Residual) → TellsRest now P left → TellsRest now Q right
      → IsAllOf left right rest → TellsRest now (λ trace. P trace × Q trace) rest
  tells_all P Q left right rest on_left on_right both = record {
    means = λ trace is. (
      λ pq. (both.means trace (now.position + 1)).1 ((on_left.means trace is).0 pq.0, (on_right.means trace is).0 pq.1),
      λ m. let parts = (both.means trace (now.position + 1)).0 m in
          ((on_left.means trace is).1 parts.0, (on_right.means trace is).1 parts.1),
    );
    can = both.can (guards_at now.tables) on_left.can on_right.can;
  }

  pub tells_any : (P Q : List Step → Type 0) (left right rest : Residual) → TellsRest now P left → TellsRest now Q right
      → IsAnyOf left right rest → TellsRest now (λ trace. ClassicallyOr (P trace) (Q trace)) rest
  tells_any P Q left right rest on_left on_right one = record {
    means = λ trace is. (
      λ pq. (one.means trace (now.position + 1)).1 (λ not_left not_right.
          pq (λ p. not_left ((on_left.means trace is).0 p)) (λ q. not_right ((on_right.means trace is).0 q))),
      λ m not_p not_q. (one.means trace (now.position + 1)).0 m
          (λ l. not_p ((on_left.means trace is).1 l)) (λ r. not_q ((on_right.means trace is).1 r)),
    );
    can = one.can (guards_at now.tables) on_left.can on_right.can;
  }

  -- what a chain asks for with one link more
  pub tells_both : (links : List Link) (next before told rest : Residual)
      → TellsRest now (λ trace. LinksMean trace now.position (Unit {0}) links) before
      → TellsRest now (λ trace. Means trace now.position next) told → IsAllOf before told rest
      → TellsRest now (λ trace. LinksMean trace now.position (Unit {0}) (links ++ link.Both next ∷ [])) rest
  tells_both links next before told rest first one both =
      tells_as (λ trace. LinksMean trace now.position (Unit {0}) links × Means trace now.position next)
      (λ trace. LinksMean trace now.position (Unit {0}) (links ++ link.Both next ∷ [])) rest
      (λ trace is. links_more trace now.position (Unit {0}) links (link.Both next))
      (tells_all (λ trace. LinksMean trace now.position (Unit {0}) links) (λ trace. Means trace now.position next)
      before told rest first one both)

  pub tells_either : (links : List Link) (next before told rest : Residual)
      → TellsRest now (λ trace. LinksMean trace now.position (Unit {0}) links) before
      → TellsRest now (λ trace. Means trace now.position next) told → IsAnyOf before told rest
      → TellsRest now (λ trace. LinksMean trace now.position (Unit {0}) (links ++ link.Either next ∷ [])) rest
  tells_either links next before told rest first one either =
      tells_as (λ trace. ClassicallyOr (LinksMean trace now.position (Unit {0}) links) (Means trace now.position next))
      (λ trace. LinksMean trace now.position (Unit {0}) (links ++ link.Either next ∷ [])) rest
      (λ trace is. links_more trace now.position (Unit {0}) links (link.Either next))
      (tells_any (λ trace. LinksMean trace now.position (Unit {0}) links) (λ trace. Means trace now.position next)
      before told rest first one either)

  -- what is asked under one row more
  pub tells_row : (P : List Value → List Step → Type 0) (rows : List (List Value)) (k : ℕ) (row : List Value) → k < length rows
      → row ≡ get_or rows k row → (before next rest : Residual)
      → TellsRest now (λ trace. AllByRecursion (λ r. P r trace) (take k rows)) before → TellsRest now (P row) next
      → IsAllOf before next rest → TellsRest now (λ trace. AllByRecursion (λ r. P r trace) (take (k + 1) rows)) rest
  tells_row P rows k row within at before next rest first one both =
      let more : take (k + 1) rows ≡ take k rows ++ row ∷ [] = take_more rows k row within ∙ ap (λ r. take k rows ++ r ∷ []) (sym at) in
      tells_as (λ trace. AllByRecursion (λ r. P r trace) (take k rows) × P row trace) (λ trace. AllByRecursion (λ r. P r trace) (take (k + 1) rows)) rest
      (λ trace is. (
        λ all. let parts = AllByRecursion-of_append (λ r. P r trace) (take k rows) (row ∷ []) (subst (AllByRecursion (λ r. P r trace)) more all) in
            (parts.0, parts.1.0),
        λ all. subst (AllByRecursion (λ r. P r trace)) (sym more) (AllByRecursion-append (λ r. P r trace) (take k rows) (row ∷ []) all.0 (all.1, tt)),
      ))
      (tells_all (λ trace. AllByRecursion (λ r. P r trace) (take k rows)) (P row) before next rest first one both)

  -- ---- plans

  module _ (v : Valuation) where
    abbrev pub TellsOf : Plan → Residual → Type 0
    TellsOf plan rest = TellsRest now (λ trace. PlanHoldsAt trace v plan now.position) rest

    pub test_met : (node guard : ℕ) (test : Formula) (body : Plan)
        → ((trace : List Step) → IsAt now trace → Sat trace now.position v test) → TellsOf (TestOr node guard test body) stored.Met
    test_met node guard test body holds =
        tells_met (λ trace. PlanHoldsAt trace v (TestOr node guard test body) now.position)
        (λ trace is not_test not_body. not_test (holds trace is))

    pub test_fails : IsClassical → (node guard : ℕ) (test : Formula) (body : Plan) (rest : Residual)
        → ((trace : List Step) → IsAt now trace → Sat trace now.position v test → ⊥) → TellsOf body rest
        → TellsOf (TestOr node guard test body) rest
    test_fails classical node guard test body rest fails tells =
        tells_as (λ trace. PlanHoldsAt trace v body now.position) (λ trace. PlanHoldsAt trace v (TestOr node guard test body) now.position) rest
        (λ trace is. (
          λ either. classical trace now.position v (formula_for body) (λ not_body. either (fails trace is) not_body),
          λ holds not_test not_body. not_body holds,
        ))
        tells

  -- ---- operators that wait

  module _ (w : Waiting) (plan : Plan) (node_is : plan_of w.node.now ≡ plan) where
    asks_as : (trace : List Step) (from : ℕ) → OperatorAsks trace from plan w.valuation w.low w.high ↔ WaitingAsks trace from w
    asks_as trace from = (
      subst (λ p. OperatorAsks trace from p w.valuation w.low w.high) (sym node_is),
      subst (λ p. OperatorAsks trace from p w.valuation w.low w.high) node_is,
    )

    -- what waits on
    pub waits : CanEvaluatePlan (guards_at now.tables) (plan_of w.node.now) w.valuation
        → TellsRest now (λ trace. OperatorAsks trace (now.position + 1) plan w.valuation w.low w.high) (stored.Waits w)
    waits can = record { means = λ trace is. asks_as trace (now.position + 1); can = can }

    pub asks_of : (P : List Step → Type 0) (rest : Residual)
        → ((trace : List Step) → IsAt now trace → OperatorAsks trace now.position plan w.valuation w.low w.high ↔ P trace)
        → TellsRest now P rest → TellsRest now (λ trace. WaitingAsks trace now.position w) rest
    asks_of P rest same tells = tells_as P (λ trace. WaitingAsks trace now.position w) rest
        (λ trace is. (
          λ asks. (same trace is).0 ((asks_as trace now.position).1 asks),
          λ p. (asks_as trace now.position).0 ((same trace is).1 p),
        ))
        tells

    module _ (v : Valuation) (low high : ℕ) (is : IsBegunWaiting now plan v low high w) where
      same_as : (trace : List Step) (from : ℕ) → OperatorAsks trace from plan v (now.time + low) (now.time + high) → OperatorAsks trace from plan w.valuation w.low w.high
      same_as trace from asks = subst (λ u. OperatorAsks trace from plan u w.low w.high) (sym is.valuation_is)
          (subst (λ l. OperatorAsks trace from plan v l w.high) (sym is.low_is) (subst (λ h. OperatorAsks trace from plan v (now.time + low) h) (sym is.high_is) asks))

      same_back : (trace : List Step) (from : ℕ) → OperatorAsks trace from plan w.valuation w.low w.high → OperatorAsks trace from plan v (now.time + low) (now.time + high)
      same_back trace from asks = subst (λ h. OperatorAsks trace from plan v (now.time + low) h) is.high_is
          (subst (λ l. OperatorAsks trace from plan v l w.high) is.low_is (subst (λ u. OperatorAsks trace from plan u w.low w.high) is.valuation_is asks))

      pub begun : (rest : Residual)
          → ((trace : List Step) → IsAt now trace
          → PlanHoldsAt trace v plan now.position ↔ OperatorAsks trace now.position plan v (now.time + low) (now.time + high))
          → TellsRest now (λ trace. WaitingAsks trace now.position w) rest → TellsOf v plan rest
      begun rest same tells = tells_as (λ trace. WaitingAsks trace now.position w) (λ trace. PlanHoldsAt trace v plan now.position) rest
          (λ trace at. (
            λ holds. (asks_as trace now.position).0 (same_as trace now.position ((same trace at).0 holds)),
            λ asks. (same trace at).1 (same_back trace now.position ((asks_as trace now.position).1 asks)),
          ))
          tells

  module _ (classical : IsClassical) (w : Waiting) (can : CanEvaluatePlan (guards_at now.tables) (plan_of w.node.now) w.valuation) where
    abbrev pub Wakes : Residual → Type 0
    Wakes rest = TellsRest now (λ trace. WaitingAsks trace now.position w) rest

    abbrev v : Valuation
    v = w.valuation

    abbrev Here : Plan → List Step → Type 0
    Here part trace = PlanHoldsAt trace v part now.position

    abbrev Behind : Plan → List Step → Type 0
    Behind plan trace = OperatorAsks trace (now.position + 1) plan v w.low w.high

    module _ (node place a b : ℕ) (body : Plan) (is : plan_of w.node.now ≡ EventuallyPlan node place a b body) where
      pub eventually_is_early : now.time < w.low → Wakes (stored.Waits w)
      eventually_is_early early = asks_of w (EventuallyPlan node place a b body) is (Behind (EventuallyPlan node place a b body)) (stored.Waits w)
          (λ trace at. eventually_early classical now trace at w.low w.high v node place a b body early)
          (waits w (EventuallyPlan node place a b body) is can)

      pub eventually_wakes : w.low ≤ now.time → now.time ≤ w.high → (present rest : Residual) → TellsOf v body present
          → IsAnyOf (stored.Waits w) present rest → Wakes rest
      eventually_wakes lower upper present rest tells one =
          let plan = EventuallyPlan node place a b body in
          asks_of w plan is (λ trace. ClassicallyOr (Here body trace) (Behind plan trace)) rest
          (λ trace at. eventually_now classical now trace at w.low w.high v node place a b body lower upper)
          (tells_any (Here body) (Behind plan) present (stored.Waits w) rest tells (waits w plan is can) (any_turned (stored.Waits w) present rest one))

    -- ---- until

    module _ (node place a b : ℕ) (left right : Plan) (is : plan_of w.node.now ≡ UntilPlan node place a b left right) where
      pub until_is_early : now.time < w.low → (before rest : Residual) → TellsOf v left before
          → IsAllOf (stored.Waits w) before rest → Wakes rest
      until_is_early early before rest tells both =
          let plan = UntilPlan node place a b left right in
          asks_of w plan is (λ trace. Here left trace × Behind plan trace) rest
          (λ trace at. until_early classical now trace at w.low w.high v node place a b left right early)
          (tells_all (Here left) (Behind plan) before (stored.Waits w) rest tells (waits w plan is can)
          (all_turned (stored.Waits w) before rest both))

      pub until_wakes : w.low ≤ now.time → now.time ≤ w.high → (before present waiting rest : Residual) → TellsOf v left before
          → TellsOf v right present → IsAllOf (stored.Waits w) before waiting → IsAnyOf waiting present rest → Wakes rest
      until_wakes lower upper before present waiting rest on_left on_right both one =
          let plan = UntilPlan node place a b left right in
          asks_of w plan is (λ trace. ClassicallyOr (Here right trace) (Here left trace × Behind plan trace)) rest
          (λ trace at. until_now classical now trace at w.low w.high v node place a b left right lower upper)
          (tells_any (Here right) (λ trace. Here left trace × Behind plan trace) present waiting rest on_right
          (tells_all (Here left) (Behind plan) before (stored.Waits w) waiting on_left (waits w plan is can)
          (all_turned (stored.Waits w) before waiting both)) (any_turned waiting present rest one))

  -- ---- operators that begin at the step

  module _ (classical : IsClassical) (w : Waiting) (v : Valuation) (low high : ℕ) where
    pub eventually_begins : (node place : ℕ) (body : Plan) → IsBegunWaiting now (EventuallyPlan node place low high body) v low high w
        → (rest : Residual) → TellsRest now (λ trace. WaitingAsks trace now.position w) rest → TellsOf v (EventuallyPlan node place low high body) rest
    eventually_begins node place body is rest tells = begun w (EventuallyPlan node place low high body) is.node_is v low high is rest
        (λ trace at. eventually_begun classical now trace at v node place low high body) tells

    pub always_begins : (node place : ℕ) (body : Plan) → IsBegunWaiting now (AlwaysPlan node place low high body) v low high w
        → (rest : Residual) → TellsRest now (λ trace. WaitingAsks trace now.position w) rest → TellsOf v (AlwaysPlan node place low high body) rest
    always_begins node place body is rest tells = begun w (AlwaysPlan node place low high body) is.node_is v low high is rest
        (λ trace at. always_begun classical now trace at v node place low high body) tells

    pub until_begins : (node place : ℕ) (left right : Plan) → IsBegunWaiting now (UntilPlan node place low high left right) v low high w
        → (rest : Residual) → TellsRest now (λ trace. WaitingAsks trace now.position w) rest → TellsOf v (UntilPlan node place low high left right) rest
    until_begins node place left right is rest tells = begun w (UntilPlan node place low high left right) is.node_is v low high is rest
        (λ trace at. until_begun classical now trace at v node place low high left right) tells
