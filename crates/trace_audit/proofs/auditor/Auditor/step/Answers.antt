use Rattle.trace_audit.proofs.Vocabulary.{◌≤◌, ◌+◌, List, map, refl, sym, subst, arith, AllByRecursion, no_values, Event, AreCopies, AreTablesAtStep, GuardsWillHold, PlacedGuard, plan_of}
use Rattle.trace_audit.proofs.Vocabulary.{CanEvaluatePlan, Auditing, HasTaken, JudgesStep, guards_at, placed_guard, audit_moment}
use Rattle.plan_terms.specs.declared.plans.Plan.{Plan as StoredPlan}
use Rattle.trace_audit.proofs.AuditLemmas.{audits_more, roots_can}
use Rattle.trace_audit.proofs.auditor.Auditor.step.Goals as goal

pub follow_step-requires-clause-roots : goal.follow_step-requires-clause-roots
follow_step-requires-clause-roots c =
    let policy = c.self.inside.policy.now in
    let (made, same, ran) = c.in_ok-tables.ensures.are in
    subst (λ (ps : List StoredPlan). AllByRecursion (λ plan. CanEvaluatePlan (guards_at c.in_ok-tables.tables) plan no_values) (map plan_of ps)) (sym c.plans.ensures.plans)
    (subst (λ (gs : List PlacedGuard). AllByRecursion (λ plan. CanEvaluatePlan (map placed_guard gs) plan no_values) (map plan_of policy.plans)) (sym ran.0)
    (roots_can policy.guards c.self.inside.past.guards (map plan_of policy.plans) c.self.invariant.copies c.plans.ensures.formed))

pub commit-requires-clause-are : goal.commit-requires-clause-are
commit-requires-clause-are c =
    subst (λ (events : List Event). AreTablesAtStep c.self.inside.past c.args.time events c.in_ok-tables.tables) c.in_ok-ordered.ensures c.in_ok-tables.ensures.are

pub returns : goal.returns
returns c =
    let time = c.args.time in
    let events = c.args.events.now in
    let past = c.self.inside.past in
    let policy = c.self.inside.policy.now in
    let tables = c.in_ok-tables.tables in
    let later = subst (λ (a : Auditing). a.last ≤ time) (sym c.self.view_is) c.requires.later in
    let are = subst (λ (e : List Event). AreTablesAtStep past time e tables) c.in_ok-ordered.ensures c.in_ok-tables.ensures.are in
    let hold = subst (λ (e : List Event). GuardsWillHold past time e tables) c.in_ok-ordered.ensures c.in_ok-tables.ensures.hold in
    let takes = subst (λ (ps : List StoredPlan). JudgesStep (audit_moment time c.self.inside.position events tables) (map plan_of ps) c.self.inside.followed c.follow_step.new.followed)
    c.plans.ensures.plans
    (subst (λ (e : List Event). JudgesStep (audit_moment time c.self.inside.position e tables) (map plan_of c.plans.result.now) c.self.inside.followed c.follow_step.new.followed)
    c.in_ok-ordered.ensures c.in_ok-follow_step.ensures.takes) in
    let (made, same, ran) = c.in_ok-tables.ensures.are in
    let copies = subst (AreCopies policy.guards) (sym ran.0) c.self.invariant.copies in
    let before : Auditing = record {
      policy = policy;
      past = past;
      position = c.self.inside.position;
      last = c.self.inside.last;
      asked = c.self.inside.followed.asked;
      broken = c.self.inside.followed.broken;
    } in
    let after : Auditing = record {
      policy = policy;
      past = c.commit.new.self;
      position = c.self.inside.position + 1;
      last = time;
      asked = c.follow_step.new.followed.asked;
      broken = c.follow_step.new.followed.broken;
    } in
    subst (λ (a : Auditing). HasTaken a time events after) c.self.view_is (record {
      policy = refl;
      position = refl;
      last = refl;
      stands = λ trace audits. audits_more c.dependence.ensures.steps c.trace_grows.ensures.trace c.trace_grows.ensures.last before after time events trace audits later
          tables copies c.plans.ensures.formed.back hold takes refl refl refl c.as_slice-given.ensures.distinct
          (c.in_ok-commit.ensures.stands trace (record { time = time; events = events }) refl refl (omega (arith, later, audits.last)) audits.past are)
          c.in_ok-commit.ensures.up_to;
    })
