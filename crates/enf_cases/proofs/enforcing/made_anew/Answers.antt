use Rattle.std.proofs.Common.{◌∙◌, subst, sym, arith}
use Rattle.obligations.specs.meaning.Pending.{IsReady}
use Rattle.save_codec.specs.meaning.SavedTexts.{IsSnapshotOf}
use Rattle.enforce_types.specs.machine.TypedPolicies.{StoredTyped}
use Rattle.enforcer_core.specs.machine.Enforcers.{policy_plans}
use Rattle.enforcer_core.specs.machine.Snapshots.{CanBeTakenUp, StandsAgain, policy_operators}
use Rattle.enf_cases.proofs.enforcing.made_anew.Goals as goal

pub from_snapshot-requires : goal.from_snapshot-requires
from_snapshot-requires c =
    let s = c.requires.stands in
    let early = c.requires.in_time in
    record {
      bounds = subst (λ (policy : StoredTyped). CanBeTakenUp policy c.in_ok-snapshot.snapshot) (sym c.into_policy-policy.ensures)
          (c.kept_can_be_taken_up.ensures c.args.enforcer.policy s.trace c.args.enforcer.clock c.in_ok-snapshot.snapshot s.together s.stands.is_trace s.stands.ready
          (omega (arith, early)) (c.in_ok-snapshot.ensures.saves s.trace s.stands));
    }

pub returns : goal.returns
returns c =
    let s = c.requires.stands in
    let before = c.args.enforcer in
    let after = c.in_ok-from_snapshot.field-0 in
    let snapshot = c.in_ok-snapshot.snapshot in
    let up = c.in_ok-from_snapshot.ensures.taken_up in
    let kept = c.in_ok-snapshot.ensures.kept in
    let is : IsSnapshotOf (policy_plans before.policy) (policy_operators before.policy) s.trace snapshot.clock snapshot =
    subst (λ clock. IsSnapshotOf (policy_plans before.policy) (policy_operators before.policy) s.trace clock snapshot) (sym kept.clock) (c.in_ok-snapshot.ensures.saves s.trace s.stands) in
    let ready : IsReady (policy_plans before.policy) s.trace snapshot.clock =
    subst (λ clock. IsReady (policy_plans before.policy) s.trace clock) (sym kept.clock) s.stands.ready in
    let again : StandsAgain before.policy snapshot after =
    subst (λ (policy : StoredTyped). StandsAgain policy snapshot after) c.into_policy-policy.ensures c.in_ok-from_snapshot.ensures.stands in
    record {
      position = sym up.as_kept.position ∙ kept.position;
      clock = sym up.as_kept.clock ∙ kept.clock;
      stands = record {
        goes_on = up.goes_on;
        together = c.in_ok-from_snapshot.ensures.together;
        trace = s.trace;
        stands = again s.trace s.stands.is_trace ready is;
      };
    }
