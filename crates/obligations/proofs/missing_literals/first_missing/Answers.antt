use Rattle.obligations.proofs.Vocabulary.{subst, plan_of, bound_in, guards_now, Missing}
use Rattle.obligations.proofs.missing_literals.first_missing.Goals as goal

pub returns-then-is_patient-clause-first : goal.returns-then-is_patient-clause-first
returns-then-is_patient-clause-first c trace is =
    let plan = plan_of c.args.plan.now in
    let v = bound_in c.args.v.now in
    let some = c.missing_exists.ensures.missing (guards_now c.args.now.now) trace plan v c.requires in
    subst (Missing trace plan v) (c.is_patient.ensures c.if-is_patient.true trace v some.0 some.1) some.1
