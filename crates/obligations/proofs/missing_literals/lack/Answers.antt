use Rattle.obligations.proofs.Vocabulary.{subst, sym, ◌∙◌, plan_of, guards_now, Missing}
use Rattle.obligations.proofs.missing_literals.lack.Goals as goal

pub returns-then-is_patient-clause-missing : goal.returns-then-is_patient-clause-missing
returns-then-is_patient-clause-missing c trace is =
    let plan = plan_of c.args.plan.now in
    let v = c.args.v.now in
    let some = c.missing_exists.ensures.missing (guards_now c.args.now.now) trace plan v c.requires in
    subst (Missing trace plan v) (c.is_patient.ensures c.if-is_patient.true trace v some.0 some.1 ∙ sym c.new-literals.ensures.items) some.1
