use Rattle.trace_audit.proofs.Vocabulary.{List, subst, Step, Auditing, Audits, audited_rules, IsVerdict, Fails, Holds}
use Rattle.trace_audit.proofs.AuditLemmas.{verdict_fails, verdict_holds}
use Rattle.trace_audit.proofs.auditor.Auditor.verdict.Goals as goal

pub returns-in-None : goal.returns-in-None
returns-in-None c =
    subst (λ (a : Auditing). (trace : List Step) → Audits a trace → IsVerdict (audited_rules a) trace Holds) c.self.view_is
    (verdict_holds _ c.first_broken.result c.first_broken.ensures c.in-None.is)

pub returns-in-Some : goal.returns-in-Some
returns-in-Some c =
    subst (λ (a : Auditing). (trace : List Step) → Audits a trace → IsVerdict (audited_rules a) trace (Fails c.in-Some.field-0.rule c.in-Some.field-0.position)) c.self.view_is
    (verdict_fails _ c.first_broken.result c.first_broken.ensures c.in-Some.field-0 c.in-Some.is)
