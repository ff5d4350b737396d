use Rattle.trace_audit.proofs.Vocabulary.{◌≡◌, take, Audits}
use Rattle.trace_audit.proofs.auditor.audit.Given as goal

abbrev pub invariant-loop-step : goal.invariant-loop-step
invariant-loop-step l = Audits l.auditor (take l.step-index l.trace) × (l.auditor.policy ≡ l.policy)
