use Rattle.enf_run.proofs.Vocabulary.{IfOk-weaker, TraceLog}
use Rattle.enf_run.proofs.AuditLemmas.{behind_blanks_now, turn_read}
use Rattle.enf_run.proofs.IntakeLemmas.{still_pending}
use Rattle.enf_run.proofs.audits.go_on.Goals as goal

pub take_more-requires-clause-pending : goal.take_more-requires-clause-pending
take_more-requires-clause-pending g c =
    let old = c.args.audit.now in
    let entries = old.intake.reader.entries in
    let middle = c.audit_next.new.audit in
    let waits = rw c.in-Pending.is at c.in_ok-audit_next.ensures.next in
    still_pending entries TraceLog old.intake middle.intake (behind_blanks_now entries old middle c.in_ok-audit_next.ensures.counts waits)

pub returns-in-Pending-clause-turn : goal.returns-in-Pending-clause-turn
returns-in-Pending-clause-turn g c =
    let old = c.args.audit.now in
    let entries = old.intake.reader.entries in
    let middle = c.audit_next.new.audit in
    let waits = rw c.in-Pending.is at c.in_ok-audit_next.ensures.next in
    let before = g.G.Sink.seen c.args.gate.now in
    let after = g.G.Sink.seen c.take_more.new.gate in
    IfOk-weaker c.take_more.result _ _ (turn_read entries old middle c.in_ok-audit_next.ensures.counts waits before after c.take_more.new.self) c.take_more.ensures.turn
