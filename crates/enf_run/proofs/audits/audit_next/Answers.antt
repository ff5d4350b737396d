use Rattle.enf_run.proofs.Vocabulary.{refl, subst, sym, IfOk-weaker, TraceLog, RefusesNext, Intake}
use Rattle.enf_run.specs.declared.audits.Audit.{Audit}
use Rattle.enf_run.proofs.AuditLemmas.{answers_front}
use Rattle.enf_run.proofs.IntakeLemmas.{reads_item, reads_refused}
use Rattle.enf_run.proofs.LogLemmas.{trace_time}
use Rattle.enf_run.proofs.audits.audit_next.Goals as goal

pub audit_item-requires-clause-time : goal.audit_item-requires-clause-time
audit_item-requires-clause-time c =
    let reader = c.args.audit.now.intake.reader in
    let r = reads_item reader.entries TraceLog reader c.next_record.new.self c.requires.reader c.in-Ok-Item.item (rw c.in-Ok-Item.field-0-is at c.in-Ok-Item.ensures) in
    trace_time reader.entries TraceLog _ c.in-Ok-Item.item r.0.2

pub returns-in-Ok-Item-clause-next : goal.returns-in-Ok-Item-clause-next
returns-in-Ok-Item-clause-next c =
    let old = c.args.audit.now in
    let reader = old.intake.reader in
    let r = reads_item reader.entries TraceLog reader c.next_record.new.self c.requires.reader c.in-Ok-Item.item (rw c.in-Ok-Item.field-0-is at c.in-Ok-Item.ensures) in
    let intake : Intake = record { reader = c.next_record.new.self; piece = old.intake.piece; accepted = old.intake.accepted; taken = old.intake.taken } in
    let new : Audit = record { intake = intake; auditor = c.audit_item.new.auditor; clock = c.audit_item.new.clock } in
    IfOk-weaker c.audit_item.result _ _ (answers_front reader.entries old new c.in-Ok-Item.item r.0 r.1) c.audit_item.ensures

pub returns-in_ok-refusal_of-in-Err-clause-next : goal.returns-in_ok-refusal_of-in-Err-clause-next
returns-in_ok-refusal_of-in-Err-clause-next c =
    let reader = c.args.audit.now.intake.reader in
    let why = c.in_ok-refusal_of-in-Err.ensures in (
      subst (RefusesNext reader.entries TraceLog reader.rest c.args.audit.now.clock) (sym why.0)
          (reads_refused reader.entries TraceLog reader c.next_record.new.self c.requires.reader c.in-Err.refusal why.1
          c.in-Err.ensures),
      refl,
    )
