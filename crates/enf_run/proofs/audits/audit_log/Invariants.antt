use Rattle.enf_run.proofs.Vocabulary.{◌≡◌, ◌+◌, ◌*◌, ◌-◌, List, ℕ, length, TraceLog, reads_in, most_log_bytes, most_read_bytes}
use Rattle.enf_run.proofs.AuditLemmas.{IsAudited, IsWithin}
use Rattle.enf_run.proofs.audits.audit_log.Given as goal

abbrev pub invariant-loop-audit : goal.invariant-loop-audit
invariant-loop-audit g l =
    let gate = g.G.Sink.seen in
    record {
      bytes : List ℕ;
      count : l.audit.intake.taken ≡ length bytes;
      reader : l.audit.intake.reader ≡ reads_in l.signature TraceLog l.audit.intake.reader.rest;
      room : length l.audit.intake.piece.items ≡ most_read_bytes;
      within : IsWithin l.audit;
      policy : l.audit.auditor.policy ≡ l.policy;
      audited : IsAudited l.signature (gate l.fn.gate) bytes l.audit (gate l.gate);
      writes : (gate l.gate).write_faults ≡ (gate l.fn.gate).write_faults;
      held : (gate l.gate).held ≡ (gate l.fn.gate).held;
      late : (gate l.fn.gate).held ≡ 0 → (gate l.gate).late_reads ≡ (gate l.fn.gate).late_reads;
    }

abbrev pub decreases-loop-audit : goal.decreases-loop-audit
decreases-loop-audit g l = 2 * (most_log_bytes - l.audit.intake.taken) + length l.audit.intake.reader.rest
