use Rattle.enf_run.proofs.Vocabulary.{◌≡◌, ◌+◌, ◌*◌, ◌-◌, ◌≤◌, List, ℕ, length, policy_rules_of, seen_of, most_log_bytes, most_read_bytes, reads_on}
use Rattle.enf_run.proofs.LogTurnLemmas.{Done, IsWithinLimits}
use Rattle.enf_run.proofs.TakenLogLemmas.{HasTaken}
use Rattle.enf_run.proofs.log_run.enforce_records.Given as goal

abbrev pub invariant-loop-verdict : goal.invariant-loop-verdict
invariant-loop-verdict g l =
    let gate = g.G.Sink.seen in
    let report = g.R.Sink.seen in
    record {
      bytes : List ℕ;
      count : l.log.intake.taken ≡ length bytes;
      most : l.log.intake.taken ≤ most_log_bytes;
      left : l.log.intake.accepted + length l.log.intake.reader.rest ≤ l.log.intake.taken;
      reader : l.log.intake.reader ≡ reads_on l.names.signature.now l.log.intake.reader.rest;
      room : length l.log.intake.piece.items ≡ most_read_bytes;
      limits : IsWithinLimits l.log;
      late : (gate l.gate).late_reads ≡ (gate l.fn.gate).late_reads;
      taken : HasTaken l.names.signature.now l.fn.log.enforcer.clock (seen_of (gate l.fn.gate) (report l.fn.report)) bytes l.log (seen_of (gate l.gate) (report l.report));
      done : Done l.names.signature.now (policy_rules_of l.names.policy.now) l.fn.log.enforcer (seen_of (gate l.fn.gate) (report l.fn.report)) bytes l.log (seen_of (gate l.gate) (report l.report));
    }

abbrev pub decreases-loop-verdict : goal.decreases-loop-verdict
decreases-loop-verdict g l = 2 * (most_log_bytes - l.log.intake.taken) + length l.log.intake.reader.rest
