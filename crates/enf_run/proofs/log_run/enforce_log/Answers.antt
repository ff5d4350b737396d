-- What the gate held back is handed on at the end: what the run of the log has come to is the same after it, or is cut.
use Rattle.enf_run.proofs.Vocabulary.{err_from_is_err_and, policy_rules_of, seen_of, enforcer_setting, input_log, rest_left}
use Rattle.enf_run.proofs.HandingLemmas.{lost_handed, lost_held, ran_handed, stops_handed, stops_held, took_handed, took_held}
use Rattle.enf_run.proofs.HandedOnLemmas.{one_cause}
use Rattle.enf_run.proofs.LogProgressLemmas.{ran_cut}
use Rattle.enf_run.proofs.log_run.enforce_log.Goals as goal

pub returns-in_err-hand_on-in-Ok-clause-cut : goal.returns-in_err-hand_on-in-Ok-clause-cut
returns-in_err-hand_on-in-Ok-clause-cut g c trace built stands =
    let p = err_from_is_err_and c.from_residual.result c.from_residual.ensures.1 in
    let before = seen_of (g.G.Sink.seen c.args.gate.now) (g.R.Sink.seen c.args.report.now) in
    let between = seen_of (g.G.Sink.seen c.enforce_records.new.gate) (g.R.Sink.seen c.enforce_records.new.report) in
    let judged = c.in-Ok.judged in
    rw (p.1, p.2) (ran_cut c.args.names.now.signature.now (policy_rules_of c.args.names.now.policy.now) c.args.log.now.enforcer trace
    c.enforcer_laws.ensures (c.requires.permits, c.requires.together) built (rest_left c.args.saves judged.verdict) judged c.enforce_records.new.log.enforcer
    before between (g.G.Sink.seen c.hand_on.new.gate) (c.in-Ok.ensures.ran trace built stands) c.in_err-hand_on-in-Ok.field-0.0 c.in_err-hand_on-in-Ok.ensures)

pub returns-in_err-hand_on-in-Ok-clause-lost : goal.returns-in_err-hand_on-in-Ok-clause-lost
returns-in_err-hand_on-in-Ok-clause-lost g c =
    let p = err_from_is_err_and c.from_residual.result c.from_residual.ensures.1 in
    let before = seen_of (g.G.Sink.seen c.args.gate.now) (g.R.Sink.seen c.args.report.now) in
    let between = seen_of (g.G.Sink.seen c.enforce_records.new.gate) (g.R.Sink.seen c.enforce_records.new.report) in
    rw (p.1, p.2) (took_held before between (g.G.Sink.seen c.hand_on.new.gate)
    (input_log c.args.names.now.signature.now c.args.log.now.enforcer.clock) c.in-Ok.judged c.in-Ok.ensures.took c.in_err-hand_on-in-Ok.field-0.0 c.in_err-hand_on-in-Ok.ensures)

pub returns-in_ok-hand_on-in-Ok-clause-ran : goal.returns-in_ok-hand_on-in-Ok-clause-ran
returns-in_ok-hand_on-in-Ok-clause-ran g c trace built stands =
    let before = seen_of (g.G.Sink.seen c.args.gate.now) (g.R.Sink.seen c.args.report.now) in
    let between = seen_of (g.G.Sink.seen c.enforce_records.new.gate) (g.R.Sink.seen c.enforce_records.new.report) in
    let judged = c.in-Ok.judged in
    ran_handed before between (g.G.Sink.seen c.hand_on.new.gate) (rest_left c.args.saves judged.verdict)
    (enforcer_setting c.args.names.now.signature.now (policy_rules_of c.args.names.now.policy.now) c.args.log.now.enforcer trace)
    judged c.enforce_records.new.log.enforcer (c.in-Ok.ensures.ran trace built stands) c.in_ok-hand_on-in-Ok.ensures

pub returns-in_ok-hand_on-in-Ok-clause-took : goal.returns-in_ok-hand_on-in-Ok-clause-took
returns-in_ok-hand_on-in-Ok-clause-took g c =
    let before = seen_of (g.G.Sink.seen c.args.gate.now) (g.R.Sink.seen c.args.report.now) in
    let between = seen_of (g.G.Sink.seen c.enforce_records.new.gate) (g.R.Sink.seen c.enforce_records.new.report) in
    took_handed before between (g.G.Sink.seen c.hand_on.new.gate)
    (input_log c.args.names.now.signature.now c.args.log.now.enforcer.clock) c.in-Ok.judged c.in-Ok.ensures.took c.in_ok-hand_on-in-Ok.ensures

pub returns-in_err-hand_on-in-Err-NoMemory-clause-cut : goal.returns-in_err-hand_on-in-Err-NoMemory-clause-cut
returns-in_err-hand_on-in-Err-NoMemory-clause-cut g c trace built stands =
    let r = c.from_residual-in_err-hand_on-in-Err-NoMemory in
    let p = err_from_is_err_and r.result r.ensures.1 in
    let before = seen_of (g.G.Sink.seen c.args.gate.now) (g.R.Sink.seen c.args.report.now) in
    let between = seen_of (g.G.Sink.seen c.enforce_records.new.gate) (g.R.Sink.seen c.enforce_records.new.report) in
    let lost = rw c.in-Err-NoMemory.field-0-is at c.in-Err-NoMemory.ensures.cut in
    rw (p.1, p.2) (stops_held before between (g.G.Sink.seen c.hand_on-in-Err-NoMemory.new.gate)
    (enforcer_setting c.args.names.now.signature.now (policy_rules_of c.args.names.now.policy.now) c.args.log.now.enforcer trace)
    (lost trace built stands) c.in_err-hand_on-in-Err-NoMemory.field-0.0 c.in_err-hand_on-in-Err-NoMemory.ensures)

pub returns-in_err-hand_on-in-Err-NoMemory-clause-lost : goal.returns-in_err-hand_on-in-Err-NoMemory-clause-lost
returns-in_err-hand_on-in-Err-NoMemory-clause-lost g c =
    let r = c.from_residual-in_err-hand_on-in-Err-NoMemory in
    let p = err_from_is_err_and r.result r.ensures.1 in
    let before = seen_of (g.G.Sink.seen c.args.gate.now) (g.R.Sink.seen c.args.report.now) in
    let between = seen_of (g.G.Sink.seen c.enforce_records.new.gate) (g.R.Sink.seen c.enforce_records.new.report) in
    let lost = rw c.in-Err-NoMemory.field-0-is at c.in-Err-NoMemory.ensures.lost in
    rw (p.1, p.2) (lost_held before between (g.G.Sink.seen c.hand_on-in-Err-NoMemory.new.gate)
    (input_log c.args.names.now.signature.now c.args.log.now.enforcer.clock) lost c.in_err-hand_on-in-Err-NoMemory.field-0.0 c.in_err-hand_on-in-Err-NoMemory.ensures)

pub returns-in_ok-hand_on-in-Err-NoMemory-clause-cut : goal.returns-in_ok-hand_on-in-Err-NoMemory-clause-cut
returns-in_ok-hand_on-in-Err-NoMemory-clause-cut g c trace built stands =
    let before = seen_of (g.G.Sink.seen c.args.gate.now) (g.R.Sink.seen c.args.report.now) in
    let between = seen_of (g.G.Sink.seen c.enforce_records.new.gate) (g.R.Sink.seen c.enforce_records.new.report) in
    let lost = rw c.in-Err-NoMemory.field-0-is at c.in-Err-NoMemory.ensures.cut in
    stops_handed before between (g.G.Sink.seen c.hand_on-in-Err-NoMemory.new.gate)
    (enforcer_setting c.args.names.now.signature.now (policy_rules_of c.args.names.now.policy.now) c.args.log.now.enforcer trace)
    (lost trace built stands) c.in_ok-hand_on-in-Err-NoMemory.ensures

pub returns-in_ok-hand_on-in-Err-NoMemory-clause-lost : goal.returns-in_ok-hand_on-in-Err-NoMemory-clause-lost
returns-in_ok-hand_on-in-Err-NoMemory-clause-lost g c =
    let before = seen_of (g.G.Sink.seen c.args.gate.now) (g.R.Sink.seen c.args.report.now) in
    let between = seen_of (g.G.Sink.seen c.enforce_records.new.gate) (g.R.Sink.seen c.enforce_records.new.report) in
    let lost = rw c.in-Err-NoMemory.field-0-is at c.in-Err-NoMemory.ensures.lost in
    lost_handed before between (g.G.Sink.seen c.hand_on-in-Err-NoMemory.new.gate)
    (input_log c.args.names.now.signature.now c.args.log.now.enforcer.clock) lost c.in_ok-hand_on-in-Err-NoMemory.ensures

pub returns-in_err-hand_on-in-Ok-clause-lacks : goal.returns-in_err-hand_on-in-Ok-clause-lacks
returns-in_err-hand_on-in-Ok-clause-lacks g c =
    let p = err_from_is_err_and c.from_residual.result c.from_residual.ensures.1 in
    rw (p.1, p.2) (λ lack. absurd (one_cause c.in_err-hand_on-in-Ok.field-0.0 c.in_err-hand_on-in-Ok.ensures.failed lack))

pub returns-in_err-hand_on-in-Err-NoMemory-clause-lacks : goal.returns-in_err-hand_on-in-Err-NoMemory-clause-lacks
returns-in_err-hand_on-in-Err-NoMemory-clause-lacks g c =
    let r = c.from_residual-in_err-hand_on-in-Err-NoMemory in
    let p = err_from_is_err_and r.result r.ensures.1 in
    rw (p.1, p.2) (λ lack. absurd (one_cause c.in_err-hand_on-in-Err-NoMemory.field-0.0 c.in_err-hand_on-in-Err-NoMemory.ensures.failed lack))
