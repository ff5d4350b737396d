use Rattle.enf_run.proofs.Vocabulary.{◌∙◌, inl, refl, subst, err_from_is_err_and, FileView, MOST_FILE_BYTES, typed_of, policy_rules_of, EndsFile, HoldsPolicy, HoldsRefusedPolicy, AuditOutcome}
use Rattle.enf_run.proofs.Vocabulary.{IsAuditForm}
use Rattle.enf_run.proofs.RunLemmas.{audit_ends, audit_lost, audit_refusal, audit_refused, audit_said, audit_sources, policy_ends, signature_ends}
use Rattle.enf_run.proofs.HandedOnLemmas.{done_handed, handed_cut, handed_same, lack_handed}
use Rattle.enf_run.proofs.run.audit.Goals as goal

pub returns-in_err-read-clause-outcome : goal.returns-in_err-read-clause-outcome
returns-in_err-read-clause-outcome g c words report after status form =
    let p = err_from_is_err_and c.from_residual.result c.from_residual.ensures.1 in
    rw (p.1, p.2) (signature_ends _ report (AuditOutcome _) IsAuditForm (audit_sources _ report)
    c.args.signature_file.now c.args.policy_file.now form refl c.in_err-read.field-0.0 refl refl
    c.in_err-read.ensures.ends status)

pub returns-in_err-accepted-clause-outcome : goal.returns-in_err-accepted-clause-outcome
returns-in_err-accepted-clause-outcome g c words report after status form =
    let p = err_from_is_err_and c.from_residual-in_err-accepted.result c.from_residual-in_err-accepted.ensures.1 in
    let entries = c.in_ok-read.read.signature in
    let name = c.args.policy_file.now in
    let ends = subst (λ (v : FileView). EndsFile MOST_FILE_BYTES (HoldsRefusedPolicy v.contents name entries) name v
    (g.F.Files.seen c.read_policy_with_seed.new.files) c.in_err-accepted.field-0.0) c.in_ok-read.ensures.same
    c.in_err-accepted.ensures.ends in
    rw (p.1, p.2) (policy_ends _ report (AuditOutcome _) IsAuditForm (audit_sources _ report)
    c.args.signature_file.now name form refl c.in_ok-read.read.bytes.items entries c.in_err-accepted.field-0.0
    refl refl c.in_ok-read.ensures.held ends status)

pub returns-in_err-audited-clause-outcome : goal.returns-in_err-audited-clause-outcome
returns-in_err-audited-clause-outcome g c words report after status form =
    let p = err_from_is_err_and c.from_residual-in_err-audited.result c.from_residual-in_err-audited.ensures.1 in
    let first = c.in_ok-read.ensures.same in
    let entries = c.in_ok-read.read.signature in
    let policy = policy_rules_of c.in_ok-accepted.accepted.policy in
    let holds = subst (λ (v : FileView). HoldsPolicy v.contents c.args.policy_file.now c.in_ok-accepted.accepted.bytes.items entries policy) first c.in_ok-accepted.ensures.held in
    rw (p.1, p.2) (audit_lost _ report c.args.signature_file.now c.args.policy_file.now form entries policy
    c.in_ok-read.read.bytes.items c.in_ok-accepted.accepted.bytes.items c.in_ok-read.ensures.held holds
    (c.in_ok-accepted.ensures.same ∙ first) refl c.in_err-audited.ensures.lost c.in_err-audited.ensures.writes
    status)

pub returns-in_err-conclude-clause-outcome : goal.returns-in_err-conclude-clause-outcome
returns-in_err-conclude-clause-outcome g c words report after status form =
    let p = err_from_is_err_and c.from_residual-in_err-conclude.result c.from_residual-in_err-conclude.ensures.1 in
    let first = c.in_ok-read.ensures.same in
    let entries = c.in_ok-read.read.signature in
    let policy = policy_rules_of c.in_ok-accepted.accepted.policy in
    let holds = subst (λ (v : FileView). HoldsPolicy v.contents c.args.policy_file.now c.in_ok-accepted.accepted.bytes.items entries policy) first c.in_ok-accepted.ensures.held in
    let audited = c.in_ok-audited.audited in
    let has = c.in_ok-audited.ensures.audited in
    rw (p.1, p.2) (audit_refusal _ report c.in_err-conclude.field-0.0
    (audit_refused _ report c.args.signature_file.now c.args.policy_file.now form entries policy
    c.in_ok-read.read.bytes.items c.in_ok-accepted.accepted.bytes.items c.in_ok-read.ensures.held holds
    (c.in_ok-accepted.ensures.same ∙ first) refl
    has.ended.log has.nothing c.in_ok-audited.ensures.writes audited.judged.accepted has.count audited.judged.verdict has.ended.ends c.in_err-conclude.field-0.0 c.in_err-conclude.ensures) status)

pub returns-in_err-hand_on_after-clause-outcome : goal.returns-in_err-hand_on_after-clause-outcome
returns-in_err-hand_on_after-clause-outcome g c words report after status form =
    let p = err_from_is_err_and c.from_residual-in_err-hand_on_after.result c.from_residual-in_err-hand_on_after.ensures.1 in
    let first = c.in_ok-read.ensures.same in
    let entries = c.in_ok-read.read.signature in
    let policy = policy_rules_of c.in_ok-accepted.accepted.policy in
    let holds = subst (λ (v : FileView). HoldsPolicy v.contents c.args.policy_file.now c.in_ok-accepted.accepted.bytes.items entries policy) first c.in_ok-accepted.ensures.held in
    rw (p.1, p.2) (audit_ends _ report c.args.signature_file.now c.args.policy_file.now form entries policy
    c.in_ok-read.read.bytes.items c.in_ok-accepted.accepted.bytes.items c.in_ok-read.ensures.held holds
    (c.in_ok-accepted.ensures.same ∙ first) refl
    (g.G.Sink.seen c.audit_log.new.gate) (typed_of c.in_ok-accepted.accepted.typed) c.in_ok-accepted.ensures.typed
    c.verdict_is_of_policy.ensures c.in_ok-audited.audited c.in_ok-audited.ensures.audited
    c.in_ok-audited.ensures.writes c.in_ok-conclude.ensures
    c.write_verdict-given.result (g.G.Sink.seen c.write_verdict-given.new.sink) c.write_verdict-given.ensures
    c.in_err-hand_on_after.field-0.0 c.in_err-hand_on_after.ensures status)

pub returns-clause-outcome : goal.returns-clause-outcome
returns-clause-outcome g c words report after status form =
    let first = c.in_ok-read.ensures.same in
    let entries = c.in_ok-read.read.signature in
    let policy = policy_rules_of c.in_ok-accepted.accepted.policy in
    let holds = subst (λ (v : FileView). HoldsPolicy v.contents c.args.policy_file.now c.in_ok-accepted.accepted.bytes.items entries policy) first c.in_ok-accepted.ensures.held in
    rw c.finish_of.ensures (audit_said _ report c.args.signature_file.now c.args.policy_file.now form entries policy
    c.in_ok-read.read.bytes.items c.in_ok-accepted.accepted.bytes.items c.in_ok-read.ensures.held holds
    (c.in_ok-accepted.ensures.same ∙ first) refl
    (g.G.Sink.seen c.audit_log.new.gate) (typed_of c.in_ok-accepted.accepted.typed) c.in_ok-accepted.ensures.typed
    c.verdict_is_of_policy.ensures c.in_ok-audited.audited c.in_ok-audited.ensures.audited
    c.in_ok-audited.ensures.writes c.in_ok-conclude.ensures
    c.write_verdict-given.result (g.G.Sink.seen c.write_verdict-given.new.sink) c.write_verdict-given.ensures
    c.in_ok-hand_on_after.ensures status)

pub returns-in_err-read-clause-handed : goal.returns-in_err-read-clause-handed
returns-in_err-read-clause-handed g c = handed_same (g.G.Sink.seen c.args.gate.now) c.from_residual.result

pub returns-in_err-accepted-clause-handed : goal.returns-in_err-accepted-clause-handed
returns-in_err-accepted-clause-handed g c = handed_same (g.G.Sink.seen c.args.gate.now) c.from_residual-in_err-accepted.result

pub returns-in_err-audited-clause-handed : goal.returns-in_err-audited-clause-handed
returns-in_err-audited-clause-handed g c none =
    let log = c.in_err-audited.ensures in
    record { at_each_read = log.late none; at_the_end = inl (log.held ∙ none) }

pub returns-in_err-conclude-clause-handed : goal.returns-in_err-conclude-clause-handed
returns-in_err-conclude-clause-handed g c none =
    let log = c.in_ok-audited.ensures in
    record { at_each_read = log.late none; at_the_end = inl (log.held ∙ none) }

pub returns-in_err-hand_on_after-clause-handed : goal.returns-in_err-hand_on_after-clause-handed
returns-in_err-hand_on_after-clause-handed g c none =
    let r = c.from_residual-in_err-hand_on_after in
    let p = err_from_is_err_and r.result r.ensures.1 in
    let h = c.in_err-hand_on_after.ensures in
    let cut = c.in_err-hand_on_after.field-0.0 in
    rw (p.1, p.2) (handed_cut (g.G.Sink.seen c.args.gate.now) (g.G.Sink.seen c.hand_on_after.new.gate) cut
    (h.late ∙ c.write_verdict-given.ensures.late ∙ c.in_ok-audited.ensures.late none)
    (lack_handed c.write_verdict-given.result cut (g.G.Sink.seen c.write_verdict-given.new.sink) (g.G.Sink.seen c.hand_on_after.new.gate) h) none)

pub returns-clause-handed : goal.returns-clause-handed
returns-clause-handed g c none =
    let h = c.in_ok-hand_on_after.ensures in
    record {
      at_each_read = h.late ∙ c.write_verdict-given.ensures.late ∙ c.in_ok-audited.ensures.late none;
      at_the_end = inl (done_handed c.write_verdict-given.result (g.G.Sink.seen c.write_verdict-given.new.sink) (g.G.Sink.seen c.hand_on_after.new.gate) h);
    }
