use Rattle.enf_run.proofs.Vocabulary.{◌∙◌, [], List, length, ap, sym, subst, refl, arith, err_from_is_err_and, Reader, TraceLog, NameEntry, AnswersAuditTurn, reads_in, recorded, records_of}
use Rattle.std.specs.Prelude.{None, Some}
use Rattle.enf_run.proofs.AuditLemmas.{audit_lost, audited_none, goes_on, has_audited, lost_at_once}
use Rattle.enf_run.proofs.audits.audit_log.Goals as goal

pub loop-audit-init : goal.loop-audit-init
loop-audit-init g c =
    let new = c.in_ok-audit.ensures in
    record {
      bytes = [];
      count = new.intake.taken;
      reader = new.intake.reader ∙ (λ i. reads_in c.args.signature.now TraceLog (sym (ap (λ (r : Reader). r.rest) new.intake.reader) i));
      room = new.intake.room;
      within = record {
        last = omega (arith, new.auditor.last_is);
        position = omega (arith, new.auditor.position_is);
        most = omega (arith, new.intake.taken);
        left = omega (arith, new.intake.accepted, ap (λ (r : Reader). length r.rest) new.intake.reader);
      };
      policy = new.auditor.policy_is;
      audited = audited_none c.args.signature.now (g.G.Sink.seen c.args.gate.now) c.in_ok-audit.audit new.intake.reader new.intake.accepted new.clock new.stands;
      writes = refl;
      held = refl;
      late = λ none. refl;
    }

pub go_on-requires-clause-reader : goal.go_on-requires-clause-reader
go_on-requires-clause-reader g c =
    let inv = c.loop-audit.invariant in
    let reader = c.loop-audit.audit.intake.reader in
    inv.reader ∙ (λ i. reads_in (sym (ap (λ (r : Reader). r.entries) inv.reader) i) TraceLog reader.rest)

pub go_on-requires-clause-taken : goal.go_on-requires-clause-taken
go_on-requires-clause-taken g c = c.loop-audit.invariant.within.most

pub go_on-requires-clause-count : goal.go_on-requires-clause-count
go_on-requires-clause-count g c =
    let within = c.loop-audit.invariant.within in
    omega (arith, within.most, within.left)

pub go_on-requires-clause-room : goal.go_on-requires-clause-room
go_on-requires-clause-room g c = c.loop-audit.invariant.room

pub go_on-requires-clause-stands : goal.go_on-requires-clause-stands
go_on-requires-clause-stands g c =
    let audited = c.loop-audit.invariant.audited in
    (recorded (records_of audited.read), audited.stands)

pub go_on-requires-clause-later : goal.go_on-requires-clause-later
go_on-requires-clause-later g c = c.loop-audit.invariant.within.last

pub go_on-requires-clause-position : goal.go_on-requires-clause-position
go_on-requires-clause-position g c =
    let within = c.loop-audit.invariant.within in
    omega (arith, within.position, within.most, within.left)

pub loop-audit-preserved : goal.loop-audit-preserved
loop-audit-preserved g c =
    let inv = c.loop-audit.invariant in
    let before = g.G.Sink.seen c.args.gate.now in
    let b = g.G.Sink.seen c.loop-audit.gate in
    let after = g.G.Sink.seen c.go_on.new.gate in
    let same = ap (λ (r : Reader). r.entries) inv.reader in
    let turn = subst (λ (es : List NameEntry). AnswersAuditTurn es None c.loop-audit.audit c.go_on.new.audit b after) same (rw c.in_default.is at c.in_ok-verdict.ensures.turn) in
    let go = goes_on c.args.signature.now before c.args.policy.now c.loop-audit.audit c.go_on.new.audit inv.bytes b after inv.audited inv.within inv.count inv.policy turn in
    record {
      bytes = go.bytes;
      count = go.count_is;
      reader = go.reader_is;
      room = c.in_ok-verdict.ensures.room;
      within = go.still;
      policy = go.policy_is;
      audited = go.audited;
      writes = c.in_ok-verdict.ensures.writes ∙ inv.writes;
      held = c.in_ok-verdict.ensures.held ∙ inv.held;
      late = λ none. c.in_ok-verdict.ensures.late (inv.held ∙ none) ∙ inv.late none;
    }

pub loop-audit-smaller : goal.loop-audit-smaller
loop-audit-smaller g c =
    let inv = c.loop-audit.invariant in
    let before = g.G.Sink.seen c.args.gate.now in
    let b = g.G.Sink.seen c.loop-audit.gate in
    let after = g.G.Sink.seen c.go_on.new.gate in
    let same = ap (λ (r : Reader). r.entries) inv.reader in
    let turn = subst (λ (es : List NameEntry). AnswersAuditTurn es None c.loop-audit.audit c.go_on.new.audit b after) same (rw c.in_default.is at c.in_ok-verdict.ensures.turn) in
    let go = goes_on c.args.signature.now before c.args.policy.now c.loop-audit.audit c.go_on.new.audit inv.bytes b after inv.audited inv.within inv.count inv.policy turn in
    go.less

pub returns-in_err-audit-clause-lost : goal.returns-in_err-audit-clause-lost
returns-in_err-audit-clause-lost g c =
    let p = err_from_is_err_and c.from_residual.result c.from_residual.ensures.1 in
    rw p.1 (lost_at_once c.args.signature.now (g.G.Sink.seen c.args.gate.now))

pub returns-in_err-verdict-clause-lost : goal.returns-in_err-verdict-clause-lost
returns-in_err-verdict-clause-lost g c =
    let inv = c.loop-audit.invariant in
    let p = err_from_is_err_and c.from_residual-in_err-verdict.result c.from_residual-in_err-verdict.ensures.1 in
    rw p.1 (audit_lost c.args.signature.now (g.G.Sink.seen c.args.gate.now) inv.bytes c.loop-audit.audit
    c.go_on.new.audit (g.G.Sink.seen c.loop-audit.gate) (g.G.Sink.seen c.go_on.new.gate) inv.audited inv.count
    c.in_err-verdict.ensures.lost)

pub returns-in_err-verdict-clause-writes : goal.returns-in_err-verdict-clause-writes
returns-in_err-verdict-clause-writes g c = c.in_err-verdict.ensures.writes ∙ c.loop-audit.invariant.writes

pub returns-in-Some-clause-audited : goal.returns-in-Some-clause-audited
returns-in-Some-clause-audited g c =
    let inv = c.loop-audit.invariant in
    let b = g.G.Sink.seen c.loop-audit.gate in
    let after = g.G.Sink.seen c.go_on.new.gate in
    let same = ap (λ (r : Reader). r.entries) inv.reader in
    let turn = subst (λ (es : List NameEntry). AnswersAuditTurn es (Some c.in-Some.verdict) c.loop-audit.audit c.go_on.new.audit b after) same (rw c.in-Some.is at c.in_ok-verdict.ensures.turn) in
    has_audited c.args.signature.now (g.G.Sink.seen c.args.gate.now) inv.bytes c.loop-audit.audit c.go_on.new.audit b
    after inv.audited c.args.policy.now c.in-Some.verdict _ inv.count inv.within.left inv.policy turn
    c.verdict.ensures

pub returns-in-Some-clause-few : goal.returns-in-Some-clause-few
returns-in-Some-clause-few g c =
    let inv = c.loop-audit.invariant in
    let turn = rw c.in-Some.is at c.in_ok-verdict.ensures.turn in
    omega (arith, turn.0, inv.within.most, inv.within.left)

pub returns-in-Some-clause-writes : goal.returns-in-Some-clause-writes
returns-in-Some-clause-writes g c = c.in_ok-verdict.ensures.writes ∙ c.loop-audit.invariant.writes

pub returns-in_err-verdict-clause-held : goal.returns-in_err-verdict-clause-held
returns-in_err-verdict-clause-held g c = c.in_err-verdict.ensures.held ∙ c.loop-audit.invariant.held

pub returns-in_err-verdict-clause-late : goal.returns-in_err-verdict-clause-late
returns-in_err-verdict-clause-late g c none = let inv = c.loop-audit.invariant in
    c.in_err-verdict.ensures.late (inv.held ∙ none) ∙ inv.late none

pub returns-in-Some-clause-held : goal.returns-in-Some-clause-held
returns-in-Some-clause-held g c = c.in_ok-verdict.ensures.held ∙ c.loop-audit.invariant.held

pub returns-in-Some-clause-late : goal.returns-in-Some-clause-late
returns-in-Some-clause-late g c none = let inv = c.loop-audit.invariant in
    c.in_ok-verdict.ensures.late (inv.held ∙ none) ∙ inv.late none
