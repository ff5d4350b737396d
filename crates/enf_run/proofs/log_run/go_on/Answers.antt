use Rattle.enf_run.proofs.Vocabulary.{refl, inl, err_from_is_err_and, policy_rules_of, Input, seen_of, Intake}
use Rattle.enf_run.proofs.HandingLemmas.{err_weaker, ok_both}
use Rattle.enf_run.proofs.IntakeLemmas.{still_going, still_pending}
use Rattle.enf_run.proofs.TurnCallLemmas.{behind_blanks_now, cuts_turn, turn_cut, turn_read}
use Rattle.enf_run.proofs.log_run.go_on.Goals as goal

pub returns-in_err-enforce_next-clause-cut : goal.returns-in_err-enforce_next-clause-cut
returns-in_err-enforce_next-clause-cut g c =
    let p = err_from_is_err_and c.from_residual.result c.from_residual.ensures.1 in
    rw (p.1, p.2) (cuts_turn c.args.names.now.signature.now (policy_rules_of c.args.names.now.policy.now) c.args.log.now _ _ c.in_err-enforce_next.field-0.0 c.in_err-enforce_next.ensures.cut)

pub returns-in-Taken-clause-turn : goal.returns-in-Taken-clause-turn
returns-in-Taken-clause-turn g c = inl (record { takes = rw c.in-Taken.is at c.in_ok-enforce_next.ensures.next; accepted = refl; taken = refl })

pub take_next-requires-clause-pending : goal.take_next-requires-clause-pending
take_next-requires-clause-pending g c =
    let entries = c.args.names.now.signature.now in
    let old = c.args.log.now in
    let before = seen_of (g.G.Sink.seen c.args.gate.now) (g.R.Sink.seen c.args.report.now) in
    let between = seen_of (g.G.Sink.seen c.enforce_next.new.gate) (g.R.Sink.seen c.enforce_next.new.report) in
    let waits = rw c.in-Pending.is at c.in_ok-enforce_next.ensures.next in
    let middle : Intake = record { reader = c.enforce_next.new.reader; piece = old.intake.piece; accepted = old.intake.accepted; taken = old.intake.taken } in
    still_pending entries Input old.intake middle (behind_blanks_now entries old middle c.enforce_next.new.enforcer before between waits refl refl)

pub take_next-requires-clause-going : goal.take_next-requires-clause-going
take_next-requires-clause-going g c =
    let entries = c.args.names.now.signature.now in
    let old = c.args.log.now in
    let before = seen_of (g.G.Sink.seen c.args.gate.now) (g.R.Sink.seen c.args.report.now) in
    let between = seen_of (g.G.Sink.seen c.enforce_next.new.gate) (g.R.Sink.seen c.enforce_next.new.report) in
    let waits = rw c.in-Pending.is at c.in_ok-enforce_next.ensures.next in
    let middle : Intake = record { reader = c.enforce_next.new.reader; piece = old.intake.piece; accepted = old.intake.accepted; taken = old.intake.taken } in
    record {
      refused = still_going entries Input old.intake middle (behind_blanks_now entries old middle c.enforce_next.new.enforcer before between waits refl refl);
      taken = c.requires.taken;
      room = c.requires.room;
    }

pub returns-in-Pending-clause-turn : goal.returns-in-Pending-clause-turn
returns-in-Pending-clause-turn g c =
    let entries = c.args.names.now.signature.now in
    let old = c.args.log.now in
    let before = seen_of (g.G.Sink.seen c.args.gate.now) (g.R.Sink.seen c.args.report.now) in
    let between = seen_of (g.G.Sink.seen c.enforce_next.new.gate) (g.R.Sink.seen c.enforce_next.new.report) in
    let waits = rw c.in-Pending.is at c.in_ok-enforce_next.ensures.next in
    let middle : Intake = record { reader = c.enforce_next.new.reader; piece = old.intake.piece; accepted = old.intake.accepted; taken = old.intake.taken } in
    ok_both _ _ c.take_next.result
    (turn_read entries old middle c.enforce_next.new.enforcer before between waits refl refl
    (policy_rules_of c.args.names.now.policy.now) c.take_next.new.self (g.G.Sink.seen c.take_next.new.gate) _)
    c.take_next.ensures.turn c.take_next.ensures.writes

pub returns-in-Pending-clause-cut : goal.returns-in-Pending-clause-cut
returns-in-Pending-clause-cut g c =
    let entries = c.args.names.now.signature.now in
    let old = c.args.log.now in
    let before = seen_of (g.G.Sink.seen c.args.gate.now) (g.R.Sink.seen c.args.report.now) in
    let between = seen_of (g.G.Sink.seen c.enforce_next.new.gate) (g.R.Sink.seen c.enforce_next.new.report) in
    let waits = rw c.in-Pending.is at c.in_ok-enforce_next.ensures.next in
    let middle : Intake = record { reader = c.enforce_next.new.reader; piece = old.intake.piece; accepted = old.intake.accepted; taken = old.intake.taken } in
    err_weaker _ _ c.take_next.result
    (turn_cut entries old middle c.enforce_next.new.enforcer before between waits refl refl
    (policy_rules_of c.args.names.now.policy.now) c.take_next.new.self (g.G.Sink.seen c.take_next.new.gate))
    c.take_next.ensures.cut
