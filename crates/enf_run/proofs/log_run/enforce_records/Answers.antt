use Rattle.enf_run.proofs.Vocabulary.{◌∙◌, Bool, [], ℕ, length, refl, ap, sym, subst, arith, err_from_is_err_and, policy_rules_of, Reader, RanAsJudged, rest_left, enforcer_setting, TookLog, seen_of}
use Rattle.enf_run.proofs.Vocabulary.{Enforcing, input_log, CutsDrain, GivesRest, log_moment, reads_on}
use Rattle.enf_run.proofs.LogProgressLemmas.{cut_drain, ran_rest}
use Rattle.enf_run.proofs.LogTurnLemmas.{cut_run, done_none, ends_log, goes_on, limits_none}
use Rattle.enf_run.proofs.TakenLogLemmas.{lost_rest, lost_so, taken_none, took_so}
use Rattle.enf_run.proofs.log_run.enforce_records.Goals as goal

pub loop-verdict-init : goal.loop-verdict-init
loop-verdict-init g c =
    let laws = c.enforcer_laws.ensures in
    let new = c.requires.new in
    record {
      bytes = [];
      count = new.intake.taken;
      most = omega (arith, new.intake.taken);
      left = omega (arith, new.intake.accepted, ap (λ (r : Reader). length r.rest) new.intake.reader);
      reader = new.intake.reader ∙ (λ i. reads_on c.args.names.now.signature.now (sym (ap (λ (r : Reader). r.rest) new.intake.reader) i));
      room = new.intake.room;
      late = refl;
      limits = limits_none c.args.names.now.signature.now c.args.log.now new;
      taken = taken_none c.args.names.now.signature.now (policy_rules_of c.args.names.now.policy.now)
          c.args.log.now.enforcer.clock (seen_of (g.G.Sink.seen c.args.gate.now) (g.R.Sink.seen c.args.report.now))
          c.args.log.now new refl;
      done = done_none c.args.names.now.signature.now (policy_rules_of c.args.names.now.policy.now) c.args.log.now
          laws (c.requires.permits, c.requires.together)
          (seen_of (g.G.Sink.seen c.args.gate.now) (g.R.Sink.seen c.args.report.now)) new;
    }

pub loop-verdict-preserved : goal.loop-verdict-preserved
loop-verdict-preserved g c =
    let laws = c.enforcer_laws.ensures in
    let inv = c.loop-verdict.invariant in
    let turn = rw c.in_default.is at c.in_ok-verdict.ensures.turn in
    let go = goes_on c.args.names.now.signature.now (policy_rules_of c.args.names.now.policy.now)
    c.args.log.now.enforcer laws (c.requires.permits, c.requires.together)
    (seen_of (g.G.Sink.seen c.args.gate.now) (g.R.Sink.seen c.args.report.now)) c.loop-verdict.log
    c.go_on.new.log inv.bytes (seen_of (g.G.Sink.seen c.loop-verdict.gate) (g.R.Sink.seen c.loop-verdict.report))
    (seen_of (g.G.Sink.seen c.go_on.new.gate) (g.R.Sink.seen c.go_on.new.report))
    inv.done inv.limits inv.count inv.most inv.left inv.taken turn in
    record {
      bytes = go.bytes;
      count = go.count_is;
      most = go.within;
      left = go.room_is;
      reader = go.reader_is;
      room
          = c.in_ok-verdict.ensures.room;
      limits = go.still;
      late = c.in_ok-verdict.ensures.late ∙ inv.late;
      taken = go.now_taken;
      done = go.progress;
    }

pub loop-verdict-smaller : goal.loop-verdict-smaller
loop-verdict-smaller g c =
    let laws = c.enforcer_laws.ensures in
    let inv = c.loop-verdict.invariant in
    let turn = rw c.in_default.is at c.in_ok-verdict.ensures.turn in
    let go = goes_on c.args.names.now.signature.now (policy_rules_of c.args.names.now.policy.now)
    c.args.log.now.enforcer laws (c.requires.permits, c.requires.together)
    (seen_of (g.G.Sink.seen c.args.gate.now) (g.R.Sink.seen c.args.report.now)) c.loop-verdict.log
    c.go_on.new.log inv.bytes (seen_of (g.G.Sink.seen c.loop-verdict.gate) (g.R.Sink.seen c.loop-verdict.report))
    (seen_of (g.G.Sink.seen c.go_on.new.gate) (g.R.Sink.seen c.go_on.new.report))
    inv.done inv.limits inv.count inv.most inv.left inv.taken turn in
    go.less

pub returns-in_err-verdict-clause-cut : goal.returns-in_err-verdict-clause-cut
returns-in_err-verdict-clause-cut g c trace built stands =
    let laws = c.enforcer_laws.ensures in
    let inv = c.loop-verdict.invariant in
    let p = err_from_is_err_and c.from_residual.result c.from_residual.ensures.1 in
    rw (p.1, p.2) (cut_run c.args.names.now.signature.now (policy_rules_of c.args.names.now.policy.now)
    c.args.log.now.enforcer trace laws (c.requires.permits, c.requires.together) built
    (seen_of (g.G.Sink.seen c.args.gate.now) (g.R.Sink.seen c.args.report.now)) inv.bytes c.loop-verdict.log
    (seen_of (g.G.Sink.seen c.loop-verdict.gate) (g.R.Sink.seen c.loop-verdict.report))
    (seen_of (g.G.Sink.seen c.go_on.new.gate) (g.R.Sink.seen c.go_on.new.report))
    (inv.done trace built stands) inv.count inv.left c.in_err-verdict.field-0.0 c.in_err-verdict.ensures.cut)

pub returns-in_err-give_rest-clause-cut : goal.returns-in_err-give_rest-clause-cut
returns-in_err-give_rest-clause-cut g c trace built stands =
    let laws = c.enforcer_laws.ensures in
    let inv = c.loop-verdict.invariant in
    let p = err_from_is_err_and c.from_residual-in_err-give_rest.result c.from_residual-in_err-give_rest.ensures.1 in
    let turn = rw c.in-Some.is at c.in_ok-verdict.ensures.turn in
    let old = c.loop-verdict.log in
    let cut = c.in_err-give_rest.field-0.0 in
    let between = (seen_of (g.G.Sink.seen c.go_on.new.gate) (g.R.Sink.seen c.go_on.new.report)) in
    let after = (seen_of (g.G.Sink.seen c.give_rest.new.gate) (g.R.Sink.seen c.give_rest.new.report)) in
    let ended = ends_log c.args.names.now.signature.now (policy_rules_of c.args.names.now.policy.now)
    c.args.log.now.enforcer trace laws (c.requires.permits, c.requires.together) built
    (seen_of (g.G.Sink.seen c.args.gate.now) (g.R.Sink.seen c.args.report.now)) old inv.bytes
    (seen_of (g.G.Sink.seen c.loop-verdict.gate) (g.R.Sink.seen c.loop-verdict.report)) between
    (inv.done trace built stands) inv.count inv.left turn.2 c.in-Some.verdict turn.3 in
    let drained = subst (λ (e : Enforcing). CutsDrain c.args.names.now.signature.now
    (policy_rules_of c.args.names.now.policy.now) (log_moment e between) after cut) turn.1
    c.in_err-give_rest.ensures.cut in
    rw (p.1, p.2) (cut_drain c.args.names.now.signature.now (policy_rules_of c.args.names.now.policy.now)
    c.args.log.now.enforcer trace laws (c.requires.permits, c.requires.together) built
    (seen_of (g.G.Sink.seen c.args.gate.now) (g.R.Sink.seen c.args.report.now)) inv.bytes old.intake.reader.rest
    old.intake.accepted old.enforcer c.in-Some.verdict between after
    ended cut drained)

pub give_rest-requires-clause-goes_on : goal.give_rest-requires-clause-goes_on
give_rest-requires-clause-goes_on g c =
    let turn = rw c.in-Some.is at c.in_ok-verdict.ensures.turn in
    ap (λ (e : Enforcing). e.stopped) turn.1 ∙ c.loop-verdict.invariant.limits.going

pub returns-in-Some-clause-ran : goal.returns-in-Some-clause-ran
returns-in-Some-clause-ran g c trace built stands =
    let laws = c.enforcer_laws.ensures in
    let inv = c.loop-verdict.invariant in
    let turn = rw c.in-Some.is at c.in_ok-verdict.ensures.turn in
    let old = c.loop-verdict.log in
    let verdict = c.in-Some.verdict in
    let entries = c.args.names.now.signature.now in
    let rules = policy_rules_of c.args.names.now.policy.now in
    let before = (seen_of (g.G.Sink.seen c.args.gate.now) (g.R.Sink.seen c.args.report.now)) in
    let between = (seen_of (g.G.Sink.seen c.go_on.new.gate) (g.R.Sink.seen c.go_on.new.report)) in
    let after = (seen_of (g.G.Sink.seen c.give_rest.new.gate) (g.R.Sink.seen c.give_rest.new.report)) in
    let ended = ends_log entries rules c.args.log.now.enforcer trace laws (c.requires.permits, c.requires.together)
    built before old inv.bytes (seen_of (g.G.Sink.seen c.loop-verdict.gate)
    (g.R.Sink.seen c.loop-verdict.report)) between
    (inv.done trace built stands) inv.count inv.left turn.2 verdict turn.3 in
    let given = subst (λ (left : Bool). GivesRest left entries rules (log_moment c.go_on.new.log.enforcer between)
    (log_moment c.give_rest.new.enforcer after)) c.leaves_rest-left.ensures c.in_ok-give_rest.ensures.given in
    let rest = subst (λ (e : Enforcing). GivesRest (rest_left c.args.saves verdict) entries rules (log_moment e between) (log_moment c.give_rest.new.enforcer after)) turn.1 given in
    let judged = ran_rest entries rules c.args.log.now.enforcer trace laws (c.requires.permits, c.requires.together)
    built before inv.bytes old.intake.reader.rest old.intake.accepted old.enforcer verdict between after
    ended (rest_left c.args.saves verdict) c.give_rest.new.enforcer rest in
    subst (λ (n : ℕ). RanAsJudged c.args.saves (enforcer_setting entries rules c.args.log.now.enforcer trace)
    (record { accepted = n; verdict = verdict }) c.give_rest.new.enforcer before after) (sym turn.0) judged

pub returns-in-Some-clause-took : goal.returns-in-Some-clause-took
returns-in-Some-clause-took g c =
    let inv = c.loop-verdict.invariant in
    let turn = rw c.in-Some.is at c.in_ok-verdict.ensures.turn in
    let old = c.loop-verdict.log in
    let verdict = c.in-Some.verdict in
    let entries = c.args.names.now.signature.now in
    let rules = policy_rules_of c.args.names.now.policy.now in
    let clock = c.args.log.now.enforcer.clock in
    let before = seen_of (g.G.Sink.seen c.args.gate.now) (g.R.Sink.seen c.args.report.now) in
    let here = seen_of (g.G.Sink.seen c.loop-verdict.gate) (g.R.Sink.seen c.loop-verdict.report) in
    let between = seen_of (g.G.Sink.seen c.go_on.new.gate) (g.R.Sink.seen c.go_on.new.report) in
    let after = seen_of (g.G.Sink.seen c.give_rest.new.gate) (g.R.Sink.seen c.give_rest.new.report) in
    let took = took_so entries rules clock before inv.bytes old here between after inv.taken turn.2 inv.count
    inv.left verdict turn.3 c.leaves_rest-left.result c.go_on.new.log.enforcer c.give_rest.new.enforcer
    c.in_ok-give_rest.ensures.given in
    subst (λ (n : ℕ). TookLog (input_log entries clock) (record { accepted = n; verdict = verdict }) before after) (sym turn.0) took

pub returns-in_err-verdict-clause-lost : goal.returns-in_err-verdict-clause-lost
returns-in_err-verdict-clause-lost g c =
    let inv = c.loop-verdict.invariant in
    let p = err_from_is_err_and c.from_residual.result c.from_residual.ensures.1 in
    rw (p.1, p.2) (lost_so c.args.names.now.signature.now (policy_rules_of c.args.names.now.policy.now)
    c.args.log.now.enforcer.clock (seen_of (g.G.Sink.seen c.args.gate.now) (g.R.Sink.seen c.args.report.now))
    inv.bytes c.loop-verdict.log c.go_on.new.log
    (seen_of (g.G.Sink.seen c.loop-verdict.gate) (g.R.Sink.seen c.loop-verdict.report))
    (seen_of (g.G.Sink.seen c.go_on.new.gate) (g.R.Sink.seen c.go_on.new.report)) inv.taken inv.count
    c.in_err-verdict.field-0.0 c.in_err-verdict.ensures.cut)

pub returns-in_err-give_rest-clause-lost : goal.returns-in_err-give_rest-clause-lost
returns-in_err-give_rest-clause-lost g c =
    let inv = c.loop-verdict.invariant in
    let p = err_from_is_err_and c.from_residual-in_err-give_rest.result c.from_residual-in_err-give_rest.ensures.1 in
    let turn = rw c.in-Some.is at c.in_ok-verdict.ensures.turn in
    rw (p.1, p.2) (lost_rest c.args.names.now.signature.now (policy_rules_of c.args.names.now.policy.now)
    c.args.log.now.enforcer.clock (seen_of (g.G.Sink.seen c.args.gate.now) (g.R.Sink.seen c.args.report.now))
    inv.bytes c.loop-verdict.log
    (seen_of (g.G.Sink.seen c.loop-verdict.gate) (g.R.Sink.seen c.loop-verdict.report))
    (seen_of (g.G.Sink.seen c.go_on.new.gate) (g.R.Sink.seen c.go_on.new.report))
    (seen_of (g.G.Sink.seen c.give_rest.new.gate) (g.R.Sink.seen c.give_rest.new.report))
    inv.taken turn.2 inv.count inv.left c.in-Some.verdict turn.3 c.go_on.new.log.enforcer c.in_err-give_rest.field-0.0 c.in_err-give_rest.ensures.cut)

pub returns-in_err-verdict-clause-late : goal.returns-in_err-verdict-clause-late
returns-in_err-verdict-clause-late g c = c.in_err-verdict.ensures.late ∙ c.loop-verdict.invariant.late

pub returns-in_err-give_rest-clause-late : goal.returns-in_err-give_rest-clause-late
returns-in_err-give_rest-clause-late g c = c.in_err-give_rest.ensures.late ∙ c.in_ok-verdict.ensures.late ∙ c.loop-verdict.invariant.late

pub returns-in-Some-clause-late : goal.returns-in-Some-clause-late
returns-in-Some-clause-late g c = c.in_ok-give_rest.ensures.late ∙ c.in_ok-verdict.ensures.late ∙ c.loop-verdict.invariant.late
