use Rattle.enf_run.proofs.Vocabulary.{Bool, false, ◌∙◌, ◌≡◌, Err, Ok, inl, inr, is_some, subst, sym, refl, option_map, err_from_is_err_and, Enforcing, policy_rules_of, RanAsJudged, enforcer_setting}
use Rattle.enf_run.proofs.Vocabulary.{SavesWhereAsked, seen_of, input_log}
use Rattle.enf_run.proofs.SavedStateLemmas.{accepted_so, same_some, took_accepted}
use Rattle.enf_run.proofs.HandedOnLemmas.{handed_all, handed_cut}
use Rattle.enf_run.proofs.run.run_log.Goals as goal

pub save_where_asked-requires : goal.save_where_asked-requires
save_where_asked-requires g c = record { goes_on = subst (λ (e : Enforcing). e.stopped ≡ false) (sym c.enforcer.ensures) c.in_ok-judged.ensures.goes_on }

pub returns-in_err-judged-clause-ran : goal.returns-in_err-judged-clause-ran
returns-in_err-judged-clause-ran g c =
    let p = err_from_is_err_and c.from_residual.result c.from_residual.ensures.1 in
    rw (p.1, p.2) (inl (record { lost = c.in_err-judged.ensures.lost; ran = c.in_err-judged.ensures.cut; same = refl }))

pub returns-in_err-conclude-clause-ran : goal.returns-in_err-conclude-clause-ran
returns-in_err-conclude-clause-ran g c =
    let p = err_from_is_err_and c.from_residual-in_err-conclude.result c.from_residual-in_err-conclude.ensures.1 in
    let judged = c.in_ok-judged.judged in
    let enforcer = c.enforce_log.new.log.enforcer in
    let s = enforcer_setting c.args.names.now.signature.now (policy_rules_of c.args.names.now.policy.now) c.args.log.now.enforcer in
    let before = seen_of (g.G.Sink.seen c.args.gate.now) (g.R.Sink.seen c.args.report.now) in
    let after = seen_of (g.G.Sink.seen c.enforce_log.new.gate) (g.R.Sink.seen c.enforce_log.new.report) in
    let saves_is = c.is_some-saves.ensures ∙ sym (same_some c.args.save) in
    rw (p.1, p.2) (record {
      judged = judged;
      enforcer = enforcer;
      took = c.in_ok-judged.ensures.took;
      ran = λ trace built stands. subst (λ (saves : Bool). RanAsJudged saves (s trace) judged enforcer before after) saves_is (c.in_ok-judged.ensures.ran trace built stands);
      concluded = c.in_err-conclude.ensures;
      same = refl;
    })

pub returns-in_err-save_where_asked-clause-ran : goal.returns-in_err-save_where_asked-clause-ran
returns-in_err-save_where_asked-clause-ran g c =
    let p = err_from_is_err_and c.from_residual-in_err-save_where_asked.result c.from_residual-in_err-save_where_asked.ensures.1 in
    let judged = c.in_ok-judged.judged in
    let enforcer = c.enforce_log.new.log.enforcer in
    let entries = c.args.names.now.signature.now in
    let s = enforcer_setting entries (policy_rules_of c.args.names.now.policy.now) c.args.log.now.enforcer in
    let before = seen_of (g.G.Sink.seen c.args.gate.now) (g.R.Sink.seen c.args.report.now) in
    let after = seen_of (g.G.Sink.seen c.enforce_log.new.gate) (g.R.Sink.seen c.enforce_log.new.report) in
    let saves_is = c.is_some-saves.ensures ∙ sym (same_some c.args.save) in
    let cut = c.in_err-save_where_asked.field-0.0 in
    let saves = subst (λ (e : Enforcing). SavesWhereAsked (option_map (λ file. file.now) c.args.save) e
    c.args.sources.signature.now c.args.sources.policy.now (g.F.Files.seen c.args.files.now)
    (g.F.Files.seen c.save_where_asked.new.files) (Err cut)) c.enforcer.ensures c.in_err-save_where_asked.ensures
    in
    rw (p.1, p.2) (inr (record {
      accepted = judged.accepted;
      enforcer = enforcer;
      took = took_accepted (input_log entries c.args.log.now.enforcer.clock) judged before after c.in_ok-judged.ensures.took c.in_ok-conclude.ensures;
      ran = λ trace built stands. accepted_so (is_some (option_map (λ file. file.now) c.args.save)) (s trace) judged enforcer before after
          (subst (λ (saves : Bool). RanAsJudged saves (s trace) judged enforcer before after) saves_is (c.in_ok-judged.ensures.ran trace built stands)) c.in_ok-conclude.ensures;
      saves = saves;
    }))

pub returns-clause-ran : goal.returns-clause-ran
returns-clause-ran g c =
    let judged = c.in_ok-judged.judged in
    let enforcer = c.enforce_log.new.log.enforcer in
    let entries = c.args.names.now.signature.now in
    let s = enforcer_setting entries (policy_rules_of c.args.names.now.policy.now) c.args.log.now.enforcer in
    let before = seen_of (g.G.Sink.seen c.args.gate.now) (g.R.Sink.seen c.args.report.now) in
    let after = seen_of (g.G.Sink.seen c.enforce_log.new.gate) (g.R.Sink.seen c.enforce_log.new.report) in
    let saves_is = c.is_some-saves.ensures ∙ sym (same_some c.args.save) in
    let saves = subst (λ (e : Enforcing). SavesWhereAsked (option_map (λ file. file.now) c.args.save) e
    c.args.sources.signature.now c.args.sources.policy.now (g.F.Files.seen c.args.files.now)
    (g.F.Files.seen c.save_where_asked.new.files) (Ok tt)) c.enforcer.ensures c.in_ok-save_where_asked.ensures in
    record {
      accepted = judged.accepted;
      enforcer = enforcer;
      took = took_accepted (input_log entries c.args.log.now.enforcer.clock) judged before after c.in_ok-judged.ensures.took c.in_ok-conclude.ensures;
      ran = λ trace built stands. accepted_so (is_some (option_map (λ file. file.now) c.args.save)) (s trace) judged enforcer before after
          (subst (λ (saves : Bool). RanAsJudged saves (s trace) judged enforcer before after) saves_is (c.in_ok-judged.ensures.ran trace built stands)) c.in_ok-conclude.ensures;
      saves = saves;
    }

pub returns-in_err-judged-clause-handed : goal.returns-in_err-judged-clause-handed
returns-in_err-judged-clause-handed g c =
    let p = err_from_is_err_and c.from_residual.result c.from_residual.ensures.1 in
    rw (p.1, p.2) (handed_cut (g.G.Sink.seen c.args.gate.now) (g.G.Sink.seen c.enforce_log.new.gate) c.in_err-judged.field-0.0
    (c.in_err-judged.ensures.late) c.in_err-judged.ensures.lacks)

pub returns-in_err-conclude-clause-handed : goal.returns-in_err-conclude-clause-handed
returns-in_err-conclude-clause-handed g c =
    let log = c.in_ok-judged.ensures in
    handed_all (g.G.Sink.seen c.args.gate.now) (g.G.Sink.seen c.enforce_log.new.gate) _ log.late log.handed

pub returns-in_err-save_where_asked-clause-handed : goal.returns-in_err-save_where_asked-clause-handed
returns-in_err-save_where_asked-clause-handed g c =
    let log = c.in_ok-judged.ensures in
    handed_all (g.G.Sink.seen c.args.gate.now) (g.G.Sink.seen c.enforce_log.new.gate) _ log.late log.handed

pub returns-clause-handed : goal.returns-clause-handed
returns-clause-handed g c =
    let log = c.in_ok-judged.ensures in
    handed_all (g.G.Sink.seen c.args.gate.now) (g.G.Sink.seen c.enforce_log.new.gate) _ log.late log.handed
