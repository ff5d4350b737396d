use Rattle.enf_run.proofs.Vocabulary.{Err, Ok, map, refl, subst, sym, err_from_is_err_and, option_map, FileView, is_causable, is_suppressible, StoredTyped, typed_of, Permits, policy_rules_of, plan_of}
use Rattle.enf_run.proofs.Vocabulary.{RunsLogSo, seen_of, IsBounds, typed_bounds, states_of}
use Rattle.enf_run.proofs.RunLemmas.{run_done, run_ends, start_ends}
use Rattle.enf_run.proofs.HandedOnLemmas.{handed_again, handed_same, handed_so}
use Rattle.enf_run.proofs.run.enforce_accepted.Goals as goal

pub begin_log-requires-clause-short : goal.begin_log-requires-clause-short
begin_log-requires-clause-short g c = c.requires.spells.short

pub begin_log-requires-clause-spells : goal.begin_log-requires-clause-spells
begin_log-requires-clause-spells g c = c.requires.spells.answer

pub run_log-requires-clause-new : goal.run_log-requires-clause-new
run_log-requires-clause-new g c = (c.in_ok-log.ensures.begun (policy_rules_of c.args.names.now.policy.now) c.requires.typed.planned).new

pub run_log-requires-clause-permits : goal.run_log-requires-clause-permits
run_log-requires-clause-permits g c =
    let kept = c.requires.kept in
    let entries = c.args.names.now.signature.now in
    let begins = c.in_ok-log.ensures.begun (policy_rules_of c.args.names.now.policy.now) c.requires.typed.planned in
    subst (λ (stored : StoredTyped). Permits (is_causable entries) (is_suppressible entries) (map plan_of stored.plans)) (sym begins.policy_is)
    (record { caused = kept.caused; suppressed = kept.suppressed })

pub run_log-requires-clause-together : goal.run_log-requires-clause-together
run_log-requires-clause-together g c = (c.in_ok-log.ensures.begun (policy_rules_of c.args.names.now.policy.now) c.requires.typed.planned).together

pub returns-in_err-log-clause-outcome : goal.returns-in_err-log-clause-outcome
returns-in_err-log-clause-outcome g c words signature_file policy_file after status form holds_signature holds_policy =
    let p = err_from_is_err_and c.from_residual.result c.from_residual.ensures.1 in
    let states = states_of (option_map (λ file. file.now) c.args.states.resume) (option_map (λ file. file.now) c.args.states.save) in
    let entries = c.args.names.now.signature.now in
    let rules = policy_rules_of c.args.names.now.policy.now in
    let signature = c.args.sources.signature.now in
    let policy = c.args.sources.policy.now in
    let typed = typed_of c.args.typed in
    let bounds = typed_bounds entries typed in
    let are_bounds : IsBounds entries rules bounds = record { plans = typed.plans; guards = typed.guards; planned = c.requires.typed.planned; bounds_are = refl } in
    rw (p.1, p.2) (start_ends _ (g.R.Sink.seen c.args.report.now) states signature_file policy_file form entries rules signature policy holds_signature holds_policy
    bounds are_bounds refl refl refl c.in_err-log.field-0.0 c.in_err-log.ensures.ends status)

pub returns-in_err-run_log-clause-outcome : goal.returns-in_err-run_log-clause-outcome
returns-in_err-run_log-clause-outcome g c words signature_file policy_file after status form holds_signature holds_policy =
    let p = err_from_is_err_and c.from_residual-in_err-run_log.result c.from_residual-in_err-run_log.ensures.1 in
    let states = states_of (option_map (λ file. file.now) c.args.states.resume) (option_map (λ file. file.now) c.args.states.save) in
    let entries = c.args.names.now.signature.now in
    let rules = policy_rules_of c.args.names.now.policy.now in
    let signature = c.args.sources.signature.now in
    let policy = c.args.sources.policy.now in
    let log = c.in_ok-log.log in
    let before = seen_of (g.G.Sink.seen c.args.gate.now) (g.R.Sink.seen c.args.report.now) in
    let behind = seen_of (g.G.Sink.seen c.run_log.new.gate) (g.R.Sink.seen c.run_log.new.report) in
    let ending = c.in_err-run_log.field-0.0 in
    let planned = c.requires.typed.planned in
    let ran = subst (λ (v : FileView). RunsLogSo states.saved signature policy entries rules log.enforcer v
    (g.F.Files.seen c.run_log.new.files) before behind (Err ending)) c.in_ok-log.ensures.same
    c.in_err-run_log.ensures.ran in
    rw (p.1, p.2) (run_ends _ (g.R.Sink.seen c.run_log.new.report) states signature_file policy_file form entries rules signature policy holds_signature holds_policy
    c.kept_can_be_taken_up.ensures c.policy_has_one_answer.ensures.plans c.pending_is_one.ensures.pending c.args.typed log planned (c.in_ok-log.ensures.begun rules planned) ending ran status)

pub returns-clause-outcome : goal.returns-clause-outcome
returns-clause-outcome g c words signature_file policy_file after status form holds_signature holds_policy =
    let states = states_of (option_map (λ file. file.now) c.args.states.resume) (option_map (λ file. file.now) c.args.states.save) in
    let entries = c.args.names.now.signature.now in
    let rules = policy_rules_of c.args.names.now.policy.now in
    let signature = c.args.sources.signature.now in
    let policy = c.args.sources.policy.now in
    let log = c.in_ok-log.log in
    let before = seen_of (g.G.Sink.seen c.args.gate.now) (g.R.Sink.seen c.args.report.now) in
    let behind = seen_of (g.G.Sink.seen c.run_log.new.gate) (g.R.Sink.seen c.run_log.new.report) in
    let planned = c.requires.typed.planned in
    let ran = subst (λ (v : FileView). RunsLogSo states.saved signature policy entries rules log.enforcer v
    (g.F.Files.seen c.run_log.new.files) before behind (Ok tt)) c.in_ok-log.ensures.same c.in_ok-run_log.ensures.ran
    in
    run_done _ (g.R.Sink.seen c.run_log.new.report) states signature_file policy_file form entries rules signature policy holds_signature holds_policy
    c.kept_can_be_taken_up.ensures c.policy_has_one_answer.ensures.plans c.pending_is_one.ensures.pending c.args.typed log planned (c.in_ok-log.ensures.begun rules planned) ran status

pub returns-in_err-log-clause-handed : goal.returns-in_err-log-clause-handed
returns-in_err-log-clause-handed g c = handed_same (g.G.Sink.seen c.args.gate.now) c.from_residual.result

pub returns-in_err-run_log-clause-handed : goal.returns-in_err-run_log-clause-handed
returns-in_err-run_log-clause-handed g c =
    let p = err_from_is_err_and c.from_residual-in_err-run_log.result c.from_residual-in_err-run_log.ensures.1 in
    rw (p.1, p.2) (handed_again (g.G.Sink.seen c.args.gate.now) (g.G.Sink.seen c.run_log.new.gate) c.in_err-run_log.field-0.0 c.in_err-run_log.ensures.handed)

pub returns-clause-handed : goal.returns-clause-handed
returns-clause-handed g c = handed_so (g.G.Sink.seen c.args.gate.now) (g.G.Sink.seen c.run_log.new.gate) tt _ c.in_ok-run_log.ensures.handed
