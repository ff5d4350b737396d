use Rattle.enf_run.proofs.Vocabulary.{List, ℕ, ap, subst, sym, Option, Bor, err_from_is_err_and, option_map, typed_of, BeginsLog, typed_bounds}
use Rattle.enf_run.proofs.StartLemmas.{begins_again, begins_anew, start_refused, taken_up}
use Rattle.enf_run.proofs.run.begin_log.Goals as goal

pub read_state-requires-clause-spells : goal.read_state-requires-clause-spells
read_state-requires-clause-spells g c = (c.args.signature.now, c.requires.spells)

pub resumed-requires-clause-bounds : goal.resumed-requires-clause-bounds
resumed-requires-clause-bounds g c =
    let held = c.in_ok-state.ensures.held c.args.signature.now c.requires.spells in
    taken_up c.args.signature.now c.args.typed c.in_ok-state.state held.1.keeps

pub resumed-requires-clause-small : goal.resumed-requires-clause-small
resumed-requires-clause-small g c = (c.in_ok-state.ensures.held c.args.signature.now c.requires.spells).1.keeps.small

pub returns-in_default-clause-begun : goal.returns-in_default-clause-begun
returns-in_default-clause-begun g c rules planned =
    let named = ap (option_map (λ (file : Bor (List ℕ)). file.now)) c.in_default.is in
    let log = c.in_ok-new.ensures in
    subst (λ (resumed : Option (List ℕ)). BeginsLog resumed (g.F.Files.seen c.args.files.now).contents
    c.args.signature.now rules c.args.sources.signature.now c.args.sources.policy.now c.args.typed
    c.in_ok-new.field-0) (sym named)
    (begins_anew (g.F.Files.seen c.args.files.now).contents c.args.signature.now rules c.args.sources.signature.now
    c.args.sources.policy.now c.args.typed c.in_ok-new.field-0 log.new log.enforcer log.together log.stands)

pub returns-in_err-state-clause-ends : goal.returns-in_err-state-clause-ends
returns-in_err-state-clause-ends g c =
    let p = err_from_is_err_and c.from_residual-in_err-state.result c.from_residual-in_err-state.ensures.1 in
    let named = ap (option_map (λ (file : Bor (List ℕ)). file.now)) c.in-Some.is in
    let file = c.in-Some.file.now in
    let signature = c.args.sources.signature.now in
    let policy = c.args.sources.policy.now in
    let bounds = typed_bounds c.args.signature.now (typed_of c.args.typed) in
    let before = g.F.Files.seen c.args.files.now in
    let after = g.F.Files.seen c.read_state.new.files in
    let refused = start_refused file signature policy bounds before after c.in_err-state.field-0.0 (c.in_err-state.ensures.ends c.args.signature.now c.requires.spells) in
    rw (p.1, p.2) (rw named refused)

pub returns-clause-begun : goal.returns-clause-begun
returns-clause-begun g c rules planned =
    let named = ap (option_map (λ (file : Bor (List ℕ)). file.now)) c.in-Some.is in
    let file = c.in-Some.file.now in
    let entries = c.args.signature.now in
    let signature = c.args.sources.signature.now in
    let policy = c.args.sources.policy.now in
    let typed = c.args.typed in
    let told = (g.F.Files.seen c.args.files.now).contents in
    let held = c.in_ok-state.ensures.held entries c.requires.spells in
    let log = c.in_ok-resumed.ensures in
    subst (λ (resumed : Option (List ℕ)). BeginsLog resumed told entries rules signature policy typed c.in_ok-resumed.field-0) (sym named)
    (begins_again entries rules typed planned c.plans-plans.ensures.formed told file held.0 signature policy c.in_ok-state.state held.1
    c.policy_has_one_answer.ensures.plans c.one_state.ensures c.pending_can_be.ensures c.pending_is_one.ensures.pending c.in_ok-resumed.field-0 log.new log.enforcer log.together log.stands)
