use Rattle.enf_run.proofs.Vocabulary.{◌∙◌, List, ℕ, refl, subst, sym, err_from_is_err_and, option_map, FileView, MOST_FILE_BYTES, policy_rules_of, devices_of, EndsFile, HoldsPolicy}
use Rattle.enf_run.proofs.Vocabulary.{HoldsRefusedPolicy, HoldsSignature, EnforceOutcome, Concludes, SpellsSignature, NamesEnforce, states_of}
use Rattle.enf_run.proofs.RunLemmas.{enforce_sources, policy_ends, signature_ends}
use Rattle.enf_run.proofs.HandedOnLemmas.{handed_same}
use Rattle.enf_run.proofs.run.enforce.Goals as goal

pub enforce_accepted-requires-clause-spells : goal.enforce_accepted-requires-clause-spells
enforce_accepted-requires-clause-spells g c =
    subst (λ (bytes : List ℕ). SpellsSignature bytes c.in_ok-read.read.signature) (sym c.as_slice-signature.ensures.value) c.in_ok-read.ensures.held.is_signature

pub returns-in_err-read-clause-outcome : goal.returns-in_err-read-clause-outcome
returns-in_err-read-clause-outcome g c words after status form =
    let p = err_from_is_err_and c.from_residual.result c.from_residual.ensures.1 in
    let states = states_of (option_map (λ file. file.now) c.args.states.resume) (option_map (λ file. file.now) c.args.states.save) in
    rw (p.1, p.2) (signature_ends _ (g.R.Sink.seen c.args.report.now) (EnforceOutcome _) NamesEnforce
    (enforce_sources _ (g.R.Sink.seen c.args.report.now)) c.args.signature_file.now c.args.policy_file.now
    (states, form) refl c.in_err-read.field-0.0 refl refl c.in_err-read.ensures.ends status)

pub returns-in_err-accepted-clause-outcome : goal.returns-in_err-accepted-clause-outcome
returns-in_err-accepted-clause-outcome g c words after status form =
    let p = err_from_is_err_and c.from_residual-in_err-accepted.result c.from_residual-in_err-accepted.ensures.1 in
    let states = states_of (option_map (λ file. file.now) c.args.states.resume) (option_map (λ file. file.now) c.args.states.save) in
    let entries = c.in_ok-read.read.signature in
    let name = c.args.policy_file.now in
    let ends = subst (λ (v : FileView). EndsFile MOST_FILE_BYTES (HoldsRefusedPolicy v.contents name entries) name v
    (g.F.Files.seen c.read_policy_with_seed.new.files) c.in_err-accepted.field-0.0) c.in_ok-read.ensures.same
    c.in_err-accepted.ensures.ends in
    rw (p.1, p.2) (policy_ends _ (g.R.Sink.seen c.args.report.now) (EnforceOutcome _) NamesEnforce
    (enforce_sources _ (g.R.Sink.seen c.args.report.now)) c.args.signature_file.now name (states, form) refl
    c.in_ok-read.read.bytes.items entries c.in_err-accepted.field-0.0 refl refl c.in_ok-read.ensures.held ends
    status)

pub returns-clause-outcome : goal.returns-clause-outcome
returns-clause-outcome g c words after status form =
    let entries = c.in_ok-read.read.signature in
    let rules = policy_rules_of c.in_ok-accepted.accepted.policy in
    let signature_file = c.args.signature_file.now in
    let policy_file = c.args.policy_file.now in
    let first = c.in_ok-read.ensures.same in
    let same = c.in_ok-accepted.ensures.same in
    let now = g.F.Files.seen c.read_policy_with_seed.new.files in
    let held = subst (λ (v : FileView). HoldsSignature v.contents signature_file c.in_ok-read.read.bytes.items entries) (sym (same ∙ first)) c.in_ok-read.ensures.held in
    let holds_signature = subst (λ (bytes : List ℕ). HoldsSignature now.contents signature_file bytes entries) (sym c.as_slice-signature.ensures.value) held in
    let accepted = subst (λ (v : FileView). HoldsPolicy v.contents policy_file c.in_ok-accepted.accepted.bytes.items entries rules) (sym same) c.in_ok-accepted.ensures.held in
    let holds_policy = subst (λ (bytes : List ℕ). HoldsPolicy now.contents policy_file bytes entries rules) (sym c.as_slice-policy.ensures.value) accepted in
    subst (λ (v : FileView). Concludes c.enforce_accepted.result (g.R.Sink.seen c.enforce_accepted.new.report) after status → EnforceOutcome (record {
      words = words;
      before = devices_of c.args.gate.now (g.G.Sink.seen c.args.gate.now) v (g.R.Sink.seen c.args.report.now);
      after = devices_of c.enforce_accepted.new.gate (g.G.Sink.seen c.enforce_accepted.new.gate) (g.F.Files.seen c.enforce_accepted.new.files) after;
    }) status) (same ∙ first)
    (c.enforce_accepted.ensures.outcome words signature_file policy_file after status form holds_signature holds_policy)

pub returns-in_err-read-clause-handed : goal.returns-in_err-read-clause-handed
returns-in_err-read-clause-handed g c = handed_same (g.G.Sink.seen c.args.gate.now) c.from_residual.result

pub returns-in_err-accepted-clause-handed : goal.returns-in_err-accepted-clause-handed
returns-in_err-accepted-clause-handed g c = handed_same (g.G.Sink.seen c.args.gate.now) c.from_residual-in_err-accepted.result
