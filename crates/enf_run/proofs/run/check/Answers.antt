use Rattle.enf_run.proofs.Vocabulary.{List, ◌∙◌, map, refl, subst, err_from_is_err_and, FileView, MOST_FILE_BYTES, typed_of, rule_of, policy_rules_of, check_text, CheckOutcome, EndsFile}
use Rattle.enf_run.proofs.Vocabulary.{HoldsPolicy, HoldsRefusedPolicy, WritesText, IsCheckForm}
use Rattle.formula_reader.specs.declared.policies.Rule.{Rule}
use Rattle.enf_run.proofs.RunLemmas.{check_done, check_ends, check_sources, policy_ends, signature_ends}
use Rattle.enf_run.proofs.HandedOnLemmas.{done_handed, handed_all, handed_cut, handed_same, lack_handed}
use Rattle.enf_run.proofs.run.check.Goals as goal

pub returns-in_err-read-clause-outcome : goal.returns-in_err-read-clause-outcome
returns-in_err-read-clause-outcome g c words report after status form =
    let p = err_from_is_err_and c.from_residual.result c.from_residual.ensures.1 in
    rw (p.1, p.2) (signature_ends _ report (CheckOutcome _) IsCheckForm (check_sources _ report)
    c.args.signature_file.now c.args.policy_file.now form refl c.in_err-read.field-0.0 refl refl
    c.in_err-read.ensures.ends status)

pub returns-in_err-accepted-clause-outcome : goal.returns-in_err-accepted-clause-outcome
returns-in_err-accepted-clause-outcome g c words report after status form =
    let p = err_from_is_err_and c.from_residual-in_err-accepted.result c.from_residual-in_err-accepted.ensures.1 in
    let entries = c.in_ok-read.read.signature in
    let name = c.args.policy_file.now in
    let ends = subst (λ (v : FileView). EndsFile MOST_FILE_BYTES (HoldsRefusedPolicy v.contents name entries) name v
    (g.F.Files.seen c.read_policy.new.files) c.in_err-accepted.field-0.0) c.in_ok-read.ensures.same
    c.in_err-accepted.ensures.ends in
    rw (p.1, p.2) (policy_ends _ report (CheckOutcome _) IsCheckForm (check_sources _ report)
    c.args.signature_file.now name form refl c.in_ok-read.read.bytes.items entries c.in_err-accepted.field-0.0
    refl refl c.in_ok-read.ensures.held ends status)

pub returns-in_err-hand_on_after-clause-outcome : goal.returns-in_err-hand_on_after-clause-outcome
returns-in_err-hand_on_after-clause-outcome g c words report after status form =
    let p = err_from_is_err_and c.from_residual-in_err-hand_on_after.result c.from_residual-in_err-hand_on_after.ensures.1 in
    let first = c.in_ok-read.ensures.same in
    let entries = c.in_ok-read.read.signature in
    let accepted = c.in_ok-accepted.accepted in
    let policy = policy_rules_of accepted.policy in
    let holds = subst (λ (v : FileView). HoldsPolicy v.contents c.args.policy_file.now c.in_ok-accepted.accepted.bytes.items entries policy) first c.in_ok-accepted.ensures.held in
    let text = subst (λ (rules : List Rule). WritesText {T = Unit {0}}
    (check_text entries (map rule_of rules) accepted.typed.ranked) c.give_check-given.result (g.G.Sink.seen c.args.gate.now)
    (g.G.Sink.seen c.give_check-given.new.sink)) c.as_slice-rules.ensures c.give_check-given.ensures in
    rw (p.1, p.2) (check_ends _ report c.args.signature_file.now c.args.policy_file.now form entries policy
    c.in_ok-read.read.bytes.items c.in_ok-accepted.accepted.bytes.items c.in_ok-read.ensures.held holds
    (typed_of accepted.typed) c.in_ok-accepted.ensures.typed (c.in_ok-accepted.ensures.same ∙ first) refl
    c.give_check-given.result (g.G.Sink.seen c.give_check-given.new.sink) text
    c.in_err-hand_on_after.field-0.0 c.in_err-hand_on_after.ensures status)

pub returns-clause-outcome : goal.returns-clause-outcome
returns-clause-outcome g c words report after status form =
    let first = c.in_ok-read.ensures.same in
    let entries = c.in_ok-read.read.signature in
    let accepted = c.in_ok-accepted.accepted in
    let policy = policy_rules_of accepted.policy in
    let holds = subst (λ (v : FileView). HoldsPolicy v.contents c.args.policy_file.now c.in_ok-accepted.accepted.bytes.items entries policy) first c.in_ok-accepted.ensures.held in
    let text = subst (λ (rules : List Rule). WritesText {T = Unit {0}}
    (check_text entries (map rule_of rules) accepted.typed.ranked) c.give_check-given.result (g.G.Sink.seen c.args.gate.now)
    (g.G.Sink.seen c.give_check-given.new.sink)) c.as_slice-rules.ensures c.give_check-given.ensures in
    check_done _ report c.args.signature_file.now c.args.policy_file.now form entries policy
    c.in_ok-read.read.bytes.items c.in_ok-accepted.accepted.bytes.items c.in_ok-read.ensures.held holds
    (typed_of accepted.typed) c.in_ok-accepted.ensures.typed (c.in_ok-accepted.ensures.same ∙ first) refl
    c.give_check-given.result (g.G.Sink.seen c.give_check-given.new.sink) text
    c.in_ok-hand_on_after.ensures status

pub returns-in_err-read-clause-handed : goal.returns-in_err-read-clause-handed
returns-in_err-read-clause-handed g c = handed_same (g.G.Sink.seen c.args.gate.now) c.from_residual.result

pub returns-in_err-accepted-clause-handed : goal.returns-in_err-accepted-clause-handed
returns-in_err-accepted-clause-handed g c = handed_same (g.G.Sink.seen c.args.gate.now) c.from_residual-in_err-accepted.result

pub returns-in_err-hand_on_after-clause-handed : goal.returns-in_err-hand_on_after-clause-handed
returns-in_err-hand_on_after-clause-handed g c =
    let p = err_from_is_err_and c.from_residual-in_err-hand_on_after.result c.from_residual-in_err-hand_on_after.ensures.1 in
    let h = c.in_err-hand_on_after.ensures in
    let cut = c.in_err-hand_on_after.field-0.0 in
    rw (p.1, p.2) (handed_cut (g.G.Sink.seen c.args.gate.now) (g.G.Sink.seen c.hand_on_after.new.gate) cut (h.late ∙ c.give_check-given.ensures.late)
    (lack_handed c.give_check-given.result cut (g.G.Sink.seen c.give_check-given.new.sink) (g.G.Sink.seen c.hand_on_after.new.gate) h))

pub returns-clause-handed : goal.returns-clause-handed
returns-clause-handed g c =
    let h = c.in_ok-hand_on_after.ensures in
    handed_all (g.G.Sink.seen c.args.gate.now) (g.G.Sink.seen c.hand_on_after.new.gate) _ (h.late ∙ c.give_check-given.ensures.late)
    (done_handed c.give_check-given.result (g.G.Sink.seen c.give_check-given.new.sink) (g.G.Sink.seen c.hand_on_after.new.gate) h)
