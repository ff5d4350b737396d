use Rattle.enf_run.proofs.Vocabulary.{List, ℕ, ◌∙◌, ap, subst, sym, flat_map, take_all, flat_map-map, err_from_is_err_and, rule_of, rule_line}
use Rattle.formula_reader.specs.declared.policies.Rule.{Rule}
use Rattle.enf_run.proofs.TextLemmas.{Broken, Whole, piece_cut, piece_whole, whole_none}
use Rattle.enf_run.proofs.checks.give_rules.Goals as goal

pub loop-rule-init : goal.loop-rule-init
loop-rule-init g c = whole_none (g.S.Sink.seen c.args.sink.now)

pub loop-rule-preserved : goal.loop-rule-preserved
loop-rule-preserved g c =
    let seen = g.S.Sink.seen in
    let line = λ (rule : Rule). rule_line c.args.signature.now (rule_of rule) in
    let one = subst (λ (rule : Rule). Whole (line rule) (seen c.loop-rule.sink) (seen c.give_rule.new.sink)) c.rule-item.is c.in_ok-give_rule.ensures in
    piece_whole line c.args.rules.now c.loop-rule.rule-index c.rule-item.result c.loop-rule-test.true
    (seen c.args.sink.now) (seen c.loop-rule.sink) (seen c.give_rule.new.sink) c.loop-rule.invariant one

pub returns-in_err-give_rule : goal.returns-in_err-give_rule
returns-in_err-give_rule g c =
    let p = err_from_is_err_and c.from_residual.result c.from_residual.ensures.1 in
    let seen = g.S.Sink.seen in
    let cut = c.in_err-give_rule.field-0.0 in
    let line = λ (rule : Rule). rule_line c.args.signature.now (rule_of rule) in
    let one = subst (λ (rule : Rule). Broken (line rule) cut (seen c.loop-rule.sink) (seen c.give_rule.new.sink)) c.rule-item.is c.in_err-give_rule.ensures in
    let all = piece_cut line c.args.rules.now c.loop-rule.rule-index c.rule-item.result c.loop-rule-test.true
    (seen c.args.sink.now) (seen c.loop-rule.sink) (seen c.give_rule.new.sink) c.loop-rule.invariant cut one in
    rw (p.1, p.2) (subst (λ (t : List ℕ). Broken t cut (seen c.args.sink.now) (seen c.give_rule.new.sink)) (sym (flat_map-map (rule_line c.args.signature.now) rule_of c.args.rules.now)) all)

pub returns : goal.returns
returns g c =
    let seen = g.S.Sink.seen in
    let line = λ (rule : Rule). rule_line c.args.signature.now (rule_of rule) in
    let all = ap (flat_map line) (take_all c.loop-rule.rule-index c.args.rules.now c.loop-rule-test.false) ∙ sym (flat_map-map (rule_line c.args.signature.now) rule_of c.args.rules.now) in
    subst (λ (t : List ℕ). Whole t (seen c.args.sink.now) (seen c.loop-rule.sink)) all c.loop-rule.invariant
