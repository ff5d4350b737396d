use Rattle.enf_run.proofs.Vocabulary.{take, flat_map, rule_of, rule_line}
use Rattle.enf_run.proofs.TextLemmas.{Whole}
use Rattle.enf_run.proofs.checks.give_rules.Given as goal

abbrev pub invariant-loop-rule : goal.invariant-loop-rule
invariant-loop-rule g l =
    let seen = g.S.Sink.seen in
    Whole (flat_map (λ rule. rule_line l.signature (rule_of rule)) (take l.rule-index l.rules)) (seen l.fn.sink) (seen l.sink)
