use Rattle.enf_run.proofs.Vocabulary.{take, flat_map, action_line, policy_rules_of}
use Rattle.enf_run.proofs.TextLemmas.{Whole}
use Rattle.enf_run.proofs.step_lines.write_actions.Given as goal

abbrev pub invariant-loop-action : goal.invariant-loop-action
invariant-loop-action g l =
    let seen = g.R.Sink.seen in
    Whole (flat_map (action_line l.names.signature.now (policy_rules_of l.names.policy.now)) (take l.action-index l.actions)) (seen l.fn.report) (seen l.report)
