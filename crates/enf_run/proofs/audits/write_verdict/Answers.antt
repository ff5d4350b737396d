use Rattle.enf_run.proofs.Vocabulary.{List, ℕ, ◌++◌, ◌∙◌, ap, codes, decimal, sym, subst, rule_name, policy_rules_of, verdict_line, WritesText}
use Rattle.std.proofs.Common.{slice_get}
use Rattle.enf_run.proofs.PieceLemmas.{five_pieces}
use Rattle.enf_run.proofs.audits.write_verdict.Goals as goal

pub returns-in-Fails : goal.returns-in-Fails
returns-in-Fails g c =
    let name = rule_name (slice_get (policy_rules_of c.args.policy.now) c.in-Fails.rule) in
    let place = c.as_bytes-at.ensures.value ∙ c.format.ensures.text in
    let text = ap (λ (xs : List ℕ). codes "violated " ++ (xs ++ (codes " at position " ++ (c.as_bytes-at.result.now ++ codes "\n")))) c.rule_name-name.ensures
    ∙ ap (λ (xs : List ℕ). codes "violated " ++ (name ++ (codes " at position " ++ (xs ++ codes "\n")))) place
    ∙ five_pieces (codes "violated ") name (codes " at position ") (decimal c.in-Fails.position) (codes "\n")
    ∙ sym (ap (verdict_line (policy_rules_of c.args.policy.now)) c.in-Fails.is) in
    subst (λ (t : List ℕ). WritesText t c.write_pieces-in-Fails.result (g.S.Sink.seen c.args.sink.now) (g.S.Sink.seen c.write_pieces-in-Fails.new.report)) text c.write_pieces-in-Fails.ensures
