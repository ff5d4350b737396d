-- The rule with the name is the first that is found.
use Rattle.action_report.proofs.Vocabulary.{◌≡◌, ◌<◌, ◌^◌, ℕ, Some, rules, ap, subst, sym, ◌∙◌, position, bytes_eq}
use Rattle.formula_reader.specs.declared.policies.Rule.{Rule as StoredRule}
use Rattle.action_report.proofs.NumberLemmas.{place_named}
use Rattle.action_report.proofs.reading.rule_named.Goals as goal

pub returns-in_err-number-clause-again : goal.returns-in_err-number-clause-again
returns-in_err-number-clause-again c = λ number rule small is same.
    let found = c.place_named.ensures.place ∙ ap (position (λ (other : StoredRule). bytes_eq other.name c.args.name.now)) c.as_slice.ensures ∙ place_named c.args.policy.now.rules
    number rule c.args.name.now is same in
    absurd (cc (found, c.in_err-number.was))

pub returns-clause-again : goal.returns-clause-again
returns-clause-again c = λ number rule small is same.
    let found = c.place_named.ensures.place ∙ ap (position (λ (other : StoredRule). bytes_eq other.name c.args.name.now)) c.as_slice.ensures ∙ place_named c.args.policy.now.rules
    number rule c.args.name.now is same in
    let here : c.in_ok-number.number ≡ number = cc (found, c.in_ok-number.was) in
    let fits : c.in_ok-number.number < 2 ^ 32 = subst (λ (n : ℕ). n < 2 ^ 32) (sym here) small in
    let read : c.ok.result ≡ Some c.in_ok-number.number = search rules in
    read ∙ ap Some here
