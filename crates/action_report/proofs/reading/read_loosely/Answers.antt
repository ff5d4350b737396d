-- The parts of a line, one after the other.
use Rattle.action_report.proofs.Vocabulary.{◌≡◌, ◌++◌, ℕ, Option, Some, codes, map, slice_get, sym, ap, subst, ◌∙◌, arith, option_map, slice_get-map, bindings, entry_names as names_of, spelled_event}
use Rattle.action_report.proofs.Vocabulary.{Rule, rule_of, policy_rules_of, plan_of, bindings_text, cause_text, rule_variable_names, when_text, cause_of_action, StandIn}
use Rattle.action_report.specs.declared.reading.Cause.{Cause}
use Rattle.action_report.proofs.NumberLemmas.{no_digit_behind, rule_at}
use Rattle.action_report.proofs.OneAction.{line_parts, same_action}
use Rattle.action_report.proofs.ReadLemmas.{there}
use Rattle.action_report.proofs.reading.read_loosely.Goals as goal

pub returns-in_default-cause-clause-again : goal.returns-in_default-cause-clause-again
returns-in_default-cause-clause-again c = λ action bits r.
    let p = r.told in
    let entries = c.args.signature.now in
    let all = policy_rules_of c.args.policy.now in
    let rule = rule_at entries all action.rule p.rule c.requires.policy p.of_rule in
    let end = bindings_text p.rule.vars (bindings action.valuation) ++ codes "\n" in
    let causing = cause_text p.rule.name action ++ end in
    let line = r.line_is ∙ line_parts entries all p.rule action p.of_rule in
    let kind = c.kind.ensures action.kind (spelled_event (names_of entries) action.event ++ (when_text action ++ causing)) line in
    let event = c.in_ok-event.ensures.again action.event (when_text action ++ causing) p.event kind.1 in
    let time = c.when.ensures action causing bits (λ low high. omega arith) event.1 in
    let cause = c.cause.ensures.again action p.rule end bits rule (no_digit_behind p.rule.vars (bindings action.valuation)) time.1 in
    absurd (c.in_default-cause.not-Some _ cause.0)

pub returns-in_default-3-clause-again : goal.returns-in_default-3-clause-again
returns-in_default-3-clause-again c = λ action bits r.
    let p = r.told in
    let entries = c.args.signature.now in
    let all = policy_rules_of c.args.policy.now in
    let rule = rule_at entries all action.rule p.rule c.requires.policy p.of_rule in
    let end = bindings_text p.rule.vars (bindings action.valuation) ++ codes "\n" in
    let causing = cause_text p.rule.name action ++ end in
    let line = r.line_is ∙ line_parts entries all p.rule action p.of_rule in
    let kind = c.kind.ensures action.kind (spelled_event (names_of entries) action.event ++ (when_text action ++ causing)) line in
    let event = c.in_ok-event.ensures.again action.event (when_text action ++ causing) p.event kind.1 in
    let time = c.when.ensures action causing bits (λ low high. omega arith) event.1 in
    let cause = c.cause.ensures.again action p.rule end bits rule (no_digit_behind p.rule.vars (bindings action.valuation)) time.1 in
    let same : c.in-Some-cause.cause ≡ cause_of_action action = cc (cause.0, c.in-Some-cause.is) in
    let text = cause.1 ∙ ap (λ (o : Option Rule). bindings_text (rule_variable_names o) (bindings action.valuation) ++ codes "\n") (sym p.of_rule)
    ∙ ap (λ (k : Cause). bindings_text (rule_variable_names (slice_get all k.rule)) (bindings action.valuation) ++ codes "\n") (sym same) in
    let values = c.in_ok-valuation.ensures.again p.scope action.valuation (codes "\n")
    (subst (λ (k : Cause). StandIn (map plan_of c.args.plans.now) k.rule k.node k.leaf p.scope) (sym same) p.nodes) p.binds (λ low high. omega arith) text in
    absurd (c.in_default-3.not-Some _ values)

pub returns-clause-told : goal.returns-clause-told
returns-clause-told c =
    let rule = there c.args.policy.now.rules c.in-Some-cause.cause.rule (rw c.in-Some-cause.is at c.cause.ensures.within) in
    let told = rw c.in-Some-3.is at c.in_ok-valuation.ensures.told in
    record {
      event = rw c.in-Some-2.is at c.in_ok-event.ensures.fits;
      rule = rule_of rule.0;
      of_rule = slice_get-map rule_of c.args.policy.now.rules c.in-Some-cause.cause.rule ∙ ap (option_map rule_of) rule.1;
      scope = told.0;
      nodes = told.1;
      binds = told.2;
    }

pub returns-clause-again : goal.returns-clause-again
returns-clause-again c = λ action bits r.
    let p = r.told in
    let entries = c.args.signature.now in
    let all = policy_rules_of c.args.policy.now in
    let rule = rule_at entries all action.rule p.rule c.requires.policy p.of_rule in
    let end = bindings_text p.rule.vars (bindings action.valuation) ++ codes "\n" in
    let causing = cause_text p.rule.name action ++ end in
    let line = r.line_is ∙ line_parts entries all p.rule action p.of_rule in
    let kind = c.kind.ensures action.kind (spelled_event (names_of entries) action.event ++ (when_text action ++ causing)) line in
    let event = c.in_ok-event.ensures.again action.event (when_text action ++ causing) p.event kind.1 in
    let time = c.when.ensures action causing bits (λ low high. omega arith) event.1 in
    let cause = c.cause.ensures.again action p.rule end bits rule (no_digit_behind p.rule.vars (bindings action.valuation)) time.1 in
    let same : c.in-Some-cause.cause ≡ cause_of_action action = cc (cause.0, c.in-Some-cause.is) in
    let text = cause.1 ∙ ap (λ (o : Option Rule). bindings_text (rule_variable_names o) (bindings action.valuation) ++ codes "\n") (sym p.of_rule)
    ∙ ap (λ (k : Cause). bindings_text (rule_variable_names (slice_get all k.rule)) (bindings action.valuation) ++ codes "\n") (sym same) in
    let values = c.in_ok-valuation.ensures.again p.scope action.valuation (codes "\n")
    (subst (λ (k : Cause). StandIn (map plan_of c.args.plans.now) k.rule k.node k.leaf p.scope) (sym same) p.nodes) p.binds (λ low high. omega arith) text in
    let pair : (c.in-Some-when.time, c.in-Some-when.position) ≡ (action.time, action.position) = cc (time.0, c.in-Some-when.is) in
    ap Some (same_action (record {
      kind = c.in-Some.kind;
      event = c.in-Some-2.event;
      time = c.in-Some-when.time;
      position = c.in-Some-when.position;
      rule = c.in-Some-cause.cause.rule;
      node
          = c.in-Some-cause.cause.node;
      leaf = c.in-Some-cause.cause.leaf;
      origin = c.in-Some-cause.cause.origin;
      valuation = c.in-Some-3.valuation;
    }) action
    (cc (kind.0, c.in-Some.is)) (cc (event.0, c.in-Some-2.is)) (ap (λ (x : ℕ × ℕ). x.0) pair) (ap (λ (x : ℕ × ℕ). x.1) pair)
    (ap (λ (k : Cause). k.rule) same) (ap (λ (k : Cause). k.node) same) (ap (λ (k : Cause). k.leaf) same) (ap (λ (k : Cause). k.origin) same) (cc (values, c.in-Some-3.is)))
