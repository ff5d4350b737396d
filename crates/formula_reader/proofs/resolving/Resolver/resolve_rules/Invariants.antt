use Rattle.formula_reader.proofs.Vocabulary.{◌≡◌, ◌++◌, drop, map, option_map, policy_rule_of as syntax_rule_of, rule_of, rules_in, policy_refusal}
use Rattle.formula_reader.proofs.resolving.Resolver.resolve_rules.Given as goal

abbrev pub invariant-loop-rule : goal.invariant-loop-rule
invariant-loop-rule l = record {
  resolved : rules_in l.self.signature.now (map syntax_rule_of l.rules)
      ≡ option_map (λ rest. map rule_of l.resolved.items ++ rest) (rules_in l.self.signature.now (map syntax_rule_of (drop l.rule-index l.rules)));
  refusal : policy_refusal l.self.signature.now (map syntax_rule_of l.rules)
      ≡ policy_refusal l.self.signature.now (map syntax_rule_of (drop l.rule-index l.rules));
}
