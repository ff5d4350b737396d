-- The pure rules of the rules of the program.
use Rattle.std.specs.Prelude.{List, map}
use Rattle.formula_reader.specs.declared.policies.Policy.{Policy}
use Rattle.formula_reader.specs.declared.policies.Rule.{Rule as StoredRule}
use Rattle.formula_reader.specs.meaning.Resolution.{Rule}
use Rattle.enf_formula.specs.machine.FormulaViews as tree
use Rattle.enf_formula.specs.meaning.Satisfaction as formulas

-- the pure rule of a rule of the program
abbrev pub rule_of : StoredRule → Rule
rule_of rule = record { name = rule.name; formula = tree.tree_of rule.formula; vars = rule.vars; place = rule.place }

-- the pure rules of a policy of the program
abbrev pub policy_rules_of : Policy → List Rule
policy_rules_of policy = map rule_of policy.rules

-- the formulas of rules of the program
abbrev pub stored_rule_formulas : List StoredRule → List formulas.Formula
stored_rule_formulas rules = map (λ rule. tree.tree_of rule.formula) rules
