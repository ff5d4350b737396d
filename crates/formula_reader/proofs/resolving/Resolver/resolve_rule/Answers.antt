use Rattle.formula_reader.proofs.Vocabulary.{rules, ◌≡◌, ◌≢◌, Some, policy_rule_of as syntax_rule_of, rule_refusal, NoMemory as OutOfMemory}
use Rattle.formula_reader.proofs.PassedRules.{rule_passes, rule_refuses}
use Rattle.formula_reader.proofs.resolving.Resolver.resolve_rule.Goals as goal

pub returns-in_err-formula-clause-err : goal.returns-in_err-formula-clause-err
returns-in_err-formula-clause-err c =
    let h : c.in_err-formula.field-0.0 ≢ OutOfMemory → rule_refusal c.args.self.now.signature.now (syntax_rule_of c.args.rule.now) ≡ Some c.in_err-formula.field-0.0 =
    rule_refuses c.args.self.now.signature.now (syntax_rule_of c.args.rule.now) c.new-variables.result c.in_err-formula.field-0.0 c.new-variables.ensures (c.in_err-formula.ensures).err in
    search (rules, h)

pub returns-clause-ok : goal.returns-clause-ok
returns-clause-ok c =
    rule_passes c.args.self.now.signature.now (syntax_rule_of c.args.rule.now) c.new-variables.result c.resolve_formula.new.variables c.new-variables.ensures (c.in_ok-formula.ensures).ok
