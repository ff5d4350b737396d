use Rattle.std.proofs.Common.{List, [], ◌∷◌, ◌++◌, sym, subst, take, take_all}
use Rattle.enf_data.proofs.Lists.{none_in_nil}
use Rattle.enf_formula.specs.machine.FormulaViews.{tree_of}
use Rattle.enf_formula.specs.meaning.Satisfaction.{Formula}
use Rattle.formula_reader.specs.declared.policies.Rule.{Rule as StoredRule}
use Rattle.formula_reader.specs.machine.StoredRules.{stored_rule_formulas}
use Rattle.slices.specs.machine.FirstHindrances.{IsFirstAnswer, IsPolicyInTheWay}
use Rattle.slices.specs.machine.StoredKeys.{keying_of}
use Rattle.slices.proofs.PolicyHindrances.{formulas_more, rules_first}
use Rattle.slices.proofs.policies.policy_hindrance.Goals as goal

pub loop-rule-init : goal.loop-rule-init
loop-rule-init c = λ h is. none_in_nil is.0 is.1

pub loop-rule-preserved : goal.loop-rule-preserved
loop-rule-preserved c =
    let keying = keying_of c.args.keys.now in
    let front = stored_rule_formulas (take c.loop-rule.rule-index c.args.rules.now) in
    let rule = tree_of c.rule-item.result.formula in
    subst (λ (formulas : List Formula). IsFirstAnswer (IsPolicyInTheWay keying formulas) c.earlier-first.result)
    (sym (formulas_more c.args.rules.now c.loop-rule.rule-index c.rule-item.result c.loop-rule-test.true c.rule-item.is))
    (subst (IsFirstAnswer (IsPolicyInTheWay keying (front ++ rule ∷ []))) (sym c.earlier-first.ensures)
    (rules_first keying front rule c.loop-rule.first c.rule_hindrance.result c.loop-rule.invariant c.rule_hindrance.ensures.first))

pub returns : goal.returns
returns c =
    subst (λ (rules : List StoredRule). IsFirstAnswer (IsPolicyInTheWay (keying_of c.args.keys.now) (stored_rule_formulas rules)) c.loop-rule.first)
    (take_all c.loop-rule.rule-index c.args.rules.now c.loop-rule-test.false) c.loop-rule.invariant
