use Rattle.std.proofs.Common.{Option, Some, subst}
use Rattle.formula_reader.specs.machine.StoredRules.{stored_rule_formulas}
use Rattle.slices.specs.declared.hindrances.Hindrance.{Hindrance}
use Rattle.slices.specs.machine.FirstHindrances.{IsFirstAnswer, IsPolicyInTheWay}
use Rattle.slices.specs.machine.StoredKeys.{keying_of}
use Rattle.slices.proofs.PolicyHindrances.{policy_clear, policy_refuted}
use Rattle.slices.proofs.policies.is_sliced.Goals as goal

pub returns-in-None-clause-ok : goal.returns-in-None-clause-ok
returns-in-None-clause-ok c =
    let keying = keying_of c.args.keys.now in
    let policy = stored_rule_formulas c.args.rules.now in
    policy_clear keying policy
    (subst (λ (answer : Option Hindrance). IsFirstAnswer (IsPolicyInTheWay keying policy) answer) c.in-None.is c.policy_hindrance.ensures)

pub returns-in-Some-clause-refused : goal.returns-in-Some-clause-refused
returns-in-Some-clause-refused c =
    let keying = keying_of c.args.keys.now in
    let policy = stored_rule_formulas c.args.rules.now in
    let first : IsFirstAnswer (IsPolicyInTheWay keying policy) (Some c.in-Some.hindrance) =
    subst (λ (answer : Option Hindrance). IsFirstAnswer (IsPolicyInTheWay keying policy) answer) c.in-Some.is c.policy_hindrance.ensures in
    policy_refuted keying policy c.in-Some.hindrance first.is_one
