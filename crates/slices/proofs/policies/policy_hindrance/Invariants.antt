use Rattle.std.proofs.Common.{take}
use Rattle.formula_reader.specs.machine.StoredRules.{stored_rule_formulas}
use Rattle.slices.specs.machine.FirstHindrances.{IsFirstAnswer, IsPolicyInTheWay}
use Rattle.slices.specs.machine.StoredKeys.{keying_of}
use Rattle.slices.proofs.policies.policy_hindrance.Given as goal

abbrev pub invariant-loop-rule : goal.invariant-loop-rule
invariant-loop-rule l =
    IsFirstAnswer (IsPolicyInTheWay (keying_of l.keys) (stored_rule_formulas (take l.rule-index l.rules))) l.first
