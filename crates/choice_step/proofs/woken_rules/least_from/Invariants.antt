use Rattle.choice_step.proofs.Vocabulary.{◌≡◌, ◌≤◌, ◌⊎◌, All, Contains, take}
use Rattle.choice_step.proofs.woken_rules.least_from.Given as goal

abbrev pub invariant-loop-rule : goal.invariant-loop-rule
invariant-loop-rule l = (l.from ≤ l.least) × (l.least ≤ l.last) × All (λ rule. l.from ≤ rule → l.least ≤ rule) (take l.rule-index l.rules)
    × ((l.least ≡ l.last) ⊎ Contains l.rules l.least)
