use Rattle.choice_step.proofs.Vocabulary.{◌≤◌, All, take, Woken}
use Rattle.choice_step.proofs.woken_rules.least_woken.Given as goal

abbrev pub invariant-loop-entry : goal.invariant-loop-entry
invariant-loop-entry l =
    (l.from ≤ l.least) × (l.least ≤ l.last) × All (λ (entry : Woken). l.from ≤ entry.rule → l.least ≤ entry.rule) (take l.entry-index l.woken)
