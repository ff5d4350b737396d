use Rattle.choice_step.proofs.Vocabulary.{◌-◌, ◌<◌, ◌≤◌, ℕ, length, slice_get, HasNoneOf}
use Rattle.choice_step.proofs.rule_triggers.Wakes.next_by_rule.Given as goal

abbrev pub invariant-loop-rule : goal.invariant-loop-rule
invariant-loop-rule l = (l.from ≤ l.rule) × ((r : ℕ) → l.from ≤ r → r < l.rule → HasNoneOf (slice_get l.self r) l.events)

abbrev pub decreases-loop-rule : goal.decreases-loop-rule
decreases-loop-rule l = length l.self - l.rule
