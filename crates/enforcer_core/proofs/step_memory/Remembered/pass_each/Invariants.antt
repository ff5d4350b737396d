use Rattle.enforcer_core.proofs.Vocabulary.{◌≡◌, ◌≤◌, ◌-◌, ◌^◌, length, most_inserted, acted_steps, enforcing_at, NoneIsLeft, PassesDeadlines}
use Rattle.enforcer_core.proofs.step_memory.Remembered.pass_each.Given as goal

abbrev pub invariant-loop-deadline : goal.invariant-loop-deadline
invariant-loop-deadline l = record {
  passes : PassesDeadlines l.until (enforcing_at l.policy l.fn.self l.clock) (acted_steps l.steps.items) (enforcing_at l.policy l.self l.behind);
  few : length l.steps.items ≤ most_inserted;
  untouched : NoneIsLeft l.until (enforcing_at l.policy l.fn.self l.clock) → l.self ≡ l.fn.self;
}

abbrev pub decreases-loop-deadline : goal.decreases-loop-deadline
decreases-loop-deadline l = 2 ^ 62 - length l.steps.items
