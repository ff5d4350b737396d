use Rattle.choice_step.proofs.Vocabulary.{◌≡◌, ◌<◌, ℕ, None, Some, Contains, map, slice_get, option_map}
use Rattle.choice_step.proofs.woken_rules.always_awake.Given as goal

abbrev pub invariant-loop-rule : goal.invariant-loop-rule
invariant-loop-rule l = (r : ℕ) → r < l.rule
    → slice_get (map (option_map (λ names. names.items)) l.wakes) r ≡ Some None → Contains l.rules.items r
