use Rattle.choice_step.proofs.Vocabulary.{◌≡◌, ◌<◌, ℕ, List, Some, Contains, map, slice_get, option_map, NameId, woken_by}
use Rattle.choice_step.proofs.woken_rules.by_name.Given as goal

abbrev pub invariant-loop-rule : goal.invariant-loop-rule
invariant-loop-rule l = (r : ℕ) → r < l.rule → (names : List NameId) (name : NameId)
    → slice_get (map (option_map (λ names. names.items)) l.wakes) r ≡ Some (Some names) → Contains names name
    → Contains l.woken.items (woken_by r name)
