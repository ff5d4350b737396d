use Rattle.choice_step.proofs.Vocabulary.{◌≡◌, ◌⊎◌, ◌<◌, ℕ, Contains, Some, slice_get, Plan, IsUnmovedIn, situation_plans}
use Rattle.choice_step.proofs.apply_actions.ask_roots.Given as goal

abbrev pub invariant-loop-rule : goal.invariant-loop-rule
invariant-loop-rule l =
    (l.unasked.asking ≡ l.fn.unasked.asking) × (l.unasked.from ≡ l.fn.unasked.from) × (l.unasked.roused ≡ l.fn.unasked.roused)
    × ((rule : ℕ) → Contains l.fn.unasked.again.items rule → Contains l.unasked.again.items rule)
    × ((rule : ℕ) (plan : Plan) → slice_get (situation_plans l.situation) rule ≡ Some plan → rule < l.rule
    → Contains l.unasked.again.items rule ⊎ IsUnmovedIn l.kind l.name plan)
