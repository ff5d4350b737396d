use Rattle.sleepers.proofs.Vocabulary.{sym, ◌∙◌}
use Rattle.sleepers.proofs.awake_groups.awake.Goals as goal

pub awake_by_each-requires-clause-begun : goal.awake_by_each-requires-clause-begun
awake_by_each-requires-clause-begun g c = sym c.is_begun.ensures ∙ c.if-not-is_begun.false

pub awake_of_found-requires-clause-begun : goal.awake_of_found-requires-clause-begun
awake_of_found-requires-clause-begun g c = sym c.is_begun.ensures ∙ c.if-not-is_begun.false
