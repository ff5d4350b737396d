use Rattle.past_state.proofs.Vocabulary.{[], AreByWindow}
use Rattle.past_state.proofs.restored_past.no_pairs.Given as goal

abbrev pub invariant-loop : goal.invariant-loop
invariant-loop l = AreByWindow [] l.counter l.lists.items
