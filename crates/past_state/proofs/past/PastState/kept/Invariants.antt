use Rattle.past_state.proofs.SavedLemmas.{SavedUpTo}
use Rattle.past_state.proofs.past.PastState.kept.Given as goal

abbrev pub invariant-loop-window : goal.invariant-loop-window
invariant-loop-window l = SavedUpTo l.operators l.window l.rows.items
