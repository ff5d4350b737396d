use Rattle.past_state.proofs.Vocabulary.{subst, sym}
use Rattle.past_state.specs.machine.RestoredMemories.{AreRestored}
use Rattle.past_state.proofs.restored_past.restore_all.Goals as goal

pub returns : goal.returns
returns c = subst (AreRestored c.args.last c.args.rows 0 c.args.operators.items) (sym c.index_looks.ensures) c.in_ok-restored.ensures
