use Rattle.past_state.proofs.Vocabulary.{sym, subst, AreKeepableFor, IsRestored}
use Rattle.past_state.proofs.RestoredRowLemmas.{restored_once, restored_prev, restored_since}
use Rattle.past_state.specs.declared.memories.Memory.TheVariants as memories
use Rattle.past_state.proofs.memories.Memory.restored.Goals as goal

pub returns-in_ok-slot-in-Prev : goal.returns-in_ok-slot-in-Prev
returns-in_ok-slot-in-Prev c = subst (λ m. IsRestored m c.args.last c.args.pairs.items (memories.Prev c.in_ok-slot-in-Prev.slot c.in-Prev.operand)) (sym c.in-Prev.is)
    (restored_prev c.in-Prev.slot c.in-Prev.operand c.args.last c.args.pairs.items c.in_ok-slot-in-Prev.slot
    (subst (λ m. AreKeepableFor m c.args.last c.args.pairs.items) c.in-Prev.is c.requires.keepable).0 c.in_ok-slot-in-Prev.ensures)

pub returns-in_ok-window-in-Once : goal.returns-in_ok-window-in-Once
returns-in_ok-window-in-Once c = subst (λ m. IsRestored m c.args.last c.args.pairs.items (memories.Once c.in_ok-window-in-Once.window c.in-Once.right)) (sym c.in-Once.is)
    (restored_once c.in-Once.window c.in-Once.right c.args.last c.args.pairs.items c.in_ok-window-in-Once.window c.in_ok-window-in-Once.ensures)

pub returns-in_ok-window-in-Since : goal.returns-in_ok-window-in-Since
returns-in_ok-window-in-Since c = subst (λ m. IsRestored m c.args.last c.args.pairs.items
    (memories.Since c.in_ok-window-in-Since.window c.in-Since.left c.in-Since.left_tables c.in-Since.right)) (sym c.in-Since.is)
    (restored_since c.in-Since.window c.in-Since.left c.in-Since.left_tables c.in-Since.right c.args.last c.args.pairs.items c.in_ok-window-in-Since.window c.in_ok-window-in-Since.ensures)
