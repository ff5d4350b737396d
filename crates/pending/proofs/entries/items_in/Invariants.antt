use Rattle.pending.proofs.Vocabulary.{◌≡◌, take, shown, items_of}
use Rattle.pending.proofs.entries.items_in.Given as goal

abbrev pub invariant-loop-entry : goal.invariant-loop-entry
invariant-loop-entry l = shown l.items.items ≡ items_of (shown (take l.entry-index l.entries))
