use Rattle.sleepers.proofs.Vocabulary.{◌≡◌, take, shown, entries_of}
use Rattle.sleepers.proofs.groups.Groups.entries_of.Given as goal

abbrev pub invariant-loop-number : goal.invariant-loop-number
invariant-loop-number g l = shown l.entries.items ≡ entries_of l.self (take l.number-index l.numbers)
