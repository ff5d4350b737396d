use Rattle.sleepers.proofs.Vocabulary.{◌≡◌, ◌++◌, items, shown}
use Rattle.sleepers.proofs.groups.push_all.Given as goal

abbrev pub invariant-loop-entry : goal.invariant-loop-entry
invariant-loop-entry g l =
    (items l.list ≡ shown l.yielded ++ l.entry-iterator) × (shown l.all.items ≡ shown l.fn.all.items ++ shown l.yielded)
