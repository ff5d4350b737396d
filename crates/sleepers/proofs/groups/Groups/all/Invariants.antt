use Rattle.sleepers.proofs.Vocabulary.{◌≡◌, take, shown, held}
use Rattle.sleepers.proofs.groups.Groups.all.Given as goal

abbrev pub invariant-loop-list : goal.invariant-loop-list
invariant-loop-list g l = shown l.all.items ≡ held (take l.list-index l.self)
