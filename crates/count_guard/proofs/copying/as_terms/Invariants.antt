use Rattle.std.proofs.Common.{◌≡◌, map, take}
use Rattle.count_guard.proofs.Vocabulary.{Var}
use Rattle.count_guard.proofs.copying.as_terms.Given as goal

abbrev pub invariant-loop-x : goal.invariant-loop-x
invariant-loop-x l = l.terms.items ≡ map Var (take l.x-index l.xs)
