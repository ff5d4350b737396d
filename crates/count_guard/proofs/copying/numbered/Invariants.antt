use Rattle.std.proofs.Common.{◌≡◌, ◌-◌}
use Rattle.count_guard.proofs.Vocabulary.{numbered_variables}
use Rattle.count_guard.proofs.copying.numbered.Given as goal

abbrev pub invariant-loop-number : goal.invariant-loop-number
invariant-loop-number l = l.xs.items ≡ numbered_variables l.first (l.number - l.first)
