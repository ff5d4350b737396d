use Rattle.monitorable_guard.proofs.Vocabulary.{◌≡◌}
use Rattle.std.specs.List.{range_with_len}
use Rattle.monitorable_guard.proofs.asked.numbers_from.Given as goal

abbrev pub invariant-loop-place : goal.invariant-loop-place
invariant-loop-place l = l.numbers.items ≡ range_with_len l.first l.place
