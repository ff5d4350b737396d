use Rattle.windows.proofs.Vocabulary.{◌≡◌, ◌++◌, map, take, pair}
use Rattle.windows.proofs.kept_pairs.push_times.Given as goal

abbrev pub invariant-loop-place : goal.invariant-loop-place
invariant-loop-place l = l.out.items ≡ l.fn.out.items ++ map (pair l.row) (take l.place l.times)
