use Rattle.windows.proofs.Vocabulary.{◌≡◌, ◌++◌, map, take, pair}
use Rattle.windows.proofs.kept_pairs.push_step.Given as goal

abbrev pub invariant-loop-row : goal.invariant-loop-row
invariant-loop-row l = l.out.items ≡ l.fn.out.items ++ map (λ row. pair row l.time) (take l.row-index l.rows)
