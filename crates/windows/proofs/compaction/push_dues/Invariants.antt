use Rattle.windows.proofs.Vocabulary.{◌≡◌, ◌++◌, map, take, due}
use Rattle.windows.proofs.compaction.push_dues.Given as goal

abbrev pub invariant-loop-index : goal.invariant-loop-index
invariant-loop-index l = l.out.items ≡ l.fn.out.items ++ map (λ time. due time l.place) (take l.index l.times)
