use Rattle.log_stream.proofs.Vocabulary.{◌≡◌, ◌++◌, ◌∷◌, take, flat_map, spelled}
use Rattle.log_stream.proofs.lines.print_row.Given as goal

abbrev pub invariant-loop-value : goal.invariant-loop-value
invariant-loop-value l =
    l.out.items ≡ l.initial.out.items ++ flat_map (λ value. 44 ∷ spelled value) (take l.value-index l.rest)
