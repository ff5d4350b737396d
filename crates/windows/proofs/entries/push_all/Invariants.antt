use Rattle.windows.proofs.Vocabulary.{◌↔◌, ◌⊎◌, List, map, Contains, Value, kept_entries}
use Rattle.windows.proofs.entries.push_all.Given as goal

abbrev pub invariant-loop-row : goal.invariant-loop-row
invariant-loop-row l = (row : List Value) → (Contains l.out.items row ⊎ Contains (map (λ e. e.0) (kept_entries l.row-iterator)) row)
    ↔ (Contains l.fn.out.items row ⊎ Contains (map (λ e. e.0) (kept_entries l.entries.entries)) row)
