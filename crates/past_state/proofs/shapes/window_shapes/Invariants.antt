use Rattle.past_state.proofs.Vocabulary.{◌≡◌, ◌++◌, All, drop, map, tree_in, HasItsColumns, numbered_operator, numbered_operators}
use Rattle.past_state.proofs.shapes.window_shapes.Given as goal

abbrev pub invariant-loop-number : goal.invariant-loop-number
invariant-loop-number l = record {
  operators : numbered_operators 0 (map tree_in l.guards) ≡ map numbered_operator l.shapes.items ++ numbered_operators l.number (map tree_in (drop l.number l.guards));
  columns : All HasItsColumns l.shapes.items;
}
