use Rattle.std.proofs.Common.{ap, drop, map, rules, ◌∙◌}
use Rattle.std.specs.Option.{option_map}
use Rattle.stream_mux.specs.machine.Turns.{time_of_turn}
use Rattle.stream_mux.proofs.TurnTrees.{times_of_none}
use Rattle.stream_mux.proofs.tree.TurnTree.new.Goals as goal

pub returns : goal.returns
returns c =
    ap (λ l. map (option_map time_of_turn) (drop c.args.streams l)) (c.in_ok-vec.ensures.items_if_clones_equal (λ y p. search rules))
    ∙ times_of_none c.args.streams
