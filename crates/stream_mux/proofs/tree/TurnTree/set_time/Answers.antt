use Rattle.std.proofs.Common.{ap, drop, map, set, ◌+◌, ◌∙◌}
use Rattle.std.specs.Option.{option_map}
use Rattle.std.specs.Vec.{with_item}
use Rattle.std.proofs.lemmas.List.{with_items_is}
use Rattle.stream_mux.specs.machine.Turns.{time_of_turn}
use Rattle.stream_mux.proofs.TurnTrees.{times_of_set}
use Rattle.stream_mux.proofs.tree.TurnTree.set_time.Goals as goal

pub returns : goal.returns
returns c =
    let count = c.self.inside.count in
    let old = c.self.inside.nodes.items in
    ap (λ l. map (option_map time_of_turn) (drop count l)) (with_items_is (with_item c.self.inside.nodes (count + c.args.stream) c.turn_of.result) c.play_up.new.nodes (c.play_up.auto.nodes ∙ c.deref_mut.ensures.len))
    ∙ ap (map (option_map time_of_turn)) (c.play_up.ensures.leaves ∙ ap (drop count) c.deref_mut.ensures.value)
    ∙ ap (λ t. map (option_map time_of_turn) (drop count (set old (count + c.args.stream) t))) c.turn_of.ensures
    ∙ times_of_set count c.args.stream old c.args.time
    ∙ ap (λ times. set times c.args.stream c.args.time) c.self.view_is
