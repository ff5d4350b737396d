use Rattle.std.proofs.Common.{None, ap, arith, get_or, subst, sym, ◌∙◌}
use Rattle.stream_mux.specs.machine.Turns.{IsFirstTurn}
use Rattle.stream_mux.proofs.TurnTrees.{first_of_tree}
use Rattle.stream_mux.proofs.tree.TurnTree.first.Goals as goal

pub returns-in-Some : goal.returns-in-Some
returns-in-Some c =
    subst (λ times. IsFirstTurn times c.in-Some.turn.now) c.self.view_is
    (first_of_tree c.self.inside.count c.self.inside.nodes.items c.self.invariant c.in-Some.turn.now
    (sym (c.in-Some.ensures.lookup.4 (omega arith) None ∙ ap (λ l. get_or l 1 None) c.deref.ensures.value)))
