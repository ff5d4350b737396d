use Rattle.pending.proofs.Vocabulary.{◌≡◌, subst, sym}
use Rattle.pending.specs.declared.asking.AskedOf.{AskedOf}
use Rattle.pending.proofs.AskingLemmas.{held_at}
use Rattle.pending.proofs.asking.group_of.Goals as goal

pub returns-then-is_node : goal.returns-then-is_node
returns-then-is_node c = (
  c.loop-at-test.true,
  held_at c.args.asked.now c.loop-at.at c.args.node c.index-asked-at.result c.loop-at-test.true c.index-asked-at.is
      (subst (λ (g : AskedOf). g.at ≡ c.args.node) (sym c.index-asked-at.is) (c.is_node.ensures.same c.if-is_node.true)),
)
