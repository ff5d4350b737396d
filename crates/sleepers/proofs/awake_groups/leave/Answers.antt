use Rattle.sleepers.proofs.Vocabulary.{arith}
use Rattle.sleepers.proofs.BackwardLemmas.{popped_walk}
use Rattle.sleepers.proofs.awake_groups.leave.Goals as goal

pub returns-then-is_none-clause-over : goal.returns-then-is_none-clause-over
returns-then-is_none-clause-over g c = λ over.
    let old = c.args.walk.now in
    popped_walk old.items c.pop.new.self.items c.pop.result c.pop.ensures.items (λ some. c.pop.ensures.variant.1 (omega (arith, some, old.ok.0)))
