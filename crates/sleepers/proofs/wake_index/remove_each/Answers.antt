use Rattle.sleepers.proofs.Vocabulary.{inl, ⊎_elim}
use Rattle.sleepers.proofs.wake_index.remove_each.Goals as goal

pub loop-pattern-preserved : goal.loop-pattern-preserved
loop-pattern-preserved c = λ pair there. ⊎_elim (λ same. inl same) (λ on. c.remove.ensures pair on) (c.loop-pattern.invariant pair there)
