use Rattle.sleepers.proofs.Vocabulary.{◌≡◌, Contains, take, Shape}
use Rattle.sleepers.proofs.wake_index.is_named_in.Given as goal

abbrev pub invariant-loop-shape : goal.invariant-loop-shape
invariant-loop-shape l = (shape : Shape) → Contains (take l.shape-index l.shapes) shape → l.name ≡ shape.name → ⊥
