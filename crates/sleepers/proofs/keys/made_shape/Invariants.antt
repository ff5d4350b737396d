use Rattle.sleepers.proofs.Vocabulary.{◌≡◌, take, fixed_of}
use Rattle.sleepers.proofs.keys.made_shape.Given as goal

abbrev pub invariant-loop-arg : goal.invariant-loop-arg
invariant-loop-arg l = l.fixed.items ≡ fixed_of (take l.arg-index l.args)
