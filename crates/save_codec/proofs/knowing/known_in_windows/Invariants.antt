use Rattle.save_codec.proofs.Vocabulary.{map, take, plan_of, numbered_operator, KnowWindows}
use Rattle.save_codec.proofs.knowing.known_in_windows.Given as goal

abbrev pub invariant-loop-shape : goal.invariant-loop-shape
invariant-loop-shape l = KnowWindows l.signature (map plan_of l.plans) (map numbered_operator (take l.shape-index l.shapes)) l.known.items
