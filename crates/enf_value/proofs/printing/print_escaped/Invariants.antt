use Rattle.enf_value.proofs.Vocabulary.{◌≡◌, ◌++◌, ◌-◌, length, take, flat_map, escaped}
use Rattle.enf_value.proofs.printing.print_escaped.Given as goal

abbrev pub invariant-loop-at : goal.invariant-loop-at
invariant-loop-at l = l.out.items ≡ l.fn.out.items ++ flat_map escaped (take l.at l.bytes)

abbrev pub decreases-loop-at : goal.decreases-loop-at
decreases-loop-at l = length l.bytes - l.at
