use Rattle.enf_value.proofs.Vocabulary.{◌≡◌, take, flat_map, escaped}
use Rattle.enf_value.proofs.printing.is_plain.Given as goal

abbrev pub invariant-loop-byte : goal.invariant-loop-byte
invariant-loop-byte l = flat_map escaped (take l.byte-index l.bytes) ≡ take l.byte-index l.bytes
