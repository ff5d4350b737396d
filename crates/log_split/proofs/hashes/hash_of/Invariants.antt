use Rattle.std.proofs.Common.{◌≡◌, take}
use Rattle.std.specs.List.{fold}
use Rattle.log_split.specs.meaning.Streams.{fnv_mixed}
use Rattle.log_split.proofs.hashes.hash_of.Given as goal

abbrev pub invariant-loop-byte : goal.invariant-loop-byte
invariant-loop-byte l = l.hash ≡ fold fnv_mixed 0xcbf2_9ce4_8422_2325 (take l.byte-index l.bytes)
