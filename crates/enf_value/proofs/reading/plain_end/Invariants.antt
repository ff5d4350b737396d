use Rattle.enf_value.proofs.Vocabulary.{◌≢◌, ℕ, ◌<◌, IsTrue, slice_index, take, IsAscii}
use Rattle.enf_value.proofs.reading.plain_end.Given as goal

abbrev pub invariant-loop-place : goal.invariant-loop-place
invariant-loop-place l = record {
  apart : (k : ℕ) → k < l.place → (slice_index l.bytes k ≢ 34) × (slice_index l.bytes k ≢ 92);
  low : IsTrue l.ascii → IsAscii (take l.place l.bytes);
}
