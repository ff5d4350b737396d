use Rattle.log_stream.proofs.Vocabulary.{ℕ, ◌-◌, ◌<◌, ◌≤◌, IsTrue, length, slice_index, is_blank}
use Rattle.log_stream.proofs.cursor.skip_blanks.Given as goal

abbrev pub invariant-loop-at : goal.invariant-loop-at
invariant-loop-at l = record {
  onward : l.from ≤ l.at;
  within : l.at ≤ length l.bytes;
  blanks : (k : ℕ) → l.from ≤ k → k < l.at → IsTrue (is_blank (slice_index l.bytes k));
}

abbrev pub decreases-loop-at : goal.decreases-loop-at
decreases-loop-at l = length l.bytes - l.at
