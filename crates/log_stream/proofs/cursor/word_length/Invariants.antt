use Rattle.log_stream.proofs.Vocabulary.{◌≡◌, ◌+◌, ◌-◌, ◌≤◌, drop, length, prefix_len, is_of_kind, Word}
use Rattle.log_stream.proofs.cursor.word_length.Given as goal

abbrev pub invariant-loop-at : goal.invariant-loop-at
invariant-loop-at l = record {
  within : l.at ≤ length l.bytes;
  passed : prefix_len (is_of_kind Word) l.bytes ≡ l.at + prefix_len (is_of_kind Word) (drop l.at l.bytes);
}

abbrev pub decreases-loop-at : goal.decreases-loop-at
decreases-loop-at l = length l.bytes - l.at
