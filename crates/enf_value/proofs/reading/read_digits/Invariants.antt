use Rattle.enf_value.proofs.Vocabulary.{◌≡◌, ◌<◌, ◌≤◌, ◌-◌, drop, length, take, AllDigits, digits_value}
use Rattle.enf_value.proofs.reading.read_digits.Given as goal

abbrev pub invariant-loop-end : goal.invariant-loop-end
invariant-loop-end l = record {
  onward : l.at ≤ l.end;
  within : l.end ≤ length l.bytes;
  value : l.number ≡ digits_value 10 (take (l.end - l.at) (drop l.at l.bytes));
  digits : AllDigits 10 (take (l.end - l.at) (drop l.at l.bytes));
  small : l.number < 9223372036854775810;
}

abbrev pub decreases-loop-end : goal.decreases-loop-end
decreases-loop-end l = length l.bytes - l.end
