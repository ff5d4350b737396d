use Rattle.enf_value.proofs.Vocabulary.{length, ◌-◌}
use Rattle.enf_value.proofs.Gaps.{IsPast}
use Rattle.enf_value.proofs.tokens.token_place.Given as goal

abbrev pub invariant-loop-place : goal.invariant-loop-place
invariant-loop-place l = IsPast l.bytes l.at l.place

abbrev pub decreases-loop-place : goal.decreases-loop-place
decreases-loop-place l = length l.bytes - l.place
