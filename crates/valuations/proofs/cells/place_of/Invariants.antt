use Rattle.valuations.proofs.Vocabulary.{◌≡◌, ℕ, ◌<◌, get_or, VarId}
use Rattle.valuations.proofs.cells.place_of.Given as goal

abbrev pub invariant-loop-place : goal.invariant-loop-place
invariant-loop-place l = (k : ℕ) (d : VarId) → k < l.place → get_or l.columns k d ≡ l.wanted → ⊥
