-- Pieces of a line, one after another.
use Rattle.enf_run.proofs.Vocabulary.{◌≡◌, ℕ, List, ◌++◌, append_assoc, sym}

-- five pieces, one after another
pub five_pieces : (a b c d e : List ℕ) → a ++ (b ++ (c ++ (d ++ e))) ≡ (((a ++ b) ++ c) ++ d) ++ e
five_pieces a b c d e = sym (simp append_assoc)
