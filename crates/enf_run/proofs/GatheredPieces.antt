-- What was given of a generated log, and the piece that is gathered after it.
use Rattle.enf_run.proofs.Vocabulary.{Exchange, Gave, generated_text}
use Rattle.std.specs.Prelude.{◌≡◌, ℕ, List, ◌++◌, Option}

-- what was given, and the piece that is gathered after it, are the lines of the steps made so far
pub record IsGathered (start made : ℕ) (piece : List ℕ) (before after : Option Exchange) : Type 0 where
  pub given : List ℕ
  pub gave : Gave given before after
  pub lines : generated_text start made ≡ given ++ piece
