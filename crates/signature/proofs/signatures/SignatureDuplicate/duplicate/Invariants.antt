use Rattle.signature.proofs.Vocabulary.{◌≡◌, ◌++◌}
use Rattle.signature.proofs.signatures.SignatureDuplicate.duplicate.Given as goal

-- what was copied, and what is left
abbrev pub invariant-loop-entry : goal.invariant-loop-entry
invariant-loop-entry l = l.copy ++ l.entry-iterator ≡ l.fn.self
