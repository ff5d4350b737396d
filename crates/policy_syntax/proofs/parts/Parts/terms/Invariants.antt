use Rattle.policy_syntax.proofs.Vocabulary.{ℕ, List, [], ◌∷◌, length, ◌++◌, NextArgument, stack_item, PlacedLexeme, TermsRead, Parts, SyntaxTerm}
use Rattle.policy_syntax.specs.machine.PartOutcomes.{Continues}
use Rattle.policy_syntax.proofs.parts.Parts.terms.Given as goal

-- what the terms to come will be read with, those so far were read before; and one more is wanted
pub record IsFront (level scope : ℕ) (start now : Parts) (terms : List SyntaxTerm) : Type 0 where
  pub read : (more : List SyntaxTerm) (after : List PlacedLexeme) → TermsRead level scope now.cursor.rest after more → TermsRead level scope start.cursor.rest after (terms ++ more)
  pub follows : Continues (stack_item NextArgument level scope ∷ []) (stack_item NextArgument level scope ∷ []) start now

abbrev pub invariant-terms : goal.invariant-terms
invariant-terms l = IsFront l.fn.depth.level l.fn.depth.scope l.initial.self l.self l.terms

abbrev pub decreases-terms : goal.decreases-terms
decreases-terms l = length l.self.cursor.rest
