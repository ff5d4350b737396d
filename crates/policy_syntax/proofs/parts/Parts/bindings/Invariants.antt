use Rattle.policy_syntax.proofs.Vocabulary.{◌≡◌, List, [], ◌∷◌, ◌+◌, length, ◌++◌, BoundVariable, stack_item, PlacedLexeme, VariablesRead, Depth, Parts, Binding}
use Rattle.policy_syntax.specs.machine.PartOutcomes.{Continues}
use Rattle.policy_syntax.proofs.parts.Parts.bindings.Given as goal

-- what the variables to come will be read with, those so far were read before; and one more is wanted
pub record IsFront (outer inner : Depth) (start now : Parts) (bindings : List Binding) : Type 0 where
  pub read : (more : List Binding) (after : List PlacedLexeme) → VariablesRead outer.level inner.scope now.cursor.rest after more
      → VariablesRead outer.level outer.scope start.cursor.rest after (bindings ++ more)
  pub counted : inner.scope ≡ outer.scope + length bindings
  pub level : inner.level ≡ outer.level
  pub follows : Continues (stack_item BoundVariable outer.level (outer.scope + 1) ∷ []) (stack_item BoundVariable inner.level (inner.scope + 1) ∷ []) start now

abbrev pub invariant-variables : goal.invariant-variables
invariant-variables l = IsFront l.fn.depth l.inner l.initial.self l.self l.bindings

abbrev pub decreases-variables : goal.decreases-variables
decreases-variables l = length l.self.cursor.rest
