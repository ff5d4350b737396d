-- Laws of the grammar: each text has one answer, and what is written for a tree is read as it.
use Rattle.std.specs.List.{AllByRecursion}
use Rattle.std.specs.Prelude.{◌≡◌, ℕ, List, Result, map}
use Rattle.policy_syntax.specs.declared.refusals.SyntaxRefusal.{SyntaxRefusal}
use Rattle.policy_syntax.specs.machine.WrittenTrees.{rule_written, kinds_written, AreLow, IsWritableRule}
use Rattle.policy_syntax.specs.machine.WrittenTrees.{IsRuleReadAgain, HasLexemeLevels}
use Rattle.policy_syntax.specs.meaning.Grammar.{IsPolicyText}
use Rattle.policy_syntax.specs.meaning.Lexemes.{PlacedLexeme}
use Rattle.policy_syntax.specs.meaning.Refusals.{IsSyntaxAnswer}
use Rattle.policy_syntax.specs.meaning.Trees.{PolicyRule, IsRule}

-- each text has exactly one answer
abbrev pub OneSyntaxAnswer : Type 0
OneSyntaxAnswer =
    (bytes : List ℕ)
    → (answer : Result (List PolicyRule) SyntaxRefusal) × IsSyntaxAnswer bytes answer
    × ((other : Result (List PolicyRule) SyntaxRefusal) → IsSyntaxAnswer bytes other → other ≡ answer)

-- the lexemes that are written for a rule within the limits are read as it, at whatever places they stand
abbrev pub WrittenIsRead : Type 0
WrittenIsRead =
    (rule : PolicyRule) (placed : List PlacedLexeme) → IsRule rule → IsWritableRule rule
    → AreLow (rule_written rule)
    → map (λ token. token.1) placed ≡ kinds_written (rule_written rule) → IsRuleReadAgain placed rule

-- the lexemes that are written for a rule stand at the levels at which they are written
abbrev pub WrittenHasLevels : Type 0
WrittenHasLevels =
    (rule : PolicyRule) (placed : List PlacedLexeme) → IsRule rule → IsWritableRule rule
    → map (λ token. token.1) placed ≡ kinds_written (rule_written rule)
    → HasLexemeLevels placed (rule_written rule)

-- the rules of a text can be written
abbrev pub TextsAreWritable : Type 0
TextsAreWritable =
    (bytes : List ℕ) (rules : List PolicyRule) → IsPolicyText bytes rules → AllByRecursion IsWritableRule rules
