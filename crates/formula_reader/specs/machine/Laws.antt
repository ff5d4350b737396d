-- Laws of policies that are read and printed.
use Rattle.std.specs.Prelude.{List, ℕ, Ok}
use Rattle.signature.specs.declared.entries.NameEntry.{NameEntry}
use Rattle.policy_syntax.specs.machine.WrittenTrees.{HasLexemeLevels, StandLow}
use Rattle.policy_syntax.specs.meaning.Lexemes.{lexemes}
use Rattle.formula_reader.specs.machine.RoundTrip.{text_levels, IsOfText, IsReadAs}
use Rattle.formula_reader.specs.machine.WellFormedPolicies.{IsWellFormedPolicy}
use Rattle.formula_reader.specs.meaning.PolicyAnswers.{IsPolicyAnswer}
use Rattle.formula_reader.specs.meaning.Resolution.{Rule}
use Rattle.formula_reader.specs.meaning.RuleText.{rule_text}

-- the lexemes of the canonical text of a rule are these, at these levels
abbrev pub TextsHaveLevels : Type 0
TextsHaveLevels =
    (entries : List NameEntry) (rule : Rule) → IsOfText entries rule
    → HasLexemeLevels (lexemes (rule_text entries rule)) (text_levels entries rule)

-- where none of them is at a level above the limit, the canonical text is read as the rule
abbrev pub PrintedIsRead : Type 0
PrintedIsRead =
    (entries : List NameEntry) (rule : Rule) → IsOfText entries rule → StandLow (lexemes (rule_text entries rule))
    → IsReadAs entries (rule_text entries rule) rule

-- what a text is read as
abbrev pub ReadIsWellFormed : Type 0
ReadIsWellFormed = (entries : List NameEntry) (bytes : List ℕ) (rules : List Rule)
    → IsPolicyAnswer entries bytes (Ok rules) → IsWellFormedPolicy entries rules
