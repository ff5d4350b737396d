-- The levels of a canonical text, and a text that is read as a rule but for its places.
use Rattle.std.specs.List.{Contains}
use Rattle.std.specs.Prelude.{List, ℕ, Ok, ◌≡◌, [], ◌∷◌}
use Rattle.signature.specs.declared.entries.NameEntry.{NameEntry}
use Rattle.policy_syntax.specs.machine.WrittenTrees.{Leveled, rule_written}
use Rattle.formula_reader.specs.machine.BareRules.{bare_resolved}
use Rattle.formula_reader.specs.machine.WrittenBack.{rule_back}
use Rattle.formula_reader.specs.meaning.PolicyAnswers.{IsPolicyAnswer}
use Rattle.formula_reader.specs.meaning.Resolution.{Rule}

-- the lexemes that are written for the rule, each with its level
abbrev pub text_levels : List NameEntry → Rule → List Leveled
text_levels entries rule = rule_written (rule_back entries rule)

-- the rule is one of a text that is a policy
pub record IsOfText (entries : List NameEntry) (rule : Rule) : Type 0 where
  pub bytes : List ℕ
  pub rules : List Rule
  pub read : IsPolicyAnswer entries bytes (Ok rules)
  pub there : Contains rules rule

-- the text is the policy of one rule, which is this one but for its places
pub record IsReadAs (entries : List NameEntry) (bytes : List ℕ) (rule : Rule) : Type 0 where
  pub again : Rule
  pub answer : IsPolicyAnswer entries bytes (Ok (again ∷ []))
  pub same : bare_resolved again ≡ bare_resolved rule
