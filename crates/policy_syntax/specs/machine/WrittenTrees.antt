-- How a tree is written: its lexemes, each with its level.
use Rattle.enf_data.specs.declared.intervals.Interval.{Interval}
use Rattle.std.specs.List.{AllByRecursion}
use Rattle.std.specs.Prelude.{ℕ, List, [], ◌∷◌, Bool, true, false, ◌+◌, map, ◌≡◌, ◌≤◌, IsTrue}
use Rattle.std.specs.Prelude.{◌≢◌, Option, None, Some}
use Rattle.enf_value.specs.machine.PrintedTokens.{value_token}
use Rattle.enf_value.specs.machine.TokenViews.{IsProper}
use Rattle.enf_value.specs.meaning.Tokens.{is_word, NumberToken as DigitsToken}
use Rattle.policy_syntax.specs.declared.limits.TheConstants.{MOST_LEVEL}
use Rattle.policy_syntax.specs.declared.trees.Binding.{Binding}
use Rattle.policy_syntax.specs.declared.trees.SyntaxTerm.{SyntaxTerm}
use Rattle.policy_syntax.specs.declared.trees.SyntaxTerm.TheVariants.{Variable, Constant}
use Rattle.policy_syntax.specs.machine.BareTrees.{bare_rule}
use Rattle.policy_syntax.specs.meaning.Grammar.{end_lexeme, policy_fold, PolicyFits, spell, PolicyRead}
use Rattle.policy_syntax.specs.meaning.Lexemes.{PolicyLexeme, NameLexeme, lexeme_of_token, Symbol, DigitsLexeme, Truth}
use Rattle.policy_syntax.specs.meaning.Lexemes.{Prefix, Infix, Quantifier, Sign, PlacedLexeme, lexeme_of_word}
use Rattle.policy_syntax.specs.meaning.Phrases.{RulePhrase}
use Rattle.policy_syntax.specs.meaning.Refusals.{Deep, deepen}
use Rattle.policy_syntax.specs.meaning.Trees.{SyntaxTree, TrueTree, FalseTree, AtomTree, EqualTree, LessTree}
use Rattle.policy_syntax.specs.meaning.Trees.{AtMostTree, NotTree, AndTree, OrTree, ImpliesTree, ExistsTree, ForallTree}
use Rattle.policy_syntax.specs.meaning.Trees.{PrevTree, NextTree, OnceTree, HistoricallyTree, SinceTree, EventuallyTree}
use Rattle.policy_syntax.specs.meaning.Trees.{AlwaysTree, UntilTree, PolicyRule, IsPolicy}
use Rattle.policy_syntax.specs.declared.lexemes.Symbol.TheVariants as symbol
use Rattle.policy_syntax.specs.declared.lexemes.Infix.TheVariants as infix_words
use Rattle.policy_syntax.specs.declared.lexemes.Prefix.TheVariants as prefix_words
use Rattle.policy_syntax.specs.declared.lexemes.Quantifier.TheVariants as quantifier_words
use Rattle.policy_syntax.specs.declared.lexemes.Sign.TheVariants as sign_marks

-- a lexeme with its level
abbrev pub Leveled : Type 0
Leveled = ℕ × PolicyLexeme

-- a variable by its name, a constant by its value
abbrev pub term_written : SyntaxTerm → PolicyLexeme
term_written (Variable place name) = NameLexeme name
term_written (Constant place value) = lexeme_of_token (value_token value)

abbrev pub variable_written : Binding → PolicyLexeme
variable_written x = NameLexeme x.name

-- a list is written with commas between its items
abbrev pub list_written : {A : Type 0} → (A → PolicyLexeme) → (level : ℕ) → List A → List Leveled
    → List Leveled
list_written lexeme level [] rest = rest
list_written lexeme level (item ∷ []) rest = (level, lexeme item) ∷ rest
list_written lexeme level (item ∷ next ∷ more) rest =
    (level, lexeme item) ∷ (level, Symbol symbol.Comma) ∷ list_written lexeme level (next ∷ more) rest

abbrev pub interval_written : (level : ℕ) → Interval → List Leveled → List Leveled
interval_written level interval rest =
    (level, Symbol symbol.OpenBracket) ∷ (level, DigitsLexeme interval.low) ∷ (level, Symbol symbol.Comma)
    ∷ (level, end_lexeme interval.high) ∷ (level, Symbol symbol.CloseBracket) ∷ rest

-- an event, `true` and `false` stand alone
abbrev pub tree_stands_alone : SyntaxTree → Bool
tree_stands_alone (TrueTree place) = true
tree_stands_alone (FalseTree place) = true
tree_stands_alone (AtomTree place name terms) = true
tree_stands_alone f = false

-- what is written at a level; in parentheses, which lift it, where it does not stand alone
abbrev pub enclosed_lexemes : (alone : Bool) → (ℕ → List Leveled → List Leveled) → (level : ℕ)
    → List Leveled → List Leveled
enclosed_lexemes true written level rest = written level rest
enclosed_lexemes false written level rest =
    (level, Symbol symbol.OpenParen) ∷ written (level + 1) ((level + 1, Symbol symbol.CloseParen) ∷ rest)

-- an operator lifts its operand, and a binary operator the right one alone
abbrev pub formula_written : SyntaxTree → (level : ℕ) → List Leveled → List Leveled
formula_written (TrueTree place) level rest = (level, Truth true) ∷ rest
formula_written (FalseTree place) level rest = (level, Truth false) ∷ rest
formula_written (AtomTree place name terms) level rest =
    (level, NameLexeme name) ∷ (level, Symbol symbol.OpenParen)
    ∷ list_written term_written (level + 1) terms ((level + 1, Symbol symbol.CloseParen) ∷ rest)
formula_written (EqualTree place s t) level rest =
    (level, term_written s) ∷ (level, Sign sign_marks.Equal) ∷ (level, term_written t) ∷ rest
formula_written (LessTree place s t) level rest =
    (level, term_written s) ∷ (level, Sign sign_marks.Less) ∷ (level, term_written t) ∷ rest
formula_written (AtMostTree place s t) level rest =
    (level, term_written s) ∷ (level, Sign sign_marks.AtMost) ∷ (level, term_written t) ∷ rest
formula_written (NotTree place f) level rest =
    (level, Symbol symbol.Not) ∷ enclosed_lexemes (tree_stands_alone f) (formula_written f) (level + 1) rest
formula_written (AndTree place f g) level rest =
    enclosed_lexemes (tree_stands_alone f) (formula_written f) level
    ((level, Symbol symbol.And) ∷ enclosed_lexemes (tree_stands_alone g) (formula_written g) (level + 1) rest)
formula_written (OrTree place f g) level rest =
    enclosed_lexemes (tree_stands_alone f) (formula_written f) level
    ((level, Symbol symbol.Or) ∷ enclosed_lexemes (tree_stands_alone g) (formula_written g) (level + 1) rest)
formula_written (ImpliesTree place f g) level rest =
    enclosed_lexemes (tree_stands_alone f) (formula_written f) level
    ((level, Symbol symbol.Arrow) ∷ enclosed_lexemes (tree_stands_alone g) (formula_written g) (level + 1) rest)
formula_written (ExistsTree place xs f) level rest =
    (level, Quantifier quantifier_words.Exists)
    ∷ list_written variable_written (level + 1) xs
    ((level + 1, Symbol symbol.Dot) ∷ enclosed_lexemes (tree_stands_alone f) (formula_written f) (level + 1) rest)
formula_written (ForallTree place xs f) level rest =
    (level, Quantifier quantifier_words.Forall)
    ∷ list_written variable_written (level + 1) xs
    ((level + 1, Symbol symbol.Dot) ∷ enclosed_lexemes (tree_stands_alone f) (formula_written f) (level + 1) rest)
formula_written (PrevTree place interval f) level rest =
    (level, Prefix prefix_words.Prev)
    ∷ interval_written (level + 1) interval (enclosed_lexemes (tree_stands_alone f) (formula_written f) (level + 1)
    rest)
formula_written (NextTree place interval f) level rest =
    (level, Prefix prefix_words.Next)
    ∷ interval_written (level + 1) interval (enclosed_lexemes (tree_stands_alone f) (formula_written f) (level + 1)
    rest)
formula_written (OnceTree place interval f) level rest =
    (level, Prefix prefix_words.Once)
    ∷ interval_written (level + 1) interval (enclosed_lexemes (tree_stands_alone f) (formula_written f) (level + 1)
    rest)
formula_written (HistoricallyTree place interval f) level rest =
    (level, Prefix prefix_words.Historically)
    ∷ interval_written (level + 1) interval (enclosed_lexemes (tree_stands_alone f) (formula_written f) (level + 1)
    rest)
formula_written (SinceTree place interval f g) level rest =
    enclosed_lexemes (tree_stands_alone f) (formula_written f) level
    ((level, Infix infix_words.Since)
    ∷ interval_written level interval (enclosed_lexemes (tree_stands_alone g) (formula_written g) (level + 1) rest))
formula_written (EventuallyTree place interval f) level rest =
    (level, Prefix prefix_words.Eventually)
    ∷ interval_written (level + 1) interval (enclosed_lexemes (tree_stands_alone f) (formula_written f) (level + 1)
    rest)
formula_written (AlwaysTree place interval f) level rest =
    (level, Prefix prefix_words.Always)
    ∷ interval_written (level + 1) interval (enclosed_lexemes (tree_stands_alone f) (formula_written f) (level + 1)
    rest)
formula_written (UntilTree place interval f g) level rest =
    enclosed_lexemes (tree_stands_alone f) (formula_written f) level
    ((level, Infix infix_words.Until)
    ∷ interval_written level interval (enclosed_lexemes (tree_stands_alone g) (formula_written g) (level + 1) rest))

-- `rule NAME: F;`
abbrev pub rule_written : PolicyRule → List Leveled
rule_written rule =
    (0, Symbol symbol.Rule) ∷ (0, NameLexeme rule.name) ∷ (0, Symbol symbol.Colon)
    ∷ formula_written rule.formula 0 ((0, Symbol symbol.Semicolon) ∷ [])

-- lexemes without their levels
abbrev pub kinds_written : List Leveled → List PolicyLexeme
kinds_written written = map (λ leveled. leveled.1) written

-- the level and the kind of a lexeme
abbrev pub level_of : Deep → Leveled
level_of deep = (deep.level, deep.placed.1)

-- the levels and the kinds of the lexemes of a policy
abbrev pub levels_of : List RulePhrase → List Leveled
levels_of rules = map level_of (policy_fold deepen rules [])

-- the lexemes are those of a policy, and stand at these levels
pub record HasLexemeLevels (placed : List PlacedLexeme) (written : List Leveled) : Type 0 where
  pub rules : List RulePhrase
  pub fits : PolicyFits rules
  pub spells : policy_fold spell rules [] ≡ placed
  pub levels : levels_of rules ≡ written

-- none stands at a level above the limit
abbrev pub AreLow : List Leveled → Type 0
AreLow written = AllByRecursion (λ leveled. leveled.0 ≤ MOST_LEVEL) written

-- each of the lexemes stands at a level within the limit
abbrev pub StandLow : List PlacedLexeme → Type 0
StandLow placed = (written : List Leveled) → HasLexemeLevels placed written → AreLow written

-- ---- what can be written: names are words of their own, values and ends of intervals are those of the program, and a
-- quantifier has a variable

abbrev pub IsWritableName : List ℕ → Type 0
IsWritableName name = IsTrue (is_word name) × (lexeme_of_word name ≡ NameLexeme name)

abbrev pub IsWritableTerm : SyntaxTerm → Type 0
IsWritableTerm (Variable place name) = IsWritableName name
IsWritableTerm (Constant place value) = IsProper (value_token value)

abbrev pub AreWritableVariables : List Binding → Type 0
AreWritableVariables xs = (xs ≢ []) × AllByRecursion (λ (x : Binding). IsWritableName x.name) xs

abbrev pub IsWritableEnd : Option ℕ → Type 0
IsWritableEnd None = Unit {0}
IsWritableEnd (Some high) = IsProper (DigitsToken high)

abbrev pub IsWritableInterval : Interval → Type 0
IsWritableInterval interval = IsProper (DigitsToken interval.low) × IsWritableEnd interval.high

abbrev pub IsWritable : SyntaxTree → Type 0
IsWritable (TrueTree place) = Unit {0}
IsWritable (FalseTree place) = Unit {0}
IsWritable (AtomTree place name terms) = IsWritableName name × AllByRecursion IsWritableTerm terms
IsWritable (EqualTree place s t) = IsWritableTerm s × IsWritableTerm t
IsWritable (LessTree place s t) = IsWritableTerm s × IsWritableTerm t
IsWritable (AtMostTree place s t) = IsWritableTerm s × IsWritableTerm t
IsWritable (NotTree place f) = IsWritable f
IsWritable (AndTree place f g) = IsWritable f × IsWritable g
IsWritable (OrTree place f g) = IsWritable f × IsWritable g
IsWritable (ImpliesTree place f g) = IsWritable f × IsWritable g
IsWritable (ExistsTree place xs f) = AreWritableVariables xs × IsWritable f
IsWritable (ForallTree place xs f) = AreWritableVariables xs × IsWritable f
IsWritable (PrevTree place interval f) = IsWritableInterval interval × IsWritable f
IsWritable (NextTree place interval f) = IsWritableInterval interval × IsWritable f
IsWritable (OnceTree place interval f) = IsWritableInterval interval × IsWritable f
IsWritable (HistoricallyTree place interval f) = IsWritableInterval interval × IsWritable f
IsWritable (SinceTree place interval f g) = IsWritableInterval interval × IsWritable f × IsWritable g
IsWritable (EventuallyTree place interval f) = IsWritableInterval interval × IsWritable f
IsWritable (AlwaysTree place interval f) = IsWritableInterval interval × IsWritable f
IsWritable (UntilTree place interval f g) = IsWritableInterval interval × IsWritable f × IsWritable g

-- a rule that can be written
pub record IsWritableRule (rule : PolicyRule) : Type 0 where
  pub name : IsWritableName rule.name
  pub formula : IsWritable rule.formula

-- ---- what is written is read

-- the lexemes are read as one rule, which is within the limits, and is this one but for its places
pub record IsRuleReadAgain (placed : List PlacedLexeme) (rule : PolicyRule) : Type 0 where
  pub again : PolicyRule
  pub read : PolicyRead placed [] (again ∷ [])
  pub within : IsPolicy (again ∷ [])
  pub same : bare_rule again ≡ bare_rule rule
