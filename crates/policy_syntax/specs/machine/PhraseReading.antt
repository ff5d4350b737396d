-- What was read: a phrase between two places of a text, with its tree.
use Rattle.enf_data.specs.declared.intervals.Interval.{Interval}
use Rattle.enf_data.specs.declared.values.Value.{Value}
use Rattle.enf_data.specs.declared.values.Value.TheVariants.{Num, Text as TextOf}
use Rattle.std.specs.List.{list_any}
use Rattle.std.specs.Prelude.{◌≡◌, ℕ, ◌≤◌, ◌∷◌, pos, neg_ℤ, Bool, List, true, false, map}
use Rattle.std.specs.Str.{bytes_eq}
use Rattle.policy_syntax.specs.declared.lexemes.Symbol.TheVariants.{Not, OpenParen}
use Rattle.policy_syntax.specs.declared.limits.TheConstants.{MOST_LEVEL}
use Rattle.policy_syntax.specs.declared.trees.Binding.{Binding}
use Rattle.policy_syntax.specs.declared.trees.SyntaxRule.{SyntaxRule}
use Rattle.policy_syntax.specs.declared.trees.SyntaxTerm.{SyntaxTerm}
use Rattle.policy_syntax.specs.machine.Cursor.{Ahead}
use Rattle.policy_syntax.specs.meaning.Grammar.{bound, spell, IsPhraseRead}
use Rattle.policy_syntax.specs.meaning.Lexemes.{PolicyLexeme, DigitsLexeme, NegativeLexeme, TextLexeme, Symbol, Prefix}
use Rattle.policy_syntax.specs.meaning.Lexemes.{Quantifier, NameLexeme, PlacedLexeme}
use Rattle.policy_syntax.specs.meaning.Trees.{SyntaxTree, PolicyRule}
use Rattle.policy_syntax.specs.meaning.Grammar as grammar
use Rattle.policy_syntax.specs.meaning.Phrases as phrases

-- the next lexeme, within the limit on levels, was taken
pub record IsLexemeTaken (level : ℕ) (lexeme : PolicyLexeme) (place : ℕ) (old new : Ahead) : Type 0 where
  pub was : old.rest ≡ (place, lexeme) ∷ new.rest
  pub low : level ≤ MOST_LEVEL
  pub same_end : old.end ≡ new.end

-- the value of a number or a text
abbrev pub IsConstantLexeme : PolicyLexeme → Value → Type 0
IsConstantLexeme (DigitsLexeme value) constant = constant ≡ Num (pos value)
IsConstantLexeme (NegativeLexeme value) constant = constant ≡ Num (neg_ℤ (pos value))
IsConstantLexeme (TextLexeme text) constant = constant ≡ TextOf text
IsConstantLexeme _ constant = Unit {0}

-- whether a rule has this name
abbrev pub has_name : List SyntaxRule → List ℕ → Bool
has_name rules name = list_any (λ (rule : SyntaxRule). bytes_eq name rule.name) rules

-- a unary with a formula in it begins
abbrev pub begins_inner : PolicyLexeme → Bool
begins_inner (Symbol Not) = true
begins_inner (Symbol OpenParen) = true
begins_inner (Prefix _) = true
begins_inner (Quantifier _) = true
begins_inner _ = false

-- the names of rules
abbrev pub syntax_rule_names : List SyntaxRule → List (List ℕ)
syntax_rule_names rules = map (λ (rule : SyntaxRule). rule.name) rules

-- whether the lexeme is the name of one of these rules
abbrev pub is_name_of : PolicyLexeme → List SyntaxRule → Bool
is_name_of (NameLexeme name) rules = has_name rules name
is_name_of _ rules = false

-- nothing is asked of what follows
abbrev pub AsksNothing : {P : Type 0} → P → PolicyLexeme → Type 0
AsksNothing phrase next = Unit {0}

abbrev pub TermRead : (level scope : ℕ) → (before after : List PlacedLexeme) → SyntaxTerm → Type 0
TermRead level scope =
    IsPhraseRead (grammar.term_fold spell level scope) (grammar.term_fold bound level scope) AsksNothing
    phrases.term_tree

abbrev pub TermsRead : (level scope : ℕ) → (before after : List PlacedLexeme) → List SyntaxTerm → Type 0
TermsRead level scope =
    IsPhraseRead (grammar.terms_fold spell level scope) (grammar.terms_fold bound level scope) AsksNothing
    phrases.terms_list

abbrev pub ArgumentsRead : (level scope : ℕ) → (before after : List PlacedLexeme) → List SyntaxTerm → Type 0
ArgumentsRead level scope =
    IsPhraseRead (grammar.arguments_fold spell level scope) (grammar.arguments_fold bound level scope) AsksNothing
    (λ arguments. phrases.some_terms_list arguments.terms)

abbrev pub VariablesRead : (level scope : ℕ) → (before after : List PlacedLexeme) → List Binding → Type 0
VariablesRead level scope =
    IsPhraseRead (grammar.variables_fold spell level scope)
    (grammar.variables_fold bound level scope) AsksNothing phrases.variables_list

abbrev pub IntervalRead : (level scope : ℕ) → (before after : List PlacedLexeme) → Interval → Type 0
IntervalRead level scope =
    IsPhraseRead (grammar.interval_fold spell level scope)
    (grammar.interval_fold bound level scope) AsksNothing phrases.interval_of

abbrev pub PrimaryRead : (level scope : ℕ) → (before after : List PlacedLexeme) → SyntaxTree → Type 0
PrimaryRead level scope =
    IsPhraseRead (grammar.primary_fold spell level scope) (grammar.primary_fold bound level scope)
    (λ phrase next. grammar.PrimaryFits phrase) phrases.primary_tree

abbrev pub UnaryRead : (level scope : ℕ) → (before after : List PlacedLexeme) → SyntaxTree → Type 0
UnaryRead level scope =
    IsPhraseRead (grammar.unary_fold spell level scope)
    (grammar.unary_fold bound level scope) grammar.UnaryFits phrases.unary_tree

abbrev pub InfixRead : (level scope : ℕ) → (before after : List PlacedLexeme) → SyntaxTree → Type 0
InfixRead level scope =
    IsPhraseRead (grammar.infix_fold spell level scope)
    (grammar.infix_fold bound level scope) grammar.InfixFits phrases.binary_tree

abbrev pub AndRead : (level scope : ℕ) → (before after : List PlacedLexeme) → SyntaxTree → Type 0
AndRead level scope =
    IsPhraseRead (grammar.and_fold spell level scope) (grammar.and_fold bound level scope) grammar.AndFits
    phrases.and_tree

abbrev pub OrRead : (level scope : ℕ) → (before after : List PlacedLexeme) → SyntaxTree → Type 0
OrRead level scope =
    IsPhraseRead (grammar.or_fold spell level scope) (grammar.or_fold bound level scope) grammar.OrFits phrases.or_tree

abbrev pub FormulaRead : (level scope : ℕ) → (before after : List PlacedLexeme) → SyntaxTree → Type 0
FormulaRead level scope =
    IsPhraseRead (grammar.formula_fold spell level scope)
    (grammar.formula_fold bound level scope) grammar.FormulaFits phrases.formula_tree

abbrev pub RuleRead : (before after : List PlacedLexeme) → PolicyRule → Type 0
RuleRead =
    IsPhraseRead (grammar.rule_fold spell) (grammar.rule_fold bound) (λ rule next. grammar.RuleFits rule)
    grammar.rule_tree
