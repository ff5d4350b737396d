-- The lexemes that spell a phrase, how far it reaches, and when a text is a policy.
use Rattle.std.specs.Prelude.{ℕ, Option, Some, None, ◌+◌, length, List, [], ◌∷◌, nat_le, ◌&&◌, Bool, ◌≢◌, map, ◌≡◌}
use Rattle.std.specs.Prelude.{true}
use Rattle.policy_syntax.specs.declared.lexemes.Symbol.TheVariants.{Comma, OpenParen, CloseParen, Star, OpenBracket}
use Rattle.policy_syntax.specs.declared.lexemes.Symbol.TheVariants.{CloseBracket, Not, And, Or, Arrow, Dot, Rule}
use Rattle.policy_syntax.specs.declared.lexemes.Symbol.TheVariants.{Semicolon, Colon}
use Rattle.policy_syntax.specs.declared.limits.TheConstants.{MOST_LEVEL, MOST_VARIABLES}
use Rattle.policy_syntax.specs.meaning.Lexemes.{PolicyLexeme, NameLexeme, DigitsLexeme, NegativeLexeme, TextLexeme}
use Rattle.policy_syntax.specs.meaning.Lexemes.{Symbol, Truth, Prefix, Infix, Quantifier, Sign, PlacedLexeme}
use Rattle.policy_syntax.specs.meaning.Lexemes.{next_lexeme, lexemes}
use Rattle.policy_syntax.specs.meaning.Phrases.{TermPhrase, Variable, Plain, Minus, Quoted, TermsPhrase, LastTerm}
use Rattle.policy_syntax.specs.meaning.Phrases.{NextTerm, ArgumentsPhrase, VariablesPhrase, LastVariable, NextVariable}
use Rattle.policy_syntax.specs.meaning.Phrases.{variables_list, IntervalPhrase, FormulaPhrase, OneSide, Implication}
use Rattle.policy_syntax.specs.meaning.Phrases.{OrPhrase, OneCase, Disjunction, AndPhrase, OnePart, Conjunction}
use Rattle.policy_syntax.specs.meaning.Phrases.{InfixPhrase, OneOperand, Between, UnaryPhrase, Negation, Before}
use Rattle.policy_syntax.specs.meaning.Phrases.{Quantified, Primary, PrimaryPhrase, Parenthesis, Constant, Event}
use Rattle.policy_syntax.specs.meaning.Phrases.{Comparison, RulePhrase, formula_tree}
use Rattle.policy_syntax.specs.meaning.Trees.{PolicyRule, IsPolicy}
use Rattle.policy_syntax.specs.declared.lexemes.Infix as infixes
use Rattle.policy_syntax.specs.meaning.Trees as tree

-- ---- spelling: what a phrase's lexemes make of what stands after them, by a step for each. A lexeme stands at a
-- level, and some variables are in scope at it. A parenthesis, a prefix operator and a quantifier are open at each
-- lexeme after their own, a parenthesis up to and with its end; a binary operator lifts its right operand; a variable
-- is in scope from its binding on

abbrev pub LexemeStep : Type 0 → Type 0
LexemeStep R = (level scope place : ℕ) → PolicyLexeme → R → R

abbrev pub term_lexeme : TermPhrase → PolicyLexeme
term_lexeme (Variable place name) = NameLexeme name
term_lexeme (Plain place value) = DigitsLexeme value
term_lexeme (Minus place value) = NegativeLexeme value
term_lexeme (Quoted place text) = TextLexeme text

abbrev pub term_place : TermPhrase → ℕ
term_place (Variable place name) = place
term_place (Plain place value) = place
term_place (Minus place value) = place
term_place (Quoted place text) = place

abbrev pub term_fold : {R : Type 0} → LexemeStep R → (level scope : ℕ) → TermPhrase → R → R
term_fold step level scope term rest = step level scope (term_place term) (term_lexeme term) rest

abbrev pub terms_fold : {R : Type 0} → LexemeStep R → (level scope : ℕ) → TermsPhrase → R → R
terms_fold step level scope (LastTerm term) rest = term_fold step level scope term rest
terms_fold step level scope (NextTerm term comma more) rest =
    term_fold step level scope term (step level scope comma (Symbol Comma) (terms_fold step level scope more rest))

abbrev pub some_terms_fold : {R : Type 0} → LexemeStep R → (level scope : ℕ) → Option TermsPhrase → R → R
some_terms_fold step level scope None rest = rest
some_terms_fold step level scope (Some more) rest = terms_fold step level scope more rest

abbrev pub arguments_fold : {R : Type 0} → LexemeStep R → (level scope : ℕ) → ArgumentsPhrase → R → R
arguments_fold step level scope arguments rest = step level scope arguments.open_paren (Symbol OpenParen)
    (some_terms_fold step (level + 1) scope arguments.terms
    (step (level + 1) scope arguments.close_paren (Symbol CloseParen) rest))

abbrev pub variables_fold : {R : Type 0} → LexemeStep R → (level scope : ℕ) → VariablesPhrase → R → R
variables_fold step level scope (LastVariable variable) rest =
    step level (scope + 1) variable.place (NameLexeme variable.name) rest
variables_fold step level scope (NextVariable variable comma more) rest =
    step level (scope + 1) variable.place (NameLexeme variable.name)
    (step level (scope + 1) comma (Symbol Comma) (variables_fold step level (scope + 1) more rest))

-- the number of variables in scope after those that a quantifier binds
abbrev pub scope_behind : ℕ → VariablesPhrase → ℕ
scope_behind scope variables = scope + length (variables_list variables)

abbrev pub end_lexeme : Option ℕ → PolicyLexeme
end_lexeme (Some high) = DigitsLexeme high
end_lexeme None = Symbol Star

abbrev pub interval_fold : {R : Type 0} → LexemeStep R → (level scope : ℕ) → IntervalPhrase → R → R
interval_fold step level scope interval rest = step level scope interval.open_bracket (Symbol OpenBracket)
    (step level scope interval.low_place (DigitsLexeme interval.low)
    (step level scope interval.comma (Symbol Comma) (step level scope interval.high_place (end_lexeme interval.high)
    (step level scope interval.close_bracket (Symbol CloseBracket) rest))))

abbrev mutual
  pub formula_fold : {R : Type 0} → LexemeStep R → (level scope : ℕ) → FormulaPhrase → R → R
  formula_fold step level scope (OneSide f) rest = or_fold step level scope f rest
  formula_fold step level scope (Implication f place g) rest =
      or_fold step level scope f (step level scope place (Symbol Arrow) (formula_fold step (level + 1) scope g rest))

  pub or_fold : {R : Type 0} → LexemeStep R → (level scope : ℕ) → OrPhrase → R → R
  or_fold step level scope (OneCase f) rest = and_fold step level scope f rest
  or_fold step level scope (Disjunction f place g) rest =
      and_fold step level scope f (step level scope place (Symbol Or) (or_fold step (level + 1) scope g rest))

  pub and_fold : {R : Type 0} → LexemeStep R → (level scope : ℕ) → AndPhrase → R → R
  and_fold step level scope (OnePart f) rest = infix_fold step level scope f rest
  and_fold step level scope (Conjunction f place g) rest =
      infix_fold step level scope f (step level scope place (Symbol And) (and_fold step (level + 1) scope g rest))

  pub infix_fold : {R : Type 0} → LexemeStep R → (level scope : ℕ) → InfixPhrase → R → R
  infix_fold step level scope (OneOperand f) rest = unary_fold step level scope f rest
  infix_fold step level scope (Between f operator place interval g) rest = unary_fold step level scope f
      (step level scope place (Infix operator)
      (interval_fold step level scope interval (unary_fold step (level + 1) scope g rest)))

  pub unary_fold : {R : Type 0} → LexemeStep R → (level scope : ℕ) → UnaryPhrase → R → R
  unary_fold step level scope (Negation place f) rest =
      step level scope place (Symbol Not) (unary_fold step (level + 1) scope f rest)
  unary_fold step level scope (Before operator place interval f) rest = step level scope place (Prefix operator)
      (interval_fold step (level + 1) scope interval (unary_fold step (level + 1) scope f rest))
  unary_fold step level scope (Quantified quantifier place variables dot f) rest =
      step level scope place (Quantifier quantifier) (variables_fold step (level + 1) scope variables
      (step (level + 1) (scope_behind scope variables) dot (Symbol Dot)
      (formula_fold step (level + 1) (scope_behind scope variables) f rest)))
  unary_fold step level scope (Primary f) rest = primary_fold step level scope f rest

  pub primary_fold : {R : Type 0} → LexemeStep R → (level scope : ℕ) → PrimaryPhrase → R → R
  primary_fold step level scope (Parenthesis open_paren f close_paren) rest =
      step level scope open_paren (Symbol OpenParen)
      (formula_fold step (level + 1) scope f (step (level + 1) scope close_paren (Symbol CloseParen) rest))
  primary_fold step level scope (Constant value place) rest = step level scope place (Truth value) rest
  primary_fold step level scope (Event place name arguments) rest =
      step level scope place (NameLexeme name) (arguments_fold step level scope arguments rest)
  primary_fold step level scope (Comparison s sign place t) rest =
      term_fold step level scope s (step level scope place (Sign sign) (term_fold step level scope t rest))

abbrev pub rule_fold : {R : Type 0} → LexemeStep R → RulePhrase → R → R
rule_fold step rule rest = step 0 0 rule.place (Symbol Rule) (step 0 0 rule.name_place (NameLexeme rule.name)
    (step 0 0 rule.colon (Symbol Colon)
    (formula_fold step 0 0 rule.formula (step 0 0 rule.semicolon (Symbol Semicolon) rest))))

-- policy = { "rule" NAME ":" formula ";" }
abbrev pub policy_fold : {R : Type 0} → LexemeStep R → List RulePhrase → R → R
policy_fold step [] rest = rest
policy_fold step (rule ∷ rules) rest = rule_fold step rule (policy_fold step rules rest)

-- the step that spells: each lexeme stands with its place before those after it
abbrev pub spell : LexemeStep (List PlacedLexeme)
spell level scope place lexeme rest = (place, lexeme) ∷ rest

-- the step that tells whether each lexeme stands within the limits on levels and scopes
abbrev pub bound : LexemeStep Bool
bound level scope place lexeme rest = nat_le level MOST_LEVEL && nat_le scope MOST_VARIABLES && rest

-- ---- an optional part stands wherever the lexeme that begins it stands, so that a quantifier reaches as far to the
-- right as it can. `next` is the lexeme after the phrase

abbrev mutual
  pub FormulaFits : FormulaPhrase → (next : PolicyLexeme) → Type 0
  FormulaFits (OneSide f) next = OrFits f next × (next ≢ Symbol Arrow)
  FormulaFits (Implication f place g) next = OrFits f (Symbol Arrow) × FormulaFits g next

  pub OrFits : OrPhrase → (next : PolicyLexeme) → Type 0
  OrFits (OneCase f) next = AndFits f next × (next ≢ Symbol Or)
  OrFits (Disjunction f place g) next = AndFits f (Symbol Or) × OrFits g next

  pub AndFits : AndPhrase → (next : PolicyLexeme) → Type 0
  AndFits (OnePart f) next = InfixFits f next × (next ≢ Symbol And)
  AndFits (Conjunction f place g) next = InfixFits f (Symbol And) × AndFits g next

  pub InfixFits : InfixPhrase → (next : PolicyLexeme) → Type 0
  InfixFits (OneOperand f) next = UnaryFits f next × ((operator : infixes.Infix) → next ≢ Infix operator)
  InfixFits (Between f operator place interval g) next = UnaryFits f (Infix operator) × UnaryFits g next

  pub UnaryFits : UnaryPhrase → (next : PolicyLexeme) → Type 0
  UnaryFits (Negation place f) next = UnaryFits f next
  UnaryFits (Before operator place interval f) next = UnaryFits f next
  UnaryFits (Quantified quantifier place variables dot f) next = FormulaFits f next
  UnaryFits (Primary f) next = PrimaryFits f

  pub PrimaryFits : PrimaryPhrase → Type 0
  PrimaryFits (Parenthesis open_paren f close_paren) = FormulaFits f (Symbol CloseParen)
  PrimaryFits (Constant value place) = Unit {0}
  PrimaryFits (Event place name arguments) = Unit {0}
  PrimaryFits (Comparison s sign place t) = Unit {0}

-- a rule's formula is followed by its semicolon
abbrev pub RuleFits : RulePhrase → Type 0
RuleFits rule = FormulaFits rule.formula (Symbol Semicolon)

abbrev pub PolicyFits : List RulePhrase → Type 0
PolicyFits [] = Unit {0}
PolicyFits (rule ∷ rules) = RuleFits rule × PolicyFits rules

abbrev pub rule_tree : RulePhrase → tree.PolicyRule
rule_tree rule = record { place = rule.place; name = rule.name; formula = formula_tree rule.formula }

abbrev pub policy_tree : List RulePhrase → List tree.PolicyRule
policy_tree rules = map rule_tree rules

-- a phrase with this tree was read: before it stood its lexemes, each within the limits, and then what is left after
-- it, which does not go on with it
pub record IsPhraseRead {P T : Type 0} (spelled : P → List PlacedLexeme → List PlacedLexeme) (bounded : P → Bool → Bool)
    (Fits : P → PolicyLexeme → Type 0) (tree_of : P → T) (before after : List PlacedLexeme) (tree : T) : Type 0
  where
    pub phrase : P
    pub tree_is : tree_of phrase ≡ tree
    pub fits : Fits phrase (next_lexeme after)
    pub spells : spelled phrase after ≡ before
    pub bounds : bounded phrase true ≡ true

abbrev pub PolicyRead : (before after : List PlacedLexeme) → List PolicyRule → Type 0
PolicyRead = IsPhraseRead (policy_fold spell) (policy_fold bound) (λ rules next. PolicyFits rules) policy_tree

-- the text is a policy of these rules, within the limits
pub record IsPolicyText (bytes : List ℕ) (rules : List PolicyRule) : Type 0 where
  pub read : PolicyRead (lexemes bytes) [] rules
  pub within : IsPolicy rules
