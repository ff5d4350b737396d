-- A lexeme that begins the next item, before what the stack stands for then, is what it stood for; and each stack stands
-- for something.
use Rattle.policy_syntax.proofs.Vocabulary.{◌≡◌, ◌≢◌, ℕ, ◌+◌, Bool, true, false, true≢false, if◌then◌else◌, List, [], ◌∷◌, ◌++◌, Option, None, Some, refl, sym, ap, subst, ◌∙◌, ItemKind, StackItem}
use Rattle.policy_syntax.proofs.Vocabulary.{Stack, stack_item, formula_on, offer, skips, settle, FormulaPhrase, TermPhrase, Variable, Plain, Minus, Quoted, LastTerm, NextTerm, LastVariable}
use Rattle.policy_syntax.proofs.Vocabulary.{NextVariable, Negation, Before, Quantified, Primary, Parenthesis, Constant, Event, Comparison, term_lexeme, term_place, PolicyLexeme, Symbol, Truth, Prefix}
use Rattle.policy_syntax.proofs.Vocabulary.{Infix, Quantifier, Sign, NameLexeme, DigitsLexeme, NegativeLexeme, TextLexeme, Deep, deepen, Rule, Not, And, Or, Arrow, OpenParen, CloseParen, OpenBracket}
use Rattle.policy_syntax.proofs.Vocabulary.{CloseBracket, Comma, Semicolon, Colon, Dot, Star}
use Rattle.policy_syntax.proofs.StackMeanings.{Denotes, NoInfix, SomeInfix, Without, With, VariableRest, Dotted, Further, NameRest, Called, Compared, TermRest, Closed, Another, scoped_is, next_deep}
use Rattle.policy_syntax.proofs.StackMeanings.{VariableRestFits, name_rest_fold, term_rest_fold, variable_rest_fold}
use Rattle.policy_syntax.proofs.OperandParts.{and_join, or_join, formula_join}
use Rattle.policy_syntax.specs.machine.Automaton as automaton
use Rattle.policy_syntax.specs.meaning.Grammar as grammar
use Rattle.policy_syntax.specs.meaning.Phrases as phrases
use Rattle.policy_syntax.specs.declared.lexemes.Infix as infixes
use Rattle.policy_syntax.specs.declared.lexemes.Quantifier as quantifiers

-- where the lexeme is offered this
abbrev pub DenotesLeft : Option Stack → Stack → List Deep → Type 0
DenotesLeft None rest text = ⊥
DenotesLeft (Some left) rest text = Denotes (left ++ rest) text

-- ---- operands

parenthesis_back : (l s p : ℕ) (rest : Stack) (text : List Deep) → Denotes (formula_on (l + 1) s (stack_item automaton.ParenthesisEnd (l + 1) s ∷ rest)) text
    → Denotes (stack_item automaton.Operand l s ∷ rest) (deepen l s p (Symbol OpenParen) text)
parenthesis_back l s p rest text denoted =
    let j = formula_join (l + 1) s (stack_item automaton.ParenthesisEnd (l + 1) s ∷ rest) text denoted in
    let close = j.later.1 in (
      j.later.0,
      record {
        phrase = Primary (Parenthesis p j.phrase close.phrase);
        spells = ap (λ (x : List Deep). deepen l s p (Symbol OpenParen) (grammar.formula_fold deepen (l + 1) s j.phrase x)) close.spells ∙ ap (deepen l s p (Symbol OpenParen)) j.spells;
        fits = subst (λ (x : List Deep). grammar.FormulaFits j.phrase (next_deep x)) (sym close.spells) j.fits;
      },
      j.later.2,
    )

quantified_back : (l s p : ℕ) (quantifier : quantifiers.Quantifier) (rest : Stack) (text : List Deep) → Denotes (stack_item automaton.BoundVariable (l + 1) (s + 1) ∷ rest) text
    → Denotes (stack_item automaton.Operand l s ∷ rest) (deepen l s p (Quantifier quantifier) text)
quantified_back l s p quantifier rest text (after, b, later) = (
  after,
  record {
    phrase = Quantified quantifier p b.phrase.variables b.phrase.dot b.phrase.formula;
    spells = ap (deepen l s p (Quantifier quantifier)) (sym (scoped_is (l + 1) s b.phrase after) ∙ b.spells);
    fits = b.fits;
  },
  later,
)

name_back : (l s p : ℕ) (name : List ℕ) (rest : Stack) (text after : List Deep) (r : NameRest) → name_rest_fold l s r after ≡ text → Denotes rest after
    → Denotes (stack_item automaton.Operand l s ∷ rest) (deepen l s p (NameLexeme name) text)
name_back l s p name rest text after (Called arguments) e later =
    (after, record { phrase = Primary (Event p name arguments); spells = ap (deepen l s p (NameLexeme name)) e; fits = tt }, later)
name_back l s p name rest text after (Compared sign place t) e later =
    (after, record { phrase = Primary (Comparison (Variable p name) sign place t); spells = ap (deepen l s p (NameLexeme name)) e; fits = tt }, later)

operand_back : (l s p : ℕ) (x : PolicyLexeme) (rest : Stack) (text : List Deep) → DenotesLeft (offer automaton.Operand l s p x) rest text
    → Denotes (stack_item automaton.Operand l s ∷ rest) (deepen l s p x text)
operand_back l s p (Symbol Not) rest text (after, r, later) =
    (after, record { phrase = Negation p r.phrase; spells = ap (deepen l s p (Symbol Not)) r.spells; fits = r.fits }, later)
operand_back l s p (Symbol OpenParen) rest text denoted = parenthesis_back l s p rest text denoted
operand_back l s p (Prefix operator) rest text (after, r, later) =
    (after, record { phrase = Before operator p r.phrase.interval r.phrase.operand; spells = ap (deepen l s p (Prefix operator)) r.spells; fits = r.fits }, later)
operand_back l s p (Quantifier quantifier) rest text denoted = quantified_back l s p quantifier rest text denoted
operand_back l s p (Truth value) rest text denoted = (text, record { phrase = Primary (Constant value p); spells = refl; fits = tt }, denoted)
operand_back l s p (NameLexeme name) rest text (after, r, later) = name_back l s p name rest text after r.phrase r.spells later
operand_back l s p (DigitsLexeme value) rest text (after, r, later) =
    (after, record { phrase = Primary (Comparison (Plain p value) r.phrase.sign r.phrase.place r.phrase.right); spells = ap (deepen l s p (DigitsLexeme value)) r.spells; fits = tt }, later)
operand_back l s p (NegativeLexeme value) rest text (after, r, later) =
    (after, record { phrase = Primary (Comparison (Minus p value) r.phrase.sign r.phrase.place r.phrase.right); spells = ap (deepen l s p (NegativeLexeme value)) r.spells; fits = tt }, later)
operand_back l s p (TextLexeme value) rest text (after, r, later) =
    (after, record { phrase = Primary (Comparison (Quoted p value) r.phrase.sign r.phrase.place r.phrase.right); spells = ap (deepen l s p (TextLexeme value)) r.spells; fits = tt }, later)
operand_back l s p x rest text denoted = absurd denoted

-- ---- optional parts

infix_back : (l s p : ℕ) (x : PolicyLexeme) (rest : Stack) (text : List Deep) → DenotesLeft (offer automaton.InfixTail l s p x) rest text
    → Denotes (stack_item automaton.InfixTail l s ∷ rest) (deepen l s p x text)
infix_back l s p (Infix operator) rest text (after, r, later) =
    (after, record { phrase = SomeInfix operator p r.phrase.interval r.phrase.operand; spells = ap (deepen l s p (Infix operator)) r.spells; fits = r.fits }, later)
infix_back l s p x rest text denoted = absurd denoted

and_back : (l s p : ℕ) (x : PolicyLexeme) (rest : Stack) (text : List Deep) → DenotesLeft (offer automaton.AndTail l s p x) rest text
    → Denotes (stack_item automaton.AndTail l s ∷ rest) (deepen l s p x text)
and_back l s p (Symbol And) rest text denoted =
    let j = and_join (l + 1) s rest text denoted in (j.after, record { phrase = With p j.phrase; spells = ap (deepen l s p (Symbol And)) j.spells; fits = j.fits }, j.later)
and_back l s p x rest text denoted = absurd denoted

or_back : (l s p : ℕ) (x : PolicyLexeme) (rest : Stack) (text : List Deep) → DenotesLeft (offer automaton.OrTail l s p x) rest text
    → Denotes (stack_item automaton.OrTail l s ∷ rest) (deepen l s p x text)
or_back l s p (Symbol Or) rest text denoted =
    let j = or_join (l + 1) s rest text denoted in (j.after, record { phrase = With p j.phrase; spells = ap (deepen l s p (Symbol Or)) j.spells; fits = j.fits }, j.later)
or_back l s p x rest text denoted = absurd denoted

arrow_back : (l s p : ℕ) (x : PolicyLexeme) (rest : Stack) (text : List Deep) → DenotesLeft (offer automaton.ArrowTail l s p x) rest text
    → Denotes (stack_item automaton.ArrowTail l s ∷ rest) (deepen l s p x text)
arrow_back l s p (Symbol Arrow) rest text denoted =
    let j = formula_join (l + 1) s rest text denoted in (j.after, record { phrase = With p j.phrase; spells = ap (deepen l s p (Symbol Arrow)) j.spells; fits = j.fits }, j.later)
arrow_back l s p x rest text denoted = absurd denoted

-- ---- rules

rules_back : (l s p : ℕ) (x : PolicyLexeme) (rest : Stack) (text : List Deep) → DenotesLeft (offer automaton.MoreRules l s p x) rest text
    → Denotes (stack_item automaton.MoreRules l s ∷ rest) (deepen l s p x text)
rules_back l s p (Symbol Rule) rest text (after, r, later) =
    (after, record { phrase = record r.phrase.rule { place = p } ∷ r.phrase.more; spells = ap (deepen l s p (Symbol Rule)) r.spells; fits = ((r.fits.0, r.fits.1.0), r.fits.1.1) }, later)
rules_back l s p x rest text denoted = absurd denoted

rule_name_back : (l s p : ℕ) (x : PolicyLexeme) (rest : Stack) (text : List Deep) → DenotesLeft (offer automaton.RuleName l s p x) rest text
    → Denotes (stack_item automaton.RuleName l s ∷ rest) (deepen l s p x text)
rule_name_back l s p (NameLexeme name) rest text (after, r, later) = (
  after,
  record {
    phrase = record { rule = record r.phrase.rule { name_place = p; name = name }; more = r.phrase.more };
    spells = ap (deepen l s p (NameLexeme name)) r.spells;
    fits =
        r.fits;
  },
  later,
)
rule_name_back l s p x rest text denoted = absurd denoted

colon_back : (l s p : ℕ) (x : PolicyLexeme) (rest : Stack) (text : List Deep) → DenotesLeft (offer automaton.RuleColon l s p x) rest text
    → Denotes (stack_item automaton.RuleColon l s ∷ rest) (deepen l s p x text)
colon_back l s p (Symbol Colon) rest text denoted =
    let j = formula_join l s (stack_item automaton.RuleEnd l s ∷ rest) text denoted in
    let r = j.later.1 in (
      j.later.0,
      record {
        phrase = record { rule = record { place = 0; name_place = 0; name = []; colon = p; formula = j.phrase; semicolon = r.phrase.rule.semicolon }; more = r.phrase.more };
        spells = ap (λ (x : List Deep). deepen l s p (Symbol Colon) (grammar.formula_fold deepen l s j.phrase x)) r.spells ∙ ap (deepen l s p (Symbol Colon)) j.spells;
        fits = (subst (λ (x : List Deep). grammar.FormulaFits j.phrase (next_deep x)) (sym r.spells) j.fits, r.fits);
      },
      j.later.2,
    )
colon_back l s p x rest text denoted = absurd denoted

-- a formula that stands for any
abbrev some_formula : FormulaPhrase
some_formula = phrases.OneSide (phrases.OneCase (phrases.OnePart (phrases.OneOperand (Primary (Constant true 0)))))

rule_end_back : (l s p : ℕ) (x : PolicyLexeme) (rest : Stack) (text : List Deep) → DenotesLeft (offer automaton.RuleEnd l s p x) rest text
    → Denotes (stack_item automaton.RuleEnd l s ∷ rest) (deepen l s p x text)
rule_end_back l s p (Symbol Semicolon) rest text (after, r, later) = (
  after,
  record {
    phrase = record { rule = record { place = 0; name_place = 0; name = []; colon = 0; formula = some_formula; semicolon = p }; more = r.phrase };
    spells = ap (deepen l s p (Symbol Semicolon)) r.spells;
    fits = r.fits;
  },
  later,
)
rule_end_back l s p x rest text denoted = absurd denoted

-- ---- intervals

open_back : (operand l s p : ℕ) (x : PolicyLexeme) (rest : Stack) (text : List Deep) → DenotesLeft (offer (automaton.OpenInterval operand) l s p x) rest text
    → Denotes (stack_item (automaton.OpenInterval operand) l s ∷ rest) (deepen l s p x text)
open_back operand l s p (Symbol OpenBracket) rest text (after, r, later) =
    (after, record { phrase = record r.phrase { interval = record r.phrase.interval { open_bracket = p } }; spells = ap (deepen l s p (Symbol OpenBracket)) r.spells; fits = r.fits }, later)
open_back operand l s p x rest text denoted = absurd denoted

first_back : (operand l s p : ℕ) (x : PolicyLexeme) (rest : Stack) (text : List Deep) → DenotesLeft (offer (automaton.FirstEnd operand) l s p x) rest text
    → Denotes (stack_item (automaton.FirstEnd operand) l s ∷ rest) (deepen l s p x text)
first_back operand l s p (DigitsLexeme low) rest text (after, r, later) =
    (after, record { phrase = record r.phrase { interval = record r.phrase.interval { low_place = p; low = low } }; spells = ap (deepen l s p (DigitsLexeme low)) r.spells; fits = r.fits }, later)
first_back operand l s p x rest text denoted = absurd denoted

comma_back : (operand low l s p : ℕ) (x : PolicyLexeme) (rest : Stack) (text : List Deep) → DenotesLeft (offer (automaton.IntervalComma operand low) l s p x) rest text
    → Denotes (stack_item (automaton.IntervalComma operand low) l s ∷ rest) (deepen l s p x text)
comma_back operand low l s p (Symbol Comma) rest text (after, r, later) =
    (after, record { phrase = record r.phrase { interval = record r.phrase.interval { comma = p } }; spells = ap (deepen l s p (Symbol Comma)) r.spells; fits = r.fits }, later)
comma_back operand low l s p x rest text denoted = absurd denoted

second_back : (operand low l s p : ℕ) (x : PolicyLexeme) (rest : Stack) (text : List Deep) → DenotesLeft (offer (automaton.SecondEnd operand low) l s p x) rest text
    → Denotes (stack_item (automaton.SecondEnd operand low) l s ∷ rest) (deepen l s p x text)
second_back operand low l s p (DigitsLexeme high) rest text (after, r, later) = (
  after,
  record {
    phrase = record r.phrase { interval = record r.phrase.interval { high_place = p; high = Some high } };
    spells = ap (deepen l s p (DigitsLexeme high)) r.spells;
    fits =
        r.fits;
  },
  later,
)
second_back operand low l s p (Symbol Star) rest text (after, r, later) =
    (after, record { phrase = record r.phrase { interval = record r.phrase.interval { high_place = p; high = None } }; spells = ap (deepen l s p (Symbol Star)) r.spells; fits = r.fits }, later)
second_back operand low l s p x rest text denoted = absurd denoted

close_back : (operand l s p : ℕ) (x : PolicyLexeme) (rest : Stack) (text : List Deep) → DenotesLeft (offer (automaton.CloseInterval operand) l s p x) rest text
    → Denotes (stack_item (automaton.CloseInterval operand) l s ∷ rest) (deepen l s p x text)
close_back operand l s p (Symbol CloseBracket) rest text (after, r, later) = (
  after,
  record {
    phrase = record { interval = record { open_bracket = 0; low_place = 0; low = 0; comma = 0; high_place = 0; high = None; close_bracket = p }; operand = r.phrase };
    spells = ap (deepen l s p (Symbol CloseBracket)) r.spells;
    fits = r.fits;
  },
  later,
)
close_back operand l s p x rest text denoted = absurd denoted

-- ---- variables

variable_back : (l s p : ℕ) (name : List ℕ) (rest : Stack) (text after : List Deep) (r : VariableRest) → variable_rest_fold l s r after ≡ text
    → VariableRestFits r (next_deep after) → Denotes rest after
    → Denotes (stack_item automaton.BoundVariable l s ∷ rest) (deepen l s p (NameLexeme name) text)
variable_back l s p name rest text after (Dotted dot f) e fits later =
    (after, record { phrase = record { variables = LastVariable (record { place = p; name = name }); dot = dot; formula = f }; spells = ap (deepen l s p (NameLexeme name)) e; fits = fits }, later)
variable_back l s p name rest text after (Further comma b) e fits later = (
  after,
  record {
    phrase = record { variables = NextVariable (record { place = p; name = name }) comma b.variables; dot = b.dot; formula = b.formula };
    spells = ap
        (deepen l s p (NameLexeme name)) e;
    fits = fits;
  },
  later,
)

bound_back : (l s p : ℕ) (x : PolicyLexeme) (rest : Stack) (text : List Deep) → DenotesLeft (offer automaton.BoundVariable l s p x) rest text
    → Denotes (stack_item automaton.BoundVariable l s ∷ rest) (deepen l s p x text)
bound_back l s p (NameLexeme name) rest text (after, r, later) = variable_back l s p name rest text after r.phrase r.spells r.fits later
bound_back l s p x rest text denoted = absurd denoted

behind_variable_back : (l s p : ℕ) (x : PolicyLexeme) (rest : Stack) (text : List Deep) → DenotesLeft (offer automaton.BehindVariable l s p x) rest text
    → Denotes (stack_item automaton.BehindVariable l s ∷ rest) (deepen l s p x text)
behind_variable_back l s p (Symbol Dot) rest text denoted =
    let j = formula_join l s rest text denoted in (j.after, record { phrase = Dotted p j.phrase; spells = ap (deepen l s p (Symbol Dot)) j.spells; fits = j.fits }, j.later)
behind_variable_back l s p (Symbol Comma) rest text (after, b, later) =
    (after, record { phrase = Further p b.phrase; spells = ap (deepen l s p (Symbol Comma)) b.spells; fits = b.fits }, later)
behind_variable_back l s p x rest text denoted = absurd denoted

-- ---- what ends a parenthesis, and the parts of primaries

parenthesis_end_back : (l s p : ℕ) (x : PolicyLexeme) (rest : Stack) (text : List Deep) → DenotesLeft (offer automaton.ParenthesisEnd l s p x) rest text
    → Denotes (stack_item automaton.ParenthesisEnd l s ∷ rest) (deepen l s p x text)
parenthesis_end_back l s p (Symbol CloseParen) rest text denoted = (text, record { phrase = p; spells = refl; fits = tt }, denoted)
parenthesis_end_back l s p x rest text denoted = absurd denoted

behind_name_back : (at l s p : ℕ) (x : PolicyLexeme) (rest : Stack) (text : List Deep) → DenotesLeft (offer (automaton.BehindName at) l s p x) rest text
    → Denotes (stack_item (automaton.BehindName at) l s ∷ rest) (deepen l s p x text)
behind_name_back at l s p (Symbol OpenParen) rest text (after, r, later) =
    (after, record { phrase = Called (record { open_paren = p; terms = r.phrase.terms; close_paren = r.phrase.close }); spells = ap (deepen l s p (Symbol OpenParen)) r.spells; fits = tt }, later)
behind_name_back at l s p (Sign sign) rest text (after, r, later) = (after, record { phrase = Compared sign p r.phrase; spells = ap (deepen l s p (Sign sign)) r.spells; fits = tt }, later)
behind_name_back at l s p x rest text denoted = absurd denoted

behind_constant_back : (l s p : ℕ) (x : PolicyLexeme) (rest : Stack) (text : List Deep) → DenotesLeft (offer automaton.BehindConstant l s p x) rest text
    → Denotes (stack_item automaton.BehindConstant l s ∷ rest) (deepen l s p x text)
behind_constant_back l s p (Sign sign) rest text (after, r, later) =
    (after, record { phrase = record { sign = sign; place = p; right = r.phrase }; spells = ap (deepen l s p (Sign sign)) r.spells; fits = tt }, later)
behind_constant_back l s p x rest text denoted = absurd denoted

-- ---- terms

right_back : (l s p : ℕ) (x : PolicyLexeme) (rest : Stack) (text : List Deep) → DenotesLeft (offer automaton.RightSide l s p x) rest text
    → Denotes (stack_item automaton.RightSide l s ∷ rest) (deepen l s p x text)
right_back l s p (NameLexeme name) rest text denoted = (text, record { phrase = Variable p name; spells = refl; fits = tt }, denoted)
right_back l s p (DigitsLexeme value) rest text denoted = (text, record { phrase = Plain p value; spells = refl; fits = tt }, denoted)
right_back l s p (NegativeLexeme value) rest text denoted = (text, record { phrase = Minus p value; spells = refl; fits = tt }, denoted)
right_back l s p (TextLexeme value) rest text denoted = (text, record { phrase = Quoted p value; spells = refl; fits = tt }, denoted)
right_back l s p x rest text denoted = absurd denoted

next_term : (l s : ℕ) (t : TermPhrase) (rest : Stack) (text after : List Deep) (r : TermRest) → term_rest_fold l s r after ≡ text → Denotes rest after
    → Denotes (stack_item automaton.NextArgument l s ∷ rest) (deepen l s (term_place t) (term_lexeme t) text)
next_term l s t rest text after (Closed close) e later = (
  after,
  record {
    phrase = record { terms = LastTerm t; close = close };
    spells = ap (deepen l s (term_place t) (term_lexeme t)) e;
    fits = tt;
  },
  later,
)
next_term l s t rest text after (Another comma more close) e later =
    (after, record { phrase = record { terms = NextTerm t comma more; close = close }; spells = ap (deepen l s (term_place t) (term_lexeme t)) e; fits = tt }, later)

next_back : (l s p : ℕ) (x : PolicyLexeme) (rest : Stack) (text : List Deep) → DenotesLeft (offer automaton.NextArgument l s p x) rest text
    → Denotes (stack_item automaton.NextArgument l s ∷ rest) (deepen l s p x text)
next_back l s p (NameLexeme name) rest text (after, r, later) = next_term l s (Variable p name) rest text after r.phrase r.spells later
next_back l s p (DigitsLexeme value) rest text (after, r, later) = next_term l s (Plain p value) rest text after r.phrase r.spells later
next_back l s p (NegativeLexeme value) rest text (after, r, later) = next_term l s (Minus p value) rest text after r.phrase r.spells later
next_back l s p (TextLexeme value) rest text (after, r, later) = next_term l s (Quoted p value) rest text after r.phrase r.spells later
next_back l s p x rest text denoted = absurd denoted

-- terms where there may be none
some_terms : (l s : ℕ) (rest : Stack) (text : List Deep) → Denotes (stack_item automaton.NextArgument l s ∷ rest) text → Denotes (stack_item automaton.FirstArgument l s ∷ rest) text
some_terms l s rest text (after, r, later) = (after, record { phrase = record { terms = Some r.phrase.terms; close = r.phrase.close }; spells = r.spells; fits = tt }, later)

first_argument_back : (l s p : ℕ) (x : PolicyLexeme) (rest : Stack) (text : List Deep) → DenotesLeft (offer automaton.FirstArgument l s p x) rest text
    → Denotes (stack_item automaton.FirstArgument l s ∷ rest) (deepen l s p x text)
first_argument_back l s p (Symbol CloseParen) rest text denoted = (text, record { phrase = record { terms = None; close = p }; spells = refl; fits = tt }, denoted)
first_argument_back l s p (NameLexeme name) rest text denoted = some_terms l s rest (deepen l s p (NameLexeme name) text) (next_back l s p (NameLexeme name) rest text denoted)
first_argument_back l s p (DigitsLexeme value) rest text denoted = some_terms l s rest (deepen l s p (DigitsLexeme value) text) (next_back l s p (DigitsLexeme value) rest text denoted)
first_argument_back l s p (NegativeLexeme value) rest text denoted = some_terms l s rest (deepen l s p (NegativeLexeme value) text) (next_back l s p (NegativeLexeme value) rest text denoted)
first_argument_back l s p (TextLexeme value) rest text denoted = some_terms l s rest (deepen l s p (TextLexeme value) text) (next_back l s p (TextLexeme value) rest text denoted)
first_argument_back l s p x rest text denoted = absurd denoted

behind_argument_back : (l s p : ℕ) (x : PolicyLexeme) (rest : Stack) (text : List Deep) → DenotesLeft (offer automaton.BehindArgument l s p x) rest text
    → Denotes (stack_item automaton.BehindArgument l s ∷ rest) (deepen l s p x text)
behind_argument_back l s p (Symbol CloseParen) rest text denoted = (text, record { phrase = Closed p; spells = refl; fits = tt }, denoted)
behind_argument_back l s p (Symbol Comma) rest text (after, r, later) =
    (after, record { phrase = Another p r.phrase.terms r.phrase.close; spells = ap (deepen l s p (Symbol Comma)) r.spells; fits = tt }, later)
behind_argument_back l s p x rest text denoted = absurd denoted

-- ---- any item

pub back : (kind : ItemKind) (l s p : ℕ) (x : PolicyLexeme) (rest : Stack) (text : List Deep) → DenotesLeft (offer kind l s p x) rest text → Denotes (stack_item kind l s ∷ rest) (deepen l s p x text)
back automaton.MoreRules = rules_back
back automaton.RuleName = rule_name_back
back automaton.RuleColon = colon_back
back automaton.RuleEnd = rule_end_back
back automaton.Operand = operand_back
back automaton.InfixTail = infix_back
back automaton.AndTail = and_back
back automaton.OrTail = or_back
back automaton.ArrowTail = arrow_back
back (automaton.OpenInterval operand) = open_back operand
back (automaton.FirstEnd operand) = first_back operand
back (automaton.IntervalComma operand low) = comma_back operand low
back (automaton.SecondEnd operand low) = second_back operand low
back (automaton.CloseInterval operand) = close_back operand
back automaton.BoundVariable = bound_back
back automaton.BehindVariable = behind_variable_back
back automaton.ParenthesisEnd = parenthesis_end_back
back (automaton.BehindName at) = behind_name_back at
back automaton.BehindConstant = behind_constant_back
back automaton.FirstArgument = first_argument_back
back automaton.NextArgument = next_back
back automaton.BehindArgument = behind_argument_back
back automaton.RightSide = right_back

-- ---- an optional part that does not come

not_infix : (x : PolicyLexeme) → skips automaton.InfixTail x ≡ true → (operator : infixes.Infix) → x ≢ Infix operator
not_infix x skipped operator e = true≢false (sym skipped ∙ ap (skips automaton.InfixTail) e)

-- a kind that is skipped is one of these
pub skip_back : (kind : ItemKind) (l s : ℕ) (rest : Stack) (text : List Deep) → skips kind (next_deep text) ≡ true → Denotes rest text → Denotes (stack_item kind l s ∷ rest) text
skip_back automaton.MoreRules l s rest text skipped later = (text, record { phrase = []; spells = refl; fits = (tt, λ e. true≢false (sym skipped ∙ ap (skips automaton.MoreRules) e)) }, later)
skip_back automaton.InfixTail l s rest text skipped later = (text, record { phrase = NoInfix; spells = refl; fits = not_infix (next_deep text) skipped }, later)
skip_back automaton.AndTail l s rest text skipped later = (text, record { phrase = Without; spells = refl; fits = λ e. true≢false (sym skipped ∙ ap (skips automaton.AndTail) e) }, later)
skip_back automaton.OrTail l s rest text skipped later = (text, record { phrase = Without; spells = refl; fits = λ e. true≢false (sym skipped ∙ ap (skips automaton.OrTail) e) }, later)
skip_back automaton.ArrowTail l s rest text skipped later = (text, record { phrase = Without; spells = refl; fits = λ e. true≢false (sym skipped ∙ ap (skips automaton.ArrowTail) e) }, later)
skip_back kind l s rest text skipped later = absurd (true≢false (sym skipped))

-- the whole stack
pub back_step : (stack : Stack) (next : StackItem) (rest left : Stack) (p : ℕ) (x : PolicyLexeme) (text : List Deep) → settle x stack ≡ next ∷ rest
    → offer next.kind next.level next.scope p x ≡ Some left → Denotes (left ++ rest) text
    → Denotes stack (deepen next.level next.scope p x text)
back_step [] next rest left p x text settled offers denoted = absurd cc
back_step (first ∷ more) next rest left p x text settled offers denoted = by (skips first.kind x) refl settled (λ e. back_step more next rest left p x text e offers denoted)
  where
    by : (skipped : Bool) → skips first.kind x ≡ skipped → (if skipped then settle x more else first ∷ more) ≡ next ∷ rest
        → (settle x more ≡ next ∷ rest → Denotes more (deepen next.level next.scope p x text)) → Denotes (first ∷ more) (deepen next.level next.scope p x text)
    by true e is later = skip_back first.kind first.level first.scope more (deepen next.level next.scope p x text) e (later is)
    by false e is later = subst (λ (s : Stack). Denotes s (deepen next.level next.scope p x text)) (sym is)
        (back next.kind next.level next.scope p x rest text (subst (λ (o : Option Stack). DenotesLeft o rest text) (sym offers) denoted))
