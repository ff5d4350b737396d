-- The parts of a policy that hold no formula, put together from the lexemes that were taken.
use Rattle.policy_syntax.proofs.Vocabulary.{◌≡◌, ℕ, ◌+◌, ◌≤◌, true, List, [], ◌∷◌, ◌++◌, Option, None, Some, refl, sym, ap, ◌∙◌, Value, Variable, Plain, Minus, Quoted, LastTerm, NextTerm}
use Rattle.policy_syntax.proofs.Vocabulary.{LastVariable, NextVariable, Comparison, Event, sign_tree, bound, spell, end_lexeme, Ahead, is_constant, PolicyLexeme, PlacedLexeme, Symbol, Truth, Prefix}
use Rattle.policy_syntax.proofs.Vocabulary.{Infix, Quantifier, Sign, NameLexeme, DigitsLexeme, NegativeLexeme, TextLexeme, End, Other, IsLexemeTaken, IsConstantLexeme, TermRead, TermsRead}
use Rattle.policy_syntax.proofs.Vocabulary.{ArgumentsRead, VariablesRead, IntervalRead, PrimaryRead, OpenParen, CloseParen, OpenBracket, CloseBracket, Comma, MOST_VARIABLES, Binding, SyntaxTerm}
use Rattle.policy_syntax.proofs.LexemeLimits.{bound_is}
use Rattle.policy_syntax.specs.meaning.Grammar as grammar
use Rattle.policy_syntax.specs.meaning.Trees as tree
use Rattle.policy_syntax.specs.declared.lexemes.Sign as signs
use Rattle.policy_syntax.specs.declared.trees.SyntaxTerm.TheVariants as terms

-- ---- terms

pub variable_read : (level scope place : ℕ) (name : List ℕ) (s0 s1 : Ahead) → scope ≤ MOST_VARIABLES → IsLexemeTaken level (NameLexeme name) place s0 s1
    → TermRead level scope s0.rest s1.rest (terms.Variable place name)
variable_read level scope place name s0 s1 few t = record {
  phrase = Variable place name;
  tree_is = refl;
  fits = tt;
  spells = sym t.was;
  bounds = bound_is level scope place (NameLexeme name) true t.low few;
}

pub constant_read : (level scope place : ℕ) (lexeme : PolicyLexeme) (value : Value) (s0 s1 : Ahead) → scope ≤ MOST_VARIABLES → IsLexemeTaken level lexeme place s0 s1
    → is_constant lexeme ≡ true → IsConstantLexeme lexeme value
    → TermRead level scope s0.rest s1.rest (terms.Constant place value)
constant_read level scope place (DigitsLexeme n) value s0 s1 few t is e = record {
  phrase = Plain place n;
  tree_is = ap (terms.Constant place) (sym e);
  fits = tt;
  spells = sym t.was;
  bounds
      = bound_is level scope place (DigitsLexeme n) true t.low few;
}
constant_read level scope place (NegativeLexeme n) value s0 s1 few t is e = record {
  phrase = Minus place n;
  tree_is = ap (terms.Constant place) (sym e);
  fits = tt;
  spells = sym t.was;
  bounds = bound_is level scope place (NegativeLexeme n) true t.low few;
}
constant_read level scope place (TextLexeme text) value s0 s1 few t is e = record {
  phrase = Quoted place text;
  tree_is = ap (terms.Constant place) (sym e);
  fits = tt;
  spells = sym t.was;
  bounds = bound_is level scope place (TextLexeme text) true t.low few;
}
constant_read level scope place (Symbol _) value s0 s1 few t is e = absurd cc
constant_read level scope place (Truth _) value s0 s1 few t is e = absurd cc
constant_read level scope place (Prefix _) value s0 s1 few t is e = absurd cc
constant_read level scope place (Infix _) value s0 s1 few t is e = absurd cc
constant_read level scope place (Quantifier _) value s0 s1 few t is e = absurd cc
constant_read level scope place (Sign _) value s0 s1 few t is e = absurd cc
constant_read level scope place (NameLexeme _) value s0 s1 few t is e = absurd cc
constant_read level scope place End value s0 s1 few t is e = absurd cc
constant_read level scope place Other value s0 s1 few t is e = absurd cc

pub last_term : (level scope : ℕ) (term : SyntaxTerm) (before after : List PlacedLexeme) → TermRead level scope before after term → TermsRead level scope before after (term ∷ [])
last_term level scope term before after r = record { phrase = LastTerm r.phrase; tree_is = ap (λ t. t ∷ []) r.tree_is; fits = tt; spells = r.spells; bounds = r.bounds }

pub next_term : (level scope comma : ℕ) (term : SyntaxTerm) (more : List SyntaxTerm) (before after : List PlacedLexeme) (s1 s2 : Ahead) → scope ≤ MOST_VARIABLES
    → TermRead level scope before s1.rest term → IsLexemeTaken level (Symbol Comma) comma s1 s2 → TermsRead level scope s2.rest after more
    → TermsRead level scope before after (term ∷ more)
next_term level scope comma term more before after s1 s2 few r t m = record {
  phrase = NextTerm r.phrase comma m.phrase;
  tree_is = (λ j. r.tree_is j ∷ m.tree_is j);
  fits = tt;
  spells = ap (λ rest. grammar.term_fold spell level scope r.phrase ((comma, Symbol Comma) ∷ rest)) m.spells ∙ ap (grammar.term_fold spell level scope r.phrase) (sym t.was) ∙ r.spells;
  bounds = ap (grammar.term_fold bound level scope r.phrase) (bound_is level scope comma (Symbol Comma) _ t.low few ∙ m.bounds) ∙ r.bounds;
}

-- ---- the terms of an event

pub no_arguments : (level scope open_paren close_paren : ℕ) (s0 s1 s2 : Ahead) → scope ≤ MOST_VARIABLES → IsLexemeTaken level (Symbol OpenParen) open_paren s0 s1
    → IsLexemeTaken (level + 1) (Symbol CloseParen) close_paren s1 s2
    → ArgumentsRead level scope s0.rest s2.rest []
no_arguments level scope open_paren close_paren s0 s1 s2 few a b = record {
  phrase = record { open_paren = open_paren; terms = None; close_paren = close_paren };
  tree_is = refl;
  fits = tt;
  spells = ap (λ rest. (open_paren, Symbol OpenParen) ∷ rest) (sym b.was) ∙ sym a.was;
  bounds = bound_is level scope open_paren (Symbol OpenParen) _ a.low few ∙ bound_is (level + 1) scope close_paren (Symbol CloseParen) true b.low few;
}

pub some_arguments : (level scope open_paren close_paren : ℕ) (terms : List SyntaxTerm) (s0 s1 s2 s3 : Ahead) → scope ≤ MOST_VARIABLES → IsLexemeTaken level (Symbol OpenParen) open_paren s0 s1
    → TermsRead (level + 1) scope s1.rest s2.rest terms → IsLexemeTaken (level + 1) (Symbol CloseParen) close_paren s2 s3
    → ArgumentsRead level scope s0.rest s3.rest terms
some_arguments level scope open_paren close_paren terms s0 s1 s2 s3 few a r b = record {
  phrase = record { open_paren = open_paren; terms = Some r.phrase; close_paren = close_paren };
  tree_is = r.tree_is;
  fits = tt;
  spells = ap (λ rest. (open_paren, Symbol OpenParen) ∷ rest) (ap (grammar.terms_fold spell (level + 1) scope r.phrase) (sym b.was) ∙ r.spells) ∙ sym a.was;
  bounds = bound_is level scope open_paren (Symbol OpenParen) _ a.low few ∙ ap (grammar.terms_fold bound (level + 1) scope r.phrase)
      (bound_is (level + 1) scope close_paren (Symbol CloseParen) true b.low few) ∙ r.bounds;
}

pub event_read : (level scope place : ℕ) (name : List ℕ) (terms : List SyntaxTerm) (after : List PlacedLexeme) (s0 s1 : Ahead) → scope ≤ MOST_VARIABLES
    → IsLexemeTaken level (NameLexeme name) place s0 s1 → ArgumentsRead level scope s1.rest after terms
    → PrimaryRead level scope s0.rest after (tree.AtomTree place name terms)
event_read level scope place name terms after s0 s1 few t r = record {
  phrase = Event place name r.phrase;
  tree_is = ap (tree.AtomTree place name) r.tree_is;
  fits = tt;
  spells = ap (λ rest. (place, NameLexeme name) ∷ rest) r.spells ∙ sym t.was;
  bounds = bound_is level scope place (NameLexeme name) _ t.low few ∙ r.bounds;
}

pub comparison_read : (level scope place : ℕ) (sign : signs.Sign) (s t : SyntaxTerm) (before after : List PlacedLexeme) (s1 s2 : Ahead) → scope ≤ MOST_VARIABLES
    → TermRead level scope before s1.rest s → IsLexemeTaken level (Sign sign) place s1 s2 → TermRead level scope s2.rest after t
    → PrimaryRead level scope before after (sign_tree sign place s t)
comparison_read level scope place sign s t before after s1 s2 few r k q = record {
  phrase = Comparison r.phrase sign place q.phrase;
  tree_is = (λ j. sign_tree sign place (r.tree_is j) (q.tree_is j));
  fits = tt;
  spells = ap (λ rest. grammar.term_fold spell level scope r.phrase ((place, Sign sign) ∷ rest)) q.spells ∙ ap (grammar.term_fold spell level scope r.phrase) (sym k.was) ∙ r.spells;
  bounds = ap (grammar.term_fold bound level scope r.phrase) (bound_is level scope place (Sign sign) _ k.low few ∙ q.bounds) ∙ r.bounds;
}

-- ---- variables

pub last_variable : (level scope : ℕ) (variable : Binding) (s0 s1 : Ahead) → scope + 1 ≤ MOST_VARIABLES → IsLexemeTaken level (NameLexeme variable.name) variable.place s0 s1
    → VariablesRead level scope s0.rest s1.rest (variable ∷ [])
last_variable level scope variable s0 s1 few t = record {
  phrase = LastVariable variable;
  tree_is = refl;
  fits = tt;
  spells = sym t.was;
  bounds = bound_is level (scope + 1) variable.place (NameLexeme variable.name) true t.low few;
}

pub next_variable : (level scope comma : ℕ) (variable : Binding) (more : List Binding) (after : List PlacedLexeme) (s0 s1 s2 : Ahead) → scope + 1 ≤ MOST_VARIABLES
    → IsLexemeTaken level (NameLexeme variable.name) variable.place s0 s1 → IsLexemeTaken level (Symbol Comma) comma s1 s2
    → VariablesRead level (scope + 1) s2.rest after more → VariablesRead level scope s0.rest after (variable ∷ more)
next_variable level scope comma variable more after s0 s1 s2 few t k m = record {
  phrase = NextVariable variable comma m.phrase;
  tree_is = ap (λ xs. variable ∷ xs) m.tree_is;
  fits = tt;
  spells = ap (λ rest. (variable.place, NameLexeme variable.name) ∷ rest) (ap (λ rest. (comma, Symbol Comma) ∷ rest) m.spells ∙ sym k.was) ∙ sym t.was;
  bounds = bound_is level (scope + 1) variable.place (NameLexeme variable.name) _ t.low few ∙ bound_is level (scope + 1) comma (Symbol Comma) _ k.low few ∙ m.bounds;
}

-- ---- intervals

pub interval_read : (level scope p0 p1 p2 p3 p4 low : ℕ) (high : Option ℕ) (s0 s1 s2 s3 s4 s5 : Ahead) → scope ≤ MOST_VARIABLES
    → IsLexemeTaken level (Symbol OpenBracket) p0 s0 s1 → IsLexemeTaken level (DigitsLexeme low) p1 s1 s2 → IsLexemeTaken level (Symbol Comma) p2 s2 s3
    → IsLexemeTaken level (end_lexeme high) p3 s3 s4 → IsLexemeTaken level (Symbol CloseBracket) p4 s4 s5
    → IntervalRead level scope s0.rest s5.rest (record { low = low; high = high })
interval_read level scope p0 p1 p2 p3 p4 low high s0 s1 s2 s3 s4 s5 few a b c d e = record {
  phrase = record { open_bracket = p0; low_place = p1; low = low; comma = p2; high_place = p3; high = high; close_bracket = p4 };
  tree_is = refl;
  fits = tt;
  spells = ap (λ rest. (p0, Symbol OpenBracket) ∷ (p1, DigitsLexeme low) ∷ (p2, Symbol Comma) ∷ (p3, end_lexeme high) ∷ rest) (sym e.was)
      ∙ ap (λ rest. (p0, Symbol OpenBracket) ∷ (p1, DigitsLexeme low) ∷ (p2, Symbol Comma) ∷ rest) (sym d.was)
      ∙ ap (λ rest. (p0, Symbol OpenBracket) ∷ (p1, DigitsLexeme low) ∷ rest) (sym c.was)
      ∙ ap (λ rest. (p0, Symbol OpenBracket) ∷ rest) (sym b.was) ∙ sym a.was;
  bounds = bound_is level scope p0 (Symbol OpenBracket) _ a.low few ∙ bound_is level scope p1 (DigitsLexeme low) _ b.low few ∙ bound_is level scope p2 (Symbol Comma) _ c.low few
      ∙ bound_is level scope p3 (end_lexeme high) _ d.low few ∙ bound_is level scope p4 (Symbol CloseBracket) true e.low few;
}

-- ---- lists that grow at their end

pub snoc_append : {X : Type 0} (xs : List X) (x : X) (more : List X) → xs ++ x ∷ more ≡ (xs ++ x ∷ []) ++ more
snoc_append [] x more = refl
snoc_append (y ∷ xs) x more = ap (λ rest. y ∷ rest) (snoc_append xs x more)
