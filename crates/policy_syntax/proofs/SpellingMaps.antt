-- A map that takes one step of a spelling to another takes the spellings to each other.
use Rattle.policy_syntax.proofs.Vocabulary.{◌≡◌, ℕ, ◌+◌, List, [], ◌∷◌, map, Option, None, Some, refl, ap, ◌∙◌, LexemeStep, scope_behind, end_lexeme, term_lexeme, term_place, spell, term_fold}
use Rattle.policy_syntax.proofs.Vocabulary.{terms_fold, some_terms_fold, arguments_fold, variables_fold, interval_fold, formula_fold, or_fold, and_fold, infix_fold, unary_fold, primary_fold}
use Rattle.policy_syntax.proofs.Vocabulary.{rule_fold, policy_fold, TermsPhrase, ArgumentsPhrase, VariablesPhrase, IntervalPhrase, FormulaPhrase, OrPhrase, AndPhrase, InfixPhrase, UnaryPhrase}
use Rattle.policy_syntax.proofs.Vocabulary.{PrimaryPhrase, RulePhrase, LastTerm, NextTerm, LastVariable, NextVariable, OneSide, Implication, OneCase, Disjunction, OnePart, Conjunction, OneOperand}
use Rattle.policy_syntax.proofs.Vocabulary.{Between, Negation, Before, Quantified, Primary, Parenthesis, Constant, Event, Comparison, PolicyLexeme, PlacedLexeme, Symbol, Truth, Prefix, Infix}
use Rattle.policy_syntax.proofs.Vocabulary.{Quantifier, Sign, NameLexeme, DigitsLexeme, Deep, deepen, Rule, Not, And, Or, Arrow, OpenParen, CloseParen, OpenBracket, CloseBracket, Comma, Semicolon}
use Rattle.policy_syntax.proofs.Vocabulary.{Colon, Dot}

-- ---- a map that takes one step to another takes one fold to the other

module _ {R S : Type 0} (f : LexemeStep R) (g : LexemeStep S) (h : R → S) (step : (l s p : ℕ) (x : PolicyLexeme) (r : R) → h (f l s p x r) ≡ g l s p x (h r)) where
  pub terms_map : (l s : ℕ) (t : TermsPhrase) (r : R) → h (terms_fold f l s t r) ≡ terms_fold g l s t (h r)
  terms_map l s (LastTerm t) r = step l s (term_place t) (term_lexeme t) r
  terms_map l s (NextTerm t comma more) r =
      step l s (term_place t) (term_lexeme t) (f l s comma (Symbol Comma) (terms_fold f l s more r))
      ∙ ap (g l s (term_place t) (term_lexeme t)) (step l s comma (Symbol Comma) (terms_fold f l s more r) ∙ ap (g l s comma (Symbol Comma)) (terms_map l s more r))

  pub some_terms_map : (l s : ℕ) (t : Option TermsPhrase) (r : R) → h (some_terms_fold f l s t r) ≡ some_terms_fold g l s t (h r)
  some_terms_map l s None r = refl
  some_terms_map l s (Some t) r = terms_map l s t r

  pub arguments_map : (l s : ℕ) (a : ArgumentsPhrase) (r : R) → h (arguments_fold f l s a r) ≡ arguments_fold g l s a (h r)
  arguments_map l s a r =
      step l s a.open_paren (Symbol OpenParen) (some_terms_fold f (l + 1) s a.terms (f (l + 1) s a.close_paren (Symbol CloseParen) r))
      ∙ ap (g l s a.open_paren (Symbol OpenParen)) (some_terms_map (l + 1) s a.terms (f (l + 1) s a.close_paren (Symbol CloseParen) r)
      ∙ ap (some_terms_fold g (l + 1) s a.terms) (step (l + 1) s a.close_paren (Symbol CloseParen) r))

  pub variables_map : (l s : ℕ) (v : VariablesPhrase) (r : R) → h (variables_fold f l s v r) ≡ variables_fold g l s v (h r)
  variables_map l s (LastVariable v) r = step l (s + 1) v.place (NameLexeme v.name) r
  variables_map l s (NextVariable v comma more) r =
      step l (s + 1) v.place (NameLexeme v.name) (f l (s + 1) comma (Symbol Comma) (variables_fold f l (s + 1) more r))
      ∙ ap (g l (s + 1) v.place (NameLexeme v.name)) (step l (s + 1) comma (Symbol Comma) (variables_fold f l (s + 1) more r) ∙ ap (g l (s + 1) comma (Symbol Comma)) (variables_map l (s + 1) more r))

  pub interval_map : (l s : ℕ) (i : IntervalPhrase) (r : R) → h (interval_fold f l s i r) ≡ interval_fold g l s i (h r)
  interval_map l s i r =
      let r5 = f l s i.close_bracket (Symbol CloseBracket) r in
      let r4 = f l s i.high_place (end_lexeme i.high) r5 in
      let r3 = f l s i.comma (Symbol Comma) r4 in
      let r2 = f l s i.low_place (DigitsLexeme i.low) r3 in
      step l s i.open_bracket (Symbol OpenBracket) r2
      ∙ ap (g l s i.open_bracket (Symbol OpenBracket)) (step l s i.low_place (DigitsLexeme i.low) r3
      ∙ ap (g l s i.low_place (DigitsLexeme i.low)) (step l s i.comma (Symbol Comma) r4
      ∙ ap (g l s i.comma (Symbol Comma)) (step l s i.high_place (end_lexeme i.high) r5
      ∙ ap (g l s i.high_place (end_lexeme i.high)) (step l s i.close_bracket (Symbol CloseBracket) r))))

  mutual
    pub formula_map : (l s : ℕ) (a : FormulaPhrase) (r : R) → h (formula_fold f l s a r) ≡ formula_fold g l s a (h r)
    formula_map l s (OneSide a) r = or_map l s a r
    formula_map l s (Implication a p b) r =
        or_map l s a (f l s p (Symbol Arrow) (formula_fold f (l + 1) s b r))
        ∙ ap (or_fold g l s a) (step l s p (Symbol Arrow) (formula_fold f (l + 1) s b r) ∙ ap (g l s p (Symbol Arrow)) (formula_map (l + 1) s b r))

    pub or_map : (l s : ℕ) (a : OrPhrase) (r : R) → h (or_fold f l s a r) ≡ or_fold g l s a (h r)
    or_map l s (OneCase a) r = and_map l s a r
    or_map l s (Disjunction a p b) r =
        and_map l s a (f l s p (Symbol Or) (or_fold f (l + 1) s b r))
        ∙ ap (and_fold g l s a) (step l s p (Symbol Or) (or_fold f (l + 1) s b r) ∙ ap (g l s p (Symbol Or)) (or_map (l + 1) s b r))

    pub and_map : (l s : ℕ) (a : AndPhrase) (r : R) → h (and_fold f l s a r) ≡ and_fold g l s a (h r)
    and_map l s (OnePart a) r = infix_map l s a r
    and_map l s (Conjunction a p b) r =
        infix_map l s a (f l s p (Symbol And) (and_fold f (l + 1) s b r))
        ∙ ap (infix_fold g l s a) (step l s p (Symbol And) (and_fold f (l + 1) s b r) ∙ ap (g l s p (Symbol And)) (and_map (l + 1) s b r))

    pub infix_map : (l s : ℕ) (a : InfixPhrase) (r : R) → h (infix_fold f l s a r) ≡ infix_fold g l s a (h r)
    infix_map l s (OneOperand a) r = unary_map l s a r
    infix_map l s (Between a operator p i b) r =
        unary_map l s a (f l s p (Infix operator) (interval_fold f l s i (unary_fold f (l + 1) s b r)))
        ∙ ap (unary_fold g l s a) (step l s p (Infix operator) (interval_fold f l s i (unary_fold f (l + 1) s b r))
        ∙ ap (g l s p (Infix operator)) (interval_map l s i (unary_fold f (l + 1) s b r) ∙ ap (interval_fold g l s i) (unary_map (l + 1) s b r)))

    pub unary_map : (l s : ℕ) (a : UnaryPhrase) (r : R) → h (unary_fold f l s a r) ≡ unary_fold g l s a (h r)
    unary_map l s (Negation p a) r = step l s p (Symbol Not) (unary_fold f (l + 1) s a r) ∙ ap (g l s p (Symbol Not)) (unary_map (l + 1) s a r)
    unary_map l s (Before operator p i a) r =
        step l s p (Prefix operator) (interval_fold f (l + 1) s i (unary_fold f (l + 1) s a r))
        ∙ ap (g l s p (Prefix operator)) (interval_map (l + 1) s i (unary_fold f (l + 1) s a r) ∙ ap (interval_fold g (l + 1) s i) (unary_map (l + 1) s a r))
    unary_map l s (Quantified quantifier p v dot a) r =
        let inner = formula_fold f (l + 1) (scope_behind s v) a r in
        step l s p (Quantifier quantifier) (variables_fold f (l + 1) s v (f (l + 1) (scope_behind s v) dot (Symbol Dot) inner))
        ∙ ap (g l s p (Quantifier quantifier)) (variables_map (l + 1) s v (f (l + 1) (scope_behind s v) dot (Symbol Dot) inner)
        ∙ ap (variables_fold g (l + 1) s v) (step (l + 1) (scope_behind s v) dot (Symbol Dot) inner
        ∙ ap (g (l + 1) (scope_behind s v) dot (Symbol Dot)) (formula_map (l + 1) (scope_behind s v) a r)))
    unary_map l s (Primary a) r = primary_map l s a r

    pub primary_map : (l s : ℕ) (a : PrimaryPhrase) (r : R) → h (primary_fold f l s a r) ≡ primary_fold g l s a (h r)
    primary_map l s (Parenthesis p a q) r =
        step l s p (Symbol OpenParen) (formula_fold f (l + 1) s a (f (l + 1) s q (Symbol CloseParen) r))
        ∙ ap (g l s p (Symbol OpenParen)) (formula_map (l + 1) s a (f (l + 1) s q (Symbol CloseParen) r) ∙ ap (formula_fold g (l + 1) s a) (step (l + 1) s q (Symbol CloseParen) r))
    primary_map l s (Constant value p) r = step l s p (Truth value) r
    primary_map l s (Event p name arguments) r = step l s p (NameLexeme name) (arguments_fold f l s arguments r) ∙ ap (g l s p (NameLexeme name)) (arguments_map l s arguments r)
    primary_map l s (Comparison x sign p y) r =
        step l s (term_place x) (term_lexeme x) (f l s p (Sign sign) (term_fold f l s y r))
        ∙ ap (g l s (term_place x) (term_lexeme x)) (step l s p (Sign sign) (term_fold f l s y r) ∙ ap (g l s p (Sign sign)) (step l s (term_place y) (term_lexeme y) r))

  pub rule_map : (a : RulePhrase) (r : R) → h (rule_fold f a r) ≡ rule_fold g a (h r)
  rule_map a r =
      let r4 = f 0 0 a.semicolon (Symbol Semicolon) r in
      let r3 = formula_fold f 0 0 a.formula r4 in
      let r2 = f 0 0 a.colon (Symbol Colon) r3 in
      let r1 = f 0 0 a.name_place (NameLexeme a.name) r2 in
      step 0 0 a.place (Symbol Rule) r1
      ∙ ap (g 0 0 a.place (Symbol Rule)) (step 0 0 a.name_place (NameLexeme a.name) r2
      ∙ ap (g 0 0 a.name_place (NameLexeme a.name)) (step 0 0 a.colon (Symbol Colon) r3
      ∙ ap (g 0 0 a.colon (Symbol Colon)) (formula_map 0 0 a.formula r4
      ∙ ap (formula_fold g 0 0 a.formula) (step 0 0 a.semicolon (Symbol Semicolon) r))))

  pub policy_map : (rules : List RulePhrase) (r : R) → h (policy_fold f rules r) ≡ policy_fold g rules (h r)
  policy_map [] r = refl
  policy_map (rule ∷ rules) r = rule_map rule (policy_fold f rules r) ∙ ap (rule_fold g rule) (policy_map rules r)

-- the lexemes alone
abbrev pub flat : List Deep → List PlacedLexeme
flat text = map (λ (deep : Deep). deep.placed) text

pub flat_policy : (rules : List RulePhrase) → flat (policy_fold deepen rules []) ≡ policy_fold spell rules []
flat_policy rules = policy_map deepen spell flat (λ l s p x r. refl) rules []
