-- The rules of a text can be written: their names, values and variables were read from tokens.
use Rattle.policy_syntax.proofs.Vocabulary.{◌≡◌, ℕ, ◌+◌, ◌^◌, ◌≤◌, suc, zero, Bool, true, false, cond, ◌||◌, IsTrue, List, [], ◌∷◌, Option, None, Some, length, map, refl, sym, ap, subst, ◌∙◌, arith}
use Rattle.policy_syntax.proofs.Vocabulary.{codes, AllByRecursion, bytes_eq, is_word, Token, AreCut, IsProper, Mark, TermPhrase, TermsPhrase, VariablesPhrase, IntervalPhrase, FormulaPhrase, OrPhrase}
use Rattle.policy_syntax.proofs.Vocabulary.{AndPhrase, InfixPhrase, UnaryPhrase, PrimaryPhrase, RulePhrase, Variable, Plain, Minus, Quoted, LastTerm, NextTerm, LastVariable, NextVariable, OneSide}
use Rattle.policy_syntax.proofs.Vocabulary.{Implication, OneCase, Disjunction, OnePart, Conjunction, OneOperand, Between, Negation, Before, Quantified, Primary, Parenthesis, Constant, Event}
use Rattle.policy_syntax.proofs.Vocabulary.{Comparison, spell, end_lexeme, scope_behind, PolicyLexeme, PlacedLexeme, Symbol, Truth, Prefix, Infix, Quantifier, Sign, NameLexeme, DigitsLexeme}
use Rattle.policy_syntax.proofs.Vocabulary.{NegativeLexeme, TextLexeme, End, Other, lexeme_of_infix, infix_of, lexeme_of_prefix, prefix_of, lexeme_of_quantifier, quantifier_of, lexeme_of_truth}
use Rattle.policy_syntax.proofs.Vocabulary.{truth_of, lexeme_of_symbol, symbol_of, lexeme_of_word, lexeme_of_mark, lexeme_of_token, AreWritableVariables, IsWritable, IsWritableEnd, IsWritableInterval}
use Rattle.policy_syntax.proofs.Vocabulary.{IsWritableName, IsWritableRule, IsWritableTerm, Binding, Interval}
use Rattle.enf_value.specs.meaning.Tokens as token
use Rattle.enf_value.specs.declared.tokens.Mark.TheVariants as marks
use Rattle.policy_syntax.specs.meaning.Grammar as grammar
use Rattle.policy_syntax.specs.meaning.Phrases as phrases
use Rattle.policy_syntax.specs.meaning.Trees as tree
use Rattle.policy_syntax.specs.declared.lexemes.Infix as infixes
use Rattle.policy_syntax.specs.declared.lexemes.Infix.TheVariants as infix_words
use Rattle.policy_syntax.specs.declared.lexemes.Prefix as prefixes
use Rattle.policy_syntax.specs.declared.lexemes.Prefix.TheVariants as prefix_words
use Rattle.policy_syntax.specs.declared.lexemes.Quantifier as quantifiers
use Rattle.policy_syntax.specs.declared.lexemes.Quantifier.TheVariants as quantifier_words
use Rattle.policy_syntax.specs.declared.lexemes.Sign as signs
use Rattle.policy_syntax.specs.declared.lexemes.Sign.TheVariants as sign_marks
use Rattle.policy_syntax.specs.declared.lexemes.Symbol as symbols
use Rattle.policy_syntax.specs.declared.lexemes.Symbol.TheVariants as symbol

-- a name is a word of its own, a number and a text are within their limits
abbrev pub IsProperLexeme : PolicyLexeme → Type 0
IsProperLexeme (NameLexeme name) = IsWritableName name
IsProperLexeme (DigitsLexeme value) = IsProper (token.NumberToken value)
IsProperLexeme (NegativeLexeme value) = IsProper (token.NegativeToken value)
IsProperLexeme (TextLexeme text) = IsProper (token.TextToken text)
IsProperLexeme lexeme = Unit {0}

abbrev pub AreProper : List PlacedLexeme → Type 0
AreProper placed = AllByRecursion (λ (p : PlacedLexeme). IsProperLexeme p.1) placed

-- ---- the lexemes of a text are proper

-- a word is a lexeme without a value, or a name that is the word itself
abbrev IsOfWord : List ℕ → PolicyLexeme → Type 0
IsOfWord word (NameLexeme name) = name ≡ word
IsOfWord word (DigitsLexeme value) = ⊥
IsOfWord word (NegativeLexeme value) = ⊥
IsOfWord word (TextLexeme text) = ⊥
IsOfWord word lexeme = Unit {0}

name_of_word : (word : List ℕ) (unused : Bool) → IsOfWord word (cond unused Other (NameLexeme word))
name_of_word word true = tt
name_of_word word false = refl

infix_of_word : (word : List ℕ) (found : Option infixes.Infix) → IsOfWord word (lexeme_of_infix word found)
infix_of_word word (Some operator) = tt
infix_of_word word None = name_of_word word (bytes_eq word (codes "int") || bytes_eq word (codes "text"))

prefix_of_word : (word : List ℕ) (found : Option prefixes.Prefix) → IsOfWord word (lexeme_of_prefix word found)
prefix_of_word word (Some operator) = tt
prefix_of_word word None = infix_of_word word (infix_of word)

quantifier_of_word : (word : List ℕ) (found : Option quantifiers.Quantifier) → IsOfWord word (lexeme_of_quantifier word found)
quantifier_of_word word (Some quantifier) = tt
quantifier_of_word word None = prefix_of_word word (prefix_of word)

truth_of_word : (word : List ℕ) (found : Option Bool) → IsOfWord word (lexeme_of_truth word found)
truth_of_word word (Some value) = tt
truth_of_word word None = quantifier_of_word word (quantifier_of word)

symbol_of_word : (word : List ℕ) (found : Option symbols.Symbol) → IsOfWord word (lexeme_of_symbol word found)
symbol_of_word word (Some found) = tt
symbol_of_word word None = truth_of_word word (truth_of word)

proper_word : (word : List ℕ) (lexeme : PolicyLexeme) → IsTrue (is_word word) → lexeme_of_word word ≡ lexeme → IsOfWord word lexeme → IsProperLexeme lexeme
proper_word word (NameLexeme name) h e is =
    let own : IsWritableName word = (h, e ∙ ap NameLexeme is) in subst IsWritableName (sym is) own
proper_word word (DigitsLexeme value) h e is = absurd is
proper_word word (NegativeLexeme value) h e is = absurd is
proper_word word (TextLexeme text) h e is = absurd is
proper_word word (Symbol x) h e is = tt
proper_word word (Truth x) h e is = tt
proper_word word (Prefix x) h e is = tt
proper_word word (Infix x) h e is = tt
proper_word word (Quantifier x) h e is = tt
proper_word word (Sign x) h e is = tt
proper_word word End h e is = tt
proper_word word Other h e is = tt

proper_mark : (mark : Mark) → IsProperLexeme (lexeme_of_mark mark)
proper_mark marks.OpenParen = tt
proper_mark marks.CloseParen = tt
proper_mark marks.Comma = tt
proper_mark marks.Semicolon = tt
proper_mark marks.Colon = tt
proper_mark marks.Dot = tt
proper_mark marks.OpenBracket = tt
proper_mark marks.CloseBracket = tt
proper_mark marks.Star = tt
proper_mark marks.Equal = tt
proper_mark marks.Less = tt
proper_mark marks.AtMost = tt
proper_mark marks.Arrow = tt
proper_mark marks.Plus = tt
proper_mark marks.Minus = tt
proper_mark marks.PlusMinus = tt

proper_token : (t : Token) → IsProper t → IsProperLexeme (lexeme_of_token t)
proper_token (token.WordToken word) h = proper_word word (lexeme_of_word word) h refl (symbol_of_word word (symbol_of word))
proper_token (token.NumberToken value) h = h
proper_token (token.NegativeToken value) h = h
proper_token (token.TextToken text) h = h
proper_token (token.SymbolToken mark) h = proper_mark mark
proper_token token.WrongToken h = tt

abbrev as_lexemes : List token.TokenAtPlace → List PlacedLexeme
as_lexemes placed = map (λ p. (p.0, lexeme_of_token p.1)) placed

pub cut_proper : (placed : List token.TokenAtPlace) (place : ℕ) (bytes : List ℕ) → AreCut place bytes placed → AreProper (as_lexemes placed)
cut_proper [] place bytes h = tt
cut_proper ((at, token.WrongToken) ∷ rest) place bytes h = subst (λ (r : List token.TokenAtPlace). AreProper (as_lexemes ((at, token.WrongToken) ∷ r))) (sym h.3) (tt, tt)
cut_proper ((at, token.WordToken word) ∷ rest) place bytes h = (proper_token (token.WordToken word) h.4, cut_proper rest (at + length h.0) h.1 h.5)
cut_proper ((at, token.NumberToken value) ∷ rest) place bytes h = (h.4, cut_proper rest (at + length h.0) h.1 h.5)
cut_proper ((at, token.NegativeToken value) ∷ rest) place bytes h = (h.4, cut_proper rest (at + length h.0) h.1 h.5)
cut_proper ((at, token.TextToken text) ∷ rest) place bytes h = (h.4, cut_proper rest (at + length h.0) h.1 h.5)
cut_proper ((at, token.SymbolToken mark) ∷ rest) place bytes h = (proper_mark mark, cut_proper rest (at + length h.0) h.1 h.5)

-- ---- a phrase of proper lexemes has a tree that can be written, and what is after it is proper

pub record IsFound (Is : Type 0) (rest : List PlacedLexeme) : Type 0 where
  pub found : Is
  pub behind : AreProper rest

term_found : (t : TermPhrase) (level scope : ℕ) (rest : List PlacedLexeme) → AreProper (grammar.term_fold spell level scope t rest) → IsFound (IsWritableTerm (phrases.term_tree t)) rest
term_found (Variable place name) level scope rest h = record { found = h.0; behind = h.1 }
term_found (Plain place value) level scope rest h = record { found = h.0; behind = h.1 }
term_found (Minus place zero) level scope rest h = record { found = let p : 0 ≤ 2 ^ 63 = h.0 in positive; behind = h.1 }
  where
    positive : IsProper (token.NumberToken 0)
    positive = omega arith
term_found (Minus place (suc value)) level scope rest h = record { found = h.0; behind = h.1 }
term_found (Quoted place text) level scope rest h = record { found = h.0; behind = h.1 }

terms_found : (ts : TermsPhrase) (level scope : ℕ) (rest : List PlacedLexeme) → AreProper (grammar.terms_fold spell level scope ts rest)
    → IsFound (AllByRecursion IsWritableTerm (phrases.terms_list ts)) rest
terms_found (LastTerm t) level scope rest h =
    let a = term_found t level scope rest h in record { found = (a.found, tt); behind = a.behind }
terms_found (NextTerm t comma ts) level scope rest h =
    let a = term_found t level scope ((comma, Symbol symbol.Comma) ∷ grammar.terms_fold spell level scope ts rest) h in
    let b = terms_found ts level scope rest a.behind.1 in
    record { found = (a.found, b.found); behind = b.behind }

some_found : (ts : Option TermsPhrase) (level scope : ℕ) (rest : List PlacedLexeme) → AreProper (grammar.some_terms_fold spell level scope ts rest)
    → IsFound (AllByRecursion IsWritableTerm (phrases.some_terms_list ts)) rest
some_found None level scope rest h = record { found = tt; behind = h }
some_found (Some ts) level scope rest h = terms_found ts level scope rest h

variables_found : (xs : VariablesPhrase) (level scope : ℕ) (rest : List PlacedLexeme) → AreProper (grammar.variables_fold spell level scope xs rest)
    → IsFound (AreWritableVariables (phrases.variables_list xs)) rest
variables_found (LastVariable x) level scope rest h = record { found = (λ e. cc, (h.0, tt)); behind = h.1 }
variables_found (NextVariable x comma xs) level scope rest h =
    let b = variables_found xs level (scope + 1) rest h.1.1 in
    record { found = (λ e. cc, (h.0, b.found.1)); behind = b.behind }

end_found : (high : Option ℕ) → IsProperLexeme (end_lexeme high) → IsWritableEnd high
end_found None h = tt
end_found (Some high) h = h

interval_found : (i : IntervalPhrase) (level scope : ℕ) (rest : List PlacedLexeme) → AreProper (grammar.interval_fold spell level scope i rest)
    → IsFound (IsWritableInterval (phrases.interval_of i)) rest
interval_found i level scope rest h = record { found = (h.1.0, end_found i.high h.1.1.1.0); behind = h.1.1.1.1.1 }

writable_sign : (sign : signs.Sign) (place : ℕ) (s t : TermPhrase) → IsWritableTerm (phrases.term_tree s) → IsWritableTerm (phrases.term_tree t)
    → IsWritable (phrases.sign_tree sign place (phrases.term_tree s) (phrases.term_tree t))
writable_sign sign_marks.Equal place s t a b = (a, b)
writable_sign sign_marks.Less place s t a b = (a, b)
writable_sign sign_marks.AtMost place s t a b = (a, b)

writable_truth : (value : Bool) (place : ℕ) → IsWritable (phrases.truth_tree value place)
writable_truth true place = tt
writable_truth false place = tt

writable_prefix : (operator : prefixes.Prefix) (place : ℕ) (interval : Interval) (f : tree.SyntaxTree) → IsWritableInterval interval → IsWritable f
    → IsWritable (phrases.prefix_tree operator place interval f)
writable_prefix prefix_words.Prev place interval f i a = (i, a)
writable_prefix prefix_words.Next place interval f i a = (i, a)
writable_prefix prefix_words.Once place interval f i a = (i, a)
writable_prefix prefix_words.Historically place interval f i a = (i, a)
writable_prefix prefix_words.Eventually place interval f i a = (i, a)
writable_prefix prefix_words.Always place interval f i a = (i, a)

writable_infix : (operator : infixes.Infix) (place : ℕ) (interval : Interval) (f g : tree.SyntaxTree) → IsWritableInterval interval → IsWritable f → IsWritable g
    → IsWritable (phrases.infix_tree operator place interval f g)
writable_infix infix_words.Since place interval f g i a b = (i, a, b)
writable_infix infix_words.Until place interval f g i a b = (i, a, b)

writable_quantifier : (quantifier : quantifiers.Quantifier) (place : ℕ) (xs : List Binding) (f : tree.SyntaxTree) → AreWritableVariables xs → IsWritable f
    → IsWritable (phrases.quantifier_tree quantifier place xs f)
writable_quantifier quantifier_words.Exists place xs f v a = (v, a)
writable_quantifier quantifier_words.Forall place xs f v a = (v, a)

mutual
  pub formula_found : (f : FormulaPhrase) (level scope : ℕ) (rest : List PlacedLexeme) → AreProper (grammar.formula_fold spell level scope f rest) → IsFound (IsWritable (phrases.formula_tree f)) rest
  formula_found (OneSide f) level scope rest h = or_found f level scope rest h
  formula_found (Implication f place g) level scope rest h =
      let a = or_found f level scope ((place, Symbol symbol.Arrow) ∷ grammar.formula_fold spell (level + 1) scope g rest) h in
      let b = formula_found g (level + 1) scope rest a.behind.1 in
      record { found = (a.found, b.found); behind = b.behind }

  or_found : (f : OrPhrase) (level scope : ℕ) (rest : List PlacedLexeme) → AreProper (grammar.or_fold spell level scope f rest) → IsFound (IsWritable (phrases.or_tree f)) rest
  or_found (OneCase f) level scope rest h = and_found f level scope rest h
  or_found (Disjunction f place g) level scope rest h =
      let a = and_found f level scope ((place, Symbol symbol.Or) ∷ grammar.or_fold spell (level + 1) scope g rest) h in
      let b = or_found g (level + 1) scope rest a.behind.1 in
      record { found = (a.found, b.found); behind = b.behind }

  and_found : (f : AndPhrase) (level scope : ℕ) (rest : List PlacedLexeme) → AreProper (grammar.and_fold spell level scope f rest) → IsFound (IsWritable (phrases.and_tree f)) rest
  and_found (OnePart f) level scope rest h = infix_found f level scope rest h
  and_found (Conjunction f place g) level scope rest h =
      let a = infix_found f level scope ((place, Symbol symbol.And) ∷ grammar.and_fold spell (level + 1) scope g rest) h in
      let b = and_found g (level + 1) scope rest a.behind.1 in
      record { found = (a.found, b.found); behind = b.behind }

  infix_found : (f : InfixPhrase) (level scope : ℕ) (rest : List PlacedLexeme) → AreProper (grammar.infix_fold spell level scope f rest) → IsFound (IsWritable (phrases.binary_tree f)) rest
  infix_found (OneOperand f) level scope rest h = unary_found f level scope rest h
  infix_found (Between f operator place interval g) level scope rest h =
      let a = unary_found f level scope ((place, Infix operator) ∷ grammar.interval_fold spell level scope interval (grammar.unary_fold spell (level + 1) scope g rest)) h in
      let i = interval_found interval level scope (grammar.unary_fold spell (level + 1) scope g rest) a.behind.1 in
      let b = unary_found g (level + 1) scope rest i.behind in
      record { found = writable_infix operator place (phrases.interval_of interval) (phrases.unary_tree f) (phrases.unary_tree g) i.found a.found b.found; behind = b.behind }

  unary_found : (f : UnaryPhrase) (level scope : ℕ) (rest : List PlacedLexeme) → AreProper (grammar.unary_fold spell level scope f rest) → IsFound (IsWritable (phrases.unary_tree f)) rest
  unary_found (Negation place f) level scope rest h = unary_found f (level + 1) scope rest h.1
  unary_found (Before operator place interval f) level scope rest h =
      let i = interval_found interval (level + 1) scope (grammar.unary_fold spell (level + 1) scope f rest) h.1 in
      let a = unary_found f (level + 1) scope rest i.behind in
      record { found = writable_prefix operator place (phrases.interval_of interval) (phrases.unary_tree f) i.found a.found; behind = a.behind }
  unary_found (Quantified quantifier place variables dot f) level scope rest h =
      let v = variables_found variables (level + 1) scope ((dot, Symbol symbol.Dot) ∷ grammar.formula_fold spell (level + 1) (scope_behind scope variables) f rest) h.1 in
      let a = formula_found f (level + 1) (scope_behind scope variables) rest v.behind.1 in
      record { found = writable_quantifier quantifier place (phrases.variables_list variables) (phrases.formula_tree f) v.found a.found; behind = a.behind }
  unary_found (Primary f) level scope rest h = primary_found f level scope rest h

  primary_found : (f : PrimaryPhrase) (level scope : ℕ) (rest : List PlacedLexeme) → AreProper (grammar.primary_fold spell level scope f rest) → IsFound (IsWritable (phrases.primary_tree f)) rest
  primary_found (Parenthesis open_paren f close) level scope rest h =
      let a = formula_found f (level + 1) scope ((close, Symbol symbol.CloseParen) ∷ rest) h.1 in
      record { found = a.found; behind = a.behind.1 }
  primary_found (Constant value place) level scope rest h = record { found = writable_truth value place; behind = h.1 }
  primary_found (Event place name arguments) level scope rest h =
      let a = some_found arguments.terms (level + 1) scope ((arguments.close_paren, Symbol symbol.CloseParen) ∷ rest) h.1.1 in
      record { found = (h.0, a.found); behind = a.behind.1 }
  primary_found (Comparison s sign place t) level scope rest h =
      let a = term_found s level scope ((place, Sign sign) ∷ grammar.term_fold spell level scope t rest) h in
      let b = term_found t level scope rest a.behind.1 in
      record { found = writable_sign sign place s t a.found b.found; behind = b.behind }

pub policy_found : (rules : List RulePhrase) → AreProper (grammar.policy_fold spell rules []) → AllByRecursion IsWritableRule (grammar.policy_tree rules)
policy_found [] h = tt
policy_found (rule ∷ rules) h =
    let a = formula_found rule.formula 0 0 ((rule.semicolon, Symbol symbol.Semicolon) ∷ grammar.policy_fold spell rules []) h.1.1.1 in
    (record { name = h.1.0; formula = a.found }, policy_found rules a.behind.1)
