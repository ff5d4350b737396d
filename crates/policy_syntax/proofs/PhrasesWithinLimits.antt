-- In a phrase that keeps the limits nothing is refused.
use Rattle.policy_syntax.proofs.Vocabulary.{◌≡◌, ℕ, ◌+◌, ◌≤◌, nat_le, Bool, true, false, ◌&&◌, List, [], ◌∷◌, length, Option, None, Some, refl, sym, ap, subst, ◌∙◌, arith, and_parts, AllByRecursion}
use Rattle.policy_syntax.proofs.Vocabulary.{MOST_NAME_BYTES, Stack, stack_item, infix_on, and_on, or_on, formula_on, TermPhrase, TermsPhrase, ArgumentsPhrase, VariablesPhrase, IntervalPhrase}
use Rattle.policy_syntax.proofs.Vocabulary.{FormulaPhrase, OrPhrase, AndPhrase, InfixPhrase, UnaryPhrase, Variable, Plain, Minus, Quoted, LastTerm, NextTerm, LastVariable, NextVariable, OneSide}
use Rattle.policy_syntax.proofs.Vocabulary.{Implication, OneCase, Disjunction, OnePart, Conjunction, OneOperand, Between, Negation, Before, Quantified, Primary, Parenthesis, Constant, Event}
use Rattle.policy_syntax.proofs.Vocabulary.{Comparison, term_tree, terms_list, some_terms_list, variables_list, interval_of, formula_tree, or_tree, and_tree, binary_tree, unary_tree, primary_tree}
use Rattle.policy_syntax.proofs.Vocabulary.{infix_tree, prefix_tree, quantifier_tree, sign_tree, truth_tree, scope_behind, end_lexeme, term_lexeme, term_place, spell, bound, terms_fold}
use Rattle.policy_syntax.proofs.Vocabulary.{some_terms_fold, variables_fold, interval_fold, formula_fold, or_fold, and_fold, infix_fold, unary_fold, primary_fold, term_fold, PolicyLexeme}
use Rattle.policy_syntax.proofs.Vocabulary.{PlacedLexeme, Symbol, Truth, Prefix, Infix, Quantifier, Sign, NameLexeme, DigitsLexeme, NegativeLexeme, TextLexeme, next_lexeme, EndsFit, IsBounded}
use Rattle.policy_syntax.proofs.Vocabulary.{KeepsLimits, IsShortName, IsShortTerm, tree_size, SyntaxTree, Not, And, Or, Arrow, OpenParen, CloseParen, OpenBracket, CloseBracket, Comma, Dot, Star}
use Rattle.policy_syntax.proofs.Vocabulary.{MOST_INTERVAL_END, MOST_LEVEL, MOST_NODES, MOST_VARIABLES, Binding, Interval}
use Rattle.policy_syntax.specs.machine.Automaton.{judge}
use Rattle.policy_syntax.proofs.StackMeanings.{counted}
use Rattle.policy_syntax.proofs.FormulaPhrases.{size_infix, size_prefix, size_quantifier}
use Rattle.policy_syntax.proofs.JudgedLexemes.{judge_takes}
use Rattle.policy_syntax.proofs.StackBeginnings.{first_offered, next_offered, right_offered, skips_and, skips_arrow, skips_infix, skips_or}
use Rattle.policy_syntax.proofs.UnrefusedPhrases.{Passed, TermsPassed, first_kind, next_kind, right_kind, size_sign, size_truth}
use Rattle.policy_syntax.proofs.UnrefusedLexemes.{Low, bound_out, le_false, lt_false, low_in, tail_skips, term_in}
use Rattle.policy_syntax.specs.machine.Automaton as automaton
use Rattle.policy_syntax.specs.meaning.Grammar as grammar
use Rattle.policy_syntax.specs.declared.lexemes.Quantifier as quantifiers
use Rattle.policy_syntax.specs.declared.lexemes.Quantifier.TheVariants as quantifier_words
use Rattle.policy_syntax.specs.declared.lexemes.Sign as signs
use Rattle.policy_syntax.specs.declared.lexemes.Sign.TheVariants as sign_marks
use Rattle.policy_syntax.specs.declared.lexemes.Infix as infixes
use Rattle.policy_syntax.specs.declared.lexemes.Infix.TheVariants as infix_words
use Rattle.policy_syntax.specs.declared.lexemes.Prefix as prefixes
use Rattle.policy_syntax.specs.declared.lexemes.Prefix.TheVariants as prefix_words
use Rattle.policy_syntax.proofs.SpellingMaps as spelled

-- ---- what is kept of a formula's parts

record PrefixKept (scope : ℕ) (interval : Interval) (f : SyntaxTree) : Type 0 where
  ends : IsBounded interval
  kept : KeepsLimits scope f

prefix_parts : (operator : prefixes.Prefix) (place scope : ℕ) (interval : Interval) (f : SyntaxTree) → KeepsLimits scope (prefix_tree operator place interval f) → PrefixKept scope interval f
prefix_parts prefix_words.Prev place scope interval f kept = record { ends = kept.0; kept = kept.1 }
prefix_parts prefix_words.Next place scope interval f kept = record { ends = kept.0; kept = kept.1 }
prefix_parts prefix_words.Once place scope interval f kept = record { ends = kept.0; kept = kept.1 }
prefix_parts prefix_words.Historically place scope interval f kept = record { ends = kept.0; kept = kept.1 }
prefix_parts prefix_words.Eventually place scope interval f kept = record { ends = kept.0; kept = kept.1 }
prefix_parts prefix_words.Always place scope interval f kept = record { ends = kept.0; kept = kept.1 }

record InfixKept (scope : ℕ) (interval : Interval) (f g : SyntaxTree) : Type 0 where
  ends : IsBounded interval
  left : KeepsLimits scope f
  right : KeepsLimits scope g

infix_parts : (operator : infixes.Infix) (place scope : ℕ) (interval : Interval) (f g : SyntaxTree) → KeepsLimits scope (infix_tree operator place interval f g) → InfixKept scope interval f g
infix_parts infix_words.Since place scope interval f g kept = record { ends = kept.0; left = kept.1; right = kept.2 }
infix_parts infix_words.Until place scope interval f g kept = record { ends = kept.0; left = kept.1; right = kept.2 }

record QuantifierKept (scope : ℕ) (xs : List Binding) (f : SyntaxTree) : Type 0 where
  short : AllByRecursion (λ (x : Binding). IsShortName x.name) xs
  kept : KeepsLimits (scope + length xs) f

quantifier_parts : (quantifier : quantifiers.Quantifier) (place scope : ℕ) (xs : List Binding) (f : SyntaxTree) → KeepsLimits scope (quantifier_tree quantifier place xs f) → QuantifierKept scope xs f
quantifier_parts quantifier_words.Exists place scope xs f kept = record { short = kept.1; kept = kept.2 }
quantifier_parts quantifier_words.Forall place scope xs f kept = record { short = kept.1; kept = kept.2 }

record SidesKept (x y : TermPhrase) : Type 0 where
  left : IsShortTerm (term_tree x)
  right : IsShortTerm (term_tree y)

sign_parts : (sign : signs.Sign) (place scope : ℕ) (x y : TermPhrase) → KeepsLimits scope (sign_tree sign place (term_tree x) (term_tree y)) → SidesKept x y
sign_parts sign_marks.Equal place scope x y kept = record { left = kept.0; right = kept.1 }
sign_parts sign_marks.Less place scope x y kept = record { left = kept.0; right = kept.1 }
sign_parts sign_marks.AtMost place scope x y kept = record { left = kept.0; right = kept.1 }

pub first_fits : (low : ℕ) (high : Option ℕ) → EndsFit low high → low ≤ MOST_INTERVAL_END
first_fits low None fits = fits
first_fits low (Some high) fits = omega (arith, fits.0, fits.1)

-- ---- limits on levels and scopes of a phrase, and of what stands after it

joined : (rest : Bool) (l s p : ℕ) (x : PolicyLexeme) (r : Bool) → (bound l s p x r && rest) ≡ bound l s p x (r && rest)
joined rest l s p x r = by (nat_le l MOST_LEVEL && nat_le s MOST_VARIABLES) r
  where
    by : (a r : Bool) → ((a && r) && rest) ≡ (a && (r && rest))
    by true r = refl
    by false r = refl

pub formula_bound : (l s : ℕ) (a : FormulaPhrase) (rest : Bool) → formula_fold bound l s a rest ≡ true → (formula_fold bound l s a true ≡ true) × (rest ≡ true)
formula_bound l s a rest e = and_parts (formula_fold bound l s a true) rest (spelled.formula_map bound bound (λ r. r && rest) (joined rest) l s a true ∙ e)

or_bound : (l s : ℕ) (a : OrPhrase) (rest : Bool) → or_fold bound l s a rest ≡ true → (or_fold bound l s a true ≡ true) × (rest ≡ true)
or_bound l s a rest e = and_parts (or_fold bound l s a true) rest (spelled.or_map bound bound (λ r. r && rest) (joined rest) l s a true ∙ e)

and_bound : (l s : ℕ) (a : AndPhrase) (rest : Bool) → and_fold bound l s a rest ≡ true → (and_fold bound l s a true ≡ true) × (rest ≡ true)
and_bound l s a rest e = and_parts (and_fold bound l s a true) rest (spelled.and_map bound bound (λ r. r && rest) (joined rest) l s a true ∙ e)

infix_bound : (l s : ℕ) (a : InfixPhrase) (rest : Bool) → infix_fold bound l s a rest ≡ true → (infix_fold bound l s a true ≡ true) × (rest ≡ true)
infix_bound l s a rest e = and_parts (infix_fold bound l s a true) rest (spelled.infix_map bound bound (λ r. r && rest) (joined rest) l s a true ∙ e)

unary_bound : (l s : ℕ) (a : UnaryPhrase) (rest : Bool) → unary_fold bound l s a rest ≡ true → (unary_fold bound l s a true ≡ true) × (rest ≡ true)
unary_bound l s a rest e = and_parts (unary_fold bound l s a true) rest (spelled.unary_map bound bound (λ r. r && rest) (joined rest) l s a true ∙ e)

variables_bound : (l s : ℕ) (v : VariablesPhrase) (rest : Bool) → variables_fold bound l s v rest ≡ true → rest ≡ true
variables_bound l s v rest e = (and_parts (variables_fold bound l s v true) rest (spelled.variables_map bound bound (λ r. r && rest) (joined rest) l s v true ∙ e)).1

interval_bound : (l s : ℕ) (i : IntervalPhrase) (rest : Bool) → interval_fold bound l s i rest ≡ true → Low l s × (rest ≡ true)
interval_bound l s i rest e =
    let b5 = bound l s i.close_bracket (Symbol CloseBracket) rest in
    let b4 = bound l s i.high_place (end_lexeme i.high) b5 in
    let b3 = bound l s i.comma (Symbol Comma) b4 in
    let b2 = bound l s i.low_place (DigitsLexeme i.low) b3 in
    let a1 = bound_out l s i.open_bracket (Symbol OpenBracket) b2 e in
    let a2 = bound_out l s i.low_place (DigitsLexeme i.low) b3 a1.1 in
    let a3 = bound_out l s i.comma (Symbol Comma) b4 a2.1 in
    let a4 = bound_out l s i.high_place (end_lexeme i.high) b5 a3.1 in
    let a5 = bound_out l s i.close_bracket (Symbol CloseBracket) rest a4.1 in (a1.0, a5.1)

-- ---- phrases: `names` are those of the rules so far

module _ (end : ℕ) (names : List (List ℕ)) where
  at_count : (rest : Stack) (text : List PlacedLexeme) (m n : ℕ) → m ≡ n → judge end rest m names text ≡ None → judge end rest n names text ≡ None
  at_count rest text m n e later = ap (λ (k : ℕ). judge end rest k names text) (sym e) ∙ later

  -- terms, and the parenthesis after them
  behind_in : (l s : ℕ) (rest : Stack) (n close : ℕ) (text : List PlacedLexeme) → Low l s → judge end rest n names text ≡ None
      → judge end (stack_item automaton.BehindArgument l s ∷ rest) n names ((close, Symbol CloseParen) ∷ text) ≡ None
  behind_in l s rest n close text low later =
      judge_takes end l s n close automaton.BehindArgument rest [] names (Symbol CloseParen) text refl refl refl (low_in automaton.BehindArgument l s n names (Symbol CloseParen) refl low refl) ∙ later

  terms_in : (l s : ℕ) (rest : Stack) (n close : ℕ) (terms : TermsPhrase) (text : List PlacedLexeme)
      → TermsPassed end names (terms_fold bound l s terms (bound l s close (Symbol CloseParen) true)) (AllByRecursion IsShortTerm (terms_list terms)) n rest text
      → judge end (stack_item automaton.NextArgument l s ∷ rest) n names (terms_fold spell l s terms ((close, Symbol CloseParen) ∷ text)) ≡ None
  terms_in l s rest n close (LastTerm t) text p =
      let low = (bound_out l s (term_place t) (term_lexeme t) _ p.bounded).0 in
      term_in end l s n automaton.NextArgument rest (stack_item automaton.BehindArgument l s ∷ []) names t ((close, Symbol CloseParen) ∷ text) (next_kind n names) (next_offered l s (term_place t) t)
      (record { low = low; short = p.short.0; later = behind_in l s rest n close text low p.later })
  terms_in l s rest n close (NextTerm t comma more) text p =
      let b = bound_out l s (term_place t) (term_lexeme t) _ p.bounded in
      let c = bound_out l s comma (Symbol Comma) _ b.1 in
      let t2 = terms_fold spell l s more ((close, Symbol CloseParen) ∷ text) in
      term_in end l s n automaton.NextArgument rest (stack_item automaton.BehindArgument l s ∷ []) names t ((comma, Symbol Comma) ∷ t2) (next_kind n names) (next_offered l s (term_place t) t)
      (record {
        low = b.0;
        short = p.short.0;
        later = judge_takes end l s n comma automaton.BehindArgument rest (stack_item automaton.NextArgument l s ∷ []) names (Symbol Comma) t2 refl refl refl
            (low_in automaton.BehindArgument l s n names (Symbol Comma) refl b.0 refl)
            ∙ terms_in l s rest n close more text (record { bounded = c.1; short = p.short.1; later = p.later });
      })

  some_terms_in : (l s : ℕ) (rest : Stack) (n close : ℕ) (terms : Option TermsPhrase) (text : List PlacedLexeme)
      → TermsPassed end names (some_terms_fold bound l s terms (bound l s close (Symbol CloseParen) true)) (AllByRecursion IsShortTerm (some_terms_list terms)) n rest text
      → judge end (stack_item automaton.FirstArgument l s ∷ rest) n names (some_terms_fold spell l s terms ((close, Symbol CloseParen) ∷ text)) ≡ None
  some_terms_in l s rest n close None text p =
      let low = (bound_out l s close (Symbol CloseParen) true p.bounded).0 in
      judge_takes end l s n close automaton.FirstArgument rest [] names (Symbol CloseParen) text refl refl refl (low_in automaton.FirstArgument l s n names (Symbol CloseParen) refl low refl) ∙ p.later
  some_terms_in l s rest n close (Some (LastTerm t)) text p =
      let low = (bound_out l s (term_place t) (term_lexeme t) _ p.bounded).0 in
      term_in end l s n automaton.FirstArgument rest (stack_item automaton.BehindArgument l s ∷ []) names t ((close, Symbol CloseParen) ∷ text) (first_kind n names)
      (first_offered l s (term_place t) t)
      (record { low = low; short = p.short.0; later = behind_in l s rest n close text low p.later })
  some_terms_in l s rest n close (Some (NextTerm t comma more)) text p =
      let b = bound_out l s (term_place t) (term_lexeme t) _ p.bounded in
      let c = bound_out l s comma (Symbol Comma) _ b.1 in
      let t2 = terms_fold spell l s more ((close, Symbol CloseParen) ∷ text) in
      term_in end l s n automaton.FirstArgument rest (stack_item automaton.BehindArgument l s ∷ []) names t ((comma, Symbol Comma) ∷ t2) (first_kind n names) (first_offered l s (term_place t) t)
      (record {
        low = b.0;
        short = p.short.0;
        later = judge_takes end l s n comma automaton.BehindArgument rest (stack_item automaton.NextArgument l s ∷ []) names (Symbol Comma) t2 refl refl refl
            (low_in automaton.BehindArgument l s n names (Symbol Comma) refl b.0 refl)
            ∙ terms_in l s rest n close more text (record { bounded = c.1; short = p.short.1; later = p.later });
      })

  -- an event
  event_in : (l s : ℕ) (rest : Stack) (n place : ℕ) (name : List ℕ) (a : ArgumentsPhrase) (text : List PlacedLexeme)
      → Passed end names (primary_fold bound l s (Event place name a) true) (KeepsLimits s (primary_tree (Event place name a))) n 1 rest text
      → judge end (stack_item automaton.Operand l s ∷ rest) n names (primary_fold spell l s (Event place name a) text) ≡ None
  event_in l s rest n place name a text p =
      let b = bound_out l s place (NameLexeme name) _ p.bounded in
      let c = bound_out l s a.open_paren (Symbol OpenParen) _ b.1 in
      let t2 = some_terms_fold spell (l + 1) s a.terms ((a.close_paren, Symbol CloseParen) ∷ text) in
      judge_takes end l s n place automaton.Operand rest (stack_item (automaton.BehindName place) l s ∷ []) names (NameLexeme name) ((a.open_paren, Symbol OpenParen) ∷ t2) refl refl refl
      (low_in automaton.Operand l s n names (NameLexeme name) refl b.0 (lt_false MOST_NAME_BYTES (length name) p.kept.0))
      ∙ judge_takes end l s n a.open_paren (automaton.BehindName place) rest (stack_item automaton.FirstArgument (l + 1) s ∷ []) names (Symbol OpenParen) t2 refl refl refl
      (le_false MOST_NODES n (omega (arith, p.few)))
      ∙ some_terms_in (l + 1) s rest (n + 1) a.close_paren a.terms text (record { bounded = c.1; short = p.kept.1; later = p.later })

  -- ---- comparisons

  -- a sign and the term after it
  record Signed (l s n : ℕ) (rest : Stack) (y : TermPhrase) (text : List PlacedLexeme) : Type 0 where
    low : Low l s
    few : n + 1 ≤ MOST_NODES
    short : IsShortTerm (term_tree y)
    later : judge end rest (n + 1) names text ≡ None

  right_in : (l s : ℕ) (rest : Stack) (n : ℕ) (y : TermPhrase) (text : List PlacedLexeme) → Signed l s n rest y text
      → judge end (stack_item automaton.RightSide l s ∷ rest) (n + 1) names (term_fold spell l s y text) ≡ None
  right_in l s rest n y text r =
      term_in end l s (n + 1) automaton.RightSide rest [] names y text (right_kind (n + 1) names) (right_offered l s (term_place y) y) (record { low = r.low; short = r.short; later = r.later })

  behind_name_in : (l s : ℕ) (rest : Stack) (n at : ℕ) (sign : signs.Sign) (place : ℕ) (y : TermPhrase) (text : List PlacedLexeme) → Signed l s n rest y text
      → judge end (stack_item (automaton.BehindName at) l s ∷ rest) n names ((place, Sign sign) ∷ term_fold spell l s y text) ≡ None
  behind_name_in l s rest n at sign place y text r =
      judge_takes end l s n place (automaton.BehindName at) rest (stack_item automaton.RightSide l s ∷ []) names (Sign sign) (term_fold spell l s y text) refl refl refl
      (low_in (automaton.BehindName at) l s n names (Sign sign) refl r.low (le_false MOST_NODES n (omega (arith, r.few))))
      ∙ right_in l s rest n y text r

  behind_constant_in : (l s : ℕ) (rest : Stack) (n : ℕ) (sign : signs.Sign) (place : ℕ) (y : TermPhrase) (text : List PlacedLexeme) → Signed l s n rest y text
      → judge end (stack_item automaton.BehindConstant l s ∷ rest) n names ((place, Sign sign) ∷ term_fold spell l s y text) ≡ None
  behind_constant_in l s rest n sign place y text r =
      judge_takes end l s n place automaton.BehindConstant rest (stack_item automaton.RightSide l s ∷ []) names (Sign sign) (term_fold spell l s y text) refl refl refl
      (low_in automaton.BehindConstant l s n names (Sign sign) refl r.low (le_false MOST_NODES n (omega (arith, r.few))))
      ∙ right_in l s rest n y text r

  signed : (l s : ℕ) (rest : Stack) (n : ℕ) (x : TermPhrase) (sign : signs.Sign) (place : ℕ) (y : TermPhrase) (text : List PlacedLexeme)
      → Passed end names (primary_fold bound l s (Comparison x sign place y) true) (KeepsLimits s (primary_tree (Comparison x sign place y))) n
      (tree_size (primary_tree (Comparison x sign place y))) rest text → Signed l s n rest y text
  signed l s rest n x sign place y text p =
      let sized : tree_size (sign_tree sign place (term_tree x) (term_tree y)) ≡ 1 = size_sign sign place x y in
      record {
        low = (bound_out l s (term_place x) (term_lexeme x) _ p.bounded).0;
        few = omega (arith, p.few, sized);
        short = (sign_parts sign place s x y p.kept).right;
        later = at_count rest text (n + tree_size (sign_tree sign place (term_tree x) (term_tree y))) (n + 1) (omega (arith, sized)) p.later;
      }

  comparison_in : (l s : ℕ) (rest : Stack) (n : ℕ) (x : TermPhrase) (sign : signs.Sign) (place : ℕ) (y : TermPhrase) (text : List PlacedLexeme)
      → Passed end names (primary_fold bound l s (Comparison x sign place y) true) (KeepsLimits s (primary_tree (Comparison x sign place y))) n
      (tree_size (primary_tree (Comparison x sign place y))) rest text
      → judge end (stack_item automaton.Operand l s ∷ rest) n names (primary_fold spell l s (Comparison x sign place y) text) ≡ None
  comparison_in l s rest n (Variable at name) sign place y text p =
      let r = signed l s rest n (Variable at name) sign place y text p in
      judge_takes end l s n at automaton.Operand rest (stack_item (automaton.BehindName at) l s ∷ []) names (NameLexeme name) ((place, Sign sign) ∷ term_fold spell l s y text) refl refl refl
      (low_in automaton.Operand l s n names (NameLexeme name) refl r.low (lt_false MOST_NAME_BYTES (length name) (sign_parts sign place s (Variable at name) y p.kept).left))
      ∙ behind_name_in l s rest n at sign place y text r
  comparison_in l s rest n (Plain at value) sign place y text p =
      let r = signed l s rest n (Plain at value) sign place y text p in
      judge_takes end l s n at automaton.Operand rest (stack_item automaton.BehindConstant l s ∷ []) names (DigitsLexeme value) ((place, Sign sign) ∷ term_fold spell l s y text) refl refl refl
      (low_in automaton.Operand l s n names (DigitsLexeme value) refl r.low refl)
      ∙ behind_constant_in l s rest n sign place y text r
  comparison_in l s rest n (Minus at value) sign place y text p =
      let r = signed l s rest n (Minus at value) sign place y text p in
      judge_takes end l s n at automaton.Operand rest (stack_item automaton.BehindConstant l s ∷ []) names (NegativeLexeme value) ((place, Sign sign) ∷ term_fold spell l s y text) refl refl refl
      (low_in automaton.Operand l s n names (NegativeLexeme value) refl r.low refl)
      ∙ behind_constant_in l s rest n sign place y text r
  comparison_in l s rest n (Quoted at value) sign place y text p =
      let r = signed l s rest n (Quoted at value) sign place y text p in
      judge_takes end l s n at automaton.Operand rest (stack_item automaton.BehindConstant l s ∷ []) names (TextLexeme value) ((place, Sign sign) ∷ term_fold spell l s y text) refl refl refl
      (low_in automaton.Operand l s n names (TextLexeme value) refl r.low refl)
      ∙ behind_constant_in l s rest n sign place y text r

  -- ---- intervals

  second_in : (operand l s : ℕ) (rest : Stack) (n low place : ℕ) (high : Option ℕ) (text : List PlacedLexeme) → Low l s → EndsFit low high
      → judge end (stack_item (automaton.CloseInterval operand) l s ∷ rest) n names text ≡ None
      → judge end (stack_item (automaton.SecondEnd operand low) l s ∷ rest) n names ((place, end_lexeme high) ∷ text) ≡ None
  second_in operand l s rest n low place None text within fits later =
      judge_takes end l s n place (automaton.SecondEnd operand low) rest (stack_item (automaton.CloseInterval operand) l s ∷ []) names (Symbol Star) text refl refl refl
      (low_in (automaton.SecondEnd operand low) l s n names (Symbol Star) refl within refl) ∙ later
  second_in operand l s rest n low place (Some high) text within fits later =
      judge_takes end l s n place (automaton.SecondEnd operand low) rest (stack_item (automaton.CloseInterval operand) l s ∷ []) names (DigitsLexeme high) text refl refl (lt_false high low fits.0)
      (low_in (automaton.SecondEnd operand low) l s n names (DigitsLexeme high) refl within (lt_false MOST_INTERVAL_END high fits.1)) ∙ later

  interval_in : (operand l s : ℕ) (rest : Stack) (n : ℕ) (i : IntervalPhrase) (text : List PlacedLexeme) → Low l s → IsBounded (interval_of i)
      → judge end (stack_item automaton.Operand operand s ∷ rest) n names text ≡ None
      → judge end (stack_item (automaton.OpenInterval operand) l s ∷ rest) n names (interval_fold spell l s i text) ≡ None
  interval_in operand l s rest n i text low fits later =
      let t4 = (i.close_bracket, Symbol CloseBracket) ∷ text in
      let t3 = (i.high_place, end_lexeme i.high) ∷ t4 in
      let t2 = (i.comma, Symbol Comma) ∷ t3 in
      judge_takes end l s n i.open_bracket (automaton.OpenInterval operand) rest (stack_item (automaton.FirstEnd operand) l s ∷ []) names (Symbol OpenBracket)
      ((i.low_place, DigitsLexeme i.low) ∷ t2) refl refl refl
      (low_in (automaton.OpenInterval operand) l s n names (Symbol OpenBracket) refl low refl)
      ∙ judge_takes end l s n i.low_place (automaton.FirstEnd operand) rest (stack_item (automaton.IntervalComma operand i.low) l s ∷ []) names (DigitsLexeme i.low) t2 refl refl refl
      (low_in (automaton.FirstEnd operand) l s n names (DigitsLexeme i.low) refl low (lt_false MOST_INTERVAL_END i.low (first_fits i.low i.high fits)))
      ∙ judge_takes end l s n i.comma (automaton.IntervalComma operand i.low) rest (stack_item (automaton.SecondEnd operand i.low) l s ∷ []) names (Symbol Comma) t3 refl refl refl
      (low_in (automaton.IntervalComma operand i.low) l s n names (Symbol Comma) refl low refl)
      ∙ second_in operand l s rest n i.low i.high_place i.high t4 low fits
      (judge_takes end l s n i.close_bracket (automaton.CloseInterval operand) rest (stack_item automaton.Operand operand s ∷ []) names (Symbol CloseBracket) text refl refl refl
      (low_in (automaton.CloseInterval operand) l s n names (Symbol CloseBracket) refl low refl) ∙ later)

  -- ---- variables

  variables_in : (l s : ℕ) (rest : Stack) (n : ℕ) (v : VariablesPhrase) (dot : ℕ) (text : List PlacedLexeme) → Low l (scope_behind s v)
      → AllByRecursion (λ (x : Binding). IsShortName x.name) (variables_list v)
      → judge end (formula_on l (scope_behind s v) rest) n names text ≡ None → judge end (stack_item automaton.BoundVariable l (s + 1) ∷ rest) n names
      (variables_fold spell l s v ((dot, Symbol Dot) ∷ text)) ≡ None
  variables_in l s rest n (LastVariable v) dot text low short later =
      judge_takes end l (s + 1) n v.place automaton.BoundVariable rest (stack_item automaton.BehindVariable l (s + 1) ∷ []) names (NameLexeme v.name) ((dot, Symbol Dot) ∷ text) refl refl refl
      (low_in automaton.BoundVariable l (s + 1) n names (NameLexeme v.name) refl low (lt_false MOST_NAME_BYTES (length v.name) short.0))
      ∙ judge_takes end l (s + 1) n dot automaton.BehindVariable rest (formula_on l (s + 1) []) names (Symbol Dot) text refl refl refl
      (low_in automaton.BehindVariable l (s + 1) n names (Symbol Dot) refl low refl)
      ∙ later
  variables_in l s rest n (NextVariable v comma more) dot text low short later =
      let t = variables_fold spell l (s + 1) more ((dot, Symbol Dot) ∷ text) in
      let same : scope_behind s (NextVariable v comma more) ≡ scope_behind (s + 1) more = sym (counted s v (variables_list more)) in
      let here : Low l (s + 1) = record { level_is = low.level_is; scope_is = omega (arith, low.scope_is, same) } in
      judge_takes end l (s + 1) n v.place automaton.BoundVariable rest (stack_item automaton.BehindVariable l (s + 1) ∷ []) names (NameLexeme v.name) ((comma, Symbol Comma) ∷ t) refl refl refl
      (low_in automaton.BoundVariable l (s + 1) n names (NameLexeme v.name) refl here (lt_false MOST_NAME_BYTES (length v.name) short.0))
      ∙ judge_takes end l (s + 1) n comma automaton.BehindVariable rest (stack_item automaton.BoundVariable l (s + 1 + 1) ∷ []) names (Symbol Comma) t refl refl refl
      (low_in automaton.BehindVariable l (s + 1) n names (Symbol Comma) refl here refl)
      ∙ variables_in l (s + 1) rest n more dot text (subst (Low l) same low) short.1 (subst (λ (m : ℕ). judge end (formula_on l m rest) n names text ≡ None) same later)

  -- ---- formulas

  mutual
    pub formula_in : (l s : ℕ) (rest : Stack) (n : ℕ) (a : FormulaPhrase) (text : List PlacedLexeme) → grammar.FormulaFits a (next_lexeme text)
        → Passed end names (formula_fold bound l s a true) (KeepsLimits s (formula_tree a)) n (tree_size (formula_tree a)) rest text
        → judge end (formula_on l s rest) n names (formula_fold spell l s a text) ≡ None
    formula_in l s rest n (OneSide a) text fits p =
        or_in l s (stack_item automaton.ArrowTail l s ∷ rest) n a text fits.0 (record {
          bounded = p.bounded;
          kept = p.kept;
          few = p.few;
          later = tail_skips end l s (n + tree_size (or_tree a)) automaton.ArrowTail rest names text (skips_arrow (next_lexeme text) fits.1) ∙ p.later;
        })
    formula_in l s rest n (Implication a place b) text fits p =
        let more = formula_fold spell (l + 1) s b text in
        let m = n + tree_size (or_tree a) in
        let c = or_bound l s a (bound l s place (Symbol Arrow) (formula_fold bound (l + 1) s b true)) p.bounded in
        let d = bound_out l s place (Symbol Arrow) (formula_fold bound (l + 1) s b true) c.1 in
        or_in l s (stack_item automaton.ArrowTail l s ∷ rest) n a ((place, Symbol Arrow) ∷ more) fits.0 (record {
          bounded = c.0;
          kept = p.kept.0;
          few = omega (arith, p.few);
          later = judge_takes end l s m place automaton.ArrowTail rest (formula_on (l + 1) s []) names (Symbol Arrow) more refl refl refl
              (low_in automaton.ArrowTail l s m names (Symbol Arrow) refl d.0 (le_false MOST_NODES m (omega (arith, p.few))))
              ∙ formula_in (l + 1) s rest (m + 1) b text fits.1 (record {
                bounded = d.1;
                kept = p.kept.1;
                few = omega (arith, p.few);
                later = at_count rest text (n + (tree_size (or_tree a) + (1 + tree_size (formula_tree b)))) (m + 1 + tree_size (formula_tree b)) (omega arith) p.later;
              });
        })

    or_in : (l s : ℕ) (rest : Stack) (n : ℕ) (a : OrPhrase) (text : List PlacedLexeme) → grammar.OrFits a (next_lexeme text)
        → Passed end names (or_fold bound l s a true) (KeepsLimits s (or_tree a)) n (tree_size (or_tree a)) rest text
        → judge end (or_on l s rest) n names (or_fold spell l s a text) ≡ None
    or_in l s rest n (OneCase a) text fits p =
        and_in l s (stack_item automaton.OrTail l s ∷ rest) n a text fits.0 (record {
          bounded = p.bounded;
          kept = p.kept;
          few = p.few;
          later = tail_skips end l s (n + tree_size (and_tree a)) automaton.OrTail rest names text (skips_or (next_lexeme text) fits.1) ∙ p.later;
        })
    or_in l s rest n (Disjunction a place b) text fits p =
        let more = or_fold spell (l + 1) s b text in
        let m = n + tree_size (and_tree a) in
        let c = and_bound l s a (bound l s place (Symbol Or) (or_fold bound (l + 1) s b true)) p.bounded in
        let d = bound_out l s place (Symbol Or) (or_fold bound (l + 1) s b true) c.1 in
        and_in l s (stack_item automaton.OrTail l s ∷ rest) n a ((place, Symbol Or) ∷ more) fits.0 (record {
          bounded = c.0;
          kept = p.kept.0;
          few = omega (arith, p.few);
          later = judge_takes end l s m place automaton.OrTail rest (or_on (l + 1) s []) names (Symbol Or) more refl refl refl
              (low_in automaton.OrTail l s m names (Symbol Or) refl d.0 (le_false MOST_NODES m (omega (arith, p.few))))
              ∙ or_in (l + 1) s rest (m + 1) b text fits.1 (record {
                bounded = d.1;
                kept = p.kept.1;
                few = omega (arith, p.few);
                later = at_count rest text (n + (tree_size (and_tree a) + (1 + tree_size (or_tree b)))) (m + 1 + tree_size (or_tree b)) (omega arith) p.later;
              });
        })

    and_in : (l s : ℕ) (rest : Stack) (n : ℕ) (a : AndPhrase) (text : List PlacedLexeme) → grammar.AndFits a (next_lexeme text)
        → Passed end names (and_fold bound l s a true) (KeepsLimits s (and_tree a)) n (tree_size (and_tree a)) rest text
        → judge end (and_on l s rest) n names (and_fold spell l s a text) ≡ None
    and_in l s rest n (OnePart a) text fits p =
        infix_in l s (stack_item automaton.AndTail l s ∷ rest) n a text fits.0 (record {
          bounded = p.bounded;
          kept = p.kept;
          few = p.few;
          later = tail_skips end l s (n + tree_size (binary_tree a)) automaton.AndTail rest names text (skips_and (next_lexeme text) fits.1) ∙ p.later;
        })
    and_in l s rest n (Conjunction a place b) text fits p =
        let more = and_fold spell (l + 1) s b text in
        let m = n + tree_size (binary_tree a) in
        let c = infix_bound l s a (bound l s place (Symbol And) (and_fold bound (l + 1) s b true)) p.bounded in
        let d = bound_out l s place (Symbol And) (and_fold bound (l + 1) s b true) c.1 in
        infix_in l s (stack_item automaton.AndTail l s ∷ rest) n a ((place, Symbol And) ∷ more) fits.0 (record {
          bounded = c.0;
          kept = p.kept.0;
          few = omega (arith, p.few);
          later = judge_takes end l s m place automaton.AndTail rest (and_on (l + 1) s []) names (Symbol And) more refl refl refl
              (low_in automaton.AndTail l s m names (Symbol And) refl d.0 (le_false MOST_NODES m (omega (arith, p.few))))
              ∙ and_in (l + 1) s rest (m + 1) b text fits.1 (record {
                bounded = d.1;
                kept = p.kept.1;
                few = omega (arith, p.few);
                later = at_count rest text (n + (tree_size (binary_tree a) + (1 + tree_size (and_tree b)))) (m + 1 + tree_size (and_tree b)) (omega arith) p.later;
              });
        })

    infix_in : (l s : ℕ) (rest : Stack) (n : ℕ) (a : InfixPhrase) (text : List PlacedLexeme) → grammar.InfixFits a (next_lexeme text)
        → Passed end names (infix_fold bound l s a true) (KeepsLimits s (binary_tree a)) n (tree_size (binary_tree a)) rest text
        → judge end (infix_on l s rest) n names (infix_fold spell l s a text) ≡ None
    infix_in l s rest n (OneOperand a) text fits p =
        unary_in l s (stack_item automaton.InfixTail l s ∷ rest) n a text fits.0 (record {
          bounded = p.bounded;
          kept = p.kept;
          few = p.few;
          later = tail_skips end l s (n + tree_size (unary_tree a)) automaton.InfixTail rest names text (skips_infix (next_lexeme text) fits.1) ∙ p.later;
        })
    infix_in l s rest n (Between a operator place i b) text fits p =
        let more = unary_fold spell (l + 1) s b text in
        let m = n + tree_size (unary_tree a) in
        let t = interval_fold spell l s i more in
        let c = unary_bound l s a (bound l s place (Infix operator) (interval_fold bound l s i (unary_fold bound (l + 1) s b true))) p.bounded in
        let d = bound_out l s place (Infix operator) (interval_fold bound l s i (unary_fold bound (l + 1) s b true)) c.1 in
        let q = interval_bound l s i (unary_fold bound (l + 1) s b true) d.1 in
        let kept = infix_parts operator place s (interval_of i) (unary_tree a) (unary_tree b) p.kept in
        let sized : tree_size (infix_tree operator place (interval_of i) (unary_tree a) (unary_tree b))
        ≡ tree_size (unary_tree a) + (1 + tree_size (unary_tree b)) = size_infix operator place (interval_of i) (unary_tree a) (unary_tree b) in
        unary_in l s (stack_item automaton.InfixTail l s ∷ rest) n a ((place, Infix operator) ∷ t) fits.0 (record {
          bounded = c.0;
          kept = kept.left;
          few = omega (arith, p.few, sized);
          later = judge_takes end l s m place automaton.InfixTail rest (stack_item (automaton.OpenInterval (l + 1)) l s ∷ []) names (Infix operator) t refl refl refl
              (low_in automaton.InfixTail l s m names (Infix operator) refl d.0 (le_false MOST_NODES m (omega (arith, p.few, sized))))
              ∙ interval_in (l + 1) l s rest (m + 1) i more d.0 kept.ends
              (unary_in (l + 1) s rest (m + 1) b text fits.1 (record {
                bounded = q.1;
                kept = kept.right;
                few = omega (arith, p.few, sized);
                later = at_count rest text (n + tree_size (infix_tree operator place (interval_of i) (unary_tree a) (unary_tree b))) (m + 1 + tree_size (unary_tree b)) (omega (arith, sized)) p.later;
              }));
        })

    unary_in : (l s : ℕ) (rest : Stack) (n : ℕ) (a : UnaryPhrase) (text : List PlacedLexeme) → grammar.UnaryFits a (next_lexeme text)
        → Passed end names (unary_fold bound l s a true) (KeepsLimits s (unary_tree a)) n (tree_size (unary_tree a)) rest text
        → judge end (stack_item automaton.Operand l s ∷ rest) n names (unary_fold spell l s a text) ≡ None
    unary_in l s rest n (Negation place a) text fits p =
        let b = bound_out l s place (Symbol Not) (unary_fold bound (l + 1) s a true) p.bounded in
        judge_takes end l s n place automaton.Operand rest (stack_item automaton.Operand (l + 1) s ∷ []) names (Symbol Not) (unary_fold spell (l + 1) s a text) refl refl refl
        (low_in automaton.Operand l s n names (Symbol Not) refl b.0 (le_false MOST_NODES n (omega (arith, p.few))))
        ∙ unary_in (l + 1) s rest (n + 1) a text fits (record {
          bounded = b.1;
          kept = p.kept;
          few = omega (arith, p.few);
          later = at_count rest text (n + (1 + tree_size (unary_tree a))) (n + 1 + tree_size (unary_tree a)) (omega arith) p.later;
        })
    unary_in l s rest n (Before operator place i a) text fits p =
        let more = unary_fold spell (l + 1) s a text in
        let t = interval_fold spell (l + 1) s i more in
        let b = bound_out l s place (Prefix operator) (interval_fold bound (l + 1) s i (unary_fold bound (l + 1) s a true)) p.bounded in
        let q = interval_bound (l + 1) s i (unary_fold bound (l + 1) s a true) b.1 in
        let kept = prefix_parts operator place s (interval_of i) (unary_tree a) p.kept in
        let sized : tree_size (prefix_tree operator place (interval_of i) (unary_tree a)) ≡ 1 + tree_size (unary_tree a) = size_prefix operator place (interval_of i) (unary_tree a) in
        judge_takes end l s n place automaton.Operand rest (stack_item (automaton.OpenInterval (l + 1)) (l + 1) s ∷ []) names (Prefix operator) t refl refl refl
        (low_in automaton.Operand l s n names (Prefix operator) refl b.0 (le_false MOST_NODES n (omega (arith, p.few, sized))))
        ∙ interval_in (l + 1) (l + 1) s rest (n + 1) i more q.0 kept.ends
        (unary_in (l + 1) s rest (n + 1) a text fits (record {
          bounded = q.1;
          kept = kept.kept;
          few = omega (arith, p.few, sized);
          later = at_count rest text (n + tree_size (prefix_tree operator place (interval_of i) (unary_tree a))) (n + 1 + tree_size (unary_tree a)) (omega (arith, sized)) p.later;
        }))
    unary_in l s rest n (Quantified quantifier place v dot a) text fits p =
        let more = formula_fold spell (l + 1) (scope_behind s v) a text in
        let inner = formula_fold bound (l + 1) (scope_behind s v) a true in
        let b = bound_out l s place (Quantifier quantifier) (variables_fold bound (l + 1) s v (bound (l + 1) (scope_behind s v) dot (Symbol Dot) inner)) p.bounded in
        let d = bound_out (l + 1) (scope_behind s v) dot (Symbol Dot) inner (variables_bound (l + 1) s v (bound (l + 1) (scope_behind s v) dot (Symbol Dot) inner) b.1) in
        let kept = quantifier_parts quantifier place s (variables_list v) (formula_tree a) p.kept in
        let sized : tree_size (quantifier_tree quantifier place (variables_list v) (formula_tree a))
        ≡ 1 + tree_size (formula_tree a) = size_quantifier quantifier place (variables_list v) (formula_tree a) in
        judge_takes end l s n place automaton.Operand rest (stack_item automaton.BoundVariable (l + 1) (s + 1) ∷ []) names (Quantifier quantifier)
        (variables_fold spell (l + 1) s v ((dot, Symbol Dot) ∷ more)) refl refl refl
        (low_in automaton.Operand l s n names (Quantifier quantifier) refl b.0 (le_false MOST_NODES n (omega (arith, p.few, sized))))
        ∙ variables_in (l + 1) s rest (n + 1) v dot more d.0 kept.short
        (formula_in (l + 1) (scope_behind s v) rest (n + 1) a text fits (record {
          bounded = d.1;
          kept = kept.kept;
          few = omega (arith, p.few, sized);
          later = at_count rest text (n + tree_size (quantifier_tree quantifier place (variables_list v) (formula_tree a))) (n + 1 + tree_size (formula_tree a)) (omega (arith, sized)) p.later;
        }))
    unary_in l s rest n (Primary (Parenthesis o a q)) text fits p =
        let more = (q, Symbol CloseParen) ∷ text in
        let b = bound_out l s o (Symbol OpenParen) (formula_fold bound (l + 1) s a (bound (l + 1) s q (Symbol CloseParen) true)) p.bounded in
        let c = formula_bound (l + 1) s a (bound (l + 1) s q (Symbol CloseParen) true) b.1 in
        let d = bound_out (l + 1) s q (Symbol CloseParen) true c.1 in
        let m = n + tree_size (formula_tree a) in
        judge_takes end l s n o automaton.Operand rest (formula_on (l + 1) s (stack_item automaton.ParenthesisEnd (l + 1) s ∷ [])) names (Symbol OpenParen)
        (formula_fold spell (l + 1) s a more) refl refl refl
        (low_in automaton.Operand l s n names (Symbol OpenParen) refl b.0 refl)
        ∙ formula_in (l + 1) s (stack_item automaton.ParenthesisEnd (l + 1) s ∷ rest) n a more fits (record {
          bounded = c.0;
          kept = p.kept;
          few = p.few;
          later = judge_takes end (l + 1) s m q automaton.ParenthesisEnd rest [] names (Symbol CloseParen) text refl refl refl
              (low_in automaton.ParenthesisEnd (l + 1) s m names (Symbol CloseParen) refl d.0 refl) ∙ p.later;
        })
    unary_in l s rest n (Primary (Constant value place)) text fits p =
        let b = bound_out l s place (Truth value) true p.bounded in
        let sized : tree_size (truth_tree value place) ≡ 1 = size_truth value place in
        judge_takes end l s n place automaton.Operand rest [] names (Truth value) text refl refl refl
        (low_in automaton.Operand l s n names (Truth value) refl b.0 (le_false MOST_NODES n (omega (arith, p.few, sized))))
        ∙ at_count rest text (n + tree_size (truth_tree value place)) (n + 1) (omega (arith, sized)) p.later
    unary_in l s rest n (Primary (Event place name arguments)) text fits p = event_in l s rest n place name arguments text (record { bounded = p.bounded; kept = p.kept; few = p.few; later = p.later })
    unary_in l s rest n (Primary (Comparison x sign place y)) text fits p = comparison_in l s rest n x sign place y text (record { bounded = p.bounded; kept = p.kept; few = p.few; later = p.later })
