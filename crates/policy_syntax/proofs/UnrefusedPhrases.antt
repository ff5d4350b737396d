-- Where nothing is refused, a phrase keeps the limits.
use Rattle.policy_syntax.proofs.Vocabulary.{◌≡◌, ℕ, ◌+◌, ◌≤◌, Bool, true, false, List, [], ◌∷◌, length, Option, None, Some, refl, sym, ap, subst, ◌∙◌, arith, AllByRecursion, MOST_NAME_BYTES, Stack}
use Rattle.policy_syntax.proofs.Vocabulary.{stack_item, infix_on, and_on, or_on, formula_on, TermPhrase, TermsPhrase, ArgumentsPhrase, VariablesPhrase, IntervalPhrase, FormulaPhrase, OrPhrase}
use Rattle.policy_syntax.proofs.Vocabulary.{AndPhrase, InfixPhrase, UnaryPhrase, Variable, Plain, Minus, Quoted, LastTerm, NextTerm, LastVariable, NextVariable, OneSide, Implication, OneCase}
use Rattle.policy_syntax.proofs.Vocabulary.{Disjunction, OnePart, Conjunction, OneOperand, Between, Negation, Before, Quantified, Primary, Parenthesis, Constant, Event, Comparison, term_tree}
use Rattle.policy_syntax.proofs.Vocabulary.{terms_list, some_terms_list, variables_list, interval_of, formula_tree, or_tree, and_tree, binary_tree, unary_tree, primary_tree, infix_tree, prefix_tree}
use Rattle.policy_syntax.proofs.Vocabulary.{quantifier_tree, sign_tree, truth_tree, scope_behind, end_lexeme, term_lexeme, term_place, spell, bound, terms_fold, some_terms_fold, arguments_fold}
use Rattle.policy_syntax.proofs.Vocabulary.{variables_fold, interval_fold, formula_fold, or_fold, and_fold, infix_fold, unary_fold, primary_fold, term_fold, PlacedLexeme, Symbol, Truth, Prefix, Infix}
use Rattle.policy_syntax.proofs.Vocabulary.{Quantifier, Sign, NameLexeme, DigitsLexeme, NegativeLexeme, TextLexeme, next_lexeme, EndsFit, IsBounded, KeepsLimits, IsShortName, IsShortTerm, tree_size}
use Rattle.policy_syntax.proofs.Vocabulary.{SyntaxTree, Not, And, Or, Arrow, OpenParen, CloseParen, OpenBracket, CloseBracket, Comma, Dot, Star, MOST_INTERVAL_END, MOST_NODES, Binding, Interval}
use Rattle.policy_syntax.specs.machine.Automaton.{judge}
use Rattle.policy_syntax.proofs.LexemeLimits.{bound_is}
use Rattle.policy_syntax.proofs.StackMeanings.{counted}
use Rattle.policy_syntax.proofs.FormulaPhrases.{kept_quantifier, size_infix, size_prefix, size_quantifier}
use Rattle.policy_syntax.proofs.StackBeginnings.{first_offered, next_offered, right_offered, skips_and, skips_arrow, skips_infix, skips_or}
use Rattle.policy_syntax.proofs.UnrefusedLexemes.{IsTermKind, Low, TermWent, false_le, false_lt, low_out, tail_skips, term_out, went}
use Rattle.policy_syntax.specs.machine.Automaton as automaton
use Rattle.policy_syntax.specs.meaning.Grammar as grammar
use Rattle.policy_syntax.specs.declared.lexemes.Sign as signs
use Rattle.policy_syntax.specs.declared.lexemes.Sign.TheVariants as sign_marks
use Rattle.policy_syntax.specs.declared.lexemes.Infix as infixes
use Rattle.policy_syntax.specs.declared.lexemes.Infix.TheVariants as infix_words
use Rattle.policy_syntax.specs.declared.lexemes.Prefix as prefixes
use Rattle.policy_syntax.specs.declared.lexemes.Prefix.TheVariants as prefix_words

-- ---- what is kept of a formula

pub kept_prefix : (operator : prefixes.Prefix) (place scope : ℕ) (interval : Interval) (f : SyntaxTree) → IsBounded interval → KeepsLimits scope f
    → KeepsLimits scope (prefix_tree operator place interval f)
kept_prefix prefix_words.Prev place scope interval f ends kept = (ends, kept)
kept_prefix prefix_words.Next place scope interval f ends kept = (ends, kept)
kept_prefix prefix_words.Once place scope interval f ends kept = (ends, kept)
kept_prefix prefix_words.Historically place scope interval f ends kept = (ends, kept)
kept_prefix prefix_words.Eventually place scope interval f ends kept = (ends, kept)
kept_prefix prefix_words.Always place scope interval f ends kept = (ends, kept)

pub kept_infix : (operator : infixes.Infix) (place scope : ℕ) (interval : Interval) (f g : SyntaxTree) → IsBounded interval → KeepsLimits scope f → KeepsLimits scope g
    → KeepsLimits scope (infix_tree operator place interval f g)
kept_infix infix_words.Since place scope interval f g ends kept also = (ends, kept, also)
kept_infix infix_words.Until place scope interval f g ends kept also = (ends, kept, also)

pub kept_sign : (sign : signs.Sign) (place scope : ℕ) (x y : TermPhrase) → IsShortTerm (term_tree x) → IsShortTerm (term_tree y) → KeepsLimits scope (sign_tree sign place (term_tree x) (term_tree y))
kept_sign sign_marks.Equal place scope x y short also = (short, also)
kept_sign sign_marks.Less place scope x y short also = (short, also)
kept_sign sign_marks.AtMost place scope x y short also = (short, also)

pub size_sign : (sign : signs.Sign) (place : ℕ) (x y : TermPhrase) → tree_size (sign_tree sign place (term_tree x) (term_tree y)) ≡ 1
size_sign sign_marks.Equal place x y = refl
size_sign sign_marks.Less place x y = refl
size_sign sign_marks.AtMost place x y = refl

pub size_truth : (value : Bool) (place : ℕ) → tree_size (truth_tree value place) ≡ 1
size_truth true place = refl
size_truth false place = refl

pub kept_truth : (value : Bool) (place scope : ℕ) → KeepsLimits scope (truth_tree value place)
kept_truth true place scope = tt
kept_truth false place scope = tt

-- ---- the kinds that terms come for

pub right_kind : (nodes : ℕ) (names : List (List ℕ)) → IsTermKind automaton.RightSide nodes names
right_kind nodes names = record { kept = λ x. refl; same = λ x. refl; right = λ x. refl; plain = λ value. refl; no_call = λ x. refl }

pub next_kind : (nodes : ℕ) (names : List (List ℕ)) → IsTermKind automaton.NextArgument nodes names
next_kind nodes names = record { kept = λ x. refl; same = λ x. refl; right = λ x. refl; plain = λ value. refl; no_call = λ x. refl }

pub first_kind : (nodes : ℕ) (names : List (List ℕ)) → IsTermKind automaton.FirstArgument nodes names
first_kind nodes names = record { kept = λ x. refl; same = λ x. refl; right = λ x. refl; plain = λ value. refl; no_call = λ x. refl }

-- ---- phrases: `names` are those of the rules so far

module _ (end : ℕ) (names : List (List ℕ)) where
  -- a phrase keeps the limits, and after it nothing is refused
  pub record Passed (bounds : Bool) (Kept : Type 0) (nodes more : ℕ) (rest : Stack) (text : List PlacedLexeme) : Type 0 where
    pub bounded : bounds ≡ true
    pub kept : Kept
    pub few : nodes + more ≤ MOST_NODES
    pub later : judge end rest (nodes + more) names text ≡ None

  -- terms, and the parenthesis after them
  pub record TermsPassed (bounds : Bool) (Short : Type 0) (nodes : ℕ) (rest : Stack) (text : List PlacedLexeme) : Type 0 where
    pub bounded : bounds ≡ true
    pub short : Short
    pub later : judge end rest nodes names text ≡ None

  behind_out : (l s : ℕ) (rest : Stack) (n close : ℕ) (t : TermPhrase) (text : List PlacedLexeme)
      → TermWent end l s n (stack_item automaton.BehindArgument l s ∷ rest) names t ((close, Symbol CloseParen) ∷ text)
      → TermsPassed (terms_fold bound l s (LastTerm t) (bound l s close (Symbol CloseParen) true)) (AllByRecursion IsShortTerm (terms_list (LastTerm t))) n rest text
  behind_out l s rest n close t text first =
      let w = went end l s n close automaton.BehindArgument rest [] names (Symbol CloseParen) text refl refl first.later in
      record {
        bounded = bound_is l s (term_place t) (term_lexeme t) _ first.low.level_is first.low.scope_is ∙ bound_is l s close (Symbol CloseParen) true first.low.level_is first.low.scope_is;
        short = (first.short, tt);
        later = w.later;
      }

  more_out : (l s : ℕ) (rest : Stack) (n close : ℕ) (t : TermPhrase) (comma : ℕ) (more : TermsPhrase) (text : List PlacedLexeme)
      → TermWent end l s n (stack_item automaton.BehindArgument l s ∷ rest) names t ((comma, Symbol Comma) ∷ terms_fold spell l s more ((close, Symbol CloseParen) ∷ text))
      → (judge end (stack_item automaton.NextArgument l s ∷ rest) n names (terms_fold spell l s more ((close, Symbol CloseParen) ∷ text)) ≡ None
      → TermsPassed (terms_fold bound l s more (bound l s close (Symbol CloseParen) true)) (AllByRecursion IsShortTerm (terms_list more)) n rest text)
      → TermsPassed (terms_fold bound l s (NextTerm t comma more) (bound l s close (Symbol CloseParen) true)) (AllByRecursion IsShortTerm (terms_list (NextTerm t comma more))) n rest text
  more_out l s rest n close t comma more text first further =
      let w = went end l s n comma automaton.BehindArgument rest (stack_item automaton.NextArgument l s ∷ []) names (Symbol Comma)
      (terms_fold spell l s more ((close, Symbol CloseParen) ∷ text)) refl refl first.later in
      let later = further w.later in
      record {
        bounded = bound_is l s (term_place t) (term_lexeme t) _ first.low.level_is first.low.scope_is ∙ bound_is l s comma (Symbol Comma) _ first.low.level_is first.low.scope_is ∙ later.bounded;
        short = (first.short, later.short);
        later = later.later;
      }

  terms_out : (l s : ℕ) (rest : Stack) (n close : ℕ) (terms : TermsPhrase) (text : List PlacedLexeme)
      → judge end (stack_item automaton.NextArgument l s ∷ rest) n names (terms_fold spell l s terms ((close, Symbol CloseParen) ∷ text)) ≡ None
      → TermsPassed (terms_fold bound l s terms (bound l s close (Symbol CloseParen) true)) (AllByRecursion IsShortTerm (terms_list terms)) n rest text
  terms_out l s rest n close (LastTerm t) text e =
      behind_out l s rest n close t text (term_out end l s n automaton.NextArgument rest (stack_item automaton.BehindArgument l s ∷ []) names t ((close, Symbol CloseParen) ∷ text)
      (next_kind n names) (next_offered l s (term_place t) t) e)
  terms_out l s rest n close (NextTerm t comma more) text e =
      more_out l s rest n close t comma more text
      (term_out end l s n automaton.NextArgument rest (stack_item automaton.BehindArgument l s ∷ []) names t
      ((comma, Symbol Comma) ∷ terms_fold spell l s more ((close, Symbol CloseParen) ∷ text)) (next_kind n names) (next_offered l s (term_place t) t) e)
      (λ later. terms_out l s rest n close more text later)

  some_terms_out : (l s : ℕ) (rest : Stack) (n close : ℕ) (terms : Option TermsPhrase) (text : List PlacedLexeme)
      → judge end (stack_item automaton.FirstArgument l s ∷ rest) n names (some_terms_fold spell l s terms ((close, Symbol CloseParen) ∷ text)) ≡ None
      → TermsPassed (some_terms_fold bound l s terms (bound l s close (Symbol CloseParen) true)) (AllByRecursion IsShortTerm (some_terms_list terms)) n rest text
  some_terms_out l s rest n close None text e =
      let w = went end l s n close automaton.FirstArgument rest [] names (Symbol CloseParen) text refl refl e in
      let low = (low_out automaton.FirstArgument l s n names (Symbol CloseParen) refl w.low).0 in
      record { bounded = bound_is l s close (Symbol CloseParen) true low.level_is low.scope_is; short = tt; later = w.later }
  some_terms_out l s rest n close (Some (LastTerm t)) text e =
      behind_out l s rest n close t text (term_out end l s n automaton.FirstArgument rest (stack_item automaton.BehindArgument l s ∷ []) names t ((close, Symbol CloseParen) ∷ text)
      (first_kind n names) (first_offered l s (term_place t) t) e)
  some_terms_out l s rest n close (Some (NextTerm t comma more)) text e =
      more_out l s rest n close t comma more text
      (term_out end l s n automaton.FirstArgument rest (stack_item automaton.BehindArgument l s ∷ []) names t
      ((comma, Symbol Comma) ∷ terms_fold spell l s more ((close, Symbol CloseParen) ∷ text)) (first_kind n names) (first_offered l s (term_place t) t) e)
      (λ later. terms_out l s rest n close more text later)

  -- an event
  event_out : (l s : ℕ) (rest : Stack) (n place : ℕ) (name : List ℕ) (a : ArgumentsPhrase) (text : List PlacedLexeme)
      → judge end (stack_item automaton.Operand l s ∷ rest) n names (primary_fold spell l s (Event place name a) text) ≡ None
      → Passed (primary_fold bound l s (Event place name a) true) (KeepsLimits s (primary_tree (Event place name a))) n 1 rest text
  event_out l s rest n place name a text e =
      let w = went end l s n place automaton.Operand rest (stack_item (automaton.BehindName place) l s ∷ []) names (NameLexeme name) (arguments_fold spell l s a text) refl refl e in
      let low = low_out automaton.Operand l s n names (NameLexeme name) refl w.low in
      let v = went end l s n a.open_paren (automaton.BehindName place) rest (stack_item automaton.FirstArgument (l + 1) s ∷ []) names (Symbol OpenParen)
      (some_terms_fold spell (l + 1) s a.terms ((a.close_paren, Symbol CloseParen) ∷ text)) refl refl w.later in
      let terms = some_terms_out (l + 1) s rest (n + 1) a.close_paren a.terms text v.later in
      record {
        bounded = bound_is l s place (NameLexeme name) _ low.0.level_is low.0.scope_is ∙ bound_is l s a.open_paren (Symbol OpenParen) _ low.0.level_is low.0.scope_is ∙ terms.bounded;
        kept = (false_lt MOST_NAME_BYTES (length name) low.1, terms.short);
        few = omega (arith, false_le MOST_NODES n v.low);
        later = terms.later;
      }

  -- ---- comparisons

  record Right (l s n : ℕ) (rest : Stack) (y : TermPhrase) (text : List PlacedLexeme) : Type 0 where
    low : Low l s
    few : n + 1 ≤ MOST_NODES
    right : TermWent end l s (n + 1) rest names y text

  behind_name_out : (l s : ℕ) (rest : Stack) (n at : ℕ) (sign : signs.Sign) (place : ℕ) (y : TermPhrase) (text : List PlacedLexeme)
      → judge end (stack_item (automaton.BehindName at) l s ∷ rest) n names ((place, Sign sign) ∷ term_fold spell l s y text) ≡ None
      → Right l s n rest y text
  behind_name_out l s rest n at sign place y text e =
      let w = went end l s n place (automaton.BehindName at) rest (stack_item automaton.RightSide l s ∷ []) names (Sign sign) (term_fold spell l s y text) refl refl e in
      let low = low_out (automaton.BehindName at) l s n names (Sign sign) refl w.low in
      record {
        low = low.0;
        few = omega (arith, false_le MOST_NODES n low.1);
        right = term_out end l s (n + 1) automaton.RightSide rest [] names y text (right_kind (n + 1) names)
            (right_offered l s (term_place y) y) w.later;
      }

  behind_constant_out : (l s : ℕ) (rest : Stack) (n : ℕ) (sign : signs.Sign) (place : ℕ) (y : TermPhrase) (text : List PlacedLexeme)
      → judge end (stack_item automaton.BehindConstant l s ∷ rest) n names ((place, Sign sign) ∷ term_fold spell l s y text) ≡ None
      → Right l s n rest y text
  behind_constant_out l s rest n sign place y text e =
      let w = went end l s n place automaton.BehindConstant rest (stack_item automaton.RightSide l s ∷ []) names (Sign sign) (term_fold spell l s y text) refl refl e in
      let low = low_out automaton.BehindConstant l s n names (Sign sign) refl w.low in
      record {
        low = low.0;
        few = omega (arith, false_le MOST_NODES n low.1);
        right = term_out end l s (n + 1) automaton.RightSide rest [] names y text (right_kind (n + 1) names)
            (right_offered l s (term_place y) y) w.later;
      }

  at_count : (rest : Stack) (text : List PlacedLexeme) (m n : ℕ) → m ≡ n → judge end rest m names text ≡ None → judge end rest n names text ≡ None
  at_count rest text m n e later = ap (λ (k : ℕ). judge end rest k names text) (sym e) ∙ later

  compared : (l s : ℕ) (rest : Stack) (n : ℕ) (x : TermPhrase) (sign : signs.Sign) (place : ℕ) (y : TermPhrase) (text : List PlacedLexeme) → Low l s → IsShortTerm (term_tree x)
      → Right l s n rest y text
      → Passed (primary_fold bound l s (Comparison x sign place y) true) (KeepsLimits s (primary_tree (Comparison x sign place y))) n (tree_size (primary_tree (Comparison x sign place y))) rest text
  compared l s rest n x sign place y text low short r = record {
    bounded = bound_is l s (term_place x) (term_lexeme x) _ low.level_is low.scope_is ∙ bound_is l s place (Sign sign) _ low.level_is low.scope_is ∙ bound_is l s (term_place y)
        (term_lexeme y) true low.level_is low.scope_is;
    kept = kept_sign sign place s x y short r.right.short;
    few = omega (arith, r.few, size_sign sign place x y);
    later = at_count rest text (n + 1) (n + tree_size (sign_tree sign place (term_tree x) (term_tree y))) (omega (arith, size_sign sign place x y)) r.right.later;
  }

  comparison_out : (l s : ℕ) (rest : Stack) (n : ℕ) (x : TermPhrase) (sign : signs.Sign) (place : ℕ) (y : TermPhrase) (text : List PlacedLexeme)
      → judge end (stack_item automaton.Operand l s ∷ rest) n names (primary_fold spell l s (Comparison x sign place y) text) ≡ None
      → Passed (primary_fold bound l s (Comparison x sign place y) true) (KeepsLimits s (primary_tree (Comparison x sign place y))) n (tree_size (primary_tree (Comparison x sign place y))) rest text
  comparison_out l s rest n (Variable at name) sign place y text e =
      let w = went end l s n at automaton.Operand rest (stack_item (automaton.BehindName at) l s ∷ []) names (NameLexeme name) ((place, Sign sign) ∷ term_fold spell l s y text) refl refl e in
      let low = low_out automaton.Operand l s n names (NameLexeme name) refl w.low in
      compared l s rest n (Variable at name) sign place y text low.0 (false_lt MOST_NAME_BYTES (length name) low.1) (behind_name_out l s rest n at sign place y text w.later)
  comparison_out l s rest n (Plain at value) sign place y text e =
      let w = went end l s n at automaton.Operand rest (stack_item automaton.BehindConstant l s ∷ []) names (DigitsLexeme value) ((place, Sign sign) ∷ term_fold spell l s y text) refl refl e in
      let low = low_out automaton.Operand l s n names (DigitsLexeme value) refl w.low in
      compared l s rest n (Plain at value) sign place y text low.0 tt (behind_constant_out l s rest n sign place y text w.later)
  comparison_out l s rest n (Minus at value) sign place y text e =
      let w = went end l s n at automaton.Operand rest (stack_item automaton.BehindConstant l s ∷ []) names (NegativeLexeme value) ((place, Sign sign) ∷ term_fold spell l s y text) refl refl e in
      let low = low_out automaton.Operand l s n names (NegativeLexeme value) refl w.low in
      compared l s rest n (Minus at value) sign place y text low.0 tt (behind_constant_out l s rest n sign place y text w.later)
  comparison_out l s rest n (Quoted at value) sign place y text e =
      let w = went end l s n at automaton.Operand rest (stack_item automaton.BehindConstant l s ∷ []) names (TextLexeme value) ((place, Sign sign) ∷ term_fold spell l s y text) refl refl e in
      let low = low_out automaton.Operand l s n names (TextLexeme value) refl w.low in
      compared l s rest n (Quoted at value) sign place y text low.0 tt (behind_constant_out l s rest n sign place y text w.later)

  -- ---- intervals

  record EndsPassed (operand l s n low : ℕ) (high : Option ℕ) (rest : Stack) (text : List PlacedLexeme) : Type 0 where
    fits : EndsFit low high
    later : judge end (stack_item (automaton.CloseInterval operand) l s ∷ rest) n names text ≡ None

  second_out : (operand l s : ℕ) (rest : Stack) (n low place : ℕ) (high : Option ℕ) (text : List PlacedLexeme) → low ≤ MOST_INTERVAL_END
      → judge end (stack_item (automaton.SecondEnd operand low) l s ∷ rest) n names ((place, end_lexeme high) ∷ text) ≡ None
      → EndsPassed operand l s n low high rest text
  second_out operand l s rest n low place None text small e =
      let w = went end l s n place (automaton.SecondEnd operand low) rest (stack_item (automaton.CloseInterval operand) l s ∷ []) names (Symbol Star) text refl refl e in
      record { fits = small; later = w.later }
  second_out operand l s rest n low place (Some high) text small e =
      let w = went end l s n place (automaton.SecondEnd operand low) rest (stack_item (automaton.CloseInterval operand) l s ∷ []) names (DigitsLexeme high) text refl refl e in
      let within = low_out (automaton.SecondEnd operand low) l s n names (DigitsLexeme high) refl w.low in
      record { fits = (false_lt high low w.right, false_lt MOST_INTERVAL_END high within.1); later = w.later }

  record IntervalPassed (operand l s n : ℕ) (i : IntervalPhrase) (rest : Stack) (text : List PlacedLexeme) : Type 0 where
    bounded : (b : Bool) → interval_fold bound l s i b ≡ b
    ends : IsBounded (interval_of i)
    later : judge end (stack_item automaton.Operand operand s ∷ rest) n names text ≡ None

  interval_out : (operand l s : ℕ) (rest : Stack) (n : ℕ) (i : IntervalPhrase) (text : List PlacedLexeme)
      → judge end (stack_item (automaton.OpenInterval operand) l s ∷ rest) n names (interval_fold spell l s i text) ≡ None → IntervalPassed operand l s n i rest text
  interval_out operand l s rest n i text e =
      let t4 = (i.close_bracket, Symbol CloseBracket) ∷ text in
      let t3 = (i.high_place, end_lexeme i.high) ∷ t4 in
      let t2 = (i.comma, Symbol Comma) ∷ t3 in
      let w1 = went end l s n i.open_bracket (automaton.OpenInterval operand) rest (stack_item (automaton.FirstEnd operand) l s ∷ []) names (Symbol OpenBracket)
      ((i.low_place, DigitsLexeme i.low) ∷ t2) refl refl e in
      let w2 = went end l s n i.low_place (automaton.FirstEnd operand) rest (stack_item (automaton.IntervalComma operand i.low) l s ∷ []) names (DigitsLexeme i.low) t2 refl refl w1.later in
      let within = low_out (automaton.FirstEnd operand) l s n names (DigitsLexeme i.low) refl w2.low in
      let w3 = went end l s n i.comma (automaton.IntervalComma operand i.low) rest (stack_item (automaton.SecondEnd operand i.low) l s ∷ []) names (Symbol Comma) t3 refl refl w2.later in
      let w4 = second_out operand l s rest n i.low i.high_place i.high t4 (false_lt MOST_INTERVAL_END i.low within.1) w3.later in
      let w5 = went end l s n i.close_bracket (automaton.CloseInterval operand) rest (stack_item automaton.Operand operand s ∷ []) names (Symbol CloseBracket) text refl refl w4.later in
      let low = within.0 in
      record {
        bounded = λ b. bound_is l s i.open_bracket (Symbol OpenBracket) _ low.level_is low.scope_is ∙ bound_is l s i.low_place (DigitsLexeme i.low) _ low.level_is low.scope_is ∙
            bound_is l s i.comma (Symbol Comma) _ low.level_is low.scope_is
            ∙ bound_is l s i.high_place (end_lexeme i.high) _ low.level_is low.scope_is ∙ bound_is l s i.close_bracket (Symbol CloseBracket) b low.level_is low.scope_is;
        ends = w4.fits;
        later = w5.later;
      }

  -- ---- variables

  record VariablesPassed (l s n : ℕ) (v : VariablesPhrase) (rest : Stack) (text : List PlacedLexeme) : Type 0 where
    bounded : (b : Bool) → variables_fold bound l s v b ≡ b
    low : Low l (scope_behind s v)
    short : AllByRecursion (λ (x : Binding). IsShortName x.name) (variables_list v)
    later : judge end (formula_on l (scope_behind s v) rest) n names text ≡ None

  variables_out : (l s : ℕ) (rest : Stack) (n : ℕ) (v : VariablesPhrase) (dot : ℕ) (text : List PlacedLexeme)
      → judge end (stack_item automaton.BoundVariable l (s + 1) ∷ rest) n names (variables_fold spell l s v ((dot, Symbol Dot) ∷ text)) ≡ None → VariablesPassed l s n v rest text
  variables_out l s rest n (LastVariable v) dot text e =
      let w1 = went end l (s + 1) n v.place automaton.BoundVariable rest (stack_item automaton.BehindVariable l (s + 1) ∷ []) names (NameLexeme v.name) ((dot, Symbol Dot) ∷ text) refl refl e in
      let low = low_out automaton.BoundVariable l (s + 1) n names (NameLexeme v.name) refl w1.low in
      let w2 = went end l (s + 1) n dot automaton.BehindVariable rest (formula_on l (s + 1) []) names (Symbol Dot) text refl refl w1.later in
      record {
        bounded = λ b. bound_is l (s + 1) v.place (NameLexeme v.name) b low.0.level_is low.0.scope_is;
        low = low.0;
        short = (false_lt MOST_NAME_BYTES (length v.name) low.1, tt);
        later = w2.later;
      }
  variables_out l s rest n (NextVariable v comma more) dot text e =
      let t = variables_fold spell l (s + 1) more ((dot, Symbol Dot) ∷ text) in
      let w1 = went end l (s + 1) n v.place automaton.BoundVariable rest (stack_item automaton.BehindVariable l (s + 1) ∷ []) names (NameLexeme v.name) ((comma, Symbol Comma) ∷ t) refl refl e in
      let low = low_out automaton.BoundVariable l (s + 1) n names (NameLexeme v.name) refl w1.low in
      let w2 = went end l (s + 1) n comma automaton.BehindVariable rest (stack_item automaton.BoundVariable l (s + 1 + 1) ∷ []) names (Symbol Comma) t refl refl w1.later in
      let further = variables_out l (s + 1) rest n more dot text w2.later in
      let same : scope_behind (s + 1) more ≡ scope_behind s (NextVariable v comma more) = counted s v (variables_list more) in
      record {
        bounded = λ b. bound_is l (s + 1) v.place (NameLexeme v.name) _ low.0.level_is low.0.scope_is ∙ bound_is l (s + 1) comma (Symbol Comma) _ low.0.level_is low.0.scope_is ∙ further.bounded b;
        low = subst (Low l) same further.low;
        short = (false_lt MOST_NAME_BYTES (length v.name) low.1, further.short);
        later = subst (λ (m : ℕ). judge end (formula_on l m rest) n names text ≡ None) same further.later;
      }

  -- ---- formulas

  prefix_kept : (operator : prefixes.Prefix) (place l s n : ℕ) (i : IntervalPhrase) (f : UnaryPhrase) (rest : Stack) (text : List PlacedLexeme) → Low l s
      → IntervalPassed (l + 1) (l + 1) s (n + 1) i rest (unary_fold spell (l + 1) s f text)
      → Passed (unary_fold bound (l + 1) s f true) (KeepsLimits s (unary_tree f)) (n + 1) (tree_size (unary_tree f)) rest text
      → Passed (unary_fold bound l s (Before operator place i f) true) (KeepsLimits s (unary_tree (Before operator place i f))) n (tree_size (unary_tree (Before operator place i f))) rest text
  prefix_kept operator place l s n i f rest text low ends r =
      let sized : tree_size (prefix_tree operator place (interval_of i) (unary_tree f)) ≡ 1 + tree_size (unary_tree f) = size_prefix operator place (interval_of i) (unary_tree f) in
      record {
        bounded = bound_is l s place (Prefix operator) _ low.level_is low.scope_is ∙ ends.bounded (unary_fold bound (l + 1) s f true) ∙ r.bounded;
        kept = kept_prefix operator place s (interval_of i) (unary_tree f) ends.ends r.kept;
        few = omega (arith, r.few, sized);
        later = at_count rest text (n + 1 + tree_size (unary_tree f)) (n + tree_size (prefix_tree operator place (interval_of i) (unary_tree f))) (omega (arith, sized)) r.later;
      }

  mutual
    pub formula_out : (l s : ℕ) (rest : Stack) (n : ℕ) (a : FormulaPhrase) (text : List PlacedLexeme) → grammar.FormulaFits a (next_lexeme text)
        → judge end (formula_on l s rest) n names (formula_fold spell l s a text) ≡ None
        → Passed (formula_fold bound l s a true) (KeepsLimits s (formula_tree a)) n (tree_size (formula_tree a)) rest text
    formula_out l s rest n (OneSide a) text fits e =
        let r = or_out l s (stack_item automaton.ArrowTail l s ∷ rest) n a text fits.0 e in
        record {
          bounded = r.bounded;
          kept = r.kept;
          few = r.few;
          later = sym (tail_skips end l s (n + tree_size (or_tree a)) automaton.ArrowTail rest names text
              (skips_arrow (next_lexeme text) fits.1)) ∙ r.later;
        }
    formula_out l s rest n (Implication a place b) text fits e =
        let more = formula_fold spell (l + 1) s b text in
        let r = or_out l s (stack_item automaton.ArrowTail l s ∷ rest) n a ((place, Symbol Arrow) ∷ more) fits.0 e in
        let m = n + tree_size (or_tree a) in
        let w = went end l s m place automaton.ArrowTail rest (formula_on (l + 1) s []) names (Symbol Arrow) more refl refl r.later in
        let low = (low_out automaton.ArrowTail l s m names (Symbol Arrow) refl w.low).0 in
        let q = formula_out (l + 1) s rest (m + 1) b text fits.1 w.later in
        record {
          bounded = ap (or_fold bound l s a) (bound_is l s place (Symbol Arrow) _ low.level_is low.scope_is ∙ q.bounded) ∙ r.bounded;
          kept = (r.kept, q.kept);
          few = omega (arith, q.few);
          later = at_count rest text (m + 1 + tree_size (formula_tree b)) (n + (tree_size (or_tree a) + (1 + tree_size (formula_tree b)))) (omega arith) q.later;
        }

    or_out : (l s : ℕ) (rest : Stack) (n : ℕ) (a : OrPhrase) (text : List PlacedLexeme) → grammar.OrFits a (next_lexeme text) → judge end (or_on l s rest) n names (or_fold spell l s a text) ≡ None
        → Passed (or_fold bound l s a true) (KeepsLimits s (or_tree a)) n (tree_size (or_tree a)) rest text
    or_out l s rest n (OneCase a) text fits e =
        let r = and_out l s (stack_item automaton.OrTail l s ∷ rest) n a text fits.0 e in
        record {
          bounded = r.bounded;
          kept = r.kept;
          few = r.few;
          later = sym (tail_skips end l s (n + tree_size (and_tree a)) automaton.OrTail rest names text
              (skips_or (next_lexeme text) fits.1)) ∙ r.later;
        }
    or_out l s rest n (Disjunction a place b) text fits e =
        let more = or_fold spell (l + 1) s b text in
        let r = and_out l s (stack_item automaton.OrTail l s ∷ rest) n a ((place, Symbol Or) ∷ more) fits.0 e in
        let m = n + tree_size (and_tree a) in
        let w = went end l s m place automaton.OrTail rest (or_on (l + 1) s []) names (Symbol Or) more refl refl r.later in
        let low = (low_out automaton.OrTail l s m names (Symbol Or) refl w.low).0 in
        let q = or_out (l + 1) s rest (m + 1) b text fits.1 w.later in
        record {
          bounded = ap (and_fold bound l s a) (bound_is l s place (Symbol Or) _ low.level_is low.scope_is ∙ q.bounded) ∙ r.bounded;
          kept = (r.kept, q.kept);
          few = omega (arith, q.few);
          later = at_count rest text (m + 1 + tree_size (or_tree b)) (n + (tree_size (and_tree a) + (1 + tree_size (or_tree b)))) (omega arith) q.later;
        }

    and_out : (l s : ℕ) (rest : Stack) (n : ℕ) (a : AndPhrase) (text : List PlacedLexeme) → grammar.AndFits a (next_lexeme text)
        → judge end (and_on l s rest) n names (and_fold spell l s a text) ≡ None
        → Passed (and_fold bound l s a true) (KeepsLimits s (and_tree a)) n (tree_size (and_tree a)) rest text
    and_out l s rest n (OnePart a) text fits e =
        let r = infix_out l s (stack_item automaton.AndTail l s ∷ rest) n a text fits.0 e in
        record {
          bounded = r.bounded;
          kept = r.kept;
          few = r.few;
          later = sym (tail_skips end l s (n + tree_size (binary_tree a)) automaton.AndTail rest names text
              (skips_and (next_lexeme text) fits.1)) ∙ r.later;
        }
    and_out l s rest n (Conjunction a place b) text fits e =
        let more = and_fold spell (l + 1) s b text in
        let r = infix_out l s (stack_item automaton.AndTail l s ∷ rest) n a ((place, Symbol And) ∷ more) fits.0 e in
        let m = n + tree_size (binary_tree a) in
        let w = went end l s m place automaton.AndTail rest (and_on (l + 1) s []) names (Symbol And) more refl refl r.later in
        let low = (low_out automaton.AndTail l s m names (Symbol And) refl w.low).0 in
        let q = and_out (l + 1) s rest (m + 1) b text fits.1 w.later in
        record {
          bounded = ap (infix_fold bound l s a) (bound_is l s place (Symbol And) _ low.level_is low.scope_is ∙ q.bounded) ∙ r.bounded;
          kept = (r.kept, q.kept);
          few = omega (arith, q.few);
          later = at_count rest text (m + 1 + tree_size (and_tree b)) (n + (tree_size (binary_tree a) + (1 + tree_size (and_tree b)))) (omega arith) q.later;
        }

    infix_out : (l s : ℕ) (rest : Stack) (n : ℕ) (a : InfixPhrase) (text : List PlacedLexeme) → grammar.InfixFits a (next_lexeme text)
        → judge end (infix_on l s rest) n names (infix_fold spell l s a text) ≡ None
        → Passed (infix_fold bound l s a true) (KeepsLimits s (binary_tree a)) n (tree_size (binary_tree a)) rest text
    infix_out l s rest n (OneOperand a) text fits e =
        let r = unary_out l s (stack_item automaton.InfixTail l s ∷ rest) n a text fits.0 e in
        record {
          bounded = r.bounded;
          kept = r.kept;
          few = r.few;
          later = sym (tail_skips end l s (n + tree_size (unary_tree a)) automaton.InfixTail rest names text
              (skips_infix (next_lexeme text) fits.1)) ∙ r.later;
        }
    infix_out l s rest n (Between a operator place i b) text fits e =
        let more = unary_fold spell (l + 1) s b text in
        let t = interval_fold spell l s i more in
        let r = unary_out l s (stack_item automaton.InfixTail l s ∷ rest) n a ((place, Infix operator) ∷ t) fits.0 e in
        let m = n + tree_size (unary_tree a) in
        let w = went end l s m place automaton.InfixTail rest (stack_item (automaton.OpenInterval (l + 1)) l s ∷ []) names (Infix operator) t refl refl r.later in
        let low = (low_out automaton.InfixTail l s m names (Infix operator) refl w.low).0 in
        let ends = interval_out (l + 1) l s rest (m + 1) i more w.later in
        let q = unary_out (l + 1) s rest (m + 1) b text fits.1 ends.later in
        let sized : tree_size (infix_tree operator place (interval_of i) (unary_tree a) (unary_tree b))
        ≡ tree_size (unary_tree a) + (1 + tree_size (unary_tree b)) = size_infix operator place (interval_of i) (unary_tree a) (unary_tree b) in
        record {
          bounded = ap (unary_fold bound l s a) (bound_is l s place (Infix operator) _ low.level_is low.scope_is ∙ ends.bounded (unary_fold bound (l + 1) s b true) ∙ q.bounded) ∙ r.bounded;
          kept = kept_infix operator place s (interval_of i) (unary_tree a) (unary_tree b) ends.ends r.kept q.kept;
          few = omega (arith, q.few, sized);
          later = at_count rest text (m + 1 + tree_size (unary_tree b)) (n + tree_size (infix_tree operator place (interval_of i) (unary_tree a) (unary_tree b))) (omega (arith, sized)) q.later;
        }

    unary_out : (l s : ℕ) (rest : Stack) (n : ℕ) (a : UnaryPhrase) (text : List PlacedLexeme) → grammar.UnaryFits a (next_lexeme text)
        → judge end (stack_item automaton.Operand l s ∷ rest) n names (unary_fold spell l s a text) ≡ None
        → Passed (unary_fold bound l s a true) (KeepsLimits s (unary_tree a)) n (tree_size (unary_tree a)) rest text
    unary_out l s rest n (Negation place a) text fits e =
        let w = went end l s n place automaton.Operand rest (stack_item automaton.Operand (l + 1) s ∷ []) names (Symbol Not) (unary_fold spell (l + 1) s a text) refl refl e in
        let low = (low_out automaton.Operand l s n names (Symbol Not) refl w.low).0 in
        let r = unary_out (l + 1) s rest (n + 1) a text fits w.later in
        record {
          bounded = bound_is l s place (Symbol Not) _ low.level_is low.scope_is ∙ r.bounded;
          kept = r.kept;
          few = omega (arith, r.few);
          later = at_count rest text (n + 1 + tree_size (unary_tree a)) (n + (1 + tree_size (unary_tree a))) (omega arith) r.later;
        }
    unary_out l s rest n (Before operator place i a) text fits e =
        let more = unary_fold spell (l + 1) s a text in
        let t = interval_fold spell (l + 1) s i more in
        let w = went end l s n place automaton.Operand rest (stack_item (automaton.OpenInterval (l + 1)) (l + 1) s ∷ []) names (Prefix operator) t refl refl e in
        let low = (low_out automaton.Operand l s n names (Prefix operator) refl w.low).0 in
        let ends = interval_out (l + 1) (l + 1) s rest (n + 1) i more w.later in
        let r = unary_out (l + 1) s rest (n + 1) a text fits ends.later in
        prefix_kept operator place l s n i a rest text low ends r
    unary_out l s rest n (Quantified quantifier place v dot a) text fits e =
        let more = formula_fold spell (l + 1) (scope_behind s v) a text in
        let w = went end l s n place automaton.Operand rest (stack_item automaton.BoundVariable (l + 1) (s + 1) ∷ []) names (Quantifier quantifier)
        (variables_fold spell (l + 1) s v ((dot, Symbol Dot) ∷ more)) refl refl e in
        let low = (low_out automaton.Operand l s n names (Quantifier quantifier) refl w.low).0 in
        let vs = variables_out (l + 1) s rest (n + 1) v dot more w.later in
        let r = formula_out (l + 1) (scope_behind s v) rest (n + 1) a text fits vs.later in
        let sized : tree_size (quantifier_tree quantifier place (variables_list v) (formula_tree a))
        ≡ 1 + tree_size (formula_tree a) = size_quantifier quantifier place (variables_list v) (formula_tree a) in
        record {
          bounded = bound_is l s place (Quantifier quantifier) _ low.level_is low.scope_is ∙ vs.bounded _ ∙ bound_is (l + 1) (scope_behind s v) dot (Symbol Dot) _ vs.low.level_is
              vs.low.scope_is ∙ r.bounded;
          kept = kept_quantifier quantifier place s (variables_list v) (formula_tree a) vs.low.scope_is vs.short r.kept;
          few = omega (arith, r.few, sized);
          later = at_count rest text (n + 1 + tree_size (formula_tree a)) (n + tree_size (quantifier_tree quantifier place (variables_list v) (formula_tree a))) (omega (arith, sized)) r.later;
        }
    unary_out l s rest n (Primary (Parenthesis p a q)) text fits e =
        let more = (q, Symbol CloseParen) ∷ text in
        let w = went end l s n p automaton.Operand rest (formula_on (l + 1) s (stack_item automaton.ParenthesisEnd (l + 1) s ∷ [])) names (Symbol OpenParen)
        (formula_fold spell (l + 1) s a more) refl refl e in
        let low = (low_out automaton.Operand l s n names (Symbol OpenParen) refl w.low).0 in
        let r = formula_out (l + 1) s (stack_item automaton.ParenthesisEnd (l + 1) s ∷ rest) n a more fits w.later in
        let v = went end (l + 1) s (n + tree_size (formula_tree a)) q automaton.ParenthesisEnd rest [] names (Symbol CloseParen) text refl refl r.later in
        let deeper = (low_out automaton.ParenthesisEnd (l + 1) s (n + tree_size (formula_tree a)) names (Symbol CloseParen) refl v.low).0 in
        record {
          bounded = bound_is l s p (Symbol OpenParen) _ low.level_is low.scope_is ∙ ap (formula_fold bound (l + 1) s a)
              (bound_is (l + 1) s q (Symbol CloseParen) true deeper.level_is deeper.scope_is) ∙ r.bounded;
          kept = r.kept;
          few = r.few;
          later = v.later;
        }
    unary_out l s rest n (Primary (Constant value place)) text fits e =
        let w = went end l s n place automaton.Operand rest [] names (Truth value) text refl refl e in
        let low = low_out automaton.Operand l s n names (Truth value) refl w.low in
        record {
          bounded = bound_is l s place (Truth value) true low.0.level_is low.0.scope_is;
          kept = kept_truth value place s;
          few = omega (arith, false_le MOST_NODES n low.1, size_truth value place);
          later = at_count rest text (n + 1) (n + tree_size (truth_tree value place)) (omega (arith, size_truth value place)) w.later;
        }
    unary_out l s rest n (Primary (Event place name arguments)) text fits e =
        let r = event_out l s rest n place name arguments text e in
        record { bounded = r.bounded; kept = r.kept; few = r.few; later = r.later }
    unary_out l s rest n (Primary (Comparison x sign place y)) text fits e =
        let r = comparison_out l s rest n x sign place y text e in
        record { bounded = r.bounded; kept = r.kept; few = r.few; later = r.later }
