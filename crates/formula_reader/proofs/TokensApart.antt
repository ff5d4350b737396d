-- No token of the canonical text goes on in what stands after it.
use Rattle.formula_reader.proofs.Vocabulary.{◌≡◌, ℕ, Bool, true, false, List, [], ◌∷◌, ◌++◌, Option, None, Some, codes, pos, negsuc, refl, sym, ap, subst, ◌∙◌, append_assoc, append-nil}
use Rattle.formula_reader.proofs.Vocabulary.{is_ascii_digit, flat_map, AllByRecursion, IsTrue, Formula, True, False, Atom, Equal, Less, AtMost, Not, And, Or, Implies, Exists, Forall, Prev, Next, Once}
use Rattle.formula_reader.proofs.Vocabulary.{Historically, Since, Eventually, Always, Until, is_word, is_word_byte, NumberToken, SymbolToken, begins_with, printed_tokens, StopsBefore, AreApart}
use Rattle.formula_reader.proofs.Vocabulary.{goes_on_with_mark, IsProper, Interval, Term, Var, Const, VarId, Mark as AnyMark, Num, NameEntry, variable_text, Rule, formula_stands_alone, PrintedPiece}
use Rattle.formula_reader.proofs.Vocabulary.{word_piece, mark_piece, blank_piece, term_piece, separated_pieces, end_piece, interval_pieces, enclosed_pieces, comparison_pieces, prefix_pieces}
use Rattle.formula_reader.proofs.Vocabulary.{infix_pieces, quantified_pieces, formula_pieces, rule_pieces, IsTermText, IsEndText, IsIntervalText, IsFormulaText, IsRuleText}
use Rattle.enf_data.specs.declared.values.Value.TheVariants.{Text}
use Rattle.formula_reader.proofs.PrintedPieces.{printed-append}
use Rattle.enf_value.specs.declared.tokens.Mark.TheVariants as marks

-- no token goes on in what is printed after it, before the rest
abbrev pub Apart : List PrintedPiece → List ℕ → Type 0
Apart [] rest = Unit {0}
Apart (None ∷ pieces) rest = Apart pieces rest
Apart (Some token ∷ pieces) rest = IsProper token × StopsBefore token (printed_tokens pieces ++ rest) × Apart pieces rest

-- nothing that goes on with a word or a number
pub record IsEnd (rest : List ℕ) : Type 0 where
  pub word : begins_with is_word_byte rest ≡ false
  pub digit : begins_with is_ascii_digit rest ≡ false

apart-append : (a b : List PrintedPiece) (rest : List ℕ) → Apart a (printed_tokens b ++ rest) → Apart b rest → Apart (a ++ b) rest
apart-append [] b rest h k = k
apart-append (None ∷ a) b rest h k = apart-append a b rest h k
apart-append (Some token ∷ a) b rest h k = (
  h.0,
  subst (λ (t : List ℕ). StopsBefore token t) (sym (append_assoc (printed_tokens a) (printed_tokens b) rest) ∙ ap (λ (t : List ℕ). t ++ rest) (sym (printed-append a b))) h.1,
  apart-append a b rest h.2 k,
)

pub apart-all : (pieces : List PrintedPiece) → Apart pieces [] → AreApart pieces
apart-all [] h = tt
apart-all (None ∷ pieces) h = apart-all pieces h
apart-all (Some token ∷ pieces) h = (h.0, subst (λ (t : List ℕ). StopsBefore token t) (append-nil (printed_tokens pieces)) h.1, apart-all pieces h.2)

never : (kind : ℕ → Bool) → ((byte : ℕ) → kind byte ≡ false) → (rest : List ℕ) → begins_with kind rest ≡ false
never kind each [] = refl
never kind each (byte ∷ rest) = each byte

-- a term, before what does not go on with it
term-apart : (vars : List (List ℕ)) (term : Term) (pieces : List PrintedPiece) (rest : List ℕ) → IsTermText vars term → IsEnd (printed_tokens pieces ++ rest)
    → Apart pieces rest → Apart (term_piece vars term ∷ pieces) rest
term-apart vars (Var x) pieces rest h e k = (h, e.word, k)
term-apart vars (Const (Num (pos n))) pieces rest h e k = (h, e.digit, k)
term-apart vars (Const (Num (negsuc n))) pieces rest h e k = (h, e.digit, k)
term-apart vars (Const (Text bytes)) pieces rest h e k = (h, tt, k)

-- items with commas between them
others-apart : {A : Type 0} (piece : A → PrintedPiece) (Fits : A → Type 0) (separator : List PrintedPiece) (items : List A) (pieces : List PrintedPiece) (rest : List ℕ)
    → ((item : A) (more : List PrintedPiece) → Fits item → IsEnd (printed_tokens more ++ rest) → Apart more rest → Apart (piece item ∷ more) rest)
    → ((more : List PrintedPiece) → Apart more rest → Apart (separator ++ more) rest)
    → ((more : List PrintedPiece) → IsEnd (printed_tokens (separator ++ more) ++ rest))
    → AllByRecursion Fits items → IsEnd (printed_tokens pieces ++ rest) → Apart pieces rest
    → Apart (flat_map (λ item. separator ++ piece item ∷ []) items ++ pieces) rest × IsEnd (printed_tokens (flat_map (λ item. separator ++ piece item ∷ []) items ++ pieces) ++ rest)
others-apart piece Fits separator [] pieces rest one between starts h e k = (k, e)
others-apart piece Fits separator (item ∷ items) pieces rest one between starts h e k =
    let later : List PrintedPiece = flat_map (λ x. separator ++ piece x ∷ []) items ++ pieces in
    let found = others-apart piece Fits separator items pieces rest one between starts h.1 e k in
    let whole : flat_map (λ x. separator ++ piece x ∷ []) (item ∷ items) ++ pieces ≡ separator ++ (piece item ∷ later) =
    append_assoc (separator ++ piece item ∷ []) (flat_map (λ x. separator ++ piece x ∷ []) items) pieces ∙ append_assoc separator (piece item ∷ []) later in (
      subst (λ (ps : List PrintedPiece). Apart ps rest) (sym whole) (between (piece item ∷ later) (one item later h.0 found.1 found.0)),
      subst (λ (ps : List PrintedPiece). IsEnd (printed_tokens ps ++ rest)) (sym whole) (starts (piece item ∷ later)),
    )

separated-apart : {A : Type 0} (piece : A → PrintedPiece) (Fits : A → Type 0) (separator : List PrintedPiece) (items : List A) (pieces : List PrintedPiece) (rest : List ℕ)
    → ((item : A) (more : List PrintedPiece) → Fits item → IsEnd (printed_tokens more ++ rest) → Apart more rest → Apart (piece item ∷ more) rest)
    → ((more : List PrintedPiece) → Apart more rest → Apart (separator ++ more) rest)
    → ((more : List PrintedPiece) → IsEnd (printed_tokens (separator ++ more) ++ rest))
    → AllByRecursion Fits items → IsEnd (printed_tokens pieces ++ rest) → Apart pieces rest
    → Apart (separated_pieces piece separator items ++ pieces) rest
separated-apart piece Fits separator [] pieces rest one between starts h e k = k
separated-apart piece Fits separator (item ∷ items) pieces rest one between starts h e k =
    let found = others-apart piece Fits separator items pieces rest one between starts h.1 e k in
    one item (flat_map (λ x. separator ++ piece x ∷ []) items ++ pieces) h.0 found.1 found.0

-- an end, before the bracket that closes
end-apart : (high : Option ℕ) (rest : List ℕ) → IsEndText high → Apart (end_piece high ∷ mark_piece marks.CloseBracket ∷ []) rest
end-apart None rest h = (tt, never (goes_on_with_mark marks.Star) (λ byte. refl) (93 ∷ rest), (tt, never (goes_on_with_mark marks.CloseBracket) (λ byte. refl) rest, tt))
end-apart (Some high) rest h = (h, refl, (tt, never (goes_on_with_mark marks.CloseBracket) (λ byte. refl) rest, tt))

printed-end_digit : (high : Option ℕ) (rest : List ℕ) → begins_with (goes_on_with_mark marks.Comma) (printed_tokens (end_piece high ∷ mark_piece marks.CloseBracket ∷ []) ++ rest) ≡ false
printed-end_digit high rest = never (goes_on_with_mark marks.Comma) (λ byte. refl) (printed_tokens (end_piece high ∷ mark_piece marks.CloseBracket ∷ []) ++ rest)

interval-apart : (interval : Interval) (rest : List ℕ) → IsIntervalText interval → Apart (interval_pieces interval) rest
interval-apart interval rest h = (
  tt,
  never (goes_on_with_mark marks.OpenBracket) (λ byte. refl) (printed_tokens (Some (NumberToken interval.low) ∷ mark_piece marks.Comma ∷ end_piece interval.high ∷ mark_piece
      marks.CloseBracket ∷ []) ++ rest),
  (h.0, refl, (tt, printed-end_digit interval.high rest, end-apart interval.high rest h.1)),
)

closed : (rest : List ℕ) → Apart (mark_piece marks.CloseParen ∷ []) rest
closed rest = (tt, never (goes_on_with_mark marks.CloseParen) (λ byte. refl) rest, tt)

-- a formula, in parentheses where it does not stand alone
enclosed-apart : (alone : Bool) (pieces : List PrintedPiece) (rest : List ℕ) → ((more : List ℕ) → IsEnd more → Apart pieces more) → IsEnd rest → Apart (enclosed_pieces alone pieces) rest
enclosed-apart true pieces rest h e = h rest e
enclosed-apart false pieces rest h e = (
  tt,
  never (goes_on_with_mark marks.OpenParen) (λ byte. refl) (printed_tokens (pieces ++ mark_piece marks.CloseParen ∷ []) ++ rest),
  apart-append pieces (mark_piece marks.CloseParen ∷ []) rest (h (41 ∷ rest) (record { word = refl; digit = refl })) (closed rest),
)

-- a word before a blank
word-apart : (text : List ℕ) (rest : List ℕ) → IsTrue (is_word text) → Apart (word_piece text ∷ []) (32 ∷ rest)
word-apart text rest h = (h, refl, tt)

-- a word with an interval
timed-apart : (text : List ℕ) (interval : Interval) (rest : List ℕ) → IsTrue (is_word text) → IsIntervalText interval → Apart (word_piece text ∷ interval_pieces interval) rest
timed-apart text interval rest h k = (h, refl, interval-apart interval rest k)

prefix-apart : (operator operand : List PrintedPiece) (rest : List ℕ) → ((more : List ℕ) → Apart operator (32 ∷ more)) → Apart operand rest → Apart (prefix_pieces operator operand) rest
prefix-apart operator operand rest h k = apart-append operator (blank_piece ∷ operand) rest (h (printed_tokens operand ++ rest)) k

infix-apart : (left operator right : List PrintedPiece) (rest : List ℕ) → ((more : List ℕ) → Apart left (32 ∷ more)) → ((more : List ℕ) → Apart operator (32 ∷ more)) → Apart right rest
    → Apart (infix_pieces left operator right) rest
infix-apart left operator right rest h k m =
    apart-append left (blank_piece ∷ (operator ++ (blank_piece ∷ right))) rest (h (printed_tokens (operator ++ (blank_piece ∷ right)) ++ rest)) (prefix-apart operator right rest k m)

-- a blank goes on with nothing
blank-end : (more : List ℕ) → IsEnd (32 ∷ more)
blank-end more = record { word = refl; digit = refl }

comparison-apart : (vars : List (List ℕ)) (s : Term) (sign : AnyMark) (t : Term) (rest : List ℕ) → IsTermText vars s → IsTermText vars t → IsEnd rest
    → ((more : List ℕ) → begins_with (goes_on_with_mark sign) (32 ∷ more) ≡ false) → IsProper (SymbolToken sign) → Apart (comparison_pieces vars s sign t) rest
comparison-apart vars s sign t rest h k e q p =
    term-apart vars s (blank_piece ∷ mark_piece sign ∷ blank_piece ∷ term_piece vars t ∷ []) rest h (blank-end (printed_tokens (mark_piece sign ∷ blank_piece ∷ term_piece vars t ∷ []) ++ rest))
    (p, q (printed_tokens (term_piece vars t ∷ []) ++ rest), term-apart vars t [] rest k e tt)

quantified-apart : (vars : List (List ℕ)) (quantifier : List ℕ) (xs : List VarId) (operand : List PrintedPiece) (rest : List ℕ) → IsTrue (is_word quantifier)
    → AllByRecursion (λ x. IsTrue (is_word (variable_text vars x))) xs → Apart operand rest → Apart (quantified_pieces vars quantifier xs operand) rest
quantified-apart vars quantifier xs operand rest q h k = (
  q,
  refl,
  separated-apart (λ x. word_piece (variable_text vars x)) (λ x. IsTrue (is_word (variable_text vars x))) (mark_piece marks.Comma ∷ blank_piece ∷ []) xs
      (mark_piece marks.Dot ∷ blank_piece ∷ operand) rest
      (λ item more fits e later. (fits, e.word, later))
      (λ more later. (tt, refl, later))
      (λ more. record { word = refl; digit = refl })
      h (record { word = refl; digit = refl }) (tt, refl, k),
)

-- the pieces of a formula
pub formula-apart : (entries : List NameEntry) (vars : List (List ℕ)) (f : Formula) (rest : List ℕ) → IsFormulaText entries vars f → IsEnd rest → Apart (formula_pieces entries vars f) rest
formula-apart entries vars (True place) rest h e = (refl, e.word, tt)
formula-apart entries vars (False place) rest h e = (refl, e.word, tt)
formula-apart entries vars (Atom place name terms) rest h e = (
  h.0,
  refl,
  (
    tt,
    never (goes_on_with_mark marks.OpenParen) (λ byte. refl) (printed_tokens (separated_pieces (term_piece vars) (mark_piece marks.Comma ∷ []) terms ++ mark_piece marks.CloseParen ∷ []) ++ rest),
    separated-apart (term_piece vars) (IsTermText vars) (mark_piece marks.Comma ∷ []) terms (mark_piece marks.CloseParen ∷ []) rest
        (λ item more fits end later. term-apart vars item more rest fits end later)
        (λ more later. (tt, never (goes_on_with_mark marks.Comma) (λ byte. refl) (printed_tokens more ++ rest), later))
        (λ more. record { word = refl; digit = refl })
        h.1 (record { word = refl; digit = refl }) (closed rest),
  ),
)
formula-apart entries vars (Equal place s t) rest h e = comparison-apart vars s marks.Equal t rest h.0 h.1 e (λ more. refl) tt
formula-apart entries vars (Less place s t) rest h e = comparison-apart vars s marks.Less t rest h.0 h.1 e (λ more. refl) tt
formula-apart entries vars (AtMost place s t) rest h e = comparison-apart vars s marks.AtMost t rest h.0 h.1 e (λ more. refl) tt
formula-apart entries vars (Not place f) rest h e =
    prefix-apart (word_piece (codes "not") ∷ []) (enclosed_pieces (formula_stands_alone f) (formula_pieces entries vars f)) rest (λ more. word-apart (codes "not") more refl)
    (enclosed-apart (formula_stands_alone f) (formula_pieces entries vars f) rest (λ more end. formula-apart entries vars f more h end) e)
formula-apart entries vars (And place f g) rest h e =
    infix-apart (enclosed_pieces (formula_stands_alone f) (formula_pieces entries vars f)) (word_piece (codes "and") ∷ [])
    (enclosed_pieces (formula_stands_alone g) (formula_pieces entries vars g)) rest
    (λ more. enclosed-apart (formula_stands_alone f) (formula_pieces entries vars f) (32 ∷ more) (λ other end. formula-apart entries vars f other h.0 end) (blank-end more))
    (λ more. word-apart (codes "and") more refl)
    (enclosed-apart (formula_stands_alone g) (formula_pieces entries vars g) rest (λ more end. formula-apart entries vars g more h.1 end) e)
formula-apart entries vars (Or place f g) rest h e =
    infix-apart (enclosed_pieces (formula_stands_alone f) (formula_pieces entries vars f)) (word_piece (codes "or") ∷ [])
    (enclosed_pieces (formula_stands_alone g) (formula_pieces entries vars g)) rest
    (λ more. enclosed-apart (formula_stands_alone f) (formula_pieces entries vars f) (32 ∷ more) (λ other end. formula-apart entries vars f other h.0 end) (blank-end more))
    (λ more. word-apart (codes "or") more refl)
    (enclosed-apart (formula_stands_alone g) (formula_pieces entries vars g) rest (λ more end. formula-apart entries vars g more h.1 end) e)
formula-apart entries vars (Implies place f g) rest h e =
    infix-apart (enclosed_pieces (formula_stands_alone f) (formula_pieces entries vars f)) (mark_piece marks.Arrow ∷ [])
    (enclosed_pieces (formula_stands_alone g) (formula_pieces entries vars g)) rest
    (λ more. enclosed-apart (formula_stands_alone f) (formula_pieces entries vars f) (32 ∷ more) (λ other end. formula-apart entries vars f other h.0 end) (blank-end more))
    (λ more. (tt, refl, tt))
    (enclosed-apart (formula_stands_alone g) (formula_pieces entries vars g) rest (λ more end. formula-apart entries vars g more h.1 end) e)
formula-apart entries vars (Exists place xs f) rest h e =
    quantified-apart vars (codes "exists") xs (enclosed_pieces (formula_stands_alone f) (formula_pieces entries vars f)) rest refl h.0
    (enclosed-apart (formula_stands_alone f) (formula_pieces entries vars f) rest (λ more end. formula-apart entries vars f more h.1 end) e)
formula-apart entries vars (Forall place xs f) rest h e =
    quantified-apart vars (codes "forall") xs (enclosed_pieces (formula_stands_alone f) (formula_pieces entries vars f)) rest refl h.0
    (enclosed-apart (formula_stands_alone f) (formula_pieces entries vars f) rest (λ more end. formula-apart entries vars f more h.1 end) e)
formula-apart entries vars (Prev place interval f) rest h e =
    prefix-apart (word_piece (codes "prev") ∷ interval_pieces interval) (enclosed_pieces (formula_stands_alone f) (formula_pieces entries vars f)) rest
    (λ more. timed-apart (codes "prev") interval (32 ∷ more) refl h.0) (enclosed-apart (formula_stands_alone f) (formula_pieces entries vars f) rest
    (λ more end. formula-apart entries vars f more h.1 end) e)
formula-apart entries vars (Next place interval f) rest h e =
    prefix-apart (word_piece (codes "next") ∷ interval_pieces interval) (enclosed_pieces (formula_stands_alone f) (formula_pieces entries vars f)) rest
    (λ more. timed-apart (codes "next") interval (32 ∷ more) refl h.0) (enclosed-apart (formula_stands_alone f) (formula_pieces entries vars f) rest
    (λ more end. formula-apart entries vars f more h.1 end) e)
formula-apart entries vars (Once place interval f) rest h e =
    prefix-apart (word_piece (codes "once") ∷ interval_pieces interval) (enclosed_pieces (formula_stands_alone f) (formula_pieces entries vars f)) rest
    (λ more. timed-apart (codes "once") interval (32 ∷ more) refl h.0) (enclosed-apart (formula_stands_alone f) (formula_pieces entries vars f) rest
    (λ more end. formula-apart entries vars f more h.1 end) e)
formula-apart entries vars (Historically place interval f) rest h e =
    prefix-apart (word_piece (codes "historically") ∷ interval_pieces interval) (enclosed_pieces (formula_stands_alone f) (formula_pieces entries vars f)) rest
    (λ more. timed-apart (codes "historically") interval (32 ∷ more) refl h.0) (enclosed-apart (formula_stands_alone f) (formula_pieces entries vars f) rest
    (λ more end. formula-apart entries vars f more h.1 end) e)
formula-apart entries vars (Since place interval f g) rest h e =
    infix-apart (enclosed_pieces (formula_stands_alone f) (formula_pieces entries vars f)) (word_piece (codes "since") ∷ interval_pieces interval)
    (enclosed_pieces (formula_stands_alone g) (formula_pieces entries vars g)) rest
    (λ more. enclosed-apart (formula_stands_alone f) (formula_pieces entries vars f) (32 ∷ more) (λ other end. formula-apart entries vars f other h.1 end) (blank-end more))
    (λ more. timed-apart (codes "since") interval (32 ∷ more) refl h.0)
    (enclosed-apart (formula_stands_alone g) (formula_pieces entries vars g) rest (λ more end. formula-apart entries vars g more h.2 end) e)
formula-apart entries vars (Eventually place interval f) rest h e =
    prefix-apart (word_piece (codes "eventually") ∷ interval_pieces interval) (enclosed_pieces (formula_stands_alone f) (formula_pieces entries vars f)) rest
    (λ more. timed-apart (codes "eventually") interval (32 ∷ more) refl h.0) (enclosed-apart (formula_stands_alone f) (formula_pieces entries vars f) rest
    (λ more end. formula-apart entries vars f more h.1 end) e)
formula-apart entries vars (Always place interval f) rest h e =
    prefix-apart (word_piece (codes "always") ∷ interval_pieces interval) (enclosed_pieces (formula_stands_alone f) (formula_pieces entries vars f)) rest
    (λ more. timed-apart (codes "always") interval (32 ∷ more) refl h.0) (enclosed-apart (formula_stands_alone f) (formula_pieces entries vars f) rest
    (λ more end. formula-apart entries vars f more h.1 end) e)
formula-apart entries vars (Until place interval f g) rest h e =
    infix-apart (enclosed_pieces (formula_stands_alone f) (formula_pieces entries vars f)) (word_piece (codes "until") ∷ interval_pieces interval)
    (enclosed_pieces (formula_stands_alone g) (formula_pieces entries vars g)) rest
    (λ more. enclosed-apart (formula_stands_alone f) (formula_pieces entries vars f) (32 ∷ more) (λ other end. formula-apart entries vars f other h.1 end) (blank-end more))
    (λ more. timed-apart (codes "until") interval (32 ∷ more) refl h.0)
    (enclosed-apart (formula_stands_alone g) (formula_pieces entries vars g) rest (λ more end. formula-apart entries vars g more h.2 end) e)

-- the pieces of a rule
pub rule-apart : (entries : List NameEntry) (rule : Rule) → IsRuleText entries rule → AreApart (rule_pieces entries rule)
rule-apart entries rule h =
    apart-all (rule_pieces entries rule) (
      refl,
      refl,
      (
        h.name,
        refl,
        (
          tt,
          refl,
          apart-append (formula_pieces entries rule.vars rule.formula) (mark_piece marks.Semicolon ∷ []) []
              (formula-apart entries rule.vars rule.formula (59 ∷ []) h.formula (record { word = refl; digit = refl }))
              (tt, refl, tt),
        ),
      ),
    )
