-- The tokens of the canonical text, printed, are that text.
use Rattle.formula_reader.proofs.Vocabulary.{◌≡◌, ℕ, Bool, true, false, List, [], ◌∷◌, ◌++◌, Option, None, Some, codes, refl, sym, ap, ◌∙◌, append_assoc, decimal, append-nil, flat_map, Formula, True}
use Rattle.formula_reader.proofs.Vocabulary.{False, Atom, Equal, Less, AtMost, Not, And, Or, Implies, Exists, Forall, Prev, Next, Once, Historically, Since, Eventually, Always, Until, printed_tokens}
use Rattle.formula_reader.proofs.Vocabulary.{token_spelling, spelling-value, mark_text, Interval, Term, Var, Const, VarId, Mark as AnyMark, NameEntry, name_text, term_text, separated_text, end_text}
use Rattle.formula_reader.proofs.Vocabulary.{interval_text, formula_stands_alone, enclosed_text, comparison_text, prefix_text, infix_text, quantified_text, formula_text, rule_text, variable_text}
use Rattle.formula_reader.proofs.Vocabulary.{Rule, PrintedPiece, word_piece, mark_piece, blank_piece, term_piece, separated_pieces, end_piece, interval_pieces, enclosed_pieces, comparison_pieces}
use Rattle.formula_reader.proofs.Vocabulary.{prefix_pieces, infix_pieces, quantified_pieces, formula_pieces, rule_pieces}
use Rattle.enf_value.specs.declared.tokens.Mark.TheVariants as marks

pub printed-append : (a b : List PrintedPiece) → printed_tokens (a ++ b) ≡ printed_tokens a ++ printed_tokens b
printed-append [] b = refl
printed-append (None ∷ a) b = ap (λ (t : List ℕ). 32 ∷ t) (printed-append a b)
printed-append (Some token ∷ a) b = ap (λ (t : List ℕ). token_spelling token ++ t) (printed-append a b) ∙ sym (append_assoc (token_spelling token) (printed_tokens a) (printed_tokens b))

pub printed-term : (vars : List (List ℕ)) (term : Term) (rest : List PrintedPiece) → printed_tokens (term_piece vars term ∷ rest) ≡ term_text vars term ++ printed_tokens rest
printed-term vars (Var x) rest = refl
printed-term vars (Const value) rest = ap (λ (t : List ℕ). t ++ printed_tokens rest) (spelling-value value)

printed-others : {A : Type 0} (piece : A → PrintedPiece) (text : A → List ℕ) (separator : List PrintedPiece) (items : List A) (rest : List PrintedPiece)
    → ((item : A) (more : List PrintedPiece) → printed_tokens (piece item ∷ more) ≡ text item ++ printed_tokens more)
    → printed_tokens (flat_map (λ item. separator ++ piece item ∷ []) items ++ rest)
    ≡ flat_map (λ item. printed_tokens separator ++ text item) items ++ printed_tokens rest
printed-others piece text separator [] rest one = refl
printed-others piece text separator (item ∷ items) rest one =
    let more : List PrintedPiece = flat_map (λ x. separator ++ piece x ∷ []) items ++ rest in
    ap printed_tokens (append_assoc (separator ++ piece item ∷ []) (flat_map (λ x. separator ++ piece x ∷ []) items) rest ∙ append_assoc separator (piece item ∷ []) more)
    ∙ printed-append separator (piece item ∷ more)
    ∙ ap (λ (t : List ℕ). printed_tokens separator ++ t) (one item more ∙ ap (λ (t : List ℕ). text item ++ t) (printed-others piece text separator items rest one))
    ∙ sym (append_assoc (printed_tokens separator) (text item) (flat_map (λ x. printed_tokens separator ++ text x) items ++ printed_tokens rest))
    ∙ sym (append_assoc (printed_tokens separator ++ text item) (flat_map (λ x. printed_tokens separator ++ text x) items) (printed_tokens rest))

pub printed-separated : {A : Type 0} (piece : A → PrintedPiece) (text : A → List ℕ) (separator : List PrintedPiece) (items : List A) (rest : List PrintedPiece)
    → ((item : A) (more : List PrintedPiece) → printed_tokens (piece item ∷ more) ≡ text item ++ printed_tokens more)
    → printed_tokens (separated_pieces piece separator items ++ rest) ≡ separated_text text (printed_tokens separator) items ++ printed_tokens rest
printed-separated piece text separator [] rest one = refl
printed-separated piece text separator (item ∷ items) rest one =
    one item (flat_map (λ x. separator ++ piece x ∷ []) items ++ rest)
    ∙ ap (λ (t : List ℕ). text item ++ t) (printed-others piece text separator items rest one)
    ∙ sym (append_assoc (text item) (flat_map (λ x. printed_tokens separator ++ text x) items) (printed_tokens rest))

printed-end : (high : Option ℕ) (rest : List PrintedPiece) → printed_tokens (end_piece high ∷ rest) ≡ end_text high ++ printed_tokens rest
printed-end None rest = refl
printed-end (Some high) rest = refl

pub printed-interval : (interval : Interval) → printed_tokens (interval_pieces interval) ≡ interval_text interval
printed-interval interval =
    ap (λ (t : List ℕ). 91 ∷ (decimal interval.low ++ 44 ∷ t)) (printed-end interval.high (mark_piece marks.CloseBracket ∷ []))

printed-enclosed : (alone : Bool) (pieces : List PrintedPiece) (text : List ℕ) → printed_tokens pieces ≡ text → printed_tokens (enclosed_pieces alone pieces) ≡ enclosed_text alone text
printed-enclosed true pieces text e = e
printed-enclosed false pieces text e =
    ap (λ (t : List ℕ). 40 ∷ t) (printed-append pieces (mark_piece marks.CloseParen ∷ []) ∙ ap (λ (t : List ℕ). t ++ 41 ∷ []) e)

printed-prefix : (operator operand : List PrintedPiece) (a b : List ℕ) → printed_tokens operator ≡ a → printed_tokens operand ≡ b → printed_tokens (prefix_pieces operator operand) ≡ prefix_text a b
printed-prefix operator operand a b e h =
    printed-append operator (blank_piece ∷ operand) ∙ ap (λ (t : List ℕ). t ++ 32 ∷ printed_tokens operand) e ∙ ap (λ (t : List ℕ). a ++ 32 ∷ t) h

printed-infix : (left operator right : List PrintedPiece) (a o b : List ℕ) → printed_tokens left ≡ a → printed_tokens operator ≡ o → printed_tokens right ≡ b
    → printed_tokens (infix_pieces left operator right) ≡ infix_text a o b
printed-infix left operator right a o b e m h =
    printed-append left (blank_piece ∷ (operator ++ (blank_piece ∷ right))) ∙ ap (λ (t : List ℕ). t ++ (32 ∷ printed_tokens (operator ++ (blank_piece ∷ right)))) e
    ∙ ap (λ (t : List ℕ). a ++ (32 ∷ t)) (printed-prefix operator right o b m h)

printed-timed : (text : List ℕ) (interval : Interval) → printed_tokens (word_piece text ∷ interval_pieces interval) ≡ text ++ interval_text interval
printed-timed text interval = ap (λ (t : List ℕ). text ++ t) (printed-interval interval)

printed-comparison : (vars : List (List ℕ)) (s : Term) (sign : AnyMark) (t : Term) (text : List ℕ) → 32 ∷ (mark_text sign ++ 32 ∷ []) ≡ text
    → printed_tokens (comparison_pieces vars s sign t) ≡ comparison_text vars s text t
printed-comparison vars s sign t text e =
    let last : printed_tokens (term_piece vars t ∷ []) ≡ term_text vars t = printed-term vars t [] ∙ append-nil (term_text vars t) in
    printed-term vars s (blank_piece ∷ mark_piece sign ∷ blank_piece ∷ term_piece vars t ∷ [])
    ∙ ap (λ (x : List ℕ). term_text vars s ++ 32 ∷ (mark_text sign ++ 32 ∷ x)) last
    ∙ ap (λ (x : List ℕ). term_text vars s ++ 32 ∷ x) (sym (append_assoc (mark_text sign) (32 ∷ []) (term_text vars t)))
    ∙ ap (λ (x : List ℕ). term_text vars s ++ (x ++ term_text vars t)) e

printed-quantified : (vars : List (List ℕ)) (quantifier text : List ℕ) (xs : List VarId) (operand : List PrintedPiece) (b : List ℕ)
    → quantifier ++ 32 ∷ [] ≡ text → printed_tokens operand ≡ b → printed_tokens (quantified_pieces vars quantifier xs operand) ≡ quantified_text vars text xs b
printed-quantified vars quantifier text xs operand b e h =
    ap (λ (t : List ℕ). quantifier ++ 32 ∷ t)
    (printed-separated (λ x. word_piece (variable_text vars x)) (variable_text vars) (mark_piece marks.Comma ∷ blank_piece ∷ []) xs (mark_piece marks.Dot ∷ blank_piece ∷ operand) (λ item more. refl)
    ∙ ap (λ (t : List ℕ). separated_text (variable_text vars) (44 ∷ 32 ∷ []) xs ++ 46 ∷ 32 ∷ t) h)
    ∙ sym (append_assoc quantifier (32 ∷ []) (separated_text (variable_text vars) (44 ∷ 32 ∷ []) xs ++ 46 ∷ 32 ∷ b))
    ∙ ap (λ (t : List ℕ). t ++ (separated_text (variable_text vars) (44 ∷ 32 ∷ []) xs ++ 46 ∷ 32 ∷ b)) e

-- the pieces of a formula, printed
pub printed-formula : (entries : List NameEntry) (vars : List (List ℕ)) (f : Formula) → printed_tokens (formula_pieces entries vars f) ≡ formula_text entries vars f
printed-formula entries vars (True place) = refl
printed-formula entries vars (False place) = refl
printed-formula entries vars (Atom place name terms) =
    ap (λ (t : List ℕ). name_text entries name ++ 40 ∷ t)
    (printed-separated (term_piece vars) (term_text vars) (mark_piece marks.Comma ∷ []) terms (mark_piece marks.CloseParen ∷ []) (printed-term vars))
printed-formula entries vars (Equal place s t) = printed-comparison vars s marks.Equal t (codes " = ") refl
printed-formula entries vars (Less place s t) = printed-comparison vars s marks.Less t (codes " < ") refl
printed-formula entries vars (AtMost place s t) = printed-comparison vars s marks.AtMost t (codes " <= ") refl
printed-formula entries vars (Not place f) =
    printed-prefix (word_piece (codes "not") ∷ []) (enclosed_pieces (formula_stands_alone f) (formula_pieces entries vars f)) (codes "not")
    (enclosed_text (formula_stands_alone f) (formula_text entries vars f))
    refl (printed-enclosed (formula_stands_alone f) (formula_pieces entries vars f) (formula_text entries vars f) (printed-formula entries vars f))
printed-formula entries vars (And place f g) =
    printed-infix (enclosed_pieces (formula_stands_alone f) (formula_pieces entries vars f)) (word_piece (codes "and") ∷ []) (enclosed_pieces (formula_stands_alone g) (formula_pieces entries vars g))
    (enclosed_text (formula_stands_alone f) (formula_text entries vars f)) (codes "and") (enclosed_text (formula_stands_alone g) (formula_text entries vars g))
    (printed-enclosed (formula_stands_alone f) (formula_pieces entries vars f) (formula_text entries vars f) (printed-formula entries vars f)) refl
    (printed-enclosed (formula_stands_alone g) (formula_pieces entries vars g) (formula_text entries vars g) (printed-formula entries vars g))
printed-formula entries vars (Or place f g) =
    printed-infix (enclosed_pieces (formula_stands_alone f) (formula_pieces entries vars f)) (word_piece (codes "or") ∷ []) (enclosed_pieces (formula_stands_alone g) (formula_pieces entries vars g))
    (enclosed_text (formula_stands_alone f) (formula_text entries vars f)) (codes "or") (enclosed_text (formula_stands_alone g) (formula_text entries vars g))
    (printed-enclosed (formula_stands_alone f) (formula_pieces entries vars f) (formula_text entries vars f) (printed-formula entries vars f)) refl
    (printed-enclosed (formula_stands_alone g) (formula_pieces entries vars g) (formula_text entries vars g) (printed-formula entries vars g))
printed-formula entries vars (Implies place f g) =
    printed-infix (enclosed_pieces (formula_stands_alone f) (formula_pieces entries vars f)) (mark_piece marks.Arrow ∷ []) (enclosed_pieces (formula_stands_alone g) (formula_pieces entries vars g))
    (enclosed_text (formula_stands_alone f) (formula_text entries vars f)) (codes "->") (enclosed_text (formula_stands_alone g) (formula_text entries vars g))
    (printed-enclosed (formula_stands_alone f) (formula_pieces entries vars f) (formula_text entries vars f) (printed-formula entries vars f)) refl
    (printed-enclosed (formula_stands_alone g) (formula_pieces entries vars g) (formula_text entries vars g) (printed-formula entries vars g))
printed-formula entries vars (Exists place xs f) =
    printed-quantified vars (codes "exists") (codes "exists ") xs (enclosed_pieces (formula_stands_alone f) (formula_pieces entries vars f))
    (enclosed_text (formula_stands_alone f) (formula_text entries vars f)) refl
    (printed-enclosed (formula_stands_alone f) (formula_pieces entries vars f) (formula_text entries vars f) (printed-formula entries vars f))
printed-formula entries vars (Forall place xs f) =
    printed-quantified vars (codes "forall") (codes "forall ") xs (enclosed_pieces (formula_stands_alone f) (formula_pieces entries vars f))
    (enclosed_text (formula_stands_alone f) (formula_text entries vars f)) refl
    (printed-enclosed (formula_stands_alone f) (formula_pieces entries vars f) (formula_text entries vars f) (printed-formula entries vars f))
printed-formula entries vars (Prev place interval f) =
    printed-prefix (word_piece (codes "prev") ∷ interval_pieces interval) (enclosed_pieces (formula_stands_alone f) (formula_pieces entries vars f))
    (codes "prev" ++ interval_text interval) (enclosed_text (formula_stands_alone f) (formula_text entries vars f))
    (printed-timed (codes "prev") interval) (printed-enclosed (formula_stands_alone f) (formula_pieces entries vars f) (formula_text entries vars f) (printed-formula entries vars f))
printed-formula entries vars (Next place interval f) =
    printed-prefix (word_piece (codes "next") ∷ interval_pieces interval) (enclosed_pieces (formula_stands_alone f) (formula_pieces entries vars f))
    (codes "next" ++ interval_text interval) (enclosed_text (formula_stands_alone f) (formula_text entries vars f))
    (printed-timed (codes "next") interval) (printed-enclosed (formula_stands_alone f) (formula_pieces entries vars f) (formula_text entries vars f) (printed-formula entries vars f))
printed-formula entries vars (Once place interval f) =
    printed-prefix (word_piece (codes "once") ∷ interval_pieces interval) (enclosed_pieces (formula_stands_alone f) (formula_pieces entries vars f))
    (codes "once" ++ interval_text interval) (enclosed_text (formula_stands_alone f) (formula_text entries vars f))
    (printed-timed (codes "once") interval) (printed-enclosed (formula_stands_alone f) (formula_pieces entries vars f) (formula_text entries vars f) (printed-formula entries vars f))
printed-formula entries vars (Historically place interval f) =
    printed-prefix (word_piece (codes "historically") ∷ interval_pieces interval) (enclosed_pieces (formula_stands_alone f) (formula_pieces entries vars f))
    (codes "historically" ++ interval_text interval) (enclosed_text (formula_stands_alone f) (formula_text entries vars f))
    (printed-timed (codes "historically") interval) (printed-enclosed (formula_stands_alone f) (formula_pieces entries vars f) (formula_text entries vars f) (printed-formula entries vars f))
printed-formula entries vars (Since place interval f g) =
    printed-infix (enclosed_pieces (formula_stands_alone f) (formula_pieces entries vars f)) (word_piece (codes "since") ∷ interval_pieces interval)
    (enclosed_pieces (formula_stands_alone g) (formula_pieces entries vars g))
    (enclosed_text (formula_stands_alone f) (formula_text entries vars f)) (codes "since" ++ interval_text interval) (enclosed_text (formula_stands_alone g) (formula_text entries vars g))
    (printed-enclosed (formula_stands_alone f) (formula_pieces entries vars f) (formula_text entries vars f) (printed-formula entries vars f)) (printed-timed (codes "since") interval)
    (printed-enclosed (formula_stands_alone g) (formula_pieces entries vars g) (formula_text entries vars g) (printed-formula entries vars g))
printed-formula entries vars (Eventually place interval f) =
    printed-prefix (word_piece (codes "eventually") ∷ interval_pieces interval) (enclosed_pieces (formula_stands_alone f) (formula_pieces entries vars f))
    (codes "eventually" ++ interval_text interval) (enclosed_text (formula_stands_alone f) (formula_text entries vars f))
    (printed-timed (codes "eventually") interval) (printed-enclosed (formula_stands_alone f) (formula_pieces entries vars f) (formula_text entries vars f) (printed-formula entries vars f))
printed-formula entries vars (Always place interval f) =
    printed-prefix (word_piece (codes "always") ∷ interval_pieces interval) (enclosed_pieces (formula_stands_alone f) (formula_pieces entries vars f))
    (codes "always" ++ interval_text interval) (enclosed_text (formula_stands_alone f) (formula_text entries vars f))
    (printed-timed (codes "always") interval) (printed-enclosed (formula_stands_alone f) (formula_pieces entries vars f) (formula_text entries vars f) (printed-formula entries vars f))
printed-formula entries vars (Until place interval f g) =
    printed-infix (enclosed_pieces (formula_stands_alone f) (formula_pieces entries vars f)) (word_piece (codes "until") ∷ interval_pieces interval)
    (enclosed_pieces (formula_stands_alone g) (formula_pieces entries vars g))
    (enclosed_text (formula_stands_alone f) (formula_text entries vars f)) (codes "until" ++ interval_text interval) (enclosed_text (formula_stands_alone g) (formula_text entries vars g))
    (printed-enclosed (formula_stands_alone f) (formula_pieces entries vars f) (formula_text entries vars f) (printed-formula entries vars f)) (printed-timed (codes "until") interval)
    (printed-enclosed (formula_stands_alone g) (formula_pieces entries vars g) (formula_text entries vars g) (printed-formula entries vars g))

-- the pieces of a rule, printed
pub printed-rule : (entries : List NameEntry) (rule : Rule) → printed_tokens (rule_pieces entries rule) ≡ rule_text entries rule
printed-rule entries rule =
    ap (λ (t : List ℕ). codes "rule " ++ (rule.name ++ (codes ": " ++ t)))
    (printed-append (formula_pieces entries rule.vars rule.formula) (mark_piece marks.Semicolon ∷ [])
    ∙ ap (λ (t : List ℕ). t ++ 59 ∷ []) (printed-formula entries rule.vars rule.formula))
