-- The tokens of the canonical text of a rule, with the blanks between them.
use Rattle.enf_data.specs.declared.events.NameId.{NameId}
use Rattle.enf_data.specs.declared.intervals.Interval.{Interval}
use Rattle.enf_data.specs.declared.terms.Term.{Term}
use Rattle.enf_data.specs.declared.terms.Term.TheVariants.{Var, Const}
use Rattle.enf_data.specs.declared.terms.VarId.{VarId}
use Rattle.std.specs.List.{flat_map, AllByRecursion}
use Rattle.std.specs.Prelude.{Option, ℕ, List, Some, None, [], ◌∷◌, ◌++◌, Bool, true, false, codes, IsTrue}
use Rattle.enf_value.specs.declared.tokens.Mark.{Mark as AnyMark}
use Rattle.enf_value.specs.machine.PrintedTokens.{value_token}
use Rattle.enf_value.specs.machine.TokenViews.{IsProper}
use Rattle.enf_value.specs.meaning.Tokens.{is_word, Token, WordToken, SymbolToken, NumberToken}
use Rattle.enf_formula.specs.meaning.Satisfaction.{Formula, True, False, Atom, Equal, Less, AtMost, Not, And, Or}
use Rattle.enf_formula.specs.meaning.Satisfaction.{Implies, Exists, Forall, Prev, Next, Once, Historically, Since}
use Rattle.enf_formula.specs.meaning.Satisfaction.{Eventually, Always, Until}
use Rattle.signature.specs.declared.entries.NameEntry.{NameEntry}
use Rattle.formula_reader.specs.meaning.Resolution.{variable_text, Rule}
use Rattle.formula_reader.specs.meaning.RuleText.{name_text, formula_stands_alone}
use Rattle.enf_value.specs.declared.tokens.Mark.TheVariants as marks

-- a token, or a blank
abbrev pub PrintedPiece : Type 0
PrintedPiece = Option Token

abbrev pub word_piece : List ℕ → PrintedPiece
word_piece text = Some (WordToken text)

abbrev pub mark_piece : AnyMark → PrintedPiece
mark_piece which = Some (SymbolToken which)

abbrev pub blank_piece : PrintedPiece
blank_piece = None

-- a term
abbrev pub term_piece : (vars : List (List ℕ)) → Term → PrintedPiece
term_piece vars (Var x) = word_piece (variable_text vars x)
term_piece vars (Const value) = Some (value_token value)

-- pieces with a separator between them
abbrev pub separated_pieces : {A : Type 0} → (A → PrintedPiece) → (separator : List PrintedPiece) → List A
    → List PrintedPiece
separated_pieces piece separator [] = []
separated_pieces piece separator (first ∷ rest) =
    piece first ∷ flat_map (λ item. separator ++ piece item ∷ []) rest

-- the end of an interval
abbrev pub end_piece : Option ℕ → PrintedPiece
end_piece None = mark_piece marks.Star
end_piece (Some high) = Some (NumberToken high)

-- an interval
abbrev pub interval_pieces : Interval → List PrintedPiece
interval_pieces interval =
    mark_piece marks.OpenBracket ∷ Some (NumberToken interval.low) ∷ mark_piece marks.Comma ∷ end_piece
    interval.high ∷ mark_piece
    marks.CloseBracket ∷ []

-- a formula, in parentheses where it does not stand alone
abbrev pub enclosed_pieces : (alone : Bool) → List PrintedPiece → List PrintedPiece
enclosed_pieces true pieces = pieces
enclosed_pieces false pieces = mark_piece marks.OpenParen ∷ pieces ++ mark_piece marks.CloseParen ∷ []

-- an event name with its terms
abbrev pub atom_pieces : List NameEntry → (vars : List (List ℕ)) → NameId → List Term → List PrintedPiece
atom_pieces entries vars name terms =
    word_piece (name_text entries name) ∷ mark_piece marks.OpenParen
    ∷ separated_pieces (term_piece vars) (mark_piece marks.Comma ∷ []) terms ++ mark_piece marks.CloseParen ∷ []

-- a comparison
abbrev pub comparison_pieces : (vars : List (List ℕ)) → Term → AnyMark → Term → List PrintedPiece
comparison_pieces vars s sign t = term_piece vars s ∷ blank_piece ∷ mark_piece sign ∷ blank_piece ∷ term_piece
    vars t ∷ []

-- an operator before its operand
abbrev pub prefix_pieces : (operator operand : List PrintedPiece) → List PrintedPiece
prefix_pieces operator operand = operator ++ (blank_piece ∷ operand)

-- an operator between its operands
abbrev pub infix_pieces : (left operator right : List PrintedPiece) → List PrintedPiece
infix_pieces left operator right = left ++ (blank_piece ∷ (operator ++ (blank_piece ∷ right)))

-- a quantifier with its variables
abbrev pub quantified_pieces : (vars : List (List ℕ)) → (quantifier : List ℕ) → List VarId
    → (operand : List PrintedPiece) →
    List PrintedPiece
quantified_pieces vars quantifier xs operand =
    word_piece quantifier ∷ blank_piece
    ∷ separated_pieces (λ x. word_piece (variable_text vars x)) (mark_piece marks.Comma ∷ blank_piece ∷ []) xs
    ++ mark_piece marks.Dot ∷ blank_piece ∷ operand

-- a formula
abbrev pub formula_pieces : List NameEntry → (vars : List (List ℕ)) → Formula → List PrintedPiece
formula_pieces entries vars (True place) = word_piece (codes "true") ∷ []
formula_pieces entries vars (False place) = word_piece (codes "false") ∷ []
formula_pieces entries vars (Atom place name terms) = atom_pieces entries vars name terms
formula_pieces entries vars (Equal place s t) = comparison_pieces vars s marks.Equal t
formula_pieces entries vars (Less place s t) = comparison_pieces vars s marks.Less t
formula_pieces entries vars (AtMost place s t) = comparison_pieces vars s marks.AtMost t
formula_pieces entries vars (Not place f) =
    prefix_pieces (word_piece (codes "not") ∷ []) (enclosed_pieces (formula_stands_alone f)
    (formula_pieces entries vars f))
formula_pieces entries vars (And place f g) =
    infix_pieces (enclosed_pieces (formula_stands_alone f) (formula_pieces entries vars f))
    (word_piece (codes "and") ∷ [])
    (enclosed_pieces (formula_stands_alone g) (formula_pieces entries vars g))
formula_pieces entries vars (Or place f g) =
    infix_pieces (enclosed_pieces (formula_stands_alone f) (formula_pieces entries vars f))
    (word_piece (codes "or") ∷ [])
    (enclosed_pieces (formula_stands_alone g) (formula_pieces entries vars g))
formula_pieces entries vars (Implies place f g) =
    infix_pieces (enclosed_pieces (formula_stands_alone f) (formula_pieces entries vars f))
    (mark_piece marks.Arrow ∷ [])
    (enclosed_pieces (formula_stands_alone g) (formula_pieces entries vars g))
formula_pieces entries vars (Exists place xs f) =
    quantified_pieces vars (codes "exists") xs (enclosed_pieces (formula_stands_alone f)
    (formula_pieces entries vars f))
formula_pieces entries vars (Forall place xs f) =
    quantified_pieces vars (codes "forall") xs (enclosed_pieces (formula_stands_alone f)
    (formula_pieces entries vars f))
formula_pieces entries vars (Prev place interval f) =
    prefix_pieces (word_piece (codes "prev") ∷ interval_pieces interval)
    (enclosed_pieces (formula_stands_alone f) (formula_pieces entries vars f))
formula_pieces entries vars (Next place interval f) =
    prefix_pieces (word_piece (codes "next") ∷ interval_pieces interval)
    (enclosed_pieces (formula_stands_alone f) (formula_pieces entries vars f))
formula_pieces entries vars (Once place interval f) =
    prefix_pieces (word_piece (codes "once") ∷ interval_pieces interval)
    (enclosed_pieces (formula_stands_alone f) (formula_pieces entries vars f))
formula_pieces entries vars (Historically place interval f) =
    prefix_pieces (word_piece (codes "historically") ∷ interval_pieces interval)
    (enclosed_pieces (formula_stands_alone f) (formula_pieces entries vars f))
formula_pieces entries vars (Since place interval f g) =
    infix_pieces (enclosed_pieces (formula_stands_alone f) (formula_pieces entries vars f))
    (word_piece (codes "since") ∷ interval_pieces interval)
    (enclosed_pieces (formula_stands_alone g) (formula_pieces entries vars g))
formula_pieces entries vars (Eventually place interval f) =
    prefix_pieces (word_piece (codes "eventually") ∷ interval_pieces interval)
    (enclosed_pieces (formula_stands_alone f) (formula_pieces entries vars f))
formula_pieces entries vars (Always place interval f) =
    prefix_pieces (word_piece (codes "always") ∷ interval_pieces interval)
    (enclosed_pieces (formula_stands_alone f) (formula_pieces entries vars f))
formula_pieces entries vars (Until place interval f g) =
    infix_pieces (enclosed_pieces (formula_stands_alone f) (formula_pieces entries vars f))
    (word_piece (codes "until") ∷ interval_pieces interval)
    (enclosed_pieces (formula_stands_alone g) (formula_pieces entries vars g))

-- a rule
abbrev pub rule_pieces : List NameEntry → Rule → List PrintedPiece
rule_pieces entries rule =
    word_piece (codes "rule") ∷ blank_piece ∷ word_piece rule.name ∷ mark_piece marks.Colon ∷ blank_piece
    ∷ formula_pieces entries rule.vars rule.formula ++ mark_piece marks.Semicolon ∷ []

-- a term whose token is one of the program: its variable has a name, its number and its text are within their limits
abbrev pub IsTermText : (vars : List (List ℕ)) → Term → Type 0
IsTermText vars (Var x) = IsTrue (is_word (variable_text vars x))
IsTermText vars (Const value) = IsProper (value_token value)

abbrev pub IsEndText : Option ℕ → Type 0
IsEndText None = Unit {0}
IsEndText (Some high) = IsProper (NumberToken high)

-- an interval whose ends are numbers of a text
abbrev pub IsIntervalText : Interval → Type 0
IsIntervalText interval = IsProper (NumberToken interval.low) × IsEndText interval.high

-- a formula whose names are words, and whose values and ends are within their limits
abbrev pub IsFormulaText : List NameEntry → (vars : List (List ℕ)) → Formula → Type 0
IsFormulaText entries vars (True place) = Unit {0}
IsFormulaText entries vars (False place) = Unit {0}
IsFormulaText entries vars (Atom place name terms) = IsTrue (is_word (name_text entries name)) × AllByRecursion
    (IsTermText vars) terms
IsFormulaText entries vars (Equal place s t) = IsTermText vars s × IsTermText vars t
IsFormulaText entries vars (Less place s t) = IsTermText vars s × IsTermText vars t
IsFormulaText entries vars (AtMost place s t) = IsTermText vars s × IsTermText vars t
IsFormulaText entries vars (Not place f) = IsFormulaText entries vars f
IsFormulaText entries vars (And place f g) = IsFormulaText entries vars f × IsFormulaText entries vars g
IsFormulaText entries vars (Or place f g) = IsFormulaText entries vars f × IsFormulaText entries vars g
IsFormulaText entries vars (Implies place f g) = IsFormulaText entries vars f × IsFormulaText entries vars g
IsFormulaText entries vars (Exists place xs f) = AllByRecursion (λ x. IsTrue (is_word (variable_text vars x))) xs ×
    IsFormulaText entries vars f
IsFormulaText entries vars (Forall place xs f) = AllByRecursion (λ x. IsTrue (is_word (variable_text vars x))) xs ×
    IsFormulaText entries vars f
IsFormulaText entries vars (Prev place interval f) = IsIntervalText interval × IsFormulaText entries vars f
IsFormulaText entries vars (Next place interval f) = IsIntervalText interval × IsFormulaText entries vars f
IsFormulaText entries vars (Once place interval f) = IsIntervalText interval × IsFormulaText entries vars f
IsFormulaText entries vars (Historically place interval f) = IsIntervalText interval × IsFormulaText entries vars f
IsFormulaText entries vars (Since place interval f g) = IsIntervalText interval × IsFormulaText entries vars f ×
    IsFormulaText entries vars g
IsFormulaText entries vars (Eventually place interval f) = IsIntervalText interval × IsFormulaText entries vars f
IsFormulaText entries vars (Always place interval f) = IsIntervalText interval × IsFormulaText entries vars f
IsFormulaText entries vars (Until place interval f g) = IsIntervalText interval × IsFormulaText entries vars f ×
    IsFormulaText entries vars g

-- a rule whose names are words, and whose values and ends are within their limits
pub record IsRuleText (entries : List NameEntry) (rule : Rule) : Type 0 where
  pub name : IsTrue (is_word rule.name)
  pub formula : IsFormulaText entries rule.vars rule.formula
