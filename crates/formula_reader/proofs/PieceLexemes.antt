-- The tokens of the canonical text of a rule are the lexemes that are written for its syntax tree.
use Rattle.formula_reader.proofs.Vocabulary.{◌≡◌, ℕ, ◌+◌, true, false, List, [], ◌∷◌, ◌++◌, Option, None, Some, map, length, refl, ap, ◌∙◌, append_assoc, codes, AllByRecursion, flat_map, is_word}
use Rattle.formula_reader.proofs.Vocabulary.{placed_from, token_spelling, Interval, Term, Var, Const, VarId, end_lexeme, PolicyLexeme, Symbol, Quantifier, NameLexeme, lexeme_of_token, lexeme_of_word}
use Rattle.formula_reader.proofs.Vocabulary.{SyntaxTree, IsWritable, IsWritableName, IsWritableRule, IsWritableTerm, Leveled, enclosed_lexemes, formula_written, interval_written, kinds_written}
use Rattle.formula_reader.proofs.Vocabulary.{list_written, rule_written, term_written, variable_written, Binding, NameEntry, name_text, formula_stands_alone, variable_text, Rule, PrintedPiece}
use Rattle.formula_reader.proofs.Vocabulary.{word_piece, mark_piece, blank_piece, term_piece, separated_pieces, end_piece, interval_pieces, enclosed_pieces, formula_pieces, rule_pieces, IsTermText}
use Rattle.formula_reader.proofs.Vocabulary.{IsEndText, IsFormulaText, IsRuleText, term_back, binding_back, formula_back, rule_back}
use Rattle.std.proofs.Common.{IsTrue}
use Rattle.enf_formula.specs.meaning.Satisfaction as tree
use Rattle.enf_value.specs.declared.tokens.Mark.TheVariants as marks
use Rattle.policy_syntax.specs.meaning.Lexemes as lexeme
use Rattle.policy_syntax.specs.machine.WrittenTrees as written
use Rattle.policy_syntax.specs.declared.lexemes.Infix.TheVariants as infix_words
use Rattle.policy_syntax.specs.declared.lexemes.Prefix.TheVariants as prefix_words
use Rattle.policy_syntax.specs.declared.lexemes.Quantifier.TheVariants as quantifier_words
use Rattle.policy_syntax.specs.declared.lexemes.Sign.TheVariants as sign_marks
use Rattle.policy_syntax.specs.declared.lexemes.Symbol.TheVariants as symbol

-- the lexemes of pieces
abbrev pub piece_lexemes : List PrintedPiece → List PolicyLexeme
piece_lexemes [] = []
piece_lexemes (None ∷ pieces) = piece_lexemes pieces
piece_lexemes (Some token ∷ pieces) = lexeme_of_token token ∷ piece_lexemes pieces

pub placed_kinds : (place : ℕ) (pieces : List PrintedPiece) → map (λ (p : lexeme.PlacedLexeme). p.1) (map (λ placed. (placed.0, lexeme_of_token placed.1)) (placed_from place pieces))
    ≡ piece_lexemes pieces
placed_kinds place [] = refl
placed_kinds place (None ∷ pieces) = placed_kinds (place + 1) pieces
placed_kinds place (Some token ∷ pieces) = ap (λ (l : List PolicyLexeme). lexeme_of_token token ∷ l) (placed_kinds (place + length (token_spelling token)) pieces)

-- ---- lists

-- the piece of an item is this lexeme
abbrev HasLexeme : {A : Type 0} → (A → PrintedPiece) → (A → PolicyLexeme) → A → Type 0
HasLexeme piece kind a = (p : List PrintedPiece) → piece_lexemes (piece a ∷ p) ≡ kind a ∷ piece_lexemes p

list_kinds : {A B : Type 0} (piece : A → PrintedPiece) (back : A → B) (kind : B → PolicyLexeme) (separator : List PrintedPiece) (level : ℕ)
    → ((a : A) (p : List PrintedPiece) → piece_lexemes ((separator ++ piece a ∷ []) ++ p) ≡ Symbol symbol.Comma ∷ piece_lexemes (piece a ∷ p))
    → (a : A) (more : List A) (rest : List PrintedPiece) (behind : List Leveled) → HasLexeme piece (λ x. kind (back x)) a → AllByRecursion (HasLexeme piece (λ x. kind (back x))) more
    → piece_lexemes rest ≡ kinds_written behind
    → piece_lexemes ((piece a ∷ flat_map (λ item. separator ++ piece item ∷ []) more) ++ rest) ≡ kinds_written (list_written kind level (map back (a ∷ more)) behind)
list_kinds piece back kind separator level comma a [] rest behind is all h = is rest ∙ ap (λ (l : List PolicyLexeme). kind (back a) ∷ l) h
list_kinds piece back kind separator level comma a (b ∷ more) rest behind is all h =
    let others : List PrintedPiece = flat_map (λ item. separator ++ piece item ∷ []) more in
    is (((separator ++ piece b ∷ []) ++ others) ++ rest)
    ∙ ap (λ (p : List PrintedPiece). kind (back a) ∷ piece_lexemes p) (append_assoc (separator ++ piece b ∷ []) others rest)
    ∙ ap (λ (l : List PolicyLexeme). kind (back a) ∷ l) (comma b (others ++ rest))
    ∙ ap (λ (l : List PolicyLexeme). kind (back a) ∷ Symbol symbol.Comma ∷ l) (list_kinds piece back kind separator level comma b more rest behind all.0 all.1 h)

-- so of any list
items_kinds : {A B : Type 0} (piece : A → PrintedPiece) (back : A → B) (kind : B → PolicyLexeme) (separator : List PrintedPiece) (level : ℕ)
    → ((a : A) (p : List PrintedPiece) → piece_lexemes ((separator ++ piece a ∷ []) ++ p) ≡ Symbol symbol.Comma ∷ piece_lexemes (piece a ∷ p))
    → (items : List A) (rest : List PrintedPiece) (behind : List Leveled) → AllByRecursion (HasLexeme piece (λ x. kind (back x))) items
    → piece_lexemes rest ≡ kinds_written behind
    → piece_lexemes (separated_pieces piece separator items ++ rest) ≡ kinds_written (list_written kind level (map back items) behind)
items_kinds piece back kind separator level comma [] rest behind all h = h
items_kinds piece back kind separator level comma (a ∷ more) rest behind all h = list_kinds piece back kind separator level comma a more rest behind all.0 all.1 h

-- ---- terms, variables, intervals

term_lexeme : (vars : List (List ℕ)) (t : Term) → IsWritableTerm (term_back vars t) → HasLexeme (term_piece vars) (λ x. term_written (term_back vars x)) t
term_lexeme vars (Var x) w p = ap (λ (l : PolicyLexeme). l ∷ piece_lexemes p) w.1
term_lexeme vars (Const value) w p = refl

terms_lexemes : (vars : List (List ℕ)) (ts : List Term) → AllByRecursion IsWritableTerm (map (term_back vars) ts)
    → AllByRecursion (HasLexeme (term_piece vars) (λ x. term_written (term_back vars x))) ts
terms_lexemes vars [] w = tt
terms_lexemes vars (t ∷ ts) w = (term_lexeme vars t w.0, terms_lexemes vars ts w.1)

variables_lexemes : (vars : List (List ℕ)) (xs : List VarId) → AllByRecursion (λ (x : Binding). IsWritableName x.name) (map (binding_back vars) xs)
    → AllByRecursion (HasLexeme (λ x. word_piece (variable_text vars x)) (λ x. variable_written (binding_back vars x))) xs
variables_lexemes vars [] w = tt
variables_lexemes vars (x ∷ xs) w = (λ p. ap (λ (l : PolicyLexeme). l ∷ piece_lexemes p) w.0.1, variables_lexemes vars xs w.1)

end_kinds : (high : Option ℕ) (p : List PrintedPiece) → piece_lexemes (end_piece high ∷ p) ≡ end_lexeme high ∷ piece_lexemes p
end_kinds None p = refl
end_kinds (Some high) p = refl

interval_kinds : (interval : Interval) (level : ℕ) (rest : List PrintedPiece) (behind : List Leveled) → piece_lexemes rest ≡ kinds_written behind
    → piece_lexemes (interval_pieces interval ++ rest) ≡ kinds_written (interval_written level interval behind)
interval_kinds interval level rest behind h =
    ap (λ (l : List PolicyLexeme). Symbol symbol.OpenBracket ∷ lexeme.DigitsLexeme interval.low ∷ Symbol symbol.Comma ∷ l)
    (end_kinds interval.high (mark_piece marks.CloseBracket ∷ rest) ∙ ap (λ (l : List PolicyLexeme). end_lexeme interval.high ∷ Symbol symbol.CloseBracket ∷ l) h)

-- ---- formulas

-- the pieces of a formula are the lexemes written for it, whatever follows
abbrev HasKinds : List NameEntry → (vars : List (List ℕ)) → tree.Formula → Type 0
HasKinds entries vars f =
    (level : ℕ) (rest : List PrintedPiece) (behind : List Leveled) → piece_lexemes rest ≡ kinds_written behind
    → piece_lexemes (formula_pieces entries vars f ++ rest) ≡ kinds_written (formula_written (formula_back entries vars f) level behind)

-- the pieces of an operand
abbrev operand_pieces : List NameEntry → (vars : List (List ℕ)) → tree.Formula → List PrintedPiece
operand_pieces entries vars f = enclosed_pieces (formula_stands_alone f) (formula_pieces entries vars f)

-- and its lexemes
abbrev operand_written : SyntaxTree → (level : ℕ) → List Leveled → List Leveled
operand_written f level rest = enclosed_lexemes (written.tree_stands_alone f) (formula_written f) level rest

in_parentheses : (entries : List NameEntry) (vars : List (List ℕ)) (f : tree.Formula) → HasKinds entries vars f → (level : ℕ) (rest : List PrintedPiece) (behind : List Leveled)
    → piece_lexemes rest ≡ kinds_written behind
    → piece_lexemes (enclosed_pieces false (formula_pieces entries vars f) ++ rest) ≡ kinds_written (enclosed_lexemes false (formula_written (formula_back entries vars f)) level behind)
in_parentheses entries vars f kinds level rest behind h =
    ap (λ (p : List PrintedPiece). Symbol symbol.OpenParen ∷ piece_lexemes p) (append_assoc (formula_pieces entries vars f) (mark_piece marks.CloseParen ∷ []) rest)
    ∙ ap (λ (l : List PolicyLexeme). Symbol symbol.OpenParen ∷ l)
    (kinds (level + 1) (mark_piece marks.CloseParen ∷ rest) ((level + 1, Symbol symbol.CloseParen) ∷ behind) (ap (λ (l : List PolicyLexeme). Symbol symbol.CloseParen ∷ l) h))

operand_kinds : (entries : List NameEntry) (vars : List (List ℕ)) (f : tree.Formula) → HasKinds entries vars f → (level : ℕ) (rest : List PrintedPiece) (behind : List Leveled)
    → piece_lexemes rest ≡ kinds_written behind
    → piece_lexemes (operand_pieces entries vars f ++ rest) ≡ kinds_written (operand_written (formula_back entries vars f) level behind)
operand_kinds entries vars (tree.True place) kinds level rest behind h = kinds level rest behind h
operand_kinds entries vars (tree.False place) kinds level rest behind h = kinds level rest behind h
operand_kinds entries vars (tree.Atom place name terms) kinds level rest behind h = kinds level rest behind h
operand_kinds entries vars (tree.Equal place s t) kinds level rest behind h = in_parentheses entries vars (tree.Equal place s t) kinds level rest behind h
operand_kinds entries vars (tree.Less place s t) kinds level rest behind h = in_parentheses entries vars (tree.Less place s t) kinds level rest behind h
operand_kinds entries vars (tree.AtMost place s t) kinds level rest behind h = in_parentheses entries vars (tree.AtMost place s t) kinds level rest behind h
operand_kinds entries vars (tree.Not place f) kinds level rest behind h = in_parentheses entries vars (tree.Not place f) kinds level rest behind h
operand_kinds entries vars (tree.And place f g) kinds level rest behind h = in_parentheses entries vars (tree.And place f g) kinds level rest behind h
operand_kinds entries vars (tree.Or place f g) kinds level rest behind h = in_parentheses entries vars (tree.Or place f g) kinds level rest behind h
operand_kinds entries vars (tree.Implies place f g) kinds level rest behind h = in_parentheses entries vars (tree.Implies place f g) kinds level rest behind h
operand_kinds entries vars (tree.Exists place xs f) kinds level rest behind h = in_parentheses entries vars (tree.Exists place xs f) kinds level rest behind h
operand_kinds entries vars (tree.Forall place xs f) kinds level rest behind h = in_parentheses entries vars (tree.Forall place xs f) kinds level rest behind h
operand_kinds entries vars (tree.Prev place interval f) kinds level rest behind h = in_parentheses entries vars (tree.Prev place interval f) kinds level rest behind h
operand_kinds entries vars (tree.Next place interval f) kinds level rest behind h = in_parentheses entries vars (tree.Next place interval f) kinds level rest behind h
operand_kinds entries vars (tree.Once place interval f) kinds level rest behind h = in_parentheses entries vars (tree.Once place interval f) kinds level rest behind h
operand_kinds entries vars (tree.Historically place interval f) kinds level rest behind h = in_parentheses entries vars (tree.Historically place interval f) kinds level rest behind h
operand_kinds entries vars (tree.Since place interval f g) kinds level rest behind h = in_parentheses entries vars (tree.Since place interval f g) kinds level rest behind h
operand_kinds entries vars (tree.Eventually place interval f) kinds level rest behind h = in_parentheses entries vars (tree.Eventually place interval f) kinds level rest behind h
operand_kinds entries vars (tree.Always place interval f) kinds level rest behind h = in_parentheses entries vars (tree.Always place interval f) kinds level rest behind h
operand_kinds entries vars (tree.Until place interval f g) kinds level rest behind h = in_parentheses entries vars (tree.Until place interval f g) kinds level rest behind h

-- an operand after another
behind_operand : (entries : List NameEntry) (vars : List (List ℕ)) (f g : tree.Formula) (middle : List PrintedPiece) (between : List Leveled → List Leveled) (level : ℕ)
    → ((p : List PrintedPiece) (l : List Leveled) → piece_lexemes p ≡ kinds_written l → piece_lexemes (middle ++ p) ≡ kinds_written (between l))
    → HasKinds entries vars f → HasKinds entries vars g → (rest : List PrintedPiece) (behind : List Leveled) → piece_lexemes rest ≡ kinds_written behind
    → piece_lexemes ((operand_pieces entries vars f ++ (middle ++ operand_pieces entries vars g)) ++ rest)
    ≡ kinds_written (operand_written (formula_back entries vars f) level (between (operand_written (formula_back entries vars g) (level + 1) behind)))
behind_operand entries vars f g middle between level same kinds_f kinds_g rest behind h =
    let left = operand_pieces entries vars f in
    let right = operand_pieces entries vars g in
    ap piece_lexemes (append_assoc left (middle ++ right) rest ∙ ap (λ (p : List PrintedPiece). left ++ p) (append_assoc middle right rest))
    ∙ operand_kinds entries vars f kinds_f level (middle ++ (right ++ rest)) (between (operand_written (formula_back entries vars g) (level + 1) behind))
    (same (right ++ rest) (operand_written (formula_back entries vars g) (level + 1) behind) (operand_kinds entries vars g kinds_g (level + 1) rest behind h))

-- a quantifier with its variables, and its operand
bound_kinds : (entries : List NameEntry) (vars : List (List ℕ)) (xs : List VarId) (f : tree.Formula) (level : ℕ) → AllByRecursion (λ (x : Binding). IsWritableName x.name) (map (binding_back vars) xs)
    → HasKinds entries vars f → (rest : List PrintedPiece) (behind : List Leveled) → piece_lexemes rest ≡ kinds_written behind
    → piece_lexemes ((separated_pieces (λ x. word_piece (variable_text vars x)) (mark_piece marks.Comma ∷ blank_piece ∷ []) xs ++ mark_piece marks.Dot ∷ blank_piece ∷
    operand_pieces entries vars f) ++ rest)
    ≡ kinds_written (list_written variable_written (level + 1) (map (binding_back vars) xs) ((level + 1, Symbol symbol.Dot) ∷ operand_written (formula_back entries vars f) (level + 1) behind))
bound_kinds entries vars xs f level w kinds rest behind h =
    let names = separated_pieces (λ x. word_piece (variable_text vars x)) (mark_piece marks.Comma ∷ blank_piece ∷ []) xs in
    ap piece_lexemes (append_assoc names (mark_piece marks.Dot ∷ blank_piece ∷ operand_pieces entries vars f) rest)
    ∙ items_kinds (λ x. word_piece (variable_text vars x)) (binding_back vars) variable_written (mark_piece marks.Comma ∷ blank_piece ∷ []) (level + 1) (λ x p. refl) xs
    (mark_piece marks.Dot ∷ blank_piece ∷ (operand_pieces entries vars f ++ rest)) ((level + 1, Symbol symbol.Dot) ∷ operand_written (formula_back entries vars f) (level + 1) behind)
    (variables_lexemes vars xs w) (ap (λ (l : List PolicyLexeme). Symbol symbol.Dot ∷ l) (operand_kinds entries vars f kinds (level + 1) rest behind h))

-- a temporal operator with its interval, and its operand
timed_kinds : (entries : List NameEntry) (vars : List (List ℕ)) (interval : Interval) (f : tree.Formula) (level : ℕ) → HasKinds entries vars f
    → (rest : List PrintedPiece) (behind : List Leveled) → piece_lexemes rest ≡ kinds_written behind
    → piece_lexemes ((interval_pieces interval ++ (blank_piece ∷ operand_pieces entries vars f)) ++ rest)
    ≡ kinds_written (interval_written (level + 1) interval (operand_written (formula_back entries vars f) (level + 1) behind))
timed_kinds entries vars interval f level kinds rest behind h =
    interval_kinds interval (level + 1) (blank_piece ∷ (operand_pieces entries vars f ++ rest)) (operand_written (formula_back entries vars f) (level + 1) behind)
    (operand_kinds entries vars f kinds (level + 1) rest behind h)

pub formula_kinds : (entries : List NameEntry) (vars : List (List ℕ)) (f : tree.Formula) → IsWritable (formula_back entries vars f) → HasKinds entries vars f
formula_kinds entries vars (tree.True place) w level rest behind h = ap (λ (l : List PolicyLexeme). lexeme.Truth true ∷ l) h
formula_kinds entries vars (tree.False place) w level rest behind h = ap (λ (l : List PolicyLexeme). lexeme.Truth false ∷ l) h
formula_kinds entries vars (tree.Atom place name terms) w level rest behind h =
    ap (λ (p : List PrintedPiece). lexeme_of_word (name_text entries name) ∷ Symbol symbol.OpenParen ∷ piece_lexemes p)
    (append_assoc (separated_pieces (term_piece vars) (mark_piece marks.Comma ∷ []) terms) (mark_piece marks.CloseParen ∷ []) rest)
    ∙ ap (λ (l : PolicyLexeme). l ∷ Symbol symbol.OpenParen ∷ piece_lexemes (separated_pieces (term_piece vars) (mark_piece marks.Comma ∷ []) terms ++ mark_piece marks.CloseParen ∷ rest)) w.0.1
    ∙ ap (λ (l : List PolicyLexeme). NameLexeme (name_text entries name) ∷ Symbol symbol.OpenParen ∷ l)
    (items_kinds (term_piece vars) (term_back vars) term_written (mark_piece marks.Comma ∷ []) (level + 1) (λ x p. refl) terms (mark_piece marks.CloseParen ∷ rest)
    ((level + 1, Symbol symbol.CloseParen) ∷ behind)
    (terms_lexemes vars terms w.1) (ap (λ (l : List PolicyLexeme). Symbol symbol.CloseParen ∷ l) h))
formula_kinds entries vars (tree.Equal place s t) w level rest behind h =
    let sign : PolicyLexeme = lexeme.Sign sign_marks.Equal in
    term_lexeme vars s w.0 (blank_piece ∷ mark_piece marks.Equal ∷ blank_piece ∷ term_piece vars t ∷ rest)
    ∙ ap (λ (l : List PolicyLexeme). term_written (term_back vars s) ∷ sign ∷ l) (term_lexeme vars t w.1 rest ∙ ap (λ (l : List PolicyLexeme). term_written (term_back vars t) ∷ l) h)
formula_kinds entries vars (tree.Less place s t) w level rest behind h =
    let sign : PolicyLexeme = lexeme.Sign sign_marks.Less in
    term_lexeme vars s w.0 (blank_piece ∷ mark_piece marks.Less ∷ blank_piece ∷ term_piece vars t ∷ rest)
    ∙ ap (λ (l : List PolicyLexeme). term_written (term_back vars s) ∷ sign ∷ l) (term_lexeme vars t w.1 rest ∙ ap (λ (l : List PolicyLexeme). term_written (term_back vars t) ∷ l) h)
formula_kinds entries vars (tree.AtMost place s t) w level rest behind h =
    let sign : PolicyLexeme = lexeme.Sign sign_marks.AtMost in
    term_lexeme vars s w.0 (blank_piece ∷ mark_piece marks.AtMost ∷ blank_piece ∷ term_piece vars t ∷ rest)
    ∙ ap (λ (l : List PolicyLexeme). term_written (term_back vars s) ∷ sign ∷ l) (term_lexeme vars t w.1 rest ∙ ap (λ (l : List PolicyLexeme). term_written (term_back vars t) ∷ l) h)
formula_kinds entries vars (tree.Not place f) w level rest behind h = ap (λ (l : List PolicyLexeme). Symbol symbol.Not ∷ l)
    (operand_kinds entries vars f (formula_kinds entries vars f w) (level + 1) rest behind h)
formula_kinds entries vars (tree.And place f g) w level rest behind h =
    behind_operand entries vars f g (blank_piece ∷ word_piece (codes "and") ∷ blank_piece ∷ []) (λ l. (level, Symbol symbol.And) ∷ l) level
    (λ p l e. ap (λ (k : List PolicyLexeme). Symbol symbol.And ∷ k) e)
    (formula_kinds entries vars f w.0) (formula_kinds entries vars g w.1) rest behind h
formula_kinds entries vars (tree.Or place f g) w level rest behind h =
    behind_operand entries vars f g (blank_piece ∷ word_piece (codes "or") ∷ blank_piece ∷ []) (λ l. (level, Symbol symbol.Or) ∷ l) level
    (λ p l e. ap (λ (k : List PolicyLexeme). Symbol symbol.Or ∷ k) e)
    (formula_kinds entries vars f w.0) (formula_kinds entries vars g w.1) rest behind h
formula_kinds entries vars (tree.Implies place f g) w level rest behind h =
    behind_operand entries vars f g (blank_piece ∷ mark_piece marks.Arrow ∷ blank_piece ∷ []) (λ l. (level, Symbol symbol.Arrow) ∷ l) level
    (λ p l e. ap (λ (k : List PolicyLexeme). Symbol symbol.Arrow ∷ k) e)
    (formula_kinds entries vars f w.0) (formula_kinds entries vars g w.1) rest behind h
formula_kinds entries vars (tree.Exists place xs f) w level rest behind h =
    ap (λ (l : List PolicyLexeme). Quantifier quantifier_words.Exists ∷ l) (bound_kinds entries vars xs f level w.0.1 (formula_kinds entries vars f w.1) rest behind h)
formula_kinds entries vars (tree.Forall place xs f) w level rest behind h =
    ap (λ (l : List PolicyLexeme). Quantifier quantifier_words.Forall ∷ l) (bound_kinds entries vars xs f level w.0.1 (formula_kinds entries vars f w.1) rest behind h)
formula_kinds entries vars (tree.Prev place interval f) w level rest behind h =
    ap (λ (l : List PolicyLexeme). lexeme.Prefix prefix_words.Prev ∷ l) (timed_kinds entries vars interval f level (formula_kinds entries vars f w.1) rest behind h)
formula_kinds entries vars (tree.Next place interval f) w level rest behind h =
    ap (λ (l : List PolicyLexeme). lexeme.Prefix prefix_words.Next ∷ l) (timed_kinds entries vars interval f level (formula_kinds entries vars f w.1) rest behind h)
formula_kinds entries vars (tree.Once place interval f) w level rest behind h =
    ap (λ (l : List PolicyLexeme). lexeme.Prefix prefix_words.Once ∷ l) (timed_kinds entries vars interval f level (formula_kinds entries vars f w.1) rest behind h)
formula_kinds entries vars (tree.Historically place interval f) w level rest behind h =
    ap (λ (l : List PolicyLexeme). lexeme.Prefix prefix_words.Historically ∷ l) (timed_kinds entries vars interval f level (formula_kinds entries vars f w.1) rest behind h)
formula_kinds entries vars (tree.Since place interval f g) w level rest behind h =
    behind_operand entries vars f g (blank_piece ∷ word_piece (codes "since") ∷ (interval_pieces interval ++ blank_piece ∷ []))
    (λ l. (level, lexeme.Infix infix_words.Since) ∷ interval_written level interval l) level
    (λ p l e. ap (λ (k : List PolicyLexeme). lexeme.Infix infix_words.Since ∷ k) (interval_kinds interval level (blank_piece ∷ p) l e))
    (formula_kinds entries vars f w.1) (formula_kinds entries vars g w.2) rest behind h
formula_kinds entries vars (tree.Eventually place interval f) w level rest behind h =
    ap (λ (l : List PolicyLexeme). lexeme.Prefix prefix_words.Eventually ∷ l) (timed_kinds entries vars interval f level (formula_kinds entries vars f w.1) rest behind h)
formula_kinds entries vars (tree.Always place interval f) w level rest behind h =
    ap (λ (l : List PolicyLexeme). lexeme.Prefix prefix_words.Always ∷ l) (timed_kinds entries vars interval f level (formula_kinds entries vars f w.1) rest behind h)
formula_kinds entries vars (tree.Until place interval f g) w level rest behind h =
    behind_operand entries vars f g (blank_piece ∷ word_piece (codes "until") ∷ (interval_pieces interval ++ blank_piece ∷ []))
    (λ l. (level, lexeme.Infix infix_words.Until) ∷ interval_written level interval l) level
    (λ p l e. ap (λ (k : List PolicyLexeme). lexeme.Infix infix_words.Until ∷ k) (interval_kinds interval level (blank_piece ∷ p) l e))
    (formula_kinds entries vars f w.1) (formula_kinds entries vars g w.2) rest behind h

pub rule_kinds : (entries : List NameEntry) (rule : Rule) → IsWritableRule (rule_back entries rule) → piece_lexemes (rule_pieces entries rule) ≡ kinds_written (rule_written (rule_back entries rule))
rule_kinds entries rule w =
    ap (λ (l : PolicyLexeme). Symbol symbol.Rule ∷ l ∷ Symbol symbol.Colon ∷ piece_lexemes (formula_pieces entries rule.vars rule.formula ++ mark_piece marks.Semicolon ∷ [])) w.name.1
    ∙ ap (λ (l : List PolicyLexeme). Symbol symbol.Rule ∷ NameLexeme rule.name ∷ Symbol symbol.Colon ∷ l)
    (formula_kinds entries rule.vars rule.formula w.formula 0 (mark_piece marks.Semicolon ∷ []) ((0, Symbol symbol.Semicolon) ∷ []) refl)

-- ---- its names are words, and its values and ends are within their limits

term_text : (vars : List (List ℕ)) (t : Term) → IsWritableTerm (term_back vars t) → IsTermText vars t
term_text vars (Var x) w = w.0
term_text vars (Const value) w = w

terms_text : (vars : List (List ℕ)) (ts : List Term) → AllByRecursion IsWritableTerm (map (term_back vars) ts) → AllByRecursion (IsTermText vars) ts
terms_text vars [] w = tt
terms_text vars (t ∷ ts) w = (term_text vars t w.0, terms_text vars ts w.1)

variables_text : (vars : List (List ℕ)) (xs : List VarId) → AllByRecursion (λ (x : Binding). IsWritableName x.name) (map (binding_back vars) xs)
    → AllByRecursion (λ x. IsTrue (is_word (variable_text vars x))) xs
variables_text vars [] w = tt
variables_text vars (x ∷ xs) w = (w.0.0, variables_text vars xs w.1)

end_text : (high : Option ℕ) → written.IsWritableEnd high → IsEndText high
end_text None w = tt
end_text (Some high) w = w

formula_text : (entries : List NameEntry) (vars : List (List ℕ)) (f : tree.Formula) → IsWritable (formula_back entries vars f) → IsFormulaText entries vars f
formula_text entries vars (tree.True place) w = tt
formula_text entries vars (tree.False place) w = tt
formula_text entries vars (tree.Atom place name terms) w = (w.0.0, terms_text vars terms w.1)
formula_text entries vars (tree.Equal place s t) w = (term_text vars s w.0, term_text vars t w.1)
formula_text entries vars (tree.Less place s t) w = (term_text vars s w.0, term_text vars t w.1)
formula_text entries vars (tree.AtMost place s t) w = (term_text vars s w.0, term_text vars t w.1)
formula_text entries vars (tree.Not place f) w = formula_text entries vars f w
formula_text entries vars (tree.And place f g) w = (formula_text entries vars f w.0, formula_text entries vars g w.1)
formula_text entries vars (tree.Or place f g) w = (formula_text entries vars f w.0, formula_text entries vars g w.1)
formula_text entries vars (tree.Implies place f g) w = (formula_text entries vars f w.0, formula_text entries vars g w.1)
formula_text entries vars (tree.Exists place xs f) w = (variables_text vars xs w.0.1, formula_text entries vars f w.1)
formula_text entries vars (tree.Forall place xs f) w = (variables_text vars xs w.0.1, formula_text entries vars f w.1)
formula_text entries vars (tree.Prev place interval f) w = ((w.0.0, end_text interval.high w.0.1), formula_text entries vars f w.1)
formula_text entries vars (tree.Next place interval f) w = ((w.0.0, end_text interval.high w.0.1), formula_text entries vars f w.1)
formula_text entries vars (tree.Once place interval f) w = ((w.0.0, end_text interval.high w.0.1), formula_text entries vars f w.1)
formula_text entries vars (tree.Historically place interval f) w = ((w.0.0, end_text interval.high w.0.1), formula_text entries vars f w.1)
formula_text entries vars (tree.Since place interval f g) w = ((w.0.0, end_text interval.high w.0.1), formula_text entries vars f w.1, formula_text entries vars g w.2)
formula_text entries vars (tree.Eventually place interval f) w = ((w.0.0, end_text interval.high w.0.1), formula_text entries vars f w.1)
formula_text entries vars (tree.Always place interval f) w = ((w.0.0, end_text interval.high w.0.1), formula_text entries vars f w.1)
formula_text entries vars (tree.Until place interval f g) w = ((w.0.0, end_text interval.high w.0.1), formula_text entries vars f w.1, formula_text entries vars g w.2)

pub rule_is_text : (entries : List NameEntry) (rule : Rule) → IsWritableRule (rule_back entries rule) → IsRuleText entries rule
rule_is_text entries rule w = record { name = w.name.0; formula = formula_text entries rule.vars rule.formula w.formula }
