-- What is written for a tree is read as that tree, but for places.
use Rattle.policy_syntax.proofs.Vocabulary.{◌≡◌, ◌≢◌, ℕ, ◌+◌, ◌<◌, ◌≤◌, pos, negsuc, suc, Bool, true, false, List, [], ◌∷◌, None, Some, length, map, refl, sym, ap, subst, ◌∙◌, arith, length-map}
use Rattle.policy_syntax.proofs.Vocabulary.{Interval, FormulaPhrase, UnaryPhrase, RulePhrase, Variable, Plain, Minus, Quoted, LastTerm, NextTerm, LastVariable, NextVariable, OneSide, Implication}
use Rattle.policy_syntax.proofs.Vocabulary.{OneCase, Disjunction, OnePart, Conjunction, OneOperand, Between, Negation, Before, Quantified, Primary, Parenthesis, Constant, Event, Comparison}
use Rattle.policy_syntax.proofs.Vocabulary.{infix_tree, prefix_tree, quantifier_tree, sign_tree, spell, end_lexeme, scope_behind, PolicyLexeme, PlacedLexeme, Symbol, Truth, Prefix, Infix, Quantifier}
use Rattle.policy_syntax.proofs.Vocabulary.{Sign, NameLexeme, DigitsLexeme, TextLexeme, KeepsLimits, IsRule, SyntaxTree, PolicyRule, bare_syntax_tree, bare_rule, bare_term, bare_binding, AreLow}
use Rattle.policy_syntax.proofs.Vocabulary.{HasLexemeLevels, IsRuleReadAgain, IsWritable, IsWritableRule, Leveled, enclosed_lexemes, formula_written, interval_written, kinds_written, list_written}
use Rattle.policy_syntax.proofs.Vocabulary.{rule_written, tree_stands_alone, term_written, variable_written, MOST_VARIABLES, Binding, SyntaxTerm}
use Rattle.policy_syntax.proofs.BareTrees.{rule_anywhere}
use Rattle.policy_syntax.proofs.Levels.{leveled, levels_of_phrases, room_is, roomy, rooms_bound}
use Rattle.enf_data.specs.declared.values.Value.TheVariants as values
use Rattle.policy_syntax.specs.meaning.Grammar as grammar
use Rattle.policy_syntax.specs.meaning.Phrases as phrases
use Rattle.policy_syntax.specs.meaning.Trees as tree
use Rattle.policy_syntax.specs.declared.lexemes.Infix as infixes
use Rattle.policy_syntax.specs.declared.lexemes.Infix.TheVariants as infix_words
use Rattle.policy_syntax.specs.declared.lexemes.Prefix as prefixes
use Rattle.policy_syntax.specs.declared.lexemes.Prefix.TheVariants as prefix_words
use Rattle.policy_syntax.specs.declared.lexemes.Quantifier as quantifiers
use Rattle.policy_syntax.specs.declared.lexemes.Quantifier.TheVariants as quantifier_words
use Rattle.policy_syntax.specs.declared.lexemes.Sign as signs
use Rattle.policy_syntax.specs.declared.lexemes.Sign.TheVariants as sign_marks
use Rattle.policy_syntax.specs.declared.lexemes.Symbol.TheVariants as symbol
use Rattle.policy_syntax.specs.declared.trees.SyntaxTerm.TheVariants as terms

-- the placed lexemes are those written
abbrev pub Along : List PlacedLexeme → List Leveled → Type 0
Along before [] = before ≡ []
Along before (leveled ∷ rest) =
    (place : ℕ) × (after : List PlacedLexeme) × (before ≡ (place, leveled.1) ∷ after) × Along after rest

pub along_of : (placed : List PlacedLexeme) (written : List Leveled) → map (λ p. p.1) placed ≡ kinds_written written → Along placed written
along_of [] [] e = refl
along_of [] (leveled ∷ rest) e = absurd cc
along_of (p ∷ placed) [] e = absurd cc
along_of (p ∷ placed) (leveled ∷ rest) e =
    let kind : p.1 ≡ leveled.1 = cc in
    let more : map (λ (q : PlacedLexeme). q.1) placed ≡ kinds_written rest = cc in
    (p.0, placed, ap (λ (l : PolicyLexeme). (p.0, l) ∷ placed) kind, along_of placed rest more)

-- a phrase that was read along what is written: it spells what was before up to what is left, at the levels written,
-- with few variables in scope, and is the tree but for places
pub record IsAlong {P T : Type 0} (spelled : P → List PlacedLexeme → List PlacedLexeme) (raised : P → List Leveled → List Leveled) (held : P → Bool → Bool)
    (Fits : P → Type 0) (tree_of : P → T) (before : List PlacedLexeme) (whole rest : List Leveled) (the_tree : T) : Type 0 where
  pub phrase : P
  pub after : List PlacedLexeme
  pub along : Along after rest
  pub tree_is : tree_of phrase ≡ the_tree
  pub fits : Fits phrase
  pub spells : spelled phrase after ≡ before
  pub levels : raised phrase rest ≡ whole
  pub rooms : (others : Bool) → held phrase others ≡ others

abbrev pub Freely : {P : Type 0} → P → Type 0
Freely phrase = Unit {0}

abbrev pub TermAlong : (level scope : ℕ) → List PlacedLexeme → List Leveled → List Leveled → SyntaxTerm → Type 0
TermAlong level scope = IsAlong (grammar.term_fold spell level scope) (grammar.term_fold leveled level scope) (grammar.term_fold roomy level scope) Freely (λ t. bare_term (phrases.term_tree t))

abbrev pub TermsAlong : (level scope : ℕ) → List PlacedLexeme → List Leveled → List Leveled → List SyntaxTerm → Type 0
TermsAlong level scope =
    IsAlong (grammar.terms_fold spell level scope) (grammar.terms_fold leveled level scope) (grammar.terms_fold roomy level scope) Freely (λ ts. map bare_term (phrases.terms_list ts))

abbrev pub VariablesAlong : (level scope : ℕ) → List PlacedLexeme → List Leveled → List Leveled → List Binding → Type 0
VariablesAlong level scope =
    IsAlong (grammar.variables_fold spell level scope) (grammar.variables_fold leveled level scope) (grammar.variables_fold roomy level scope) Freely
    (λ xs. map bare_binding (phrases.variables_list xs))

abbrev pub IntervalAlong : (level scope : ℕ) → List PlacedLexeme → List Leveled → List Leveled → Interval → Type 0
IntervalAlong level scope = IsAlong (grammar.interval_fold spell level scope) (grammar.interval_fold leveled level scope) (grammar.interval_fold roomy level scope) Freely phrases.interval_of

abbrev pub PrimaryAlong : (level scope : ℕ) → List PlacedLexeme → List Leveled → List Leveled → SyntaxTree → Type 0
PrimaryAlong level scope =
    IsAlong (grammar.primary_fold spell level scope) (grammar.primary_fold leveled level scope) (grammar.primary_fold roomy level scope) grammar.PrimaryFits
    (λ f. bare_syntax_tree (phrases.primary_tree f))

-- an operand is one, whatever follows
abbrev pub OperandAlong : (level scope : ℕ) → List PlacedLexeme → List Leveled → List Leveled → SyntaxTree → Type 0
OperandAlong level scope =
    IsAlong (grammar.unary_fold spell level scope) (grammar.unary_fold leveled level scope) (grammar.unary_fold roomy level scope)
    (λ f. (next : PolicyLexeme) → grammar.UnaryFits f next) (λ f. bare_syntax_tree (phrases.unary_tree f))

-- what ends a formula
pub record Closes (next : PolicyLexeme) : Type 0 where
  pub not_arrow : next ≢ Symbol symbol.Arrow
  pub not_or : next ≢ Symbol symbol.Or
  pub not_and : next ≢ Symbol symbol.And
  pub not_infix : (operator : infixes.Infix) → next ≢ Infix operator

close_paren : Closes (Symbol symbol.CloseParen)
close_paren = record { not_arrow = λ e. cc; not_or = λ e. cc; not_and = λ e. cc; not_infix = λ operator e. cc }

semicolon : Closes (Symbol symbol.Semicolon)
semicolon = record { not_arrow = λ e. cc; not_or = λ e. cc; not_and = λ e. cc; not_infix = λ operator e. cc }

abbrev pub ClosedFits : FormulaPhrase → Type 0
ClosedFits f = (next : PolicyLexeme) → Closes next → grammar.FormulaFits f next

abbrev pub FormulaAlong : (level scope : ℕ) → List PlacedLexeme → List Leveled → List Leveled → SyntaxTree → Type 0
FormulaAlong level scope =
    IsAlong (grammar.formula_fold spell level scope) (grammar.formula_fold leveled level scope) (grammar.formula_fold roomy level scope) ClosedFits (λ f. bare_syntax_tree (phrases.formula_tree f))

-- ---- terms, variables, intervals

term_along : (level scope : ℕ) (t : SyntaxTerm) (before : List PlacedLexeme) (rest : List Leveled) → scope ≤ MOST_VARIABLES
    → Along before ((level, term_written t) ∷ rest)
    → TermAlong level scope before ((level, term_written t) ∷ rest) rest (bare_term t)
term_along level scope (terms.Variable place name) before rest few h =
    record { phrase = Variable h.0 name; after = h.1; along = h.3; tree_is = refl; fits = tt; spells = sym h.2; levels = refl; rooms = λ b. room_is scope b few }
term_along level scope (terms.Constant place (values.Num (pos n))) before rest few h =
    record { phrase = Plain h.0 n; after = h.1; along = h.3; tree_is = refl; fits = tt; spells = sym h.2; levels = refl; rooms = λ b. room_is scope b few }
term_along level scope (terms.Constant place (values.Num (negsuc n))) before rest few h =
    record { phrase = Minus h.0 (suc n); after = h.1; along = h.3; tree_is = refl; fits = tt; spells = sym h.2; levels = refl; rooms = λ b. room_is scope b few }
term_along level scope (terms.Constant place (values.Text text)) before rest few h =
    record { phrase = Quoted h.0 text; after = h.1; along = h.3; tree_is = refl; fits = tt; spells = sym h.2; levels = refl; rooms = λ b. room_is scope b few }

terms_along : (level scope : ℕ) (t : SyntaxTerm) (ts : List SyntaxTerm) (before : List PlacedLexeme) (rest : List Leveled) → scope ≤ MOST_VARIABLES
    → Along before (list_written term_written level (t ∷ ts) rest)
    → TermsAlong level scope before (list_written term_written level (t ∷ ts) rest) rest (map bare_term (t ∷ ts))
terms_along level scope t [] before rest few h =
    let a = term_along level scope t before rest few h in
    record { phrase = LastTerm a.phrase; after = a.after; along = a.along; tree_is = (λ j. a.tree_is j ∷ []); fits = tt; spells = a.spells; levels = a.levels; rooms = a.rooms }
terms_along level scope t (u ∷ ts) before rest few h =
    let a = term_along level scope t before ((level, Symbol symbol.Comma) ∷ list_written term_written level (u ∷ ts) rest) few h in
    let c = a.along in
    let b = terms_along level scope u ts c.1 rest few c.3 in
    record {
      phrase = NextTerm a.phrase c.0 b.phrase;
      after = b.after;
      along = b.along;
      tree_is = (λ j. a.tree_is j ∷ b.tree_is j);
      fits = tt;
      spells = ap (λ r. grammar.term_fold spell level scope a.phrase ((c.0, Symbol symbol.Comma) ∷ r)) b.spells ∙ ap (grammar.term_fold spell level scope a.phrase) (sym c.2) ∙ a.spells;
      levels = ap (λ r. grammar.term_fold leveled level scope a.phrase ((level, Symbol symbol.Comma) ∷ r)) b.levels ∙ a.levels;
      rooms = λ o. a.rooms _ ∙ room_is scope _ few ∙ b.rooms o;
    }

variables_along : (level scope : ℕ) (x : Binding) (xs : List Binding) (before : List PlacedLexeme) (rest : List Leveled) → scope + length (x ∷ xs) ≤ MOST_VARIABLES
    → Along before (list_written variable_written level (x ∷ xs) rest)
    → VariablesAlong level scope before (list_written variable_written level (x ∷ xs) rest) rest (map bare_binding (x ∷ xs))
variables_along level scope x [] before rest few h =
    let one : scope + 1 ≤ MOST_VARIABLES = omega arith in
    record {
      phrase = LastVariable (record { place = h.0; name = x.name });
      after = h.1;
      along = h.3;
      tree_is = refl;
      fits = tt;
      spells = sym h.2;
      levels = refl;
      rooms = λ o. room_is (scope + 1) o one;
    }
variables_along level scope x (y ∷ xs) before rest few h =
    let c = h.3 in
    let one : scope + 1 ≤ MOST_VARIABLES = omega arith in
    let more : scope + 1 + length (y ∷ xs) ≤ MOST_VARIABLES = omega arith in
    let b = variables_along level (scope + 1) y xs c.1 rest more c.3 in
    record {
      phrase = NextVariable (record { place = h.0; name = x.name }) c.0 b.phrase;
      after = b.after;
      along = b.along;
      tree_is = (λ j. bare_binding x ∷ b.tree_is j);
      fits = tt;
      spells = ap (λ r. (h.0, NameLexeme x.name) ∷ (c.0, Symbol symbol.Comma) ∷ r) b.spells ∙ ap (λ r. (h.0, NameLexeme x.name) ∷ r) (sym c.2) ∙ sym h.2;
      levels = ap (λ r. (level, NameLexeme x.name) ∷ (level, Symbol symbol.Comma) ∷ r) b.levels;
      rooms = λ o. room_is (scope + 1) _ one ∙ room_is (scope + 1) _ one ∙ b.rooms o;
    }

interval_along : (level scope : ℕ) (interval : Interval) (before : List PlacedLexeme) (rest : List Leveled) → scope ≤ MOST_VARIABLES
    → Along before (interval_written level interval rest)
    → IntervalAlong level scope before (interval_written level interval rest) rest interval
interval_along level scope interval before rest few h =
    let low = h.3 in
    let comma = low.3 in
    let high = comma.3 in
    let close = high.3 in
    record {
      phrase = record { open_bracket = h.0; low_place = low.0; low = interval.low; comma = comma.0; high_place = high.0; high = interval.high; close_bracket = close.0 };
      after = close.1;
      along = close.3;
      tree_is = refl;
      fits = tt;
      spells = ap (λ r. (h.0, Symbol symbol.OpenBracket) ∷ (low.0, DigitsLexeme interval.low) ∷ (comma.0, Symbol symbol.Comma) ∷ (high.0, end_lexeme interval.high) ∷ r) (sym close.2)
          ∙ ap (λ r. (h.0, Symbol symbol.OpenBracket) ∷ (low.0, DigitsLexeme interval.low) ∷ (comma.0, Symbol symbol.Comma) ∷ r) (sym high.2)
          ∙ ap (λ r. (h.0, Symbol symbol.OpenBracket) ∷ (low.0, DigitsLexeme interval.low) ∷ r) (sym comma.2)
          ∙ ap (λ r. (h.0, Symbol symbol.OpenBracket) ∷ r) (sym low.2) ∙ sym h.2;
      levels = refl;
      rooms = λ o. room_is scope _ few ∙ room_is scope _ few
          ∙ room_is scope _ few ∙ room_is scope _ few
          ∙ room_is scope o few;
    }

-- ---- primaries

truth_along : (level scope : ℕ) (value : Bool) (before : List PlacedLexeme) (rest : List Leveled) → scope ≤ MOST_VARIABLES
    → Along before ((level, Truth value) ∷ rest)
    → PrimaryAlong level scope before ((level, Truth value) ∷ rest) rest (bare_syntax_tree (phrases.truth_tree value 0))
truth_along level scope true before rest few h =
    record { phrase = Constant true h.0; after = h.1; along = h.3; tree_is = refl; fits = tt; spells = sym h.2; levels = refl; rooms = λ o. room_is scope o few }
truth_along level scope false before rest few h =
    record { phrase = Constant false h.0; after = h.1; along = h.3; tree_is = refl; fits = tt; spells = sym h.2; levels = refl; rooms = λ o. room_is scope o few }

event_along : (level scope : ℕ) (name : List ℕ) (ts : List SyntaxTerm) (before : List PlacedLexeme) (rest : List Leveled) → scope ≤ MOST_VARIABLES
    → Along before ((level, NameLexeme name) ∷ (level, Symbol symbol.OpenParen) ∷ list_written term_written (level + 1) ts ((level + 1, Symbol symbol.CloseParen) ∷ rest))
    → PrimaryAlong level scope before ((level, NameLexeme name) ∷ (level, Symbol symbol.OpenParen) ∷ list_written term_written (level + 1) ts
    ((level + 1, Symbol symbol.CloseParen) ∷ rest)) rest (tree.AtomTree 0 name (map bare_term ts))
event_along level scope name [] before rest few h =
    let open_paren = h.3 in
    let close = open_paren.3 in
    record {
      phrase = Event h.0 name (record { open_paren = open_paren.0; terms = None; close_paren = close.0 });
      after = close.1;
      along = close.3;
      tree_is = refl;
      fits = tt;
      spells = ap (λ r. (h.0, NameLexeme name) ∷ (open_paren.0, Symbol symbol.OpenParen) ∷ r) (sym close.2) ∙ ap (λ r. (h.0, NameLexeme name) ∷ r) (sym open_paren.2) ∙ sym h.2;
      levels = refl;
      rooms = λ o. room_is scope _ few ∙ room_is scope _ few
          ∙ room_is scope o few;
    }
event_along level scope name (t ∷ ts) before rest few h =
    let open_paren = h.3 in
    let a = terms_along (level + 1) scope t ts open_paren.1 ((level + 1, Symbol symbol.CloseParen) ∷ rest) few open_paren.3 in
    let close = a.along in
    record {
      phrase = Event h.0 name (record { open_paren = open_paren.0; terms = Some a.phrase; close_paren = close.0 });
      after = close.1;
      along = close.3;
      tree_is = (λ j. tree.AtomTree 0 name (a.tree_is j));
      fits = tt;
      spells = ap (λ r. (h.0, NameLexeme name) ∷ (open_paren.0, Symbol symbol.OpenParen) ∷ grammar.terms_fold spell (level + 1) scope a.phrase r) (sym close.2)
          ∙ ap (λ r. (h.0, NameLexeme name) ∷ (open_paren.0, Symbol symbol.OpenParen) ∷ r) a.spells ∙ ap (λ r. (h.0, NameLexeme name) ∷ r) (sym open_paren.2) ∙ sym h.2;
      levels = ap (λ r. (level, NameLexeme name) ∷ (level, Symbol symbol.OpenParen) ∷ r) a.levels;
      rooms = λ o. room_is scope _ few ∙ room_is scope _ few
          ∙ a.rooms _ ∙ room_is scope o few;
    }

bare_sign : (sign : signs.Sign) (place : ℕ) (s t : SyntaxTerm) → bare_syntax_tree (sign_tree sign place s t) ≡ sign_tree sign 0 (bare_term s) (bare_term t)
bare_sign sign_marks.Equal place s t = refl
bare_sign sign_marks.Less place s t = refl
bare_sign sign_marks.AtMost place s t = refl

comparison_along : (level scope : ℕ) (sign : signs.Sign) (s t : SyntaxTerm) (before : List PlacedLexeme) (rest : List Leveled) → scope ≤ MOST_VARIABLES
    → Along before ((level, term_written s) ∷ (level, Sign sign) ∷ (level, term_written t) ∷ rest)
    → PrimaryAlong level scope before ((level, term_written s) ∷ (level, Sign sign) ∷ (level, term_written t) ∷ rest) rest (sign_tree sign 0 (bare_term s) (bare_term t))
comparison_along level scope sign s t before rest few h =
    let a = term_along level scope s before ((level, Sign sign) ∷ (level, term_written t) ∷ rest) few h in
    let c = a.along in
    let b = term_along level scope t c.1 rest few c.3 in
    record {
      phrase = Comparison a.phrase sign c.0 b.phrase;
      after = b.after;
      along = b.along;
      tree_is = bare_sign sign c.0 (phrases.term_tree a.phrase) (phrases.term_tree b.phrase) ∙ (λ j. sign_tree sign 0 (a.tree_is j) (b.tree_is j));
      fits = tt;
      spells = ap (λ r. grammar.term_fold spell level scope a.phrase ((c.0, Sign sign) ∷ r)) b.spells ∙ ap (grammar.term_fold spell level scope a.phrase) (sym c.2) ∙ a.spells;
      levels = ap (λ r. grammar.term_fold leveled level scope a.phrase ((level, Sign sign) ∷ r)) b.levels ∙ a.levels;
      rooms = λ o. a.rooms _ ∙ room_is scope _ few ∙ b.rooms o;
    }

-- ---- a primary is an operand, and an operand a formula

operand_of : (level scope : ℕ) (f : SyntaxTree) (before : List PlacedLexeme) (whole rest : List Leveled) → PrimaryAlong level scope before whole rest f → OperandAlong level scope before whole rest f
operand_of level scope f before whole rest a =
    record { phrase = Primary a.phrase; after = a.after; along = a.along; tree_is = a.tree_is; fits = λ next. a.fits; spells = a.spells; levels = a.levels; rooms = a.rooms }

-- an operand alone
abbrev alone : UnaryPhrase → FormulaPhrase
alone f = OneSide (OneCase (OnePart (OneOperand f)))

alone_fits : (f : UnaryPhrase) (next : PolicyLexeme) → Closes next → grammar.UnaryFits f next → grammar.FormulaFits (alone f) next
alone_fits f next closes fits = ((((fits, closes.not_infix), closes.not_and), closes.not_or), closes.not_arrow)

formula_of : (level scope : ℕ) (f : SyntaxTree) (before : List PlacedLexeme) (whole rest : List Leveled) → OperandAlong level scope before whole rest f → FormulaAlong level scope before whole rest f
formula_of level scope f before whole rest a =
    record {
      phrase = alone a.phrase;
      after = a.after;
      along = a.along;
      tree_is = a.tree_is;
      fits = λ next closes. alone_fits a.phrase next closes (a.fits next);
      spells = a.spells;
      levels
          = a.levels;
      rooms = a.rooms;
    }

-- the formula is read from what is written for it
abbrev pub IsReadAlong : (scope : ℕ) → SyntaxTree → Type 0
IsReadAlong scope f =
    (level : ℕ) (before : List PlacedLexeme) (rest : List Leveled) → Along before (formula_written f level rest)
    → FormulaAlong level scope before (formula_written f level rest) rest (bare_syntax_tree f)

in_parentheses : (level scope : ℕ) (f : SyntaxTree) (before : List PlacedLexeme) (rest : List Leveled) → scope ≤ MOST_VARIABLES → IsReadAlong scope f
    → Along before ((level, Symbol symbol.OpenParen) ∷ formula_written f (level + 1) ((level + 1, Symbol symbol.CloseParen) ∷ rest))
    → OperandAlong level scope before ((level, Symbol symbol.OpenParen) ∷ formula_written f (level + 1) ((level + 1, Symbol symbol.CloseParen) ∷ rest)) rest (bare_syntax_tree f)
in_parentheses level scope f before rest few read h =
    let a = read (level + 1) h.1 ((level + 1, Symbol symbol.CloseParen) ∷ rest) h.3 in
    let close = a.along in
    record {
      phrase = Primary (Parenthesis h.0 a.phrase close.0);
      after = close.1;
      along = close.3;
      tree_is = a.tree_is;
      fits = λ next. a.fits (Symbol symbol.CloseParen) close_paren;
      spells = ap (λ r. (h.0, Symbol symbol.OpenParen) ∷ grammar.formula_fold spell (level + 1) scope a.phrase r) (sym close.2)
          ∙ ap (λ r. (h.0, Symbol symbol.OpenParen) ∷ r) a.spells ∙ sym h.2;
      levels = ap (λ r. (level, Symbol symbol.OpenParen) ∷ r) a.levels;
      rooms = λ o. room_is scope _ few ∙ a.rooms _ ∙ room_is scope o few;
    }

operand_along : (level scope : ℕ) (f : SyntaxTree) (before : List PlacedLexeme) (rest : List Leveled) → scope ≤ MOST_VARIABLES → IsReadAlong scope f
    → Along before (enclosed_lexemes (tree_stands_alone f) (formula_written f) level rest)
    → OperandAlong level scope before (enclosed_lexemes (tree_stands_alone f) (formula_written f) level rest) rest (bare_syntax_tree f)
operand_along level scope (tree.TrueTree place) before rest few read h = operand_of level scope (tree.TrueTree 0) before _ rest (truth_along level scope true before rest few h)
operand_along level scope (tree.FalseTree place) before rest few read h = operand_of level scope (tree.FalseTree 0) before _ rest (truth_along level scope false before rest few h)
operand_along level scope (tree.AtomTree place name ts) before rest few read h =
    operand_of level scope (tree.AtomTree 0 name (map bare_term ts)) before _ rest (event_along level scope name ts before rest few h)
operand_along level scope f before rest few read h = in_parentheses level scope f before rest few read h

-- ---- operators

-- how an operand is written at a level
abbrev operand_written : SyntaxTree → (level : ℕ) → List Leveled → List Leveled
operand_written f level rest = enclosed_lexemes (tree_stands_alone f) (formula_written f) level rest

negation_along : (level scope : ℕ) (f : SyntaxTree) (before : List PlacedLexeme) (rest : List Leveled) → scope ≤ MOST_VARIABLES → IsReadAlong scope f
    → Along before ((level, Symbol symbol.Not) ∷ operand_written f (level + 1) rest)
    → FormulaAlong level scope before ((level, Symbol symbol.Not) ∷ operand_written f (level + 1) rest) rest (tree.NotTree 0 (bare_syntax_tree f))
negation_along level scope f before rest few read h =
    let a = operand_along (level + 1) scope f h.1 rest few read h.3 in
    formula_of level scope (tree.NotTree 0 (bare_syntax_tree f)) before _ rest (record {
      phrase = Negation h.0 a.phrase;
      after = a.after;
      along = a.along;
      tree_is = (λ j. tree.NotTree 0 (a.tree_is j));
      fits = a.fits;
      spells = ap (λ r. (h.0, Symbol symbol.Not) ∷ r) a.spells ∙ sym h.2;
      levels = ap (λ r. (level, Symbol symbol.Not) ∷ r) a.levels;
      rooms = λ o. room_is scope _ few ∙ a.rooms o;
    })

bare_prefix : (operator : prefixes.Prefix) (place : ℕ) (interval : Interval) (f : SyntaxTree) → bare_syntax_tree (prefix_tree operator place interval f)
    ≡ prefix_tree operator 0 interval (bare_syntax_tree f)
bare_prefix prefix_words.Prev place interval f = refl
bare_prefix prefix_words.Next place interval f = refl
bare_prefix prefix_words.Once place interval f = refl
bare_prefix prefix_words.Historically place interval f = refl
bare_prefix prefix_words.Eventually place interval f = refl
bare_prefix prefix_words.Always place interval f = refl

before_along : (operator : prefixes.Prefix) (level scope : ℕ) (interval : Interval) (f : SyntaxTree) (before : List PlacedLexeme) (rest : List Leveled) → scope ≤ MOST_VARIABLES → IsReadAlong scope f
    → Along before ((level, Prefix operator) ∷ interval_written (level + 1) interval (operand_written f (level + 1) rest))
    → FormulaAlong level scope before ((level, Prefix operator) ∷ interval_written (level + 1) interval (operand_written f (level + 1) rest)) rest
    (prefix_tree operator 0 interval (bare_syntax_tree f))
before_along operator level scope interval f before rest few read h =
    let i = interval_along (level + 1) scope interval h.1 (operand_written f (level + 1) rest) few h.3 in
    let a = operand_along (level + 1) scope f i.after rest few read i.along in
    formula_of level scope (prefix_tree operator 0 interval (bare_syntax_tree f)) before _ rest (record {
      phrase = Before operator h.0 i.phrase a.phrase;
      after = a.after;
      along = a.along;
      tree_is = bare_prefix operator h.0 (phrases.interval_of i.phrase) (phrases.unary_tree a.phrase) ∙ (λ j. prefix_tree operator 0 (i.tree_is j) (a.tree_is j));
      fits = a.fits;
      spells = ap (λ r. (h.0, Prefix operator) ∷ grammar.interval_fold spell (level + 1) scope i.phrase r) a.spells ∙ ap (λ r. (h.0, Prefix operator) ∷ r) i.spells ∙ sym h.2;
      levels = ap (λ r. (level, Prefix operator) ∷ grammar.interval_fold leveled (level + 1) scope i.phrase r) a.levels ∙ ap (λ r. (level, Prefix operator) ∷ r) i.levels;
      rooms = λ o. room_is scope _ few ∙ i.rooms _ ∙ a.rooms o;
    })

bare_quantifier : (quantifier : quantifiers.Quantifier) (place : ℕ) (xs : List Binding) (f : SyntaxTree)
    → bare_syntax_tree (quantifier_tree quantifier place xs f) ≡ quantifier_tree quantifier 0 (map bare_binding xs) (bare_syntax_tree f)
bare_quantifier quantifier_words.Exists place xs f = refl
bare_quantifier quantifier_words.Forall place xs f = refl

-- as many variables
scope_same : (scope : ℕ) (xs ys : List Binding) → map bare_binding xs ≡ map bare_binding ys → scope + length xs ≡ scope + length ys
scope_same scope xs ys e =
    ap (λ (n : ℕ). scope + n) (sym (length-map xs bare_binding) ∙ ap length e ∙ length-map ys bare_binding)

quantified_along : (quantifier : quantifiers.Quantifier) (level scope : ℕ) (x : Binding) (xs : List Binding) (f : SyntaxTree) (before : List PlacedLexeme) (rest : List Leveled)
    → scope ≤ MOST_VARIABLES → scope + length (x ∷ xs) ≤ MOST_VARIABLES → IsReadAlong (scope + length (x ∷ xs)) f
    → Along before ((level, Quantifier quantifier) ∷ list_written variable_written (level + 1) (x ∷ xs) ((level + 1, Symbol symbol.Dot) ∷ operand_written f (level + 1) rest))
    → FormulaAlong level scope before ((level, Quantifier quantifier) ∷ list_written variable_written (level + 1) (x ∷ xs)
    ((level + 1, Symbol symbol.Dot) ∷ operand_written f (level + 1) rest)) rest (quantifier_tree quantifier 0 (map bare_binding (x ∷ xs)) (bare_syntax_tree f))
quantified_along quantifier level scope x xs f before rest few many read h =
    let v = variables_along (level + 1) scope x xs h.1 ((level + 1, Symbol symbol.Dot) ∷ operand_written f (level + 1) rest) many h.3 in
    let dot = v.along in
    let a = operand_along (level + 1) (scope + length (x ∷ xs)) f dot.1 rest many read dot.3 in
    let same : scope_behind scope v.phrase ≡ scope + length (x ∷ xs) = scope_same scope (phrases.variables_list v.phrase) (x ∷ xs) v.tree_is in
    let inner : grammar.unary_fold spell (level + 1) (scope_behind scope v.phrase) a.phrase a.after ≡ dot.1 =
    ap (λ (n : ℕ). grammar.unary_fold spell (level + 1) n a.phrase a.after) same ∙ a.spells in
    let inner_levels : grammar.unary_fold leveled (level + 1) (scope_behind scope v.phrase) a.phrase rest ≡ operand_written f (level + 1) rest =
    ap (λ (n : ℕ). grammar.unary_fold leveled (level + 1) n a.phrase rest) same ∙ a.levels in
    record {
      phrase = alone (Quantified quantifier h.0 v.phrase dot.0 (alone a.phrase));
      after = a.after;
      along = a.along;
      tree_is = bare_quantifier quantifier h.0 (phrases.variables_list v.phrase) (phrases.unary_tree a.phrase) ∙ (λ j. quantifier_tree quantifier 0 (v.tree_is j) (a.tree_is j));
      fits = λ next closes. alone_fits (Quantified quantifier h.0 v.phrase dot.0 (alone a.phrase)) next closes (alone_fits a.phrase next closes (a.fits next));
      spells = ap (λ r. (h.0, Quantifier quantifier) ∷ grammar.variables_fold spell (level + 1) scope v.phrase ((dot.0, Symbol symbol.Dot) ∷ r)) inner
          ∙ ap (λ r. (h.0, Quantifier quantifier) ∷ grammar.variables_fold spell (level + 1) scope v.phrase r) (sym dot.2) ∙ ap (λ r. (h.0, Quantifier quantifier) ∷ r) v.spells ∙ sym h.2;
      levels = ap (λ r. (level, Quantifier quantifier) ∷ grammar.variables_fold leveled (level + 1) scope v.phrase ((level + 1, Symbol symbol.Dot) ∷ r)) inner_levels
          ∙ ap (λ r. (level, Quantifier quantifier) ∷ r) v.levels;
      rooms = λ o. room_is scope _ few ∙ v.rooms _
          ∙ ap (λ (n : ℕ). roomy (level + 1) n dot.0 (Symbol symbol.Dot) (grammar.unary_fold roomy (level + 1) n a.phrase o)) same
          ∙ room_is (scope + length (x ∷ xs)) _ many ∙ a.rooms o;
    }

conjunction_along : (level scope : ℕ) (f g : SyntaxTree) (before : List PlacedLexeme) (rest : List Leveled) → scope ≤ MOST_VARIABLES → IsReadAlong scope f → IsReadAlong scope g
    → Along before (operand_written f level ((level, Symbol symbol.And) ∷ operand_written g (level + 1) rest))
    → FormulaAlong level scope before (operand_written f level ((level, Symbol symbol.And) ∷ operand_written g (level + 1) rest)) rest (tree.AndTree 0 (bare_syntax_tree f) (bare_syntax_tree g))
conjunction_along level scope f g before rest few read_f read_g h =
    let a = operand_along level scope f before ((level, Symbol symbol.And) ∷ operand_written g (level + 1) rest) few read_f h in
    let c = a.along in
    let b = operand_along (level + 1) scope g c.1 rest few read_g c.3 in
    record {
      phrase = OneSide (OneCase (Conjunction (OneOperand a.phrase) c.0 (OnePart (OneOperand b.phrase))));
      after = b.after;
      along = b.along;
      tree_is = (λ j. tree.AndTree 0 (a.tree_is j) (b.tree_is j));
      fits = λ next closes. ((((a.fits (Symbol symbol.And), λ operator e. cc), ((b.fits next, closes.not_infix), closes.not_and)), closes.not_or), closes.not_arrow);
      spells = ap (λ r. grammar.unary_fold spell level scope a.phrase ((c.0, Symbol symbol.And) ∷ r)) b.spells ∙ ap (grammar.unary_fold spell level scope a.phrase) (sym c.2) ∙ a.spells;
      levels = ap (λ r. grammar.unary_fold leveled level scope a.phrase ((level, Symbol symbol.And) ∷ r)) b.levels ∙ a.levels;
      rooms = λ o. a.rooms _ ∙ room_is scope _ few ∙ b.rooms o;
    }

disjunction_along : (level scope : ℕ) (f g : SyntaxTree) (before : List PlacedLexeme) (rest : List Leveled) → scope ≤ MOST_VARIABLES → IsReadAlong scope f → IsReadAlong scope g
    → Along before (operand_written f level ((level, Symbol symbol.Or) ∷ operand_written g (level + 1) rest))
    → FormulaAlong level scope before (operand_written f level ((level, Symbol symbol.Or) ∷ operand_written g (level + 1) rest)) rest (tree.OrTree 0 (bare_syntax_tree f) (bare_syntax_tree g))
disjunction_along level scope f g before rest few read_f read_g h =
    let a = operand_along level scope f before ((level, Symbol symbol.Or) ∷ operand_written g (level + 1) rest) few read_f h in
    let c = a.along in
    let b = operand_along (level + 1) scope g c.1 rest few read_g c.3 in
    record {
      phrase = OneSide (Disjunction (OnePart (OneOperand a.phrase)) c.0 (OneCase (OnePart (OneOperand b.phrase))));
      after = b.after;
      along = b.along;
      tree_is = (λ j. tree.OrTree 0 (a.tree_is j) (b.tree_is j));
      fits = λ next closes. ((((a.fits (Symbol symbol.Or), λ operator e. cc), λ e. cc), (((b.fits next, closes.not_infix), closes.not_and), closes.not_or)), closes.not_arrow);
      spells = ap (λ r. grammar.unary_fold spell level scope a.phrase ((c.0, Symbol symbol.Or) ∷ r)) b.spells ∙ ap (grammar.unary_fold spell level scope a.phrase) (sym c.2) ∙ a.spells;
      levels = ap (λ r. grammar.unary_fold leveled level scope a.phrase ((level, Symbol symbol.Or) ∷ r)) b.levels ∙ a.levels;
      rooms = λ o. a.rooms _ ∙ room_is scope _ few ∙ b.rooms o;
    }

implication_along : (level scope : ℕ) (f g : SyntaxTree) (before : List PlacedLexeme) (rest : List Leveled) → scope ≤ MOST_VARIABLES → IsReadAlong scope f → IsReadAlong scope g
    → Along before (operand_written f level ((level, Symbol symbol.Arrow) ∷ operand_written g (level + 1) rest))
    → FormulaAlong level scope before (operand_written f level ((level, Symbol symbol.Arrow) ∷ operand_written g (level + 1) rest)) rest (tree.ImpliesTree 0 (bare_syntax_tree f) (bare_syntax_tree g))
implication_along level scope f g before rest few read_f read_g h =
    let a = operand_along level scope f before ((level, Symbol symbol.Arrow) ∷ operand_written g (level + 1) rest) few read_f h in
    let c = a.along in
    let b = operand_along (level + 1) scope g c.1 rest few read_g c.3 in
    record {
      phrase = Implication (OneCase (OnePart (OneOperand a.phrase))) c.0 (alone b.phrase);
      after = b.after;
      along = b.along;
      tree_is = (λ j. tree.ImpliesTree 0 (a.tree_is j) (b.tree_is j));
      fits = λ next closes. ((((a.fits (Symbol symbol.Arrow), λ operator e. cc), λ e. cc), λ e. cc), alone_fits b.phrase next closes (b.fits next));
      spells = ap (λ r. grammar.unary_fold spell level scope a.phrase ((c.0, Symbol symbol.Arrow) ∷ r)) b.spells ∙ ap (grammar.unary_fold spell level scope a.phrase) (sym c.2) ∙ a.spells;
      levels = ap (λ r. grammar.unary_fold leveled level scope a.phrase ((level, Symbol symbol.Arrow) ∷ r)) b.levels ∙ a.levels;
      rooms = λ o. a.rooms _ ∙ room_is scope _ few ∙ b.rooms o;
    }

bare_infix : (operator : infixes.Infix) (place : ℕ) (interval : Interval) (f g : SyntaxTree)
    → bare_syntax_tree (infix_tree operator place interval f g) ≡ infix_tree operator 0 interval (bare_syntax_tree f) (bare_syntax_tree g)
bare_infix infix_words.Since place interval f g = refl
bare_infix infix_words.Until place interval f g = refl

between_along : (operator : infixes.Infix) (level scope : ℕ) (interval : Interval) (f g : SyntaxTree) (before : List PlacedLexeme) (rest : List Leveled)
    → scope ≤ MOST_VARIABLES → IsReadAlong scope f → IsReadAlong scope g
    → Along before (operand_written f level ((level, Infix operator) ∷ interval_written level interval (operand_written g (level + 1) rest)))
    → FormulaAlong level scope before (operand_written f level ((level, Infix operator) ∷ interval_written level interval (operand_written g (level + 1) rest))) rest
    (infix_tree operator 0 interval (bare_syntax_tree f) (bare_syntax_tree g))
between_along operator level scope interval f g before rest few read_f read_g h =
    let a = operand_along level scope f before ((level, Infix operator) ∷ interval_written level interval (operand_written g (level + 1) rest)) few read_f h in
    let c = a.along in
    let i = interval_along level scope interval c.1 (operand_written g (level + 1) rest) few c.3 in
    let b = operand_along (level + 1) scope g i.after rest few read_g i.along in
    record {
      phrase = OneSide (OneCase (OnePart (Between a.phrase operator c.0 i.phrase b.phrase)));
      after = b.after;
      along = b.along;
      tree_is = bare_infix operator c.0 (phrases.interval_of i.phrase) (phrases.unary_tree a.phrase) (phrases.unary_tree b.phrase)
          ∙ (λ j. infix_tree operator 0 (i.tree_is j) (a.tree_is j) (b.tree_is j));
      fits = λ next closes. ((((a.fits (Infix operator), b.fits next), closes.not_and), closes.not_or), closes.not_arrow);
      spells = ap (λ r. grammar.unary_fold spell level scope a.phrase ((c.0, Infix operator) ∷ grammar.interval_fold spell level scope i.phrase r)) b.spells
          ∙ ap (λ r. grammar.unary_fold spell level scope a.phrase ((c.0, Infix operator) ∷ r)) i.spells ∙ ap (grammar.unary_fold spell level scope a.phrase) (sym c.2) ∙ a.spells;
      levels = ap (λ r. grammar.unary_fold leveled level scope a.phrase ((level, Infix operator) ∷ grammar.interval_fold leveled level scope i.phrase r)) b.levels
          ∙ ap (λ r. grammar.unary_fold leveled level scope a.phrase ((level, Infix operator) ∷ r)) i.levels ∙ a.levels;
      rooms = λ o. a.rooms _ ∙ room_is scope _ few ∙ i.rooms _ ∙ b.rooms o;
    }

-- ---- formulas

some_variables : (quantifier : quantifiers.Quantifier) (level scope : ℕ) (xs : List Binding) (f : SyntaxTree) (before : List PlacedLexeme) (rest : List Leveled)
    → scope ≤ MOST_VARIABLES → scope + length xs ≤ MOST_VARIABLES → xs ≢ [] → IsReadAlong (scope + length xs) f
    → Along before ((level, Quantifier quantifier) ∷ list_written variable_written (level + 1) xs ((level + 1, Symbol symbol.Dot) ∷ operand_written f (level + 1) rest))
    → FormulaAlong level scope before ((level, Quantifier quantifier) ∷ list_written variable_written (level + 1) xs
    ((level + 1, Symbol symbol.Dot) ∷ operand_written f (level + 1) rest)) rest (quantifier_tree quantifier 0 (map bare_binding xs) (bare_syntax_tree f))
some_variables quantifier level scope [] f before rest few many some read h = absurd (some refl)
some_variables quantifier level scope (x ∷ xs) f before rest few many some read h = quantified_along quantifier level scope x xs f before rest few many read h

pub formula_along : (f : SyntaxTree) (scope : ℕ) → scope ≤ MOST_VARIABLES → KeepsLimits scope f → IsWritable f → IsReadAlong scope f
formula_along (tree.TrueTree place) scope few k w level before rest h =
    formula_of level scope (tree.TrueTree 0) before _ rest (operand_of level scope (tree.TrueTree 0) before _ rest (truth_along level scope true before rest few h))
formula_along (tree.FalseTree place) scope few k w level before rest h =
    formula_of level scope (tree.FalseTree 0) before _ rest (operand_of level scope (tree.FalseTree 0) before _ rest (truth_along level scope false before rest few h))
formula_along (tree.AtomTree place name ts) scope few k w level before rest h =
    formula_of level scope (tree.AtomTree 0 name (map bare_term ts)) before _ rest (operand_of level scope (tree.AtomTree 0 name (map bare_term ts)) before _ rest
    (event_along level scope name ts before rest few h))
formula_along (tree.EqualTree place s t) scope few k w level before rest h =
    let whole : SyntaxTree = tree.EqualTree 0 (bare_term s) (bare_term t) in
    formula_of level scope whole before _ rest (operand_of level scope whole before _ rest (comparison_along level scope sign_marks.Equal s t before rest few h))
formula_along (tree.LessTree place s t) scope few k w level before rest h =
    let whole : SyntaxTree = tree.LessTree 0 (bare_term s) (bare_term t) in
    formula_of level scope whole before _ rest (operand_of level scope whole before _ rest (comparison_along level scope sign_marks.Less s t before rest few h))
formula_along (tree.AtMostTree place s t) scope few k w level before rest h =
    let whole : SyntaxTree = tree.AtMostTree 0 (bare_term s) (bare_term t) in
    formula_of level scope whole before _ rest (operand_of level scope whole before _ rest (comparison_along level scope sign_marks.AtMost s t before rest few h))
formula_along (tree.NotTree place f) scope few k w level before rest h = negation_along level scope f before rest few (formula_along f scope few k w) h
formula_along (tree.AndTree place f g) scope few k w level before rest h =
    conjunction_along level scope f g before rest few (formula_along f scope few k.0 w.0) (formula_along g scope few k.1 w.1) h
formula_along (tree.OrTree place f g) scope few k w level before rest h =
    disjunction_along level scope f g before rest few (formula_along f scope few k.0 w.0) (formula_along g scope few k.1 w.1) h
formula_along (tree.ImpliesTree place f g) scope few k w level before rest h =
    implication_along level scope f g before rest few (formula_along f scope few k.0 w.0) (formula_along g scope few k.1 w.1) h
formula_along (tree.ExistsTree place xs f) scope few k w level before rest h =
    some_variables quantifier_words.Exists level scope xs f before rest few k.0 w.0.0 (formula_along f (scope + length xs) k.0 k.2 w.1) h
formula_along (tree.ForallTree place xs f) scope few k w level before rest h =
    some_variables quantifier_words.Forall level scope xs f before rest few k.0 w.0.0 (formula_along f (scope + length xs) k.0 k.2 w.1) h
formula_along (tree.PrevTree place interval f) scope few k w level before rest h =
    before_along prefix_words.Prev level scope interval f before rest few (formula_along f scope few k.1 w.1) h
formula_along (tree.NextTree place interval f) scope few k w level before rest h =
    before_along prefix_words.Next level scope interval f before rest few (formula_along f scope few k.1 w.1) h
formula_along (tree.OnceTree place interval f) scope few k w level before rest h =
    before_along prefix_words.Once level scope interval f before rest few (formula_along f scope few k.1 w.1) h
formula_along (tree.HistoricallyTree place interval f) scope few k w level before rest h =
    before_along prefix_words.Historically level scope interval f before rest few (formula_along f scope few k.1 w.1) h
formula_along (tree.SinceTree place interval f g) scope few k w level before rest h =
    between_along infix_words.Since level scope interval f g before rest few (formula_along f scope few k.1 w.1) (formula_along g scope few k.2 w.2) h
formula_along (tree.EventuallyTree place interval f) scope few k w level before rest h =
    before_along prefix_words.Eventually level scope interval f before rest few (formula_along f scope few k.1 w.1) h
formula_along (tree.AlwaysTree place interval f) scope few k w level before rest h =
    before_along prefix_words.Always level scope interval f before rest few (formula_along f scope few k.1 w.1) h
formula_along (tree.UntilTree place interval f g) scope few k w level before rest h =
    between_along infix_words.Until level scope interval f g before rest few (formula_along f scope few k.1 w.1) (formula_along g scope few k.2 w.2) h

-- ---- rules

-- the phrase of a rule that was read along the lexemes that are written for it
record IsPhraseOf (rule : PolicyRule) (placed : List PlacedLexeme) : Type 0 where
  phrase : RulePhrase
  same : bare_rule (grammar.rule_tree phrase) ≡ bare_rule rule
  fits : grammar.RuleFits phrase
  spells : grammar.rule_fold spell phrase [] ≡ placed
  levels : grammar.rule_fold leveled phrase [] ≡ rule_written rule
  rooms : grammar.rule_fold roomy phrase true ≡ true

phrase_of : (rule : PolicyRule) (placed : List PlacedLexeme) → IsRule rule → IsWritableRule rule → map (λ (p : PlacedLexeme). p.1) placed ≡ kinds_written (rule_written rule) → IsPhraseOf rule placed
phrase_of rule placed limits writable same =
    let h : Along placed (rule_written rule) = along_of placed (rule_written rule) same in
    let name = h.3 in
    let colon = name.3 in
    let few : 0 ≤ MOST_VARIABLES = omega arith in
    let a = formula_along rule.formula 0 few limits.kept writable.formula 0 colon.1 ((0, Symbol symbol.Semicolon) ∷ []) colon.3 in
    let close = a.along in
    record {
      phrase = record { place = h.0; name_place = name.0; name = rule.name; colon = colon.0; formula = a.phrase; semicolon = close.0 };
      same = ap (λ (f : SyntaxTree). let r : PolicyRule = record { place = 0; name = rule.name; formula = f } in r) a.tree_is;
      fits = a.fits (Symbol symbol.Semicolon) semicolon;
      spells = ap (λ r. (h.0, Symbol symbol.Rule) ∷ (name.0, NameLexeme rule.name) ∷ (colon.0, Symbol symbol.Colon) ∷ grammar.formula_fold spell 0 0 a.phrase
          ((close.0, Symbol symbol.Semicolon) ∷ r)) (sym close.3)
          ∙ ap (λ r. (h.0, Symbol symbol.Rule) ∷ (name.0, NameLexeme rule.name) ∷ (colon.0, Symbol symbol.Colon) ∷ grammar.formula_fold spell 0 0 a.phrase r) (sym close.2)
          ∙ ap (λ r. (h.0, Symbol symbol.Rule) ∷ (name.0, NameLexeme rule.name) ∷ (colon.0, Symbol symbol.Colon) ∷ r) a.spells
          ∙ ap (λ r. (h.0, Symbol symbol.Rule) ∷ (name.0, NameLexeme rule.name) ∷ r) (sym colon.2) ∙ ap (λ r. (h.0, Symbol symbol.Rule) ∷ r) (sym name.2) ∙ sym h.2;
      levels = ap (λ r. (0, Symbol symbol.Rule) ∷ (0, NameLexeme rule.name) ∷ (0, Symbol symbol.Colon) ∷ r) a.levels;
      rooms = room_is 0 _ few ∙ room_is 0 _ few ∙ room_is 0 _ few ∙ a.rooms _ ∙ room_is 0 true few;
    }

-- the lexemes that are written are those of a policy, at the levels at which they are written
pub has_levels : (rule : PolicyRule) (placed : List PlacedLexeme) → IsRule rule → IsWritableRule rule → map (λ (p : PlacedLexeme). p.1) placed ≡ kinds_written (rule_written rule)
    → HasLexemeLevels placed (rule_written rule)
has_levels rule placed limits writable same =
    let p = phrase_of rule placed limits writable same in
    record { rules = p.phrase ∷ []; fits = (p.fits, tt); spells = p.spells; levels = levels_of_phrases (p.phrase ∷ []) ∙ p.levels }

pub read_again : (rule : PolicyRule) (placed : List PlacedLexeme) → IsRule rule → IsWritableRule rule → AreLow (rule_written rule)
    → map (λ (p : PlacedLexeme). p.1) placed ≡ kinds_written (rule_written rule) → IsRuleReadAgain placed rule
read_again rule placed limits writable low same =
    let p = phrase_of rule placed limits writable same in
    record {
      again = grammar.rule_tree p.phrase;
      read = record {
        phrase = p.phrase ∷ [];
        tree_is = refl;
        fits = (p.fits, tt);
        spells = p.spells;
        bounds = rooms_bound (p.phrase ∷ []) (subst AreLow (sym (levels_of_phrases (p.phrase ∷ []) ∙ p.levels)) low) p.rooms;
      };
      within = record {
        few = omega arith;
        each = (rule_anywhere rule (grammar.rule_tree p.phrase) p.same limits, tt);
        distinct = (λ there. let none : there.0 < 0 = there.1 in absurd (omega arith), tt);
      };
      same = p.same;
    }
