-- The places of the points of a text rise.
use Rattle.formula_reader.proofs.Vocabulary.{◌≡◌, ℕ, ◌+◌, ◌≤◌, zero, suc, Bool, true, false, List, [], ◌∷◌, ◌++◌, Option, None, Some, map, length, refl, sym, subst, arith, append_assoc}
use Rattle.formula_reader.proofs.Vocabulary.{option_to_list, Token, tokens_from, piece_at, Interval, VarId, TermPhrase, TermsPhrase, VariablesPhrase, IntervalPhrase, FormulaPhrase, OrPhrase}
use Rattle.formula_reader.proofs.Vocabulary.{AndPhrase, InfixPhrase, UnaryPhrase, PrimaryPhrase, RulePhrase, Plain, Minus, Quoted, LastTerm, NextTerm, LastVariable, NextVariable, OneSide, Implication}
use Rattle.formula_reader.proofs.Vocabulary.{OneCase, Disjunction, OnePart, Conjunction, OneOperand, Between, Negation, Before, Quantified, Primary, Parenthesis, Event, Comparison, spell, end_lexeme}
use Rattle.formula_reader.proofs.Vocabulary.{scope_behind, term_place, term_lexeme, PolicyLexeme, PlacedLexeme, Symbol, Truth, Prefix, Infix, Quantifier, Sign, NameLexeme, DigitsLexeme}
use Rattle.formula_reader.proofs.Vocabulary.{lexeme_of_token, SyntaxTree, PolicyRule, Binding, entry_columns, NameEntry, Sort, Int, NoSortWanted, ThisSort, SortOf, Point, EventName, Binder}
use Rattle.formula_reader.proofs.Vocabulary.{argument_points, binder_points, entry_named, syntax_term_place, points, use_of, bound_names, binding_names, variable_numbered, term_in, variable_named}
use Rattle.formula_reader.proofs.Vocabulary.{bound_variables_from, place_of_point}
use Rattle.policy_syntax.specs.meaning.Phrases.{Variable, Constant}
use Rattle.enf_value.specs.meaning.Tokens as token
use Rattle.policy_syntax.specs.meaning.Grammar as grammar
use Rattle.policy_syntax.specs.meaning.Phrases as phrases
use Rattle.policy_syntax.specs.declared.lexemes.Infix as infixes
use Rattle.policy_syntax.specs.declared.lexemes.Infix.TheVariants as infix_words
use Rattle.policy_syntax.specs.declared.lexemes.Prefix as prefixes
use Rattle.policy_syntax.specs.declared.lexemes.Prefix.TheVariants as prefix_words
use Rattle.policy_syntax.specs.declared.lexemes.Quantifier as quantifiers
use Rattle.policy_syntax.specs.declared.lexemes.Quantifier.TheVariants as quantifier_words
use Rattle.policy_syntax.specs.declared.lexemes.Sign as signs
use Rattle.policy_syntax.specs.declared.lexemes.Sign.TheVariants as sign_marks
use Rattle.policy_syntax.specs.declared.lexemes.Symbol.TheVariants as symbol

-- the places rise from a place on
abbrev pub RisesFrom : ℕ → List Point → Type 0
RisesFrom low [] = Unit {0}
RisesFrom low (point ∷ rest) = (low ≤ place_of_point point) × RisesFrom (place_of_point point + 1) rest

abbrev pub PlacedFrom : ℕ → List PlacedLexeme → Type 0
PlacedFrom low [] = Unit {0}
PlacedFrom low (placed ∷ rest) = (low ≤ placed.0) × PlacedFrom (placed.0 + 1) rest

from_lower : (low high : ℕ) (ps : List Point) → low ≤ high → RisesFrom high ps → RisesFrom low ps
from_lower low high [] le h = tt
from_lower low high (p ∷ ps) le h = let a : high ≤ place_of_point p = h.0 in (omega arith, h.1)

placed_lower : (low high : ℕ) (ps : List PlacedLexeme) → low ≤ high → PlacedFrom high ps → PlacedFrom low ps
placed_lower low high [] le h = tt
placed_lower low high (p ∷ ps) le h = let a : high ≤ p.0 = h.0 in (omega arith, h.1)

-- ---- the lexemes of a text

abbrev pub as_lexemes : List token.TokenAtPlace → List PlacedLexeme
as_lexemes placed = map (λ p. (p.0, lexeme_of_token p.1)) placed

pub tokens_rise : (left place : ℕ) (bytes : List ℕ) → PlacedFrom place (as_lexemes (tokens_from left place bytes))
tokens_rise left place [] = tt
tokens_rise (suc left) place (byte ∷ rest) =
    placed_lower place (place + 1) (as_lexemes (tokens_from left (place + 1) rest)) (omega arith) (tokens_rise left (place + 1) rest)
tokens_rise zero place (byte ∷ rest) = by (piece_at byte rest).0 (tokens_from _ (place + 1) rest) (tokens_rise _ (place + 1) rest)
  where
    by : (found : Option Token) (more : List token.TokenAtPlace) → PlacedFrom (place + 1) (as_lexemes more)
        → PlacedFrom place (as_lexemes (map (λ t. (place, t)) (option_to_list found) ++ more))
    by None more h = placed_lower place (place + 1) (as_lexemes more) (omega arith) h
    by (Some t) more h = (omega arith, h)

-- ---- the points of a phrase stand at its lexemes

-- where the places of lexemes rise from a place on, so do those of points
abbrev pub Follows : List PlacedLexeme → List Point → Type 0
Follows placed ps = (low : ℕ) → PlacedFrom low placed → RisesFrom low ps

skip : (place : ℕ) (lexeme : PolicyLexeme) (rest : List PlacedLexeme) (ps : List Point) → Follows rest ps → Follows ((place, lexeme) ∷ rest) ps
skip place lexeme rest ps f low h =
    let a : low ≤ place = h.0 in from_lower low (place + 1) ps (omega arith) (f (place + 1) h.1)

take : (place : ℕ) (lexeme : PolicyLexeme) (rest : List PlacedLexeme) (point : Point) (ps : List Point) → place_of_point point ≡ place → Follows rest ps → Follows ((place, lexeme) ∷ rest) (point ∷ ps)
take place lexeme rest point ps e f low h =
    let a : low ≤ place = h.0 in
    let b : low ≤ place_of_point point = omega arith in
    (b, subst (λ (n : ℕ). RisesFrom (n + 1) ps) (sym e) (f (place + 1) h.1))

regroup : (rest : List PlacedLexeme) (a b c : List Point) → Follows rest (a ++ (b ++ c)) → Follows rest ((a ++ b) ++ c)
regroup rest a b c f = subst (Follows rest) (sym (append_assoc a b c)) f

same_points : (rest : List PlacedLexeme) (a b c : List Point) → a ≡ b → Follows rest (b ++ c) → Follows rest (a ++ c)
same_points rest a b c e f = subst (λ (ps : List Point). Follows rest (ps ++ c)) (sym e) f

term_at : (t : TermPhrase) → syntax_term_place (phrases.term_tree t) ≡ term_place t
term_at (Variable place name) = refl
term_at (Plain place value) = refl
term_at (Minus place value) = refl
term_at (Quoted place text) = refl

terms_follow : (ts : TermsPhrase) (level s : ℕ) (names : List (List ℕ)) (scope : List VarId) (sorts : List Sort) (rest : List PlacedLexeme) (ps : List Point) → Follows rest ps
    → Follows (grammar.terms_fold spell level s ts rest) (argument_points names scope sorts (phrases.terms_list ts) ++ ps)
terms_follow (LastTerm t) level s names scope [] rest ps f = take (term_place t) (term_lexeme t) rest (use_of names scope (phrases.term_tree t) NoSortWanted) ps (term_at t) f
terms_follow (LastTerm t) level s names scope (sort ∷ sorts) rest ps f = take (term_place t) (term_lexeme t) rest (use_of names scope (phrases.term_tree t) (ThisSort sort)) ps (term_at t) f
terms_follow (NextTerm t comma ts) level s names scope [] rest ps f =
    let more = grammar.terms_fold spell level s ts rest in
    let others = argument_points names scope [] (phrases.terms_list ts) ++ ps in
    take (term_place t) (term_lexeme t) ((comma, Symbol symbol.Comma) ∷ more) (use_of names scope (phrases.term_tree t) NoSortWanted) others (term_at t)
    (skip comma (Symbol symbol.Comma) more others (terms_follow ts level s names scope [] rest ps f))
terms_follow (NextTerm t comma ts) level s names scope (sort ∷ sorts) rest ps f =
    let more = grammar.terms_fold spell level s ts rest in
    let others = argument_points names scope sorts (phrases.terms_list ts) ++ ps in
    take (term_place t) (term_lexeme t) ((comma, Symbol symbol.Comma) ∷ more) (use_of names scope (phrases.term_tree t) (ThisSort sort)) others (term_at t)
    (skip comma (Symbol symbol.Comma) more others (terms_follow ts level s names scope sorts rest ps f))

some_follow : (ts : Option TermsPhrase) (level s : ℕ) (names : List (List ℕ)) (scope : List VarId) (sorts : List Sort) (rest : List PlacedLexeme) (ps : List Point) → Follows rest ps
    → Follows (grammar.some_terms_fold spell level s ts rest) (argument_points names scope sorts (phrases.some_terms_list ts) ++ ps)
some_follow None level s names scope sorts rest ps f = f
some_follow (Some ts) level s names scope sorts rest ps f = terms_follow ts level s names scope sorts rest ps f

variables_follow : (xs : VariablesPhrase) (level s : ℕ) (names : List (List ℕ)) (scope : List VarId) (rest : List PlacedLexeme) (ps : List Point) → Follows rest ps
    → Follows (grammar.variables_fold spell level s xs rest) (binder_points names scope (phrases.variables_list xs) ++ ps)
variables_follow (LastVariable x) level s names scope rest ps f = take x.place (NameLexeme x.name) rest (Binder x.place (variable_named names scope x.name)) ps refl f
variables_follow (NextVariable x comma xs) level s names scope rest ps f =
    let more = grammar.variables_fold spell level (s + 1) xs rest in
    let others = binder_points (names ++ x.name ∷ []) (scope ++ variable_numbered (length names) ∷ []) (phrases.variables_list xs) ++ ps in
    take x.place (NameLexeme x.name) ((comma, Symbol symbol.Comma) ∷ more) (Binder x.place (variable_named names scope x.name)) others refl
    (skip comma (Symbol symbol.Comma) more others (variables_follow xs level (s + 1) (names ++ x.name ∷ []) (scope ++ variable_numbered (length names) ∷ []) rest ps f))

interval_follow : (i : IntervalPhrase) (level s : ℕ) (rest : List PlacedLexeme) (ps : List Point) → Follows rest ps → Follows (grammar.interval_fold spell level s i rest) ps
interval_follow i level s rest ps f =
    let a5 : List PlacedLexeme = (i.close_bracket, Symbol symbol.CloseBracket) ∷ rest in
    let a4 : List PlacedLexeme = (i.high_place, end_lexeme i.high) ∷ a5 in
    let a3 : List PlacedLexeme = (i.comma, Symbol symbol.Comma) ∷ a4 in
    let a2 : List PlacedLexeme = (i.low_place, DigitsLexeme i.low) ∷ a3 in
    skip i.open_bracket (Symbol symbol.OpenBracket) a2 ps (skip i.low_place (DigitsLexeme i.low) a3 ps (skip i.comma (Symbol symbol.Comma) a4 ps
    (skip i.high_place (end_lexeme i.high) a5 ps (skip i.close_bracket (Symbol symbol.CloseBracket) rest ps f))))

-- the points of operators and quantifiers
sign_points : (entries : List NameEntry) (names : List (List ℕ)) (scope : List VarId) (sign : signs.Sign) (place level s : ℕ) (a b : TermPhrase) (rest : List PlacedLexeme)
    (ps : List Point) → Follows rest ps
    → Follows (grammar.term_fold spell level s a ((place, Sign sign) ∷ grammar.term_fold spell level s b rest))
    (points entries names scope (phrases.sign_tree sign place (phrases.term_tree a) (phrases.term_tree b)) ++ ps)
sign_points entries names scope sign_marks.Equal place level s a b rest ps f =
    let second = use_of names scope (phrases.term_tree b) (SortOf (term_in names scope (phrases.term_tree a))) in
    let behind : List PlacedLexeme = (term_place b, term_lexeme b) ∷ rest in
    take (term_place a) (term_lexeme a) ((place, Sign sign_marks.Equal) ∷ behind) (use_of names scope (phrases.term_tree a) NoSortWanted) (second ∷ ps) (term_at a)
    (skip place (Sign sign_marks.Equal) behind (second ∷ ps) (take (term_place b) (term_lexeme b) rest second ps (term_at b) f))
sign_points entries names scope sign_marks.Less place level s a b rest ps f =
    let second = use_of names scope (phrases.term_tree b) (ThisSort Int) in
    let behind : List PlacedLexeme = (term_place b, term_lexeme b) ∷ rest in
    take (term_place a) (term_lexeme a) ((place, Sign sign_marks.Less) ∷ behind) (use_of names scope (phrases.term_tree a) (ThisSort Int)) (second ∷ ps) (term_at a)
    (skip place (Sign sign_marks.Less) behind (second ∷ ps) (take (term_place b) (term_lexeme b) rest second ps (term_at b) f))
sign_points entries names scope sign_marks.AtMost place level s a b rest ps f =
    let second = use_of names scope (phrases.term_tree b) (ThisSort Int) in
    let behind : List PlacedLexeme = (term_place b, term_lexeme b) ∷ rest in
    take (term_place a) (term_lexeme a) ((place, Sign sign_marks.AtMost) ∷ behind) (use_of names scope (phrases.term_tree a) (ThisSort Int)) (second ∷ ps) (term_at a)
    (skip place (Sign sign_marks.AtMost) behind (second ∷ ps) (take (term_place b) (term_lexeme b) rest second ps (term_at b) f))

truth_points : (entries : List NameEntry) (names : List (List ℕ)) (scope : List VarId) (value : Bool) (place : ℕ) → points entries names scope (phrases.truth_tree value place) ≡ []
truth_points entries names scope true place = refl
truth_points entries names scope false place = refl

prefix_points : (entries : List NameEntry) (names : List (List ℕ)) (scope : List VarId) (operator : prefixes.Prefix) (place : ℕ) (interval : Interval) (f : SyntaxTree)
    → points entries names scope (phrases.prefix_tree operator place interval f) ≡ points entries names scope f
prefix_points entries names scope prefix_words.Prev place interval f = refl
prefix_points entries names scope prefix_words.Next place interval f = refl
prefix_points entries names scope prefix_words.Once place interval f = refl
prefix_points entries names scope prefix_words.Historically place interval f = refl
prefix_points entries names scope prefix_words.Eventually place interval f = refl
prefix_points entries names scope prefix_words.Always place interval f = refl

infix_points : (entries : List NameEntry) (names : List (List ℕ)) (scope : List VarId) (operator : infixes.Infix) (place : ℕ) (interval : Interval) (f g : SyntaxTree)
    → points entries names scope (phrases.infix_tree operator place interval f g) ≡ points entries names scope f ++ points entries (names ++ bound_names f) scope g
infix_points entries names scope infix_words.Since place interval f g = refl
infix_points entries names scope infix_words.Until place interval f g = refl

quantifier_points : (entries : List NameEntry) (names : List (List ℕ)) (scope : List VarId) (quantifier : quantifiers.Quantifier) (place : ℕ) (xs : List Binding) (f : SyntaxTree)
    → points entries names scope (phrases.quantifier_tree quantifier place xs f)
    ≡ binder_points names scope xs ++ points entries (names ++ binding_names xs) (scope ++ bound_variables_from (length names) xs) f
quantifier_points entries names scope quantifier_words.Exists place xs f = refl
quantifier_points entries names scope quantifier_words.Forall place xs f = refl

mutual
  formula_follow : (f : FormulaPhrase) (entries : List NameEntry) (level s : ℕ) (names : List (List ℕ)) (scope : List VarId) (rest : List PlacedLexeme) (ps : List Point) → Follows rest ps
      → Follows (grammar.formula_fold spell level s f rest) (points entries names scope (phrases.formula_tree f) ++ ps)
  formula_follow (OneSide f) entries level s names scope rest ps h = or_follow f entries level s names scope rest ps h
  formula_follow (Implication f place g) entries level s names scope rest ps h =
      let right = points entries (names ++ bound_names (phrases.or_tree f)) scope (phrases.formula_tree g) in
      regroup (grammar.formula_fold spell level s (Implication f place g) rest) (points entries names scope (phrases.or_tree f)) right ps
      (or_follow f entries level s names scope ((place, Symbol symbol.Arrow) ∷ grammar.formula_fold spell (level + 1) s g rest) (right ++ ps)
      (skip place (Symbol symbol.Arrow) (grammar.formula_fold spell (level + 1) s g rest) (right ++ ps)
      (formula_follow g entries (level + 1) s (names ++ bound_names (phrases.or_tree f)) scope rest ps h)))

  or_follow : (f : OrPhrase) (entries : List NameEntry) (level s : ℕ) (names : List (List ℕ)) (scope : List VarId) (rest : List PlacedLexeme) (ps : List Point) → Follows rest ps
      → Follows (grammar.or_fold spell level s f rest) (points entries names scope (phrases.or_tree f) ++ ps)
  or_follow (OneCase f) entries level s names scope rest ps h = and_follow f entries level s names scope rest ps h
  or_follow (Disjunction f place g) entries level s names scope rest ps h =
      let right = points entries (names ++ bound_names (phrases.and_tree f)) scope (phrases.or_tree g) in
      regroup (grammar.or_fold spell level s (Disjunction f place g) rest) (points entries names scope (phrases.and_tree f)) right ps
      (and_follow f entries level s names scope ((place, Symbol symbol.Or) ∷ grammar.or_fold spell (level + 1) s g rest) (right ++ ps)
      (skip place (Symbol symbol.Or) (grammar.or_fold spell (level + 1) s g rest) (right ++ ps)
      (or_follow g entries (level + 1) s (names ++ bound_names (phrases.and_tree f)) scope rest ps h)))

  and_follow : (f : AndPhrase) (entries : List NameEntry) (level s : ℕ) (names : List (List ℕ)) (scope : List VarId) (rest : List PlacedLexeme) (ps : List Point) → Follows rest ps
      → Follows (grammar.and_fold spell level s f rest) (points entries names scope (phrases.and_tree f) ++ ps)
  and_follow (OnePart f) entries level s names scope rest ps h = infix_follow f entries level s names scope rest ps h
  and_follow (Conjunction f place g) entries level s names scope rest ps h =
      let right = points entries (names ++ bound_names (phrases.binary_tree f)) scope (phrases.and_tree g) in
      regroup (grammar.and_fold spell level s (Conjunction f place g) rest) (points entries names scope (phrases.binary_tree f)) right ps
      (infix_follow f entries level s names scope ((place, Symbol symbol.And) ∷ grammar.and_fold spell (level + 1) s g rest) (right ++ ps)
      (skip place (Symbol symbol.And) (grammar.and_fold spell (level + 1) s g rest) (right ++ ps)
      (and_follow g entries (level + 1) s (names ++ bound_names (phrases.binary_tree f)) scope rest ps h)))

  infix_follow : (f : InfixPhrase) (entries : List NameEntry) (level s : ℕ) (names : List (List ℕ)) (scope : List VarId) (rest : List PlacedLexeme) (ps : List Point) → Follows rest ps
      → Follows (grammar.infix_fold spell level s f rest) (points entries names scope (phrases.binary_tree f) ++ ps)
  infix_follow (OneOperand f) entries level s names scope rest ps h = unary_follow f entries level s names scope rest ps h
  infix_follow (Between f operator place interval g) entries level s names scope rest ps h =
      let left = points entries names scope (phrases.unary_tree f) in
      let right = points entries (names ++ bound_names (phrases.unary_tree f)) scope (phrases.unary_tree g) in
      let all = grammar.infix_fold spell level s (Between f operator place interval g) rest in
      let more = grammar.unary_fold spell (level + 1) s g rest in
      same_points all (points entries names scope (phrases.infix_tree operator place (phrases.interval_of interval) (phrases.unary_tree f) (phrases.unary_tree g))) (left ++ right) ps
      (infix_points entries names scope operator place (phrases.interval_of interval) (phrases.unary_tree f) (phrases.unary_tree g))
      (regroup all left right ps
      (unary_follow f entries level s names scope ((place, Infix operator) ∷ grammar.interval_fold spell level s interval more) (right ++ ps)
      (skip place (Infix operator) (grammar.interval_fold spell level s interval more) (right ++ ps)
      (interval_follow interval level s more (right ++ ps)
      (unary_follow g entries (level + 1) s (names ++ bound_names (phrases.unary_tree f)) scope rest ps h)))))

  unary_follow : (f : UnaryPhrase) (entries : List NameEntry) (level s : ℕ) (names : List (List ℕ)) (scope : List VarId) (rest : List PlacedLexeme) (ps : List Point) → Follows rest ps
      → Follows (grammar.unary_fold spell level s f rest) (points entries names scope (phrases.unary_tree f) ++ ps)
  unary_follow (Negation place f) entries level s names scope rest ps h =
      skip place (Symbol symbol.Not) (grammar.unary_fold spell (level + 1) s f rest) (points entries names scope (phrases.unary_tree f) ++ ps)
      (unary_follow f entries (level + 1) s names scope rest ps h)
  unary_follow (Before operator place interval f) entries level s names scope rest ps h =
      let own = points entries names scope (phrases.unary_tree f) in
      let more = grammar.unary_fold spell (level + 1) s f rest in
      same_points (grammar.unary_fold spell level s (Before operator place interval f) rest)
      (points entries names scope (phrases.prefix_tree operator place (phrases.interval_of interval) (phrases.unary_tree f))) own ps
      (prefix_points entries names scope operator place (phrases.interval_of interval) (phrases.unary_tree f))
      (skip place (Prefix operator) (grammar.interval_fold spell (level + 1) s interval more) (own ++ ps)
      (interval_follow interval (level + 1) s more (own ++ ps) (unary_follow f entries (level + 1) s names scope rest ps h)))
  unary_follow (Quantified quantifier place variables dot f) entries level s names scope rest ps h =
      let xs = phrases.variables_list variables in
      let all = grammar.unary_fold spell level s (Quantified quantifier place variables dot f) rest in
      let inner = points entries (names ++ binding_names xs) (scope ++ bound_variables_from (length names) xs) (phrases.formula_tree f) in
      let more = grammar.formula_fold spell (level + 1) (scope_behind s variables) f rest in
      same_points all (points entries names scope (phrases.quantifier_tree quantifier place xs (phrases.formula_tree f))) (binder_points names scope xs ++ inner) ps
      (quantifier_points entries names scope quantifier place xs (phrases.formula_tree f))
      (regroup all (binder_points names scope xs) inner ps
      (skip place (Quantifier quantifier) (grammar.variables_fold spell (level + 1) s variables ((dot, Symbol symbol.Dot) ∷ more)) (binder_points names scope xs ++ (inner ++ ps))
      (variables_follow variables (level + 1) s names scope ((dot, Symbol symbol.Dot) ∷ more) (inner ++ ps)
      (skip dot (Symbol symbol.Dot) more (inner ++ ps)
      (formula_follow f entries (level + 1) (scope_behind s variables) (names ++ binding_names xs) (scope ++ bound_variables_from (length names) xs) rest ps h)))))
  unary_follow (Primary f) entries level s names scope rest ps h = primary_follow f entries level s names scope rest ps h

  primary_follow : (f : PrimaryPhrase) (entries : List NameEntry) (level s : ℕ) (names : List (List ℕ)) (scope : List VarId) (rest : List PlacedLexeme) (ps : List Point) → Follows rest ps
      → Follows (grammar.primary_fold spell level s f rest) (points entries names scope (phrases.primary_tree f) ++ ps)
  primary_follow (Parenthesis open_paren f close) entries level s names scope rest ps h =
      let own = points entries names scope (phrases.formula_tree f) in
      skip open_paren (Symbol symbol.OpenParen) (grammar.formula_fold spell (level + 1) s f ((close, Symbol symbol.CloseParen) ∷ rest)) (own ++ ps)
      (formula_follow f entries (level + 1) s names scope ((close, Symbol symbol.CloseParen) ∷ rest) ps (skip close (Symbol symbol.CloseParen) rest ps h))
  primary_follow (Constant value place) entries level s names scope rest ps h =
      same_points ((place, Truth value) ∷ rest) (points entries names scope (phrases.truth_tree value place)) [] ps (truth_points entries names scope value place) (skip place (Truth value) rest ps h)
  primary_follow (Event place name arguments) entries level s names scope rest ps h =
      let terms = phrases.some_terms_list arguments.terms in
      let own = argument_points names scope (entry_columns (entry_named entries name)) terms in
      let more = grammar.some_terms_fold spell (level + 1) s arguments.terms ((arguments.close_paren, Symbol symbol.CloseParen) ∷ rest) in
      take place (NameLexeme name) ((arguments.open_paren, Symbol symbol.OpenParen) ∷ more) (EventName place name (length terms)) (own ++ ps) refl
      (skip arguments.open_paren (Symbol symbol.OpenParen) more (own ++ ps)
      (some_follow arguments.terms (level + 1) s names scope (entry_columns (entry_named entries name)) ((arguments.close_paren, Symbol symbol.CloseParen) ∷ rest) ps
      (skip arguments.close_paren (Symbol symbol.CloseParen) rest ps h)))
  primary_follow (Comparison a sign place b) entries level s names scope rest ps h = sign_points entries names scope sign place level s a b rest ps h

-- the points of all rules
abbrev pub all_points : List NameEntry → List PolicyRule → List Point
all_points entries [] = []
all_points entries (rule ∷ rules) = points entries [] [] rule.formula ++ all_points entries rules

pub policy_follow : (rules : List RulePhrase) (entries : List NameEntry) → Follows (grammar.policy_fold spell rules []) (all_points entries (grammar.policy_tree rules))
policy_follow [] entries = λ low h. tt
policy_follow (rule ∷ rules) entries =
    let others = all_points entries (grammar.policy_tree rules) in
    let own = points entries [] [] (phrases.formula_tree rule.formula) in
    let more = grammar.policy_fold spell rules [] in
    let inner = grammar.formula_fold spell 0 0 rule.formula ((rule.semicolon, Symbol symbol.Semicolon) ∷ more) in
    let colon : List PlacedLexeme = (rule.colon, Symbol symbol.Colon) ∷ inner in
    skip rule.place (Symbol symbol.Rule) ((rule.name_place, NameLexeme rule.name) ∷ colon) (own ++ others)
    (skip rule.name_place (NameLexeme rule.name) colon (own ++ others) (skip rule.colon (Symbol symbol.Colon) inner (own ++ others)
    (formula_follow rule.formula entries 0 0 [] [] ((rule.semicolon, Symbol symbol.Semicolon) ∷ more) others
    (skip rule.semicolon (Symbol symbol.Semicolon) more others (policy_follow rules entries)))))
