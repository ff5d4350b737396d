-- Formulas, put together from their parts.
use Rattle.policy_syntax.proofs.Vocabulary.{◌≡◌, ◌≢◌, ℕ, ◌+◌, ◌≤◌, length, Bool, true, false, IsTrue, ◌↔◌, true≢false, List, ◌∷◌, refl, sym, ap, subst, ◌∙◌, AllByRecursion, KeepsLimits, IsShortName}
use Rattle.policy_syntax.proofs.Vocabulary.{tree_size, SyntaxTree, Interval, OneSide, Implication, OneCase, Disjunction, OnePart, Conjunction, OneOperand, Between, Negation, Before, Quantified}
use Rattle.policy_syntax.proofs.Vocabulary.{Primary, Parenthesis, Constant, infix_tree, prefix_tree, quantifier_tree, truth_tree, bound, spell, scope_behind, Ahead, lexeme_of, PolicyLexeme}
use Rattle.policy_syntax.proofs.Vocabulary.{PlacedLexeme, Symbol, Truth, Prefix, Infix, Quantifier, next_lexeme, IsLexemeTaken, VariablesRead, IntervalRead, PrimaryRead, UnaryRead, InfixRead, AndRead}
use Rattle.policy_syntax.proofs.Vocabulary.{OrRead, FormulaRead, Not, And, Or, Arrow, OpenParen, CloseParen, Dot, MOST_VARIABLES, Depth, Binding}
use Rattle.policy_syntax.proofs.LexemeLimits.{bound_is}
use Rattle.policy_syntax.specs.declared.lexemes.Infix.TheVariants as infix_words
use Rattle.policy_syntax.specs.declared.lexemes.Prefix.TheVariants as prefix_words
use Rattle.policy_syntax.specs.declared.lexemes.Quantifier.TheVariants as quantifier_words
use Rattle.policy_syntax.specs.meaning.Grammar as grammar
use Rattle.policy_syntax.specs.declared.lexemes.Lexeme as read
use Rattle.policy_syntax.specs.declared.lexemes.Lexeme.TheVariants as variants
use Rattle.policy_syntax.specs.meaning.Trees as tree
use Rattle.policy_syntax.specs.declared.lexemes.Infix as infixes
use Rattle.policy_syntax.specs.declared.lexemes.Prefix as prefixes
use Rattle.policy_syntax.specs.declared.lexemes.Quantifier as quantifiers

-- one level deeper
abbrev pub deep : (level scope : ℕ) → Depth
deep level scope = record { level = level + 1; scope = scope }

abbrev pub the_depth : (level scope : ℕ) → Depth
the_depth level scope = record { level = level; scope = scope }

-- ---- a part alone

pub one_side : (level scope : ℕ) (before after : List PlacedLexeme) (f : SyntaxTree) → OrRead level scope before after f → next_lexeme after ≢ Symbol Arrow → FormulaRead level scope before after f
one_side level scope before after f r ends = record { phrase = OneSide r.phrase; tree_is = r.tree_is; fits = (r.fits, ends); spells = r.spells; bounds = r.bounds }

pub one_case : (level scope : ℕ) (before after : List PlacedLexeme) (f : SyntaxTree) → AndRead level scope before after f → next_lexeme after ≢ Symbol Or → OrRead level scope before after f
one_case level scope before after f r ends = record { phrase = OneCase r.phrase; tree_is = r.tree_is; fits = (r.fits, ends); spells = r.spells; bounds = r.bounds }

pub one_part : (level scope : ℕ) (before after : List PlacedLexeme) (f : SyntaxTree) → InfixRead level scope before after f → next_lexeme after ≢ Symbol And → AndRead level scope before after f
one_part level scope before after f r ends = record { phrase = OnePart r.phrase; tree_is = r.tree_is; fits = (r.fits, ends); spells = r.spells; bounds = r.bounds }

pub one_operand : (level scope : ℕ) (before after : List PlacedLexeme) (f : SyntaxTree) → UnaryRead level scope before after f
    → ((operator : infixes.Infix) → next_lexeme after ≢ Infix operator) → InfixRead level scope before after f
one_operand level scope before after f r ends = record { phrase = OneOperand r.phrase; tree_is = r.tree_is; fits = (r.fits, ends); spells = r.spells; bounds = r.bounds }

pub primary : (level scope : ℕ) (before after : List PlacedLexeme) (f : SyntaxTree) → PrimaryRead level scope before after f → UnaryRead level scope before after f
primary level scope before after f r = record { phrase = Primary r.phrase; tree_is = r.tree_is; fits = r.fits; spells = r.spells; bounds = r.bounds }

-- ---- two operands

pub implication : (level scope place : ℕ) (d : Depth) (f g : SyntaxTree) (before after : List PlacedLexeme) (s1 s2 : Ahead) → scope ≤ MOST_VARIABLES → d ≡ deep level scope
    → OrRead level scope before s1.rest f → IsLexemeTaken level (Symbol Arrow) place s1 s2 → FormulaRead d.level d.scope s2.rest after g
    → FormulaRead level scope before after (tree.ImpliesTree place f g)
implication level scope place d f g before after s1 s2 few e r t q =
    let p = subst (λ (x : Depth). FormulaRead x.level x.scope s2.rest after g) e q in
    record {
      phrase = Implication r.phrase place p.phrase;
      tree_is = (λ j. tree.ImpliesTree place (r.tree_is j) (p.tree_is j));
      fits = (subst (λ (next : PolicyLexeme). grammar.OrFits r.phrase next) (ap next_lexeme t.was) r.fits, p.fits);
      spells = ap (λ rest. grammar.or_fold spell level scope r.phrase ((place, Symbol Arrow) ∷ rest)) p.spells ∙ ap (grammar.or_fold spell level scope r.phrase) (sym t.was) ∙ r.spells;
      bounds = ap (grammar.or_fold bound level scope r.phrase) (bound_is level scope place (Symbol Arrow) _ t.low few ∙ p.bounds) ∙ r.bounds;
    }

pub disjunction : (level scope place : ℕ) (d : Depth) (f g : SyntaxTree) (before after : List PlacedLexeme) (s1 s2 : Ahead) → scope ≤ MOST_VARIABLES → d ≡ deep level scope
    → AndRead level scope before s1.rest f → IsLexemeTaken level (Symbol Or) place s1 s2 → OrRead d.level d.scope s2.rest after g → OrRead level scope before after (tree.OrTree place f g)
disjunction level scope place d f g before after s1 s2 few e r t q =
    let p = subst (λ (x : Depth). OrRead x.level x.scope s2.rest after g) e q in
    record {
      phrase = Disjunction r.phrase place p.phrase;
      tree_is = (λ j. tree.OrTree place (r.tree_is j) (p.tree_is j));
      fits = (subst (λ (next : PolicyLexeme). grammar.AndFits r.phrase next) (ap next_lexeme t.was) r.fits, p.fits);
      spells = ap (λ rest. grammar.and_fold spell level scope r.phrase ((place, Symbol Or) ∷ rest)) p.spells ∙ ap (grammar.and_fold spell level scope r.phrase) (sym t.was) ∙ r.spells;
      bounds = ap (grammar.and_fold bound level scope r.phrase) (bound_is level scope place (Symbol Or) _ t.low few ∙ p.bounds) ∙ r.bounds;
    }

pub conjunction : (level scope place : ℕ) (d : Depth) (f g : SyntaxTree) (before after : List PlacedLexeme) (s1 s2 : Ahead) → scope ≤ MOST_VARIABLES → d ≡ deep level scope
    → InfixRead level scope before s1.rest f → IsLexemeTaken level (Symbol And) place s1 s2 → AndRead d.level d.scope s2.rest after g → AndRead level scope before after (tree.AndTree place f g)
conjunction level scope place d f g before after s1 s2 few e r t q =
    let p = subst (λ (x : Depth). AndRead x.level x.scope s2.rest after g) e q in
    record {
      phrase = Conjunction r.phrase place p.phrase;
      tree_is = (λ j. tree.AndTree place (r.tree_is j) (p.tree_is j));
      fits = (subst (λ (next : PolicyLexeme). grammar.InfixFits r.phrase next) (ap next_lexeme t.was) r.fits, p.fits);
      spells = ap (λ rest. grammar.infix_fold spell level scope r.phrase ((place, Symbol And) ∷ rest)) p.spells ∙ ap (grammar.infix_fold spell level scope r.phrase) (sym t.was) ∙ r.spells;
      bounds = ap (grammar.infix_fold bound level scope r.phrase) (bound_is level scope place (Symbol And) _ t.low few ∙ p.bounds) ∙ r.bounds;
    }

pub between : (level scope place : ℕ) (operator : infixes.Infix) (interval : Interval) (d : Depth) (f g : SyntaxTree) (before after : List PlacedLexeme) (s1 s2 s3 : Ahead)
    → scope ≤ MOST_VARIABLES → d ≡ deep level scope
    → UnaryRead level scope before s1.rest f → IsLexemeTaken level (Infix operator) place s1 s2 → IntervalRead level scope s2.rest s3.rest interval → UnaryRead d.level d.scope s3.rest after g
    → InfixRead level scope before after (infix_tree operator place interval f g)
between level scope place operator interval d f g before after s1 s2 s3 few e r t i q =
    let p = subst (λ (x : Depth). UnaryRead x.level x.scope s3.rest after g) e q in
    record {
      phrase = Between r.phrase operator place i.phrase p.phrase;
      tree_is = (λ j. infix_tree operator place (i.tree_is j) (r.tree_is j) (p.tree_is j));
      fits = (subst (λ (next : PolicyLexeme). grammar.UnaryFits r.phrase next) (ap next_lexeme t.was) r.fits, p.fits);
      spells = ap (λ rest. grammar.unary_fold spell level scope r.phrase ((place, Infix operator) ∷ grammar.interval_fold spell level scope i.phrase rest)) p.spells
          ∙ ap (λ rest. grammar.unary_fold spell level scope r.phrase ((place, Infix operator) ∷ rest)) i.spells
          ∙ ap (grammar.unary_fold spell level scope r.phrase) (sym t.was) ∙ r.spells;
      bounds = ap (grammar.unary_fold bound level scope r.phrase) (bound_is level scope place (Infix operator) _ t.low few ∙ ap (grammar.interval_fold bound level scope i.phrase) p.bounds
          ∙ i.bounds) ∙ r.bounds;
    }

-- ---- one operand

pub negation : (level scope place : ℕ) (d : Depth) (f : SyntaxTree) (after : List PlacedLexeme) (s0 s1 : Ahead) → scope ≤ MOST_VARIABLES → d ≡ deep level scope
    → IsLexemeTaken level (Symbol Not) place s0 s1 → UnaryRead d.level d.scope s1.rest after f → UnaryRead level scope s0.rest after (tree.NotTree place f)
negation level scope place d f after s0 s1 few e t q =
    let p = subst (λ (x : Depth). UnaryRead x.level x.scope s1.rest after f) e q in
    record {
      phrase = Negation place p.phrase;
      tree_is = ap (tree.NotTree place) p.tree_is;
      fits = p.fits;
      spells = ap (λ rest. (place, Symbol Not) ∷ rest) p.spells ∙ sym t.was;
      bounds = bound_is level scope place (Symbol Not) _ t.low few ∙ p.bounds;
    }

pub before_operand : (level scope place : ℕ) (operator : prefixes.Prefix) (interval : Interval) (d e : Depth) (f : SyntaxTree) (after : List PlacedLexeme) (s0 s1 s2 : Ahead)
    → scope ≤ MOST_VARIABLES → d ≡ deep level scope → e ≡ deep level scope
    → IsLexemeTaken level (Prefix operator) place s0 s1 → IntervalRead d.level d.scope s1.rest s2.rest interval → UnaryRead e.level e.scope s2.rest after f
    → UnaryRead level scope s0.rest after (prefix_tree operator place interval f)
before_operand level scope place operator interval d e f after s0 s1 s2 few de ee t j q =
    let i = subst (λ (x : Depth). IntervalRead x.level x.scope s1.rest s2.rest interval) de j in
    let p = subst (λ (x : Depth). UnaryRead x.level x.scope s2.rest after f) ee q in
    record {
      phrase = Before operator place i.phrase p.phrase;
      tree_is = (λ k. prefix_tree operator place (i.tree_is k) (p.tree_is k));
      fits = p.fits;
      spells = ap (λ rest. (place, Prefix operator) ∷ grammar.interval_fold spell (level + 1) scope i.phrase rest) p.spells ∙ ap (λ rest. (place, Prefix operator) ∷ rest) i.spells ∙ sym t.was;
      bounds = bound_is level scope place (Prefix operator) _ t.low few ∙ ap (grammar.interval_fold bound (level + 1) scope i.phrase) p.bounds ∙ i.bounds;
    }

pub quantified : (level scope place dot : ℕ) (quantifier : quantifiers.Quantifier) (xs : List Binding) (d e : Depth) (f : SyntaxTree) (after : List PlacedLexeme) (s0 s1 s2 s3 : Ahead)
    → scope ≤ MOST_VARIABLES → scope + length xs ≤ MOST_VARIABLES
    → d ≡ deep level scope → e ≡ deep level (scope + length xs)
    → IsLexemeTaken level (Quantifier quantifier) place s0 s1 → VariablesRead d.level d.scope s1.rest s2.rest xs → IsLexemeTaken e.level (Symbol Dot) dot s2 s3
    → FormulaRead e.level e.scope s3.rest after f
    → UnaryRead level scope s0.rest after (quantifier_tree quantifier place xs f)
quantified level scope place dot quantifier xs d e f after s0 s1 s2 s3 few all de ee t w u q =
    let v = subst (λ (x : Depth). VariablesRead x.level x.scope s1.rest s2.rest xs) de w in
    let counted : scope + length xs ≡ scope_behind scope v.phrase = ap (λ (ys : List Binding). scope + length ys) (sym v.tree_is) in
    let dot_taken = subst (λ (x : Depth). IsLexemeTaken x.level (Symbol Dot) dot s2 s3) ee u in
    let p = subst (λ (s : ℕ). FormulaRead (level + 1) s s3.rest after f) counted (subst (λ (x : Depth). FormulaRead x.level x.scope s3.rest after f) ee q) in
    let within = subst (λ (s : ℕ). s ≤ MOST_VARIABLES) counted all in
    record {
      phrase = Quantified quantifier place v.phrase dot p.phrase;
      tree_is = (λ k. quantifier_tree quantifier place (v.tree_is k) (p.tree_is k));
      fits = p.fits;
      spells = ap (λ rest. (place, Quantifier quantifier) ∷ grammar.variables_fold spell (level + 1) scope v.phrase ((dot, Symbol Dot) ∷ rest)) p.spells
          ∙ ap (λ rest. (place, Quantifier quantifier) ∷ grammar.variables_fold spell (level + 1) scope v.phrase rest) (sym dot_taken.was)
          ∙ ap (λ rest. (place, Quantifier quantifier) ∷ rest) v.spells ∙ sym t.was;
      bounds = bound_is level scope place (Quantifier quantifier) _ t.low few
          ∙ ap (grammar.variables_fold bound (level + 1) scope v.phrase) (bound_is (level + 1) (scope_behind scope v.phrase) dot (Symbol Dot) _ dot_taken.low within ∙ p.bounds) ∙ v.bounds;
    }

pub parenthesis : (level scope open_paren close_paren : ℕ) (d : Depth) (f : SyntaxTree) (s0 s1 s2 s3 : Ahead) → scope ≤ MOST_VARIABLES → d ≡ deep level scope
    → IsLexemeTaken level (Symbol OpenParen) open_paren s0 s1 → FormulaRead d.level d.scope s1.rest s2.rest f → IsLexemeTaken (level + 1) (Symbol CloseParen) close_paren s2 s3
    → UnaryRead level scope s0.rest s3.rest f
parenthesis level scope open_paren close_paren d f s0 s1 s2 s3 few e a q b =
    let p = subst (λ (x : Depth). FormulaRead x.level x.scope s1.rest s2.rest f) e q in
    record {
      phrase = Primary (Parenthesis open_paren p.phrase close_paren);
      tree_is = p.tree_is;
      fits = subst (λ (next : PolicyLexeme). grammar.FormulaFits p.phrase next) (ap next_lexeme b.was) p.fits;
      spells = ap (λ rest. (open_paren, Symbol OpenParen) ∷ grammar.formula_fold spell (level + 1) scope p.phrase rest) (sym b.was) ∙ ap
          (λ rest. (open_paren, Symbol OpenParen) ∷ rest) p.spells ∙ sym a.was;
      bounds = bound_is level scope open_paren (Symbol OpenParen) _ a.low few ∙ ap (grammar.formula_fold bound (level + 1) scope p.phrase)
          (bound_is (level + 1) scope close_paren (Symbol CloseParen) true b.low few) ∙ p.bounds;
    }

pub truth_read : (level scope place : ℕ) (value : Bool) (s0 s1 : Ahead) → scope ≤ MOST_VARIABLES → IsLexemeTaken level (Truth value) place s0 s1
    → PrimaryRead level scope s0.rest s1.rest (truth_tree value place)
truth_read level scope place value s0 s1 few t = record {
  phrase = Constant value place;
  tree_is = refl;
  fits = tt;
  spells = sym t.was;
  bounds = bound_is level scope place (Truth value) true t.low few;
}

-- ---- what a call took is what stood there

pub taken_is : (level place : ℕ) (lexeme : PolicyLexeme) (s0 s1 : Ahead) → next_lexeme s0.rest ≡ lexeme → IsLexemeTaken level (next_lexeme s0.rest) place s0 s1 → IsLexemeTaken level lexeme place s0 s1
taken_is level place lexeme s0 s1 e t = subst (λ (x : PolicyLexeme). IsLexemeTaken level x place s0 s1) e t

pub not_at : (b : Bool) (P : Type 0) → (IsTrue b ↔ P) → b ≡ false → P → ⊥
not_at b P h e p = true≢false (sym (h.1 p) ∙ e)

-- ---- sizes and limits of what an operator makes

pub size_infix : (operator : infixes.Infix) (place : ℕ) (interval : Interval) (f g : SyntaxTree) → tree_size (infix_tree operator place interval f g) ≡ tree_size f + (1 + tree_size g)
size_infix infix_words.Since place interval f g = refl
size_infix infix_words.Until place interval f g = refl

pub size_prefix : (operator : prefixes.Prefix) (place : ℕ) (interval : Interval) (f : SyntaxTree) → tree_size (prefix_tree operator place interval f) ≡ 1 + tree_size f
size_prefix prefix_words.Prev place interval f = refl
size_prefix prefix_words.Next place interval f = refl
size_prefix prefix_words.Once place interval f = refl
size_prefix prefix_words.Historically place interval f = refl
size_prefix prefix_words.Eventually place interval f = refl
size_prefix prefix_words.Always place interval f = refl

pub size_quantifier : (quantifier : quantifiers.Quantifier) (place : ℕ) (xs : List Binding) (f : SyntaxTree) → tree_size (quantifier_tree quantifier place xs f) ≡ 1 + tree_size f
size_quantifier quantifier_words.Exists place xs f = refl
size_quantifier quantifier_words.Forall place xs f = refl

pub kept_quantifier : (quantifier : quantifiers.Quantifier) (place scope : ℕ) (xs : List Binding) (f : SyntaxTree) → scope + length xs ≤ MOST_VARIABLES
    → AllByRecursion (λ (x : Binding). IsShortName x.name) xs → KeepsLimits (scope + length xs) f
    → KeepsLimits scope (quantifier_tree quantifier place xs f)
kept_quantifier quantifier_words.Exists place scope xs f few short kept = (few, short, kept)
kept_quantifier quantifier_words.Forall place scope xs f few short kept = (few, short, kept)

-- a level deeper, with variables more in scope
pub with_variables : (d e : Depth) (m n : ℕ) → d ≡ e → m ≡ n → the_depth d.level (d.scope + m) ≡ the_depth e.level (e.scope + n)
with_variables d e m n p q = (λ j. the_depth (p j).level ((p j).scope + q j))

-- no operator stands between operands
pub not_infix : (found : read.Lexeme) → ((operator : infixes.Infix) → found ≡ variants.Infix operator → ⊥) → (operator : infixes.Infix) → lexeme_of found ≡ Infix operator → ⊥
not_infix (variants.Infix other) none operator e = none other refl
not_infix (variants.Symbol _) none operator e = cc
not_infix (variants.Truth _) none operator e = cc
not_infix (variants.Prefix _) none operator e = cc
not_infix (variants.Quantifier _) none operator e = cc
not_infix (variants.Sign _) none operator e = cc
not_infix (variants.Name _) none operator e = cc
not_infix (variants.Digits _) none operator e = cc
not_infix (variants.Negative _) none operator e = cc
not_infix (variants.Text _) none operator e = cc
not_infix variants.End none operator e = cc
not_infix variants.Other none operator e = cc
