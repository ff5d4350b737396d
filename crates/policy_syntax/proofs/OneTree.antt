-- Lexemes are those of at most one phrase, and what is left after it is the same.
use Rattle.policy_syntax.proofs.Vocabulary.{◌≡◌, ◌≢◌, ℕ, ◌+◌, Bool, List, [], ◌∷◌, Option, None, Some, refl, sym, ap, ◌∙◌, arith, TermPhrase, TermsPhrase, ArgumentsPhrase, VariablesPhrase}
use Rattle.policy_syntax.proofs.Vocabulary.{IntervalPhrase, FormulaPhrase, OrPhrase, AndPhrase, InfixPhrase, UnaryPhrase, PrimaryPhrase, RulePhrase, Variable, Plain, Minus, Quoted, LastTerm, NextTerm}
use Rattle.policy_syntax.proofs.Vocabulary.{LastVariable, NextVariable, OneSide, Implication, OneCase, Disjunction, OnePart, Conjunction, OneOperand, Between, Negation, Before, Quantified, Primary}
use Rattle.policy_syntax.proofs.Vocabulary.{Parenthesis, Constant, Event, Comparison, scope_behind, spell, end_lexeme, term_lexeme, term_place, terms_fold, some_terms_fold, arguments_fold}
use Rattle.policy_syntax.proofs.Vocabulary.{variables_fold, interval_fold, formula_fold, or_fold, and_fold, infix_fold, unary_fold, primary_fold, rule_fold, policy_fold, FormulaFits, OrFits, AndFits}
use Rattle.policy_syntax.proofs.Vocabulary.{InfixFits, UnaryFits, PrimaryFits, RuleFits, PolicyFits, PolicyLexeme, PlacedLexeme, Symbol, Truth, Prefix, Infix, Quantifier, Sign, NameLexeme}
use Rattle.policy_syntax.proofs.Vocabulary.{DigitsLexeme, NegativeLexeme, TextLexeme, next_lexeme, next_place, behind_next, Not, And, Or, Arrow, CloseParen, Comma, Dot, Semicolon, Binding}
use Rattle.policy_syntax.specs.declared.lexemes.Infix as infixes
use Rattle.policy_syntax.specs.declared.lexemes.Prefix as prefixes
use Rattle.policy_syntax.specs.declared.lexemes.Quantifier as quantifiers
use Rattle.policy_syntax.specs.declared.lexemes.Sign as signs

-- one phrase, and one rest
pub record One {P : Type 0} (a b : P) (ra rb : List PlacedLexeme) : Type 0 where
  pub same : a ≡ b
  pub rest : ra ≡ rb

-- ---- lexemes

name_one : (a b : List ℕ) → NameLexeme a ≡ NameLexeme b → a ≡ b
name_one a b e = cc

digits_one : (a b : ℕ) → DigitsLexeme a ≡ DigitsLexeme b → a ≡ b
digits_one a b e = cc

negative_one : (a b : ℕ) → NegativeLexeme a ≡ NegativeLexeme b → a ≡ b
negative_one a b e = cc

text_one : (a b : List ℕ) → TextLexeme a ≡ TextLexeme b → a ≡ b
text_one a b e = cc

truth_one : (a b : Bool) → Truth a ≡ Truth b → a ≡ b
truth_one a b e = cc

infix_word_one : (a b : infixes.Infix) → Infix a ≡ Infix b → a ≡ b
infix_word_one a b e = cc

prefix_word_one : (a b : prefixes.Prefix) → Prefix a ≡ Prefix b → a ≡ b
prefix_word_one a b e = cc

quantifier_word_one : (a b : quantifiers.Quantifier) → Quantifier a ≡ Quantifier b → a ≡ b
quantifier_word_one a b e = cc

sign_one : (a b : signs.Sign) → Sign a ≡ Sign b → a ≡ b
sign_one a b e = cc

-- ---- terms

term_one : (a b : TermPhrase) → term_place a ≡ term_place b → term_lexeme a ≡ term_lexeme b → a ≡ b
term_one (Variable p n) (Variable q m) e f = (λ j. Variable (e j) (name_one n m f j))
term_one (Variable p n) (Plain q m) e f = absurd cc
term_one (Variable p n) (Minus q m) e f = absurd cc
term_one (Variable p n) (Quoted q m) e f = absurd cc
term_one (Plain p n) (Variable q m) e f = absurd cc
term_one (Plain p n) (Plain q m) e f = (λ j. Plain (e j) (digits_one n m f j))
term_one (Plain p n) (Minus q m) e f = absurd cc
term_one (Plain p n) (Quoted q m) e f = absurd cc
term_one (Minus p n) (Variable q m) e f = absurd cc
term_one (Minus p n) (Plain q m) e f = absurd cc
term_one (Minus p n) (Minus q m) e f = (λ j. Minus (e j) (negative_one n m f j))
term_one (Minus p n) (Quoted q m) e f = absurd cc
term_one (Quoted p n) (Variable q m) e f = absurd cc
term_one (Quoted p n) (Plain q m) e f = absurd cc
term_one (Quoted p n) (Minus q m) e f = absurd cc
term_one (Quoted p n) (Quoted q m) e f = (λ j. Quoted (e j) (text_one n m f j))

terms_one : (l s m t : ℕ) (a b : TermsPhrase) (ra rb : List PlacedLexeme) → terms_fold spell l s a ra ≡ terms_fold spell m t b rb → next_lexeme ra ≢ Symbol Comma
    → next_lexeme rb ≢ Symbol Comma → One a b ra rb
terms_one l s m t (LastTerm x) (LastTerm y) ra rb e ca cb = record { same = ap LastTerm (term_one x y (ap (next_place 0) e) (ap next_lexeme e)); rest = ap behind_next e }
terms_one l s m t (LastTerm x) (NextTerm y d k) ra rb e ca cb = absurd (ca (ap next_lexeme (ap behind_next e)))
terms_one l s m t (NextTerm x c h) (LastTerm y) ra rb e ca cb = absurd (cb (sym (ap next_lexeme (ap behind_next e))))
terms_one l s m t (NextTerm x c h) (NextTerm y d k) ra rb e ca cb =
    let r = terms_one l s m t h k ra rb (ap behind_next (ap behind_next e)) ca cb in
    let first : x ≡ y = term_one x y (ap (next_place 0) e) (ap next_lexeme e) in
    let comma : c ≡ d = ap (next_place 0) (ap behind_next e) in
    record { same = (λ j. NextTerm (first j) (comma j) (r.same j)); rest = r.rest }

-- what begins an operand: `not`, a prefix operator, a quantifier, or a primary
kind : PolicyLexeme → ℕ
kind (Symbol Not) = 0
kind (Symbol _) = 3
kind (Prefix _) = 1
kind (Quantifier _) = 2
kind _ = 3

-- what begins a primary: a parenthesis, a truth value or a term
head : PolicyLexeme → ℕ
head (Symbol _) = 0
head (Truth _) = 1
head (NameLexeme _) = 2
head (DigitsLexeme _) = 2
head (NegativeLexeme _) = 2
head (TextLexeme _) = 2
head (Sign _) = 3
head _ = 4

term_head : (a : TermPhrase) → head (term_lexeme a) ≡ 2
unfolding head
term_head (Variable p n) = refl
term_head (Plain p n) = refl
term_head (Minus p n) = refl
term_head (Quoted p n) = refl

terms_head : (l s : ℕ) (a : TermsPhrase) (rest : List PlacedLexeme) → head (next_lexeme (terms_fold spell l s a rest)) ≡ 2
terms_head l s (LastTerm x) rest = term_head x
terms_head l s (NextTerm x c more) rest = term_head x

term_kind : (a : TermPhrase) → kind (term_lexeme a) ≡ 3
unfolding kind
term_kind (Variable p n) = refl
term_kind (Plain p n) = refl
term_kind (Minus p n) = refl
term_kind (Quoted p n) = refl

primary_kind : (l s : ℕ) (a : PrimaryPhrase) (rest : List PlacedLexeme) → kind (next_lexeme (primary_fold spell l s a rest)) ≡ 3
unfolding kind
primary_kind l s (Parenthesis o f c) rest = refl
primary_kind l s (Constant v p) rest = refl
primary_kind l s (Event p n arguments) rest = refl
primary_kind l s (Comparison x sign p y) rest = term_kind x

-- ---- the terms of an event

record Closed (x y : Option TermsPhrase) (p q : ℕ) (ra rb : List PlacedLexeme) : Type 0 where
  pub same : x ≡ y
  pub close : p ≡ q
  pub rest : ra ≡ rb

some_one : (l s m t : ℕ) (x y : Option TermsPhrase) (p q : ℕ) (ra rb : List PlacedLexeme)
    → some_terms_fold spell l s x ((p, Symbol CloseParen) ∷ ra) ≡ some_terms_fold spell m t y ((q, Symbol CloseParen) ∷ rb) → Closed x y p q ra rb
unfolding head
some_one l s m t None None p q ra rb e = record { same = refl; close = ap (next_place 0) e; rest = ap behind_next e }
some_one l s m t None (Some b) p q ra rb e =
    let h : 0 ≡ 2 = ap (λ r. head (next_lexeme r)) e ∙ terms_head m t b ((q, Symbol CloseParen) ∷ rb) in absurd (omega (arith, h))
some_one l s m t (Some a) None p q ra rb e =
    let h : 2 ≡ 0 = sym (terms_head l s a ((p, Symbol CloseParen) ∷ ra)) ∙ ap (λ r. head (next_lexeme r)) e in absurd (omega (arith, h))
some_one l s m t (Some a) (Some b) p q ra rb e =
    let r = terms_one l s m t a b ((p, Symbol CloseParen) ∷ ra) ((q, Symbol CloseParen) ∷ rb) e (λ f. cc) (λ f. cc) in
    record { same = ap Some r.same; close = ap (next_place 0) r.rest; rest = ap behind_next r.rest }

arguments_one : (l s m t : ℕ) (a b : ArgumentsPhrase) (ra rb : List PlacedLexeme) → arguments_fold spell l s a ra ≡ arguments_fold spell m t b rb → One a b ra rb
arguments_one l s m t a b ra rb e =
    let r = some_one (l + 1) s (m + 1) t a.terms b.terms a.close_paren b.close_paren ra rb (ap behind_next e) in
    let opened : a.open_paren ≡ b.open_paren = ap (next_place 0) e in
    record { same = (λ j. record { open_paren = opened j; terms = r.same j; close_paren = r.close j }); rest = r.rest }

-- ---- variables and intervals

binding_one : (a b : Binding) → a.place ≡ b.place → NameLexeme a.name ≡ NameLexeme b.name → a ≡ b
binding_one a b e f = (λ j. record { place = e j; name = name_one a.name b.name f j })

variables_one : (l s m t : ℕ) (a b : VariablesPhrase) (ra rb : List PlacedLexeme) → variables_fold spell l s a ra ≡ variables_fold spell m t b rb → next_lexeme ra ≢ Symbol Comma
    → next_lexeme rb ≢ Symbol Comma → One a b ra rb
variables_one l s m t (LastVariable x) (LastVariable y) ra rb e ca cb = record { same = ap LastVariable (binding_one x y (ap (next_place 0) e) (ap next_lexeme e)); rest = ap behind_next e }
variables_one l s m t (LastVariable x) (NextVariable y d k) ra rb e ca cb = absurd (ca (ap next_lexeme (ap behind_next e)))
variables_one l s m t (NextVariable x c h) (LastVariable y) ra rb e ca cb = absurd (cb (sym (ap next_lexeme (ap behind_next e))))
variables_one l s m t (NextVariable x c h) (NextVariable y d k) ra rb e ca cb =
    let r = variables_one l (s + 1) m (t + 1) h k ra rb (ap behind_next (ap behind_next e)) ca cb in
    let first : x ≡ y = binding_one x y (ap (next_place 0) e) (ap next_lexeme e) in
    let comma : c ≡ d = ap (next_place 0) (ap behind_next e) in
    record { same = (λ j. NextVariable (first j) (comma j) (r.same j)); rest = r.rest }

end_one : (a b : Option ℕ) → end_lexeme a ≡ end_lexeme b → a ≡ b
end_one None None e = refl
end_one None (Some b) e = absurd cc
end_one (Some a) None e = absurd cc
end_one (Some a) (Some b) e = ap Some (digits_one a b e)

interval_one : (l s m t : ℕ) (a b : IntervalPhrase) (ra rb : List PlacedLexeme) → interval_fold spell l s a ra ≡ interval_fold spell m t b rb → One a b ra rb
interval_one l s m t a b ra rb e =
    let e1 = ap behind_next e in
    let e2 = ap behind_next e1 in
    let e3 = ap behind_next e2 in
    let e4 = ap behind_next e3 in
    let p0 : a.open_bracket ≡ b.open_bracket = ap (next_place 0) e in
    let p1 : a.low_place ≡ b.low_place = ap (next_place 0) e1 in
    let low : a.low ≡ b.low = digits_one a.low b.low (ap next_lexeme e1) in
    let p2 : a.comma ≡ b.comma = ap (next_place 0) e2 in
    let p3 : a.high_place ≡ b.high_place = ap (next_place 0) e3 in
    let high : a.high ≡ b.high = end_one a.high b.high (ap next_lexeme e3) in
    let p4 : a.close_bracket ≡ b.close_bracket = ap (next_place 0) e4 in
    record {
      same = (λ j. record { open_bracket = p0 j; low_place = p1 j; low = low j; comma = p2 j; high_place = p3 j; high = high j; close_bracket = p4 j });
      rest = ap behind_next e4;
    }

apart_01 : {X : Type 0} → ◌≡◌ {A = ℕ} 0 1 → X
apart_01 e = absurd (omega (arith, e))

apart_02 : {X : Type 0} → ◌≡◌ {A = ℕ} 0 2 → X
apart_02 e = absurd (omega (arith, e))

apart_03 : {X : Type 0} → ◌≡◌ {A = ℕ} 0 3 → X
apart_03 e = absurd (omega (arith, e))

apart_10 : {X : Type 0} → ◌≡◌ {A = ℕ} 1 0 → X
apart_10 e = absurd (omega (arith, e))

apart_12 : {X : Type 0} → ◌≡◌ {A = ℕ} 1 2 → X
apart_12 e = absurd (omega (arith, e))

apart_13 : {X : Type 0} → ◌≡◌ {A = ℕ} 1 3 → X
apart_13 e = absurd (omega (arith, e))

apart_20 : {X : Type 0} → ◌≡◌ {A = ℕ} 2 0 → X
apart_20 e = absurd (omega (arith, e))

apart_21 : {X : Type 0} → ◌≡◌ {A = ℕ} 2 1 → X
apart_21 e = absurd (omega (arith, e))

apart_23 : {X : Type 0} → ◌≡◌ {A = ℕ} 2 3 → X
apart_23 e = absurd (omega (arith, e))

apart_30 : {X : Type 0} → ◌≡◌ {A = ℕ} 3 0 → X
apart_30 e = absurd (omega (arith, e))

apart_31 : {X : Type 0} → ◌≡◌ {A = ℕ} 3 1 → X
apart_31 e = absurd (omega (arith, e))

apart_32 : {X : Type 0} → ◌≡◌ {A = ℕ} 3 2 → X
apart_32 e = absurd (omega (arith, e))

-- ---- formulas

mutual
  unfolding kind head

  pub formula_one : (l s m t : ℕ) (a b : FormulaPhrase) (ra rb : List PlacedLexeme) → formula_fold spell l s a ra ≡ formula_fold spell m t b rb → FormulaFits a (next_lexeme ra)
      → FormulaFits b (next_lexeme rb) → One a b ra rb
  formula_one l s m t (OneSide f) (OneSide g) ra rb e x y = let r = or_one l s m t f g ra rb e x.0 y.0 in record { same = ap OneSide r.same; rest = r.rest }
  formula_one l s m t (OneSide f) (Implication g q h) ra rb e x y =
      let r = or_one l s m t f g ra ((q, Symbol Arrow) ∷ formula_fold spell (m + 1) t h rb) e x.0 y.0 in absurd (x.1 (ap next_lexeme r.rest))
  formula_one l s m t (Implication f p g) (OneSide h) ra rb e x y =
      let r = or_one l s m t f h ((p, Symbol Arrow) ∷ formula_fold spell (l + 1) s g ra) rb e x.0 y.0 in absurd (y.1 (ap next_lexeme (sym r.rest)))
  formula_one l s m t (Implication f p g) (Implication h q k) ra rb e x y =
      let r = or_one l s m t f h ((p, Symbol Arrow) ∷ formula_fold spell (l + 1) s g ra) ((q, Symbol Arrow) ∷ formula_fold spell (m + 1) t k rb) e x.0 y.0 in
      let w = formula_one (l + 1) s (m + 1) t g k ra rb (ap behind_next r.rest) x.1 y.1 in
      let place : p ≡ q = ap (next_place 0) r.rest in
      record { same = (λ j. Implication (r.same j) (place j) (w.same j)); rest = w.rest }

  pub or_one : (l s m t : ℕ) (a b : OrPhrase) (ra rb : List PlacedLexeme) → or_fold spell l s a ra ≡ or_fold spell m t b rb → OrFits a (next_lexeme ra) → OrFits b (next_lexeme rb) → One a b ra rb
  or_one l s m t (OneCase f) (OneCase g) ra rb e x y = let r = and_one l s m t f g ra rb e x.0 y.0 in record { same = ap OneCase r.same; rest = r.rest }
  or_one l s m t (OneCase f) (Disjunction g q h) ra rb e x y =
      let r = and_one l s m t f g ra ((q, Symbol Or) ∷ or_fold spell (m + 1) t h rb) e x.0 y.0 in absurd (x.1 (ap next_lexeme r.rest))
  or_one l s m t (Disjunction f p g) (OneCase h) ra rb e x y =
      let r = and_one l s m t f h ((p, Symbol Or) ∷ or_fold spell (l + 1) s g ra) rb e x.0 y.0 in absurd (y.1 (ap next_lexeme (sym r.rest)))
  or_one l s m t (Disjunction f p g) (Disjunction h q k) ra rb e x y =
      let r = and_one l s m t f h ((p, Symbol Or) ∷ or_fold spell (l + 1) s g ra) ((q, Symbol Or) ∷ or_fold spell (m + 1) t k rb) e x.0 y.0 in
      let w = or_one (l + 1) s (m + 1) t g k ra rb (ap behind_next r.rest) x.1 y.1 in
      let place : p ≡ q = ap (next_place 0) r.rest in
      record { same = (λ j. Disjunction (r.same j) (place j) (w.same j)); rest = w.rest }

  pub and_one : (l s m t : ℕ) (a b : AndPhrase) (ra rb : List PlacedLexeme) → and_fold spell l s a ra ≡ and_fold spell m t b rb → AndFits a (next_lexeme ra)
      → AndFits b (next_lexeme rb) → One a b ra rb
  and_one l s m t (OnePart f) (OnePart g) ra rb e x y = let r = infix_one l s m t f g ra rb e x.0 y.0 in record { same = ap OnePart r.same; rest = r.rest }
  and_one l s m t (OnePart f) (Conjunction g q h) ra rb e x y =
      let r = infix_one l s m t f g ra ((q, Symbol And) ∷ and_fold spell (m + 1) t h rb) e x.0 y.0 in absurd (x.1 (ap next_lexeme r.rest))
  and_one l s m t (Conjunction f p g) (OnePart h) ra rb e x y =
      let r = infix_one l s m t f h ((p, Symbol And) ∷ and_fold spell (l + 1) s g ra) rb e x.0 y.0 in absurd (y.1 (ap next_lexeme (sym r.rest)))
  and_one l s m t (Conjunction f p g) (Conjunction h q k) ra rb e x y =
      let r = infix_one l s m t f h ((p, Symbol And) ∷ and_fold spell (l + 1) s g ra) ((q, Symbol And) ∷ and_fold spell (m + 1) t k rb) e x.0 y.0 in
      let w = and_one (l + 1) s (m + 1) t g k ra rb (ap behind_next r.rest) x.1 y.1 in
      let place : p ≡ q = ap (next_place 0) r.rest in
      record { same = (λ j. Conjunction (r.same j) (place j) (w.same j)); rest = w.rest }

  pub infix_one : (l s m t : ℕ) (a b : InfixPhrase) (ra rb : List PlacedLexeme) → infix_fold spell l s a ra ≡ infix_fold spell m t b rb → InfixFits a (next_lexeme ra)
      → InfixFits b (next_lexeme rb) → One a b ra rb
  infix_one l s m t (OneOperand f) (OneOperand g) ra rb e x y = let r = unary_one l s m t f g ra rb e x.0 y.0 in record { same = ap OneOperand r.same; rest = r.rest }
  infix_one l s m t (OneOperand f) (Between g o q i h) ra rb e x y =
      let r = unary_one l s m t f g ra ((q, Infix o) ∷ interval_fold spell m t i (unary_fold spell (m + 1) t h rb)) e x.0 y.0 in absurd (x.1 o (ap next_lexeme r.rest))
  infix_one l s m t (Between f o p i g) (OneOperand h) ra rb e x y =
      let r = unary_one l s m t f h ((p, Infix o) ∷ interval_fold spell l s i (unary_fold spell (l + 1) s g ra)) rb e x.0 y.0 in absurd (y.1 o (ap next_lexeme (sym r.rest)))
  infix_one l s m t (Between f o p i g) (Between h u q k w) ra rb e x y =
      let r = unary_one l s m t f h ((p, Infix o) ∷ interval_fold spell l s i (unary_fold spell (l + 1) s g ra))
      ((q, Infix u) ∷ interval_fold spell m t k (unary_fold spell (m + 1) t w rb)) e x.0 y.0 in
      let word : o ≡ u = infix_word_one o u (ap next_lexeme r.rest) in
      let place : p ≡ q = ap (next_place 0) r.rest in
      let v = interval_one l s m t i k (unary_fold spell (l + 1) s g ra) (unary_fold spell (m + 1) t w rb) (ap behind_next r.rest) in
      let z = unary_one (l + 1) s (m + 1) t g w ra rb v.rest x.1 y.1 in
      record { same = (λ j. Between (r.same j) (word j) (place j) (v.same j) (z.same j)); rest = z.rest }

  pub unary_one : (l s m t : ℕ) (a b : UnaryPhrase) (ra rb : List PlacedLexeme) → unary_fold spell l s a ra ≡ unary_fold spell m t b rb → UnaryFits a (next_lexeme ra)
      → UnaryFits b (next_lexeme rb) → One a b ra rb
  unary_one l s m t (Negation p f) (Negation q g) ra rb e x y =
      let w = unary_one (l + 1) s (m + 1) t f g ra rb (ap behind_next e) x y in
      let place : p ≡ q = ap (next_place 0) e in
      record { same = (λ j. Negation (place j) (w.same j)); rest = w.rest }
  unary_one l s m t (Before o p i f) (Before u q k g) ra rb e x y =
      let word : o ≡ u = prefix_word_one o u (ap next_lexeme e) in
      let place : p ≡ q = ap (next_place 0) e in
      let v = interval_one (l + 1) s (m + 1) t i k (unary_fold spell (l + 1) s f ra) (unary_fold spell (m + 1) t g rb) (ap behind_next e) in
      let w = unary_one (l + 1) s (m + 1) t f g ra rb v.rest x y in
      record { same = (λ j. Before (word j) (place j) (v.same j) (w.same j)); rest = w.rest }
  unary_one l s m t (Quantified o p xs d f) (Quantified u q ys c g) ra rb e x y =
      let word : o ≡ u = quantifier_word_one o u (ap next_lexeme e) in
      let place : p ≡ q = ap (next_place 0) e in
      let fa = formula_fold spell (l + 1) (scope_behind s xs) f ra in
      let fb = formula_fold spell (m + 1) (scope_behind t ys) g rb in
      let v = variables_one (l + 1) s (m + 1) t xs ys ((d, Symbol Dot) ∷ fa) ((c, Symbol Dot) ∷ fb) (ap behind_next e) (λ h. cc) (λ h. cc) in
      let dot : d ≡ c = ap (next_place 0) v.rest in
      let w = formula_one (l + 1) (scope_behind s xs) (m + 1) (scope_behind t ys) f g ra rb (ap behind_next v.rest) x y in
      record { same = (λ j. Quantified (word j) (place j) (v.same j) (dot j) (w.same j)); rest = w.rest }
  unary_one l s m t (Primary f) (Primary g) ra rb e x y = let w = primary_one l s m t f g ra rb e x y in record { same = ap Primary w.same; rest = w.rest }
  unary_one l s m t (Negation p f) (Before u q k g) ra rb e x y = apart_01 (ap kind (ap next_lexeme e))
  unary_one l s m t (Negation p f) (Quantified u q ys c g) ra rb e x y = apart_02 (ap kind (ap next_lexeme e))
  unary_one l s m t (Negation p f) (Primary g) ra rb e x y = apart_03 (ap kind (ap next_lexeme e) ∙ primary_kind m t g rb)
  unary_one l s m t (Before o p i f) (Negation q g) ra rb e x y = apart_10 (ap kind (ap next_lexeme e))
  unary_one l s m t (Before o p i f) (Quantified u q ys c g) ra rb e x y = apart_12 (ap kind (ap next_lexeme e))
  unary_one l s m t (Before o p i f) (Primary g) ra rb e x y = apart_13 (ap kind (ap next_lexeme e) ∙ primary_kind m t g rb)
  unary_one l s m t (Quantified o p xs d f) (Negation q g) ra rb e x y = apart_20 (ap kind (ap next_lexeme e))
  unary_one l s m t (Quantified o p xs d f) (Before u q k g) ra rb e x y = apart_21 (ap kind (ap next_lexeme e))
  unary_one l s m t (Quantified o p xs d f) (Primary g) ra rb e x y = apart_23 (ap kind (ap next_lexeme e) ∙ primary_kind m t g rb)
  unary_one l s m t (Primary f) (Negation q g) ra rb e x y = apart_30 (sym (primary_kind l s f ra) ∙ ap kind (ap next_lexeme e))
  unary_one l s m t (Primary f) (Before u q k g) ra rb e x y = apart_31 (sym (primary_kind l s f ra) ∙ ap kind (ap next_lexeme e))
  unary_one l s m t (Primary f) (Quantified u q ys c g) ra rb e x y = apart_32 (sym (primary_kind l s f ra) ∙ ap kind (ap next_lexeme e))

  pub primary_one : (l s m t : ℕ) (a b : PrimaryPhrase) (ra rb : List PlacedLexeme) → primary_fold spell l s a ra ≡ primary_fold spell m t b rb → PrimaryFits a → PrimaryFits b → One a b ra rb
  primary_one l s m t (Parenthesis p f c) (Parenthesis q g d) ra rb e x y =
      let r = formula_one (l + 1) s (m + 1) t f g ((c, Symbol CloseParen) ∷ ra) ((d, Symbol CloseParen) ∷ rb) (ap behind_next e) x y in
      let opened : p ≡ q = ap (next_place 0) e in
      let close : c ≡ d = ap (next_place 0) r.rest in
      record { same = (λ j. Parenthesis (opened j) (r.same j) (close j)); rest = ap behind_next r.rest }
  primary_one l s m t (Constant v p) (Constant w q) ra rb e x y =
      let value : v ≡ w = truth_one v w (ap next_lexeme e) in
      let place : p ≡ q = ap (next_place 0) e in
      record { same = (λ j. Constant (value j) (place j)); rest = ap behind_next e }
  primary_one l s m t (Event p n f) (Event q k g) ra rb e x y =
      let r = arguments_one l s m t f g ra rb (ap behind_next e) in
      let name : n ≡ k = name_one n k (ap next_lexeme e) in
      let place : p ≡ q = ap (next_place 0) e in
      record { same = (λ j. Event (place j) (name j) (r.same j)); rest = r.rest }
  primary_one l s m t (Comparison f o p g) (Comparison h u q k) ra rb e x y =
      let first : f ≡ h = term_one f h (ap (next_place 0) e) (ap next_lexeme e) in
      let e1 = ap behind_next e in
      let word : o ≡ u = sign_one o u (ap next_lexeme e1) in
      let place : p ≡ q = ap (next_place 0) e1 in
      let e2 = ap behind_next e1 in
      let second : g ≡ k = term_one g k (ap (next_place 0) e2) (ap next_lexeme e2) in
      record { same = (λ j. Comparison (first j) (word j) (place j) (second j)); rest = ap behind_next e2 }
  primary_one l s m t (Parenthesis p f c) (Constant w q) ra rb e x y = apart_01 (ap head (ap next_lexeme e))
  primary_one l s m t (Parenthesis p f c) (Event q k h) ra rb e x y = apart_02 (ap head (ap next_lexeme e))
  primary_one l s m t (Parenthesis p f c) (Comparison h u q k) ra rb e x y = apart_02 (ap head (ap next_lexeme e) ∙ term_head h)
  primary_one l s m t (Constant v p) (Parenthesis q h d) ra rb e x y = apart_10 (ap head (ap next_lexeme e))
  primary_one l s m t (Constant v p) (Event q k h) ra rb e x y = apart_12 (ap head (ap next_lexeme e))
  primary_one l s m t (Constant v p) (Comparison h u q k) ra rb e x y = apart_12 (ap head (ap next_lexeme e) ∙ term_head h)
  primary_one l s m t (Event p n f) (Parenthesis q h d) ra rb e x y = apart_20 (ap head (ap next_lexeme e))
  primary_one l s m t (Event p n f) (Constant w q) ra rb e x y = apart_21 (ap head (ap next_lexeme e))
  primary_one l s m t (Event p n f) (Comparison h u q k) ra rb e x y = apart_03 (ap head (ap next_lexeme (ap behind_next e)))
  primary_one l s m t (Comparison f o p g) (Parenthesis q h d) ra rb e x y = apart_20 (sym (term_head f) ∙ ap head (ap next_lexeme e))
  primary_one l s m t (Comparison f o p g) (Constant w q) ra rb e x y = apart_21 (sym (term_head f) ∙ ap head (ap next_lexeme e))
  primary_one l s m t (Comparison f o p g) (Event q k h) ra rb e x y = apart_30 (ap head (ap next_lexeme (ap behind_next e)))

-- ---- policies

rule_one : (a b : RulePhrase) (ra rb : List PlacedLexeme) → rule_fold spell a ra ≡ rule_fold spell b rb → RuleFits a → RuleFits b → One a b ra rb
rule_one a b ra rb e x y =
    let e1 = ap behind_next e in
    let e2 = ap behind_next e1 in
    let e3 = ap behind_next e2 in
    let p0 : a.place ≡ b.place = ap (next_place 0) e in
    let p1 : a.name_place ≡ b.name_place = ap (next_place 0) e1 in
    let name : a.name ≡ b.name = name_one a.name b.name (ap next_lexeme e1) in
    let p2 : a.colon ≡ b.colon = ap (next_place 0) e2 in
    let r = formula_one 0 0 0 0 a.formula b.formula ((a.semicolon, Symbol Semicolon) ∷ ra) ((b.semicolon, Symbol Semicolon) ∷ rb) e3 x y in
    let p3 : a.semicolon ≡ b.semicolon = ap (next_place 0) r.rest in
    record {
      same = (λ j. record { place = p0 j; name_place = p1 j; name = name j; colon = p2 j; formula = r.same j; semicolon = p3 j });
      rest = ap behind_next r.rest;
    }

pub policy_one : (a b : List RulePhrase) → policy_fold spell a [] ≡ policy_fold spell b [] → PolicyFits a → PolicyFits b → a ≡ b
policy_one [] [] e x y = refl
policy_one [] (b ∷ others) e x y = absurd cc
policy_one (a ∷ rules) [] e x y = absurd cc
policy_one (a ∷ rules) (b ∷ others) e x y =
    let r = rule_one a b (policy_fold spell rules []) (policy_fold spell others []) e x.0 y.0 in
    (λ j. r.same j ∷ policy_one rules others r.rest x.1 y.1 j)
