-- What a stack stands for begins with a lexeme that begins its next item, at its level and scope.
use Rattle.policy_syntax.proofs.Vocabulary.{◌≡◌, ◌≢◌, ◌⊎◌, inl, inr, ℕ, ◌+◌, Bool, true, false, if◌then◌else◌, List, [], ◌∷◌, ◌++◌, Option, None, Some, refl, ap, subst, ◌∙◌, ItemKind, StackItem}
use Rattle.policy_syntax.proofs.Vocabulary.{Stack, stack_item, formula_on, and_on, or_on, offer, skips, settle, AndPhrase, FormulaPhrase, OrPhrase, RulePhrase, TermPhrase, TermsPhrase, UnaryPhrase}
use Rattle.policy_syntax.proofs.Vocabulary.{VariablesPhrase, Variable, Plain, Minus, Quoted, LastTerm, NextTerm, LastVariable, NextVariable, Negation, Before, Quantified, Primary, Parenthesis}
use Rattle.policy_syntax.proofs.Vocabulary.{Constant, Event, Comparison, end_lexeme, term_lexeme, PolicyLexeme, Symbol, Infix, Deep, deepen, Rule, And, Or, Arrow, CloseParen}
use Rattle.policy_syntax.proofs.StackMeanings.{Denotes, InfixRest, NoInfix, SomeInfix, Rest, Without, With, VariableRest, Dotted, Further, NameRest, Called, Compared, TermRest, Closed, Another}
use Rattle.policy_syntax.proofs.StackMeanings.{scoped_fold, scoped_is, next_deep, InfixRestFits, AndRestFits, OrRestFits, ArrowRestFits, MoreFits, VariableRestFits, infix_rest_fold, and_rest_fold}
use Rattle.policy_syntax.proofs.StackMeanings.{or_rest_fold, arrow_rest_fold, rules_fold, rule_end_fold, variable_rest_fold, name_rest_fold, first_terms_fold, next_terms_fold, term_rest_fold}
use Rattle.policy_syntax.proofs.OperandParts.{and_split, or_split, formula_split}
use Rattle.policy_syntax.specs.machine.Automaton as automaton
use Rattle.policy_syntax.specs.meaning.Grammar as grammar
use Rattle.policy_syntax.specs.declared.lexemes.Infix as infixes

-- the text begins with a lexeme of the item
abbrev pub Goes : ItemKind → (level scope : ℕ) → Stack → List Deep → Type 0
Goes kind level scope rest [] = ⊥
Goes kind level scope rest (deep ∷ more) =
    (left : Stack) × (skips kind deep.placed.1 ≡ false) × (offer kind level scope deep.placed.0 deep.placed.1 ≡ Some left)
    × (deep.level ≡ level) × (deep.scope ≡ scope) × Denotes (left ++ rest) more

-- or the item does not come
abbrev pub Onward : ItemKind → (level scope : ℕ) → Stack → List Deep → Type 0
Onward kind level scope rest text = Goes kind level scope rest text ⊎ ((skips kind (next_deep text) ≡ true) × Denotes rest text)

-- ---- optional parts that do not come

pub skips_infix : (x : PolicyLexeme) → ((operator : infixes.Infix) → x ≢ Infix operator) → skips automaton.InfixTail x ≡ true
skips_infix (Infix operator) none = absurd (none operator refl)
skips_infix x none = refl

pub skips_and : (x : PolicyLexeme) → x ≢ Symbol And → skips automaton.AndTail x ≡ true
skips_and (Symbol And) none = absurd (none refl)
skips_and x none = refl

pub skips_or : (x : PolicyLexeme) → x ≢ Symbol Or → skips automaton.OrTail x ≡ true
skips_or (Symbol Or) none = absurd (none refl)
skips_or x none = refl

pub skips_arrow : (x : PolicyLexeme) → x ≢ Symbol Arrow → skips automaton.ArrowTail x ≡ true
skips_arrow (Symbol Arrow) none = absurd (none refl)
skips_arrow x none = refl

pub skips_rules : (x : PolicyLexeme) → x ≢ Symbol Rule → skips automaton.MoreRules x ≡ true
skips_rules (Symbol Rule) none = absurd (none refl)
skips_rules x none = refl

-- ---- lexemes of several kinds

pub end_offered : (operand low l s p : ℕ) (high : Option ℕ) → offer (automaton.SecondEnd operand low) l s p (end_lexeme high) ≡ Some (stack_item (automaton.CloseInterval operand) l s ∷ [])
end_offered operand low l s p (Some high) = refl
end_offered operand low l s p None = refl

pub first_offered : (l s p : ℕ) (t : TermPhrase) → offer automaton.FirstArgument l s p (term_lexeme t) ≡ Some (stack_item automaton.BehindArgument l s ∷ [])
first_offered l s p (Variable place name) = refl
first_offered l s p (Plain place value) = refl
first_offered l s p (Minus place value) = refl
first_offered l s p (Quoted place text) = refl

pub next_offered : (l s p : ℕ) (t : TermPhrase) → offer automaton.NextArgument l s p (term_lexeme t) ≡ Some (stack_item automaton.BehindArgument l s ∷ [])
next_offered l s p (Variable place name) = refl
next_offered l s p (Plain place value) = refl
next_offered l s p (Minus place value) = refl
next_offered l s p (Quoted place text) = refl

pub right_offered : (l s p : ℕ) (t : TermPhrase) → offer automaton.RightSide l s p (term_lexeme t) ≡ Some []
right_offered l s p (Variable place name) = refl
right_offered l s p (Plain place value) = refl
right_offered l s p (Minus place value) = refl
right_offered l s p (Quoted place text) = refl

-- ---- each item

operand_goes : (l s : ℕ) (rest : Stack) (u : UnaryPhrase) (after : List Deep) → grammar.UnaryFits u (next_deep after) → Denotes rest after
    → Goes automaton.Operand l s rest (grammar.unary_fold deepen l s u after)
operand_goes l s rest (Negation place f) after fits later =
    (stack_item automaton.Operand (l + 1) s ∷ [], refl, refl, refl, refl, (after, record { phrase = f; spells = refl; fits = fits }, later))
operand_goes l s rest (Before operator place interval f) after fits later =
    (stack_item (automaton.OpenInterval (l + 1)) (l + 1) s ∷ [], refl, refl, refl, refl, (after, record { phrase = record { interval = interval; operand = f }; spells = refl; fits = fits }, later))
operand_goes l s rest (Quantified quantifier place variables dot f) after fits later = (
  stack_item automaton.BoundVariable (l + 1) (s + 1) ∷ [],
  refl,
  refl,
  refl,
  refl,
  (
    after,
    record {
      phrase = record { variables = variables; dot = dot; formula = f };
      spells = scoped_is (l + 1) s (record { variables = variables; dot = dot; formula = f }) after;
      fits = fits;
    },
    later,
  ),
)
operand_goes l s rest (Primary (Parenthesis open_paren f close_paren)) after fits later = (
  formula_on (l + 1) s (stack_item automaton.ParenthesisEnd (l + 1) s ∷ []),
  refl,
  refl,
  refl,
  refl,
  formula_split (l + 1) s (stack_item automaton.ParenthesisEnd (l + 1) s ∷ rest) f (deepen (l + 1) s close_paren (Symbol CloseParen) after) fits
      (after, record { phrase = close_paren; spells = refl; fits = tt }, later),
)
operand_goes l s rest (Primary (Constant value place)) after fits later = ([], refl, refl, refl, refl, later)
operand_goes l s rest (Primary (Event place name arguments)) after fits later =
    (stack_item (automaton.BehindName place) l s ∷ [], refl, refl, refl, refl, (after, record { phrase = Called arguments; spells = refl; fits = tt }, later))
operand_goes l s rest (Primary (Comparison (Variable at name) sign place t)) after fits later =
    (stack_item (automaton.BehindName at) l s ∷ [], refl, refl, refl, refl, (after, record { phrase = Compared sign place t; spells = refl; fits = tt }, later))
operand_goes l s rest (Primary (Comparison (Plain at value) sign place t)) after fits later =
    (stack_item automaton.BehindConstant l s ∷ [], refl, refl, refl, refl, (after, record { phrase = record { sign = sign; place = place; right = t }; spells = refl; fits = tt }, later))
operand_goes l s rest (Primary (Comparison (Minus at value) sign place t)) after fits later =
    (stack_item automaton.BehindConstant l s ∷ [], refl, refl, refl, refl, (after, record { phrase = record { sign = sign; place = place; right = t }; spells = refl; fits = tt }, later))
operand_goes l s rest (Primary (Comparison (Quoted at text) sign place t)) after fits later =
    (stack_item automaton.BehindConstant l s ∷ [], refl, refl, refl, refl, (after, record { phrase = record { sign = sign; place = place; right = t }; spells = refl; fits = tt }, later))

infix_goes : (l s : ℕ) (rest : Stack) (r : InfixRest) (after : List Deep) → InfixRestFits r (next_deep after) → Denotes rest after → Onward automaton.InfixTail l s rest (infix_rest_fold l s r after)
infix_goes l s rest NoInfix after fits later = inr (skips_infix (next_deep after) fits, later)
infix_goes l s rest (SomeInfix operator place interval g) after fits later =
    inl (stack_item (automaton.OpenInterval (l + 1)) l s ∷ [], refl, refl, refl, refl, (after, record { phrase = record { interval = interval; operand = g }; spells = refl; fits = fits }, later))

and_goes : (l s : ℕ) (rest : Stack) (r : Rest AndPhrase) (after : List Deep) → AndRestFits r (next_deep after) → Denotes rest after → Onward automaton.AndTail l s rest (and_rest_fold l s r after)
and_goes l s rest Without after fits later = inr (skips_and (next_deep after) fits, later)
and_goes l s rest (With place g) after fits later = inl (and_on (l + 1) s [], refl, refl, refl, refl, and_split (l + 1) s rest g after fits later)

or_goes : (l s : ℕ) (rest : Stack) (r : Rest OrPhrase) (after : List Deep) → OrRestFits r (next_deep after) → Denotes rest after → Onward automaton.OrTail l s rest (or_rest_fold l s r after)
or_goes l s rest Without after fits later = inr (skips_or (next_deep after) fits, later)
or_goes l s rest (With place g) after fits later = inl (or_on (l + 1) s [], refl, refl, refl, refl, or_split (l + 1) s rest g after fits later)

arrow_goes : (l s : ℕ) (rest : Stack) (r : Rest FormulaPhrase) (after : List Deep) → ArrowRestFits r (next_deep after) → Denotes rest after
    → Onward automaton.ArrowTail l s rest (arrow_rest_fold l s r after)
arrow_goes l s rest Without after fits later = inr (skips_arrow (next_deep after) fits, later)
arrow_goes l s rest (With place g) after fits later = inl (formula_on (l + 1) s [], refl, refl, refl, refl, formula_split (l + 1) s rest g after fits later)

rules_go : (l s : ℕ) (rest : Stack) (rules : List RulePhrase) (after : List Deep) → MoreFits rules (next_deep after) → Denotes rest after
    → Onward automaton.MoreRules l s rest (rules_fold l s rules after)
rules_go l s rest [] after fits later = inr (skips_rules (next_deep after) fits.1, later)
rules_go l s rest (rule ∷ rules) after fits later =
    inl (stack_item automaton.RuleName l s ∷ [], refl, refl, refl, refl, (after, record { phrase = record { rule = rule; more = rules }; spells = refl; fits = (fits.0.0, (fits.0.1, fits.1)) }, later))

variable_goes : (l s : ℕ) (rest : Stack) (variables : VariablesPhrase) (dot : ℕ) (f : FormulaPhrase) (after : List Deep) → grammar.FormulaFits f (next_deep after) → Denotes rest after
    → Goes automaton.BoundVariable l s rest (scoped_fold l s (record { variables = variables; dot = dot; formula = f }) after)
variable_goes l s rest (LastVariable v) dot f after fits later =
    (stack_item automaton.BehindVariable l s ∷ [], refl, refl, refl, refl, (after, record { phrase = Dotted dot f; spells = refl; fits = fits }, later))
variable_goes l s rest (NextVariable v comma more) dot f after fits later = (
  stack_item automaton.BehindVariable l s ∷ [],
  refl,
  refl,
  refl,
  refl,
  (
    after,
    record
        { phrase = Further comma (record { variables = more; dot = dot; formula = f }); spells = refl; fits = fits },
    later,
  ),
)

variable_rest_goes : (l s : ℕ) (rest : Stack) (r : VariableRest) (after : List Deep) → VariableRestFits r (next_deep after) → Denotes rest after
    → Goes automaton.BehindVariable l s rest (variable_rest_fold l s r after)
variable_rest_goes l s rest (Dotted dot f) after fits later = (formula_on l s [], refl, refl, refl, refl, formula_split l s rest f after fits later)
variable_rest_goes l s rest (Further comma b) after fits later =
    (stack_item automaton.BoundVariable l (s + 1) ∷ [], refl, refl, refl, refl, (after, record { phrase = b; spells = refl; fits = fits }, later))

name_rest_goes : (l s at : ℕ) (rest : Stack) (r : NameRest) (after : List Deep) → Denotes rest after → Goes (automaton.BehindName at) l s rest (name_rest_fold l s r after)
name_rest_goes l s at rest (Called arguments) after later = (
  stack_item automaton.FirstArgument (l + 1) s ∷ [],
  refl,
  refl,
  refl,
  refl,
  (
    after,
    record
        { phrase = record { terms = arguments.terms; close = arguments.close_paren }; spells = refl; fits = tt },
    later,
  ),
)
name_rest_goes l s at rest (Compared sign place t) after later =
    (stack_item automaton.RightSide l s ∷ [], refl, refl, refl, refl, (after, record { phrase = t; spells = refl; fits = tt }, later))

first_terms_go : (l s : ℕ) (rest : Stack) (terms : Option TermsPhrase) (close : ℕ) (after : List Deep) → Denotes rest after
    → Goes automaton.FirstArgument l s rest (first_terms_fold l s (record { terms = terms; close = close }) after)
first_terms_go l s rest None close after later = ([], refl, refl, refl, refl, later)
first_terms_go l s rest (Some (LastTerm t)) close after later =
    (stack_item automaton.BehindArgument l s ∷ [], refl, first_offered l s (grammar.term_place t) t, refl, refl, (after, record { phrase = Closed close; spells = refl; fits = tt }, later))
first_terms_go l s rest (Some (NextTerm t comma more)) close after later =
    (stack_item automaton.BehindArgument l s ∷ [], refl, first_offered l s (grammar.term_place t) t, refl, refl, (after, record { phrase = Another comma more close; spells = refl; fits = tt }, later))

next_terms_go : (l s : ℕ) (rest : Stack) (terms : TermsPhrase) (close : ℕ) (after : List Deep) → Denotes rest after
    → Goes automaton.NextArgument l s rest (next_terms_fold l s (record { terms = terms; close = close }) after)
next_terms_go l s rest (LastTerm t) close after later =
    (stack_item automaton.BehindArgument l s ∷ [], refl, next_offered l s (grammar.term_place t) t, refl, refl, (after, record { phrase = Closed close; spells = refl; fits = tt }, later))
next_terms_go l s rest (NextTerm t comma more) close after later =
    (stack_item automaton.BehindArgument l s ∷ [], refl, next_offered l s (grammar.term_place t) t, refl, refl, (after, record { phrase = Another comma more close; spells = refl; fits = tt }, later))

term_rest_goes : (l s : ℕ) (rest : Stack) (r : TermRest) (after : List Deep) → Denotes rest after → Goes automaton.BehindArgument l s rest (term_rest_fold l s r after)
term_rest_goes l s rest (Closed close) after later = ([], refl, refl, refl, refl, later)
term_rest_goes l s rest (Another comma terms close) after later =
    (stack_item automaton.NextArgument l s ∷ [], refl, refl, refl, refl, (after, record { phrase = record { terms = terms; close = close }; spells = refl; fits = tt }, later))

-- any item
pub onward : (kind : ItemKind) (l s : ℕ) (rest : Stack) (text : List Deep) → Denotes (stack_item kind l s ∷ rest) text → Onward kind l s rest text
onward automaton.MoreRules l s rest text (after, r, later) = subst (Onward automaton.MoreRules l s rest) r.spells (rules_go l s rest r.phrase after r.fits later)
onward automaton.RuleName l s rest text (after, r, later) = inl (subst (Goes automaton.RuleName l s rest) r.spells
    (stack_item automaton.RuleColon l s ∷ [], refl, refl, refl, refl, (after, record { phrase = r.phrase; spells = refl; fits = r.fits }, later)))
onward automaton.RuleColon l s rest text (after, r, later) = inl (subst (Goes automaton.RuleColon l s rest) r.spells (
  formula_on l s (stack_item automaton.RuleEnd l s ∷ []),
  refl,
  refl,
  refl,
  refl,
  formula_split l s (stack_item automaton.RuleEnd l s ∷ rest) r.phrase.rule.formula (rule_end_fold l s r.phrase after) r.fits.0
      (after, record { phrase = r.phrase; spells = refl; fits = r.fits.1 }, later),
))
onward automaton.RuleEnd l s rest text (after, r, later) = inl (subst (Goes automaton.RuleEnd l s rest) r.spells
    (stack_item automaton.MoreRules l s ∷ [], refl, refl, refl, refl, (after, record { phrase = r.phrase.more; spells = refl; fits = r.fits }, later)))
onward automaton.Operand l s rest text (after, r, later) = inl (subst (Goes automaton.Operand l s rest) r.spells (operand_goes l s rest r.phrase after r.fits later))
onward automaton.InfixTail l s rest text (after, r, later) = subst (Onward automaton.InfixTail l s rest) r.spells (infix_goes l s rest r.phrase after r.fits later)
onward automaton.AndTail l s rest text (after, r, later) = subst (Onward automaton.AndTail l s rest) r.spells (and_goes l s rest r.phrase after r.fits later)
onward automaton.OrTail l s rest text (after, r, later) = subst (Onward automaton.OrTail l s rest) r.spells (or_goes l s rest r.phrase after r.fits later)
onward automaton.ArrowTail l s rest text (after, r, later) = subst (Onward automaton.ArrowTail l s rest) r.spells (arrow_goes l s rest r.phrase after r.fits later)
onward (automaton.OpenInterval operand) l s rest text (after, r, later) = inl (subst (Goes (automaton.OpenInterval operand) l s rest) r.spells
    (stack_item (automaton.FirstEnd operand) l s ∷ [], refl, refl, refl, refl, (after, record { phrase = r.phrase; spells = refl; fits = r.fits }, later)))
onward (automaton.FirstEnd operand) l s rest text (after, r, later) = inl (subst (Goes (automaton.FirstEnd operand) l s rest) r.spells
    (stack_item (automaton.IntervalComma operand r.phrase.interval.low) l s ∷ [], refl, refl, refl, refl, (after, record { phrase = r.phrase; spells = refl; fits = r.fits }, later)))
onward (automaton.IntervalComma operand low) l s rest text (after, r, later) = inl (subst (Goes (automaton.IntervalComma operand low) l s rest) r.spells
    (stack_item (automaton.SecondEnd operand low) l s ∷ [], refl, refl, refl, refl, (after, record { phrase = r.phrase; spells = refl; fits = r.fits }, later)))
onward (automaton.SecondEnd operand low) l s rest text (after, r, later) = inl (subst (Goes (automaton.SecondEnd operand low) l s rest) r.spells (
  stack_item (automaton.CloseInterval operand) l s ∷ [],
  refl,
  end_offered operand low l s r.phrase.interval.high_place r.phrase.interval.high,
  refl,
  refl,
  (after, record { phrase = r.phrase; spells = refl; fits = r.fits }, later),
))
onward (automaton.CloseInterval operand) l s rest text (after, r, later) = inl (subst (Goes (automaton.CloseInterval operand) l s rest) r.spells
    (stack_item automaton.Operand operand s ∷ [], refl, refl, refl, refl, (after, record { phrase = r.phrase.operand; spells = refl; fits = r.fits }, later)))
onward automaton.BoundVariable l s rest text (after, r, later) = inl (subst (Goes automaton.BoundVariable l s rest) r.spells
    (variable_goes l s rest r.phrase.variables r.phrase.dot r.phrase.formula after r.fits later))
onward automaton.BehindVariable l s rest text (after, r, later) = inl (subst (Goes automaton.BehindVariable l s rest) r.spells (variable_rest_goes l s rest r.phrase after r.fits later))
onward automaton.ParenthesisEnd l s rest text (after, r, later) = inl (subst (Goes automaton.ParenthesisEnd l s rest) r.spells ([], refl, refl, refl, refl, later))
onward (automaton.BehindName at) l s rest text (after, r, later) = inl (subst (Goes (automaton.BehindName at) l s rest) r.spells (name_rest_goes l s at rest r.phrase after later))
onward automaton.BehindConstant l s rest text (after, r, later) = inl (subst (Goes automaton.BehindConstant l s rest) r.spells
    (stack_item automaton.RightSide l s ∷ [], refl, refl, refl, refl, (after, record { phrase = r.phrase.right; spells = refl; fits = tt }, later)))
onward automaton.FirstArgument l s rest text (after, r, later) = inl (subst (Goes automaton.FirstArgument l s rest) r.spells (first_terms_go l s rest r.phrase.terms r.phrase.close after later))
onward automaton.NextArgument l s rest text (after, r, later) = inl (subst (Goes automaton.NextArgument l s rest) r.spells (next_terms_go l s rest r.phrase.terms r.phrase.close after later))
onward automaton.BehindArgument l s rest text (after, r, later) = inl (subst (Goes automaton.BehindArgument l s rest) r.spells (term_rest_goes l s rest r.phrase after later))
onward automaton.RightSide l s rest text (after, r, later) = inl (subst (Goes automaton.RightSide l s rest) r.spells
    ([], refl, right_offered l s (grammar.term_place r.phrase) r.phrase, refl, refl, later))

-- the text begins with a lexeme of the first item that comes
pub record Onwards (stack : Stack) (deep : Deep) (more : List Deep) : Type 0 where
  pub next : StackItem
  pub rest : Stack
  pub left : Stack
  pub settled : settle deep.placed.1 stack ≡ next ∷ rest
  pub offers : offer next.kind next.level next.scope deep.placed.0 deep.placed.1 ≡ Some left
  pub level : deep.level ≡ next.level
  pub scope : deep.scope ≡ next.scope
  pub later : Denotes (left ++ rest) more

pub onwards : (stack : Stack) (deep : Deep) (more : List Deep) → Denotes stack (deep ∷ more) → Onwards stack deep more
onwards [] deep more denoted = absurd cc
onwards (next ∷ rest) deep more denoted = by (onward next.kind next.level next.scope rest (deep ∷ more) denoted)
    (λ skipped later. let o = onwards rest deep more later in record {
      next = o.next;
      rest = o.rest;
      left = o.left;
      settled = ap (λ (b : Bool). if b then settle deep.placed.1 rest else next ∷ rest) skipped ∙ o.settled;
      offers = o.offers;
      level = o.level;
      scope = o.scope;
      later = o.later;
    })
  where
    by : Onward next.kind next.level next.scope rest (deep ∷ more) → (skips next.kind deep.placed.1 ≡ true → Denotes rest (deep ∷ more) → Onwards (next ∷ rest) deep more)
        → Onwards (next ∷ rest) deep more
    by (inl goes) otherwise = record {
      next = next;
      rest = rest;
      left = goes.0;
      settled = ap (λ (b : Bool). if b then settle deep.placed.1 rest else next ∷ rest) goes.1;
      offers = goes.2;
      level = goes.3;
      scope = goes.4;
      later = goes.5;
    }
    by (inr (skipped, later)) otherwise = otherwise skipped later
