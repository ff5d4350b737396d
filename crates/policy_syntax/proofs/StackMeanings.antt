-- What a stack of the automaton stands for: phrases one after the other.
use Rattle.policy_syntax.proofs.Vocabulary.{◌≡◌, ◌≢◌, ℕ, ◌+◌, List, [], ◌∷◌, length, Option, refl, sym, ap, ◌∙◌, arith, ItemKind, Stack, ArgumentsPhrase, AndPhrase, FormulaPhrase, IntervalPhrase}
use Rattle.policy_syntax.proofs.Vocabulary.{OrPhrase, RulePhrase, TermPhrase, TermsPhrase, UnaryPhrase, VariablesPhrase, LastVariable, NextVariable, variables_list, end_lexeme, scope_behind}
use Rattle.policy_syntax.proofs.Vocabulary.{PolicyLexeme, Symbol, Infix, Sign, NameLexeme, DigitsLexeme, End, Deep, deepen, Binding, Rule, And, Or, Arrow, CloseParen, CloseBracket, Comma, Semicolon}
use Rattle.policy_syntax.proofs.Vocabulary.{Colon, Dot}
use Rattle.policy_syntax.specs.machine.Automaton as automaton
use Rattle.policy_syntax.specs.meaning.Grammar as grammar
use Rattle.policy_syntax.specs.declared.lexemes.Infix as infixes
use Rattle.policy_syntax.specs.declared.lexemes.Sign as signs

-- ---- phrases of what is to come

pub data InfixRest : Type 0 where
  NoInfix : InfixRest
  SomeInfix : infixes.Infix → (place : ℕ) → IntervalPhrase → UnaryPhrase → InfixRest

pub data Rest (P : Type 0) : Type 0 where
  Without : Rest P
  With : (place : ℕ) → P → Rest P

-- of an interval counts what is still to come
pub record Bounded : Type 0 where
  pub interval : IntervalPhrase
  pub operand : UnaryPhrase

-- of the rule counts what is still to come
pub record Ruled : Type 0 where
  pub rule : RulePhrase
  pub more : List RulePhrase

-- variables, and the formula in their scope
pub record Scoped : Type 0 where
  pub variables : VariablesPhrase
  pub dot : ℕ
  pub formula : FormulaPhrase

pub data VariableRest : Type 0 where
  Dotted : (dot : ℕ) → FormulaPhrase → VariableRest
  Further : (comma : ℕ) → Scoped → VariableRest

pub data NameRest : Type 0 where
  Called : ArgumentsPhrase → NameRest
  Compared : signs.Sign → (place : ℕ) → TermPhrase → NameRest

pub record ConstantRest : Type 0 where
  pub sign : signs.Sign
  pub place : ℕ
  pub right : TermPhrase

pub record FirstTerms : Type 0 where
  pub terms : Option TermsPhrase
  pub close : ℕ

pub record NextTerms : Type 0 where
  pub terms : TermsPhrase
  pub close : ℕ

pub data TermRest : Type 0 where
  Closed : (close : ℕ) → TermRest
  Another : (comma : ℕ) → TermsPhrase → (close : ℕ) → TermRest

-- ---- their lexemes

abbrev pub infix_rest_fold : (level scope : ℕ) → InfixRest → List Deep → List Deep
infix_rest_fold level scope NoInfix rest = rest
infix_rest_fold level scope (SomeInfix operator place interval g) rest =
    deepen level scope place (Infix operator) (grammar.interval_fold deepen level scope interval (grammar.unary_fold deepen (level + 1) scope g rest))

abbrev pub and_rest_fold : (level scope : ℕ) → Rest AndPhrase → List Deep → List Deep
and_rest_fold level scope Without rest = rest
and_rest_fold level scope (With place g) rest = deepen level scope place (Symbol And) (grammar.and_fold deepen (level + 1) scope g rest)

abbrev pub or_rest_fold : (level scope : ℕ) → Rest OrPhrase → List Deep → List Deep
or_rest_fold level scope Without rest = rest
or_rest_fold level scope (With place g) rest = deepen level scope place (Symbol Or) (grammar.or_fold deepen (level + 1) scope g rest)

abbrev pub arrow_rest_fold : (level scope : ℕ) → Rest FormulaPhrase → List Deep → List Deep
arrow_rest_fold level scope Without rest = rest
arrow_rest_fold level scope (With place g) rest = deepen level scope place (Symbol Arrow) (grammar.formula_fold deepen (level + 1) scope g rest)

abbrev pub close_fold : (operand level scope : ℕ) → Bounded → List Deep → List Deep
close_fold operand level scope b rest = deepen level scope b.interval.close_bracket (Symbol CloseBracket) (grammar.unary_fold deepen operand scope b.operand rest)

abbrev pub second_fold : (operand level scope : ℕ) → Bounded → List Deep → List Deep
second_fold operand level scope b rest = deepen level scope b.interval.high_place (end_lexeme b.interval.high) (close_fold operand level scope b rest)

abbrev pub comma_fold : (operand level scope : ℕ) → Bounded → List Deep → List Deep
comma_fold operand level scope b rest = deepen level scope b.interval.comma (Symbol Comma) (second_fold operand level scope b rest)

abbrev pub first_fold : (operand level scope : ℕ) → Bounded → List Deep → List Deep
first_fold operand level scope b rest = deepen level scope b.interval.low_place (DigitsLexeme b.interval.low) (comma_fold operand level scope b rest)

abbrev pub open_fold : (operand level scope : ℕ) → Bounded → List Deep → List Deep
open_fold operand level scope b rest = grammar.interval_fold deepen level scope b.interval (grammar.unary_fold deepen operand scope b.operand rest)

-- at any level
abbrev pub rules_fold : (level scope : ℕ) → List RulePhrase → List Deep → List Deep
rules_fold level scope [] rest = rest
rules_fold level scope (rule ∷ rules) rest =
    deepen level scope rule.place (Symbol Rule) (deepen level scope rule.name_place (NameLexeme rule.name) (deepen level scope rule.colon (Symbol Colon)
    (grammar.formula_fold deepen level scope rule.formula (deepen level scope rule.semicolon (Symbol Semicolon) (rules_fold level scope rules rest)))))

abbrev pub rule_end_fold : (level scope : ℕ) → Ruled → List Deep → List Deep
rule_end_fold level scope r rest = deepen level scope r.rule.semicolon (Symbol Semicolon) (rules_fold level scope r.more rest)

abbrev pub colon_fold : (level scope : ℕ) → Ruled → List Deep → List Deep
colon_fold level scope r rest = deepen level scope r.rule.colon (Symbol Colon) (grammar.formula_fold deepen level scope r.rule.formula (rule_end_fold level scope r rest))

abbrev pub rule_name_fold : (level scope : ℕ) → Ruled → List Deep → List Deep
rule_name_fold level scope r rest = deepen level scope r.rule.name_place (NameLexeme r.rule.name) (colon_fold level scope r rest)

-- variables, the first of which stands in this scope
abbrev pub variables_at : (level scope : ℕ) → VariablesPhrase → List Deep → List Deep
variables_at level scope (LastVariable variable) rest = deepen level scope variable.place (NameLexeme variable.name) rest
variables_at level scope (NextVariable variable comma more) rest =
    deepen level scope variable.place (NameLexeme variable.name) (deepen level scope comma (Symbol Comma) (variables_at level (scope + 1) more rest))

-- and the scope of the last
abbrev pub last_scope : ℕ → VariablesPhrase → ℕ
last_scope scope (LastVariable variable) = scope
last_scope scope (NextVariable variable comma more) = last_scope (scope + 1) more

abbrev pub scoped_fold : (level scope : ℕ) → Scoped → List Deep → List Deep
scoped_fold level scope b rest =
    variables_at level scope b.variables (deepen level (last_scope scope b.variables) b.dot (Symbol Dot) (grammar.formula_fold deepen level (last_scope scope b.variables) b.formula rest))

abbrev pub variable_rest_fold : (level scope : ℕ) → VariableRest → List Deep → List Deep
variable_rest_fold level scope (Dotted dot f) rest = deepen level scope dot (Symbol Dot) (grammar.formula_fold deepen level scope f rest)
variable_rest_fold level scope (Further comma b) rest = deepen level scope comma (Symbol Comma) (scoped_fold level (scope + 1) b rest)

abbrev pub name_rest_fold : (level scope : ℕ) → NameRest → List Deep → List Deep
name_rest_fold level scope (Called arguments) rest = grammar.arguments_fold deepen level scope arguments rest
name_rest_fold level scope (Compared sign place t) rest = deepen level scope place (Sign sign) (grammar.term_fold deepen level scope t rest)

abbrev pub constant_rest_fold : (level scope : ℕ) → ConstantRest → List Deep → List Deep
constant_rest_fold level scope c rest = deepen level scope c.place (Sign c.sign) (grammar.term_fold deepen level scope c.right rest)

abbrev pub first_terms_fold : (level scope : ℕ) → FirstTerms → List Deep → List Deep
first_terms_fold level scope t rest = grammar.some_terms_fold deepen level scope t.terms (deepen level scope t.close (Symbol CloseParen) rest)

abbrev pub next_terms_fold : (level scope : ℕ) → NextTerms → List Deep → List Deep
next_terms_fold level scope t rest = grammar.terms_fold deepen level scope t.terms (deepen level scope t.close (Symbol CloseParen) rest)

abbrev pub term_rest_fold : (level scope : ℕ) → TermRest → List Deep → List Deep
term_rest_fold level scope (Closed close) rest = deepen level scope close (Symbol CloseParen) rest
term_rest_fold level scope (Another comma terms close) rest =
    deepen level scope comma (Symbol Comma) (grammar.terms_fold deepen level scope terms (deepen level scope close (Symbol CloseParen) rest))

-- ---- what may follow them

abbrev pub InfixRestFits : InfixRest → PolicyLexeme → Type 0
InfixRestFits NoInfix next = (operator : infixes.Infix) → next ≢ Infix operator
InfixRestFits (SomeInfix operator place interval g) next = grammar.UnaryFits g next

abbrev pub AndRestFits : Rest AndPhrase → PolicyLexeme → Type 0
AndRestFits Without next = next ≢ Symbol And
AndRestFits (With place g) next = grammar.AndFits g next

abbrev pub OrRestFits : Rest OrPhrase → PolicyLexeme → Type 0
OrRestFits Without next = next ≢ Symbol Or
OrRestFits (With place g) next = grammar.OrFits g next

abbrev pub ArrowRestFits : Rest FormulaPhrase → PolicyLexeme → Type 0
ArrowRestFits Without next = next ≢ Symbol Arrow
ArrowRestFits (With place g) next = grammar.FormulaFits g next

abbrev pub BoundedFits : Bounded → PolicyLexeme → Type 0
BoundedFits b next = grammar.UnaryFits b.operand next

-- no rule more follows
abbrev pub MoreFits : List RulePhrase → PolicyLexeme → Type 0
MoreFits rules next = grammar.PolicyFits rules × (next ≢ Symbol Rule)

abbrev pub EndFits : Ruled → PolicyLexeme → Type 0
EndFits r next = MoreFits r.more next

abbrev pub RuledFits : Ruled → PolicyLexeme → Type 0
RuledFits r next = grammar.RuleFits r.rule × MoreFits r.more next

abbrev pub ScopedFits : Scoped → PolicyLexeme → Type 0
ScopedFits b next = grammar.FormulaFits b.formula next

abbrev pub VariableRestFits : VariableRest → PolicyLexeme → Type 0
VariableRestFits (Dotted dot f) next = grammar.FormulaFits f next
VariableRestFits (Further comma b) next = ScopedFits b next

abbrev pub AlwaysFits : {P : Type 0} → P → PolicyLexeme → Type 0
AlwaysFits phrase next = Unit {0}

-- ---- what an item stands for

abbrev pub next_deep : List Deep → PolicyLexeme
next_deep [] = End
next_deep (deep ∷ rest) = deep.placed.1

-- a phrase stands between two places of a text
pub record Between {P : Type 0} (spelled : P → List Deep → List Deep) (Fits : P → PolicyLexeme → Type 0) (before after : List Deep) : Type 0 where
  pub phrase : P
  pub spells : spelled phrase after ≡ before
  pub fits : Fits phrase (next_deep after)

abbrev pub Reads : ItemKind → (level scope : ℕ) → (before after : List Deep) → Type 0
Reads automaton.MoreRules level scope = Between (rules_fold level scope) MoreFits
Reads automaton.RuleName level scope = Between (rule_name_fold level scope) RuledFits
Reads automaton.RuleColon level scope = Between (colon_fold level scope) RuledFits
Reads automaton.RuleEnd level scope = Between (rule_end_fold level scope) EndFits
Reads automaton.Operand level scope = Between (grammar.unary_fold deepen level scope) grammar.UnaryFits
Reads automaton.InfixTail level scope = Between (infix_rest_fold level scope) InfixRestFits
Reads automaton.AndTail level scope = Between (and_rest_fold level scope) AndRestFits
Reads automaton.OrTail level scope = Between (or_rest_fold level scope) OrRestFits
Reads automaton.ArrowTail level scope = Between (arrow_rest_fold level scope) ArrowRestFits
Reads (automaton.OpenInterval operand) level scope = Between (open_fold operand level scope) BoundedFits
Reads (automaton.FirstEnd operand) level scope = Between (first_fold operand level scope) BoundedFits
Reads (automaton.IntervalComma operand low) level scope = Between (comma_fold operand level scope) BoundedFits
Reads (automaton.SecondEnd operand low) level scope = Between (second_fold operand level scope) BoundedFits
Reads (automaton.CloseInterval operand) level scope = Between (close_fold operand level scope) BoundedFits
Reads automaton.BoundVariable level scope = Between (scoped_fold level scope) ScopedFits
Reads automaton.BehindVariable level scope = Between (variable_rest_fold level scope) VariableRestFits
Reads automaton.ParenthesisEnd level scope = Between (λ (close : ℕ). deepen level scope close (Symbol CloseParen)) AlwaysFits
Reads (automaton.BehindName place) level scope = Between (name_rest_fold level scope) AlwaysFits
Reads automaton.BehindConstant level scope = Between (constant_rest_fold level scope) AlwaysFits
Reads automaton.FirstArgument level scope = Between (first_terms_fold level scope) AlwaysFits
Reads automaton.NextArgument level scope = Between (next_terms_fold level scope) AlwaysFits
Reads automaton.BehindArgument level scope = Between (term_rest_fold level scope) AlwaysFits
Reads automaton.RightSide level scope = Between (grammar.term_fold deepen level scope) AlwaysFits

-- phrases for the items of a stack stand one after the other, up to the end
abbrev pub Denotes : Stack → List Deep → Type 0
Denotes [] text = text ≡ []
Denotes (next ∷ rest) text = (middle : List Deep) × Reads next.kind next.level next.scope text middle × Denotes rest middle

-- ---- variables are counted from the first on

pub counted : (scope : ℕ) (x : Binding) (xs : List Binding) → scope + 1 + length xs ≡ scope + length (x ∷ xs)
counted scope x xs = grind arith

scope_is : (scope : ℕ) (variables : VariablesPhrase) → last_scope (scope + 1) variables ≡ scope_behind scope variables
scope_is scope (LastVariable variable) = refl
scope_is scope (NextVariable variable comma more) = scope_is (scope + 1) more ∙ counted scope variable (variables_list more)

variables_are : (level scope : ℕ) (variables : VariablesPhrase) (rest : List Deep) → grammar.variables_fold deepen level scope variables rest ≡ variables_at level (scope + 1) variables rest
variables_are level scope (LastVariable variable) rest = refl
variables_are level scope (NextVariable variable comma more) rest =
    ap (λ (x : List Deep). deepen level (scope + 1) variable.place (NameLexeme variable.name) (deepen level (scope + 1) comma (Symbol Comma) x)) (variables_are level (scope + 1) more rest)

pub scoped_is : (level scope : ℕ) (b : Scoped) (rest : List Deep)
    → scoped_fold level (scope + 1) b rest
    ≡ grammar.variables_fold deepen level scope b.variables (deepen level (scope_behind scope b.variables) b.dot (Symbol Dot)
    (grammar.formula_fold deepen level (scope_behind scope b.variables) b.formula rest))
scoped_is level scope b rest =
    ap (λ (n : ℕ). variables_at level (scope + 1) b.variables (deepen level n b.dot (Symbol Dot) (grammar.formula_fold deepen level n b.formula rest))) (scope_is scope b.variables)
    ∙ sym (variables_are level scope b.variables _)
