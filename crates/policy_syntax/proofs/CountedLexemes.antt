-- One lexeme more, and what is counted then.
use Rattle.policy_syntax.proofs.Vocabulary.{◌≡◌, ℕ, ◌+◌, Bool, true, false, true≢false, if◌then◌else◌, List, [], ◌∷◌, ◌++◌, length, reverse, Option, None, Some, refl, sym, ap, ◌∙◌, arith}
use Rattle.policy_syntax.proofs.Vocabulary.{length-append, reverse-append, ItemKind, Stack, offer, nodes_after, names_after, PolicyLexeme, PlacedLexeme, Symbol, Truth, Prefix, Infix, Quantifier, Sign}
use Rattle.policy_syntax.proofs.Vocabulary.{NameLexeme, DigitsLexeme, NegativeLexeme, TextLexeme, ends_in_name, is_operator, nodes_behind, rule_names, rules_behind, wants_end, Rule, Not, And, Or}
use Rattle.policy_syntax.proofs.Vocabulary.{Arrow, OpenParen, CloseParen, OpenBracket, CloseBracket, Comma, Semicolon, Colon, Dot, Star}
use Rattle.policy_syntax.proofs.AutomatonCounts.{Suits, StackSuits, are_inner, ends_in_low, ends_in_rule, inner_stack_suits}
use Rattle.policy_syntax.specs.machine.Automaton as automaton

-- ---- the items that are left suit the lexeme

-- after a comma an end is wanted where a bracket and a number stand before it
comma_wants : (back : List PolicyLexeme) → ends_in_low back ≡ false → wants_end (Symbol Comma ∷ back) ≡ false
comma_wants [] e = refl
comma_wants (DigitsLexeme low ∷ []) e = refl
comma_wants (DigitsLexeme low ∷ Symbol OpenBracket ∷ before) e = absurd (true≢false e)
comma_wants (DigitsLexeme low ∷ lexeme ∷ before) e = refl
comma_wants (lexeme ∷ before) e = refl

low_ends : (value : ℕ) (back : List PolicyLexeme) → wants_end back ≡ false → ends_in_low (DigitsLexeme value ∷ back) ≡ false
low_ends value [] e = refl
low_ends value (Symbol OpenBracket ∷ before) e = absurd (true≢false e)
low_ends value (lexeme ∷ before) e = refl

abbrev pub LeftSuits : Option Stack → Stack → List PlacedLexeme → List PolicyLexeme → Type 0
LeftSuits None rest front back = Unit {0}
LeftSuits (Some left) rest front back = StackSuits (left ++ rest) front back

pub left_suits : (kind : ItemKind) (l s p : ℕ) (x : PolicyLexeme) (rest : Stack) (front : List PlacedLexeme) (back : List PolicyLexeme) → Suits kind front back → are_inner rest ≡ true
    → LeftSuits (offer kind l s p x) rest (front ++ (p, x) ∷ []) (x ∷ back)
left_suits automaton.MoreRules l s p (Symbol Rule) rest front back suits e = (record { rule = refl; wanted = refl; context = (back, refl) }, e)
left_suits automaton.RuleName l s p (NameLexeme name) rest front back suits e = (record { rule = refl; wanted = refl; context = tt }, e)
left_suits automaton.RuleColon l s p (Symbol Colon) rest front back suits e = (record { rule = refl; wanted = refl; context = refl }, e)
left_suits automaton.RuleEnd l s p (Symbol Semicolon) rest front back suits e = (record { rule = refl; wanted = refl; context = tt }, e)
left_suits automaton.Operand l s p (Symbol Not) rest front back suits e = (record { rule = refl; wanted = refl; context = refl }, e)
left_suits automaton.Operand l s p (Symbol OpenParen) rest front back suits e = (record { rule = refl; wanted = refl; context = refl }, e)
left_suits automaton.Operand l s p (Prefix operator) rest front back suits e = (record { rule = refl; wanted = refl; context = tt }, e)
left_suits automaton.Operand l s p (Quantifier quantifier) rest front back suits e = (record { rule = refl; wanted = refl; context = tt }, e)
left_suits automaton.Operand l s p (Truth value) rest front back suits e = inner_stack_suits rest (front ++ (p, Truth value) ∷ []) (Truth value ∷ back) e refl refl
left_suits automaton.Operand l s p (NameLexeme name) rest front back suits e = (record { rule = refl; wanted = refl; context = (front, name, back, refl, refl) }, e)
left_suits automaton.Operand l s p (DigitsLexeme value) rest front back suits e = (record { rule = refl; wanted = refl; context = tt }, e)
left_suits automaton.Operand l s p (NegativeLexeme value) rest front back suits e = (record { rule = refl; wanted = refl; context = tt }, e)
left_suits automaton.Operand l s p (TextLexeme value) rest front back suits e = (record { rule = refl; wanted = refl; context = tt }, e)
left_suits automaton.InfixTail l s p (Infix operator) rest front back suits e = (record { rule = refl; wanted = refl; context = tt }, e)
left_suits automaton.AndTail l s p (Symbol And) rest front back suits e = (record { rule = refl; wanted = refl; context = refl }, e)
left_suits automaton.OrTail l s p (Symbol Or) rest front back suits e = (record { rule = refl; wanted = refl; context = refl }, e)
left_suits automaton.ArrowTail l s p (Symbol Arrow) rest front back suits e = (record { rule = refl; wanted = refl; context = refl }, e)
left_suits (automaton.OpenInterval operand) l s p (Symbol OpenBracket) rest front back suits e = (record { rule = refl; wanted = refl; context = (back, refl) }, e)
left_suits (automaton.FirstEnd operand) l s p (DigitsLexeme low) rest front back suits e =
    (record { rule = refl; wanted = refl; context = (suits.context.0, ap (λ (b : List PolicyLexeme). DigitsLexeme low ∷ b) suits.context.1) }, e)
left_suits (automaton.IntervalComma operand low) l s p (Symbol Comma) rest front back suits e = (
  record {
    rule = refl;
    wanted = ap (λ (b : List PolicyLexeme). wants_end (Symbol Comma ∷ b)) suits.context.1;
    context =
        (suits.context.0, ap (λ (b : List PolicyLexeme). Symbol Comma ∷ b) suits.context.1);
  },
  e,
)
left_suits (automaton.SecondEnd operand low) l s p (DigitsLexeme high) rest front back suits e = (record { rule = refl; wanted = refl; context = tt }, e)
left_suits (automaton.SecondEnd operand low) l s p (Symbol Star) rest front back suits e = (record { rule = refl; wanted = refl; context = tt }, e)
left_suits (automaton.CloseInterval operand) l s p (Symbol CloseBracket) rest front back suits e = (record { rule = refl; wanted = refl; context = refl }, e)
left_suits automaton.BoundVariable l s p (NameLexeme name) rest front back suits e = (record { rule = refl; wanted = refl; context = refl }, e)
left_suits automaton.BehindVariable l s p (Symbol Comma) rest front back suits e = (record { rule = refl; wanted = comma_wants back suits.context; context = tt }, e)
left_suits automaton.BehindVariable l s p (Symbol Dot) rest front back suits e = (record { rule = refl; wanted = refl; context = refl }, e)
left_suits automaton.ParenthesisEnd l s p (Symbol CloseParen) rest front back suits e = inner_stack_suits rest (front ++ (p, Symbol CloseParen) ∷ []) (Symbol CloseParen ∷ back) e refl refl
left_suits (automaton.BehindName at) l s p (Symbol OpenParen) rest front back suits e = (record { rule = refl; wanted = refl; context = tt }, e)
left_suits (automaton.BehindName at) l s p (Sign sign) rest front back suits e = (record { rule = refl; wanted = refl; context = tt }, e)
left_suits automaton.BehindConstant l s p (Sign sign) rest front back suits e = (record { rule = refl; wanted = refl; context = tt }, e)
left_suits automaton.FirstArgument l s p (Symbol CloseParen) rest front back suits e = inner_stack_suits rest (front ++ (p, Symbol CloseParen) ∷ []) (Symbol CloseParen ∷ back) e refl refl
left_suits automaton.FirstArgument l s p (NameLexeme name) rest front back suits e = (record { rule = refl; wanted = refl; context = refl }, e)
left_suits automaton.FirstArgument l s p (DigitsLexeme value) rest front back suits e = (record { rule = refl; wanted = refl; context = low_ends value back suits.wanted }, e)
left_suits automaton.FirstArgument l s p (NegativeLexeme value) rest front back suits e = (record { rule = refl; wanted = refl; context = refl }, e)
left_suits automaton.FirstArgument l s p (TextLexeme value) rest front back suits e = (record { rule = refl; wanted = refl; context = refl }, e)
left_suits automaton.NextArgument l s p (NameLexeme name) rest front back suits e = (record { rule = refl; wanted = refl; context = refl }, e)
left_suits automaton.NextArgument l s p (DigitsLexeme value) rest front back suits e = (record { rule = refl; wanted = refl; context = low_ends value back suits.wanted }, e)
left_suits automaton.NextArgument l s p (NegativeLexeme value) rest front back suits e = (record { rule = refl; wanted = refl; context = refl }, e)
left_suits automaton.NextArgument l s p (TextLexeme value) rest front back suits e = (record { rule = refl; wanted = refl; context = refl }, e)
left_suits automaton.BehindArgument l s p (Symbol Comma) rest front back suits e = (record { rule = refl; wanted = comma_wants back suits.context; context = tt }, e)
left_suits automaton.BehindArgument l s p (Symbol CloseParen) rest front back suits e = inner_stack_suits rest (front ++ (p, Symbol CloseParen) ∷ []) (Symbol CloseParen ∷ back) e refl refl
left_suits automaton.RightSide l s p (NameLexeme name) rest front back suits e = inner_stack_suits rest (front ++ (p, NameLexeme name) ∷ []) (NameLexeme name ∷ back) e refl refl
left_suits automaton.RightSide l s p (DigitsLexeme value) rest front back suits e = inner_stack_suits rest (front ++ (p, DigitsLexeme value) ∷ []) (DigitsLexeme value ∷ back) e refl refl
left_suits automaton.RightSide l s p (NegativeLexeme value) rest front back suits e = inner_stack_suits rest (front ++ (p, NegativeLexeme value) ∷ []) (NegativeLexeme value ∷ back) e refl refl
left_suits automaton.RightSide l s p (TextLexeme value) rest front back suits e = inner_stack_suits rest (front ++ (p, TextLexeme value) ∷ []) (TextLexeme value ∷ back) e refl refl
left_suits kind l s p x rest front back suits e = tt

-- ---- nodes

abbrev one_if : Bool → ℕ
one_if b = if b then 1 else 0

no_name : (back : List PolicyLexeme) (n : ℕ) → ends_in_name back ≡ false → n ≡ nodes_behind back → n ≡ (if ends_in_name back then 1 else 0) + nodes_behind back
no_name back n e is = omega (arith, is, ap one_if e)

a_name : (back : List PolicyLexeme) (n : ℕ) → ends_in_name back ≡ true → n ≡ nodes_behind back → n + 1 ≡ (if ends_in_name back then 1 else 0) + nodes_behind back
a_name back n e is = omega (arith, is, ap one_if e)

paren_nodes : (kind : ItemKind) (l s p : ℕ) (left : Stack) (front : List PlacedLexeme) (back : List PolicyLexeme) (n : ℕ) → Suits kind front back
    → offer kind l s p (Symbol OpenParen) ≡ Some left → n ≡ nodes_behind back
    → nodes_after kind n (Symbol OpenParen) ≡ nodes_behind (Symbol OpenParen ∷ back)
paren_nodes automaton.Operand l s p left front back n suits e is = no_name back n suits.context is
paren_nodes (automaton.BehindName at) l s p left front back n suits e is = a_name back n (ap ends_in_name suits.context.4) is
paren_nodes kind l s p left front back n suits e is = absurd cc

counted : (b : Bool) (n m : ℕ) → n ≡ m → (if b then n + 1 else n) ≡ (if b then 1 else 0) + m
counted true n m e = omega (arith, e)
counted false n m e = omega (arith, e)

pub nodes_next : (kind : ItemKind) (l s p : ℕ) (x : PolicyLexeme) (left : Stack) (front : List PlacedLexeme) (back : List PolicyLexeme) (n : ℕ) → Suits kind front back
    → offer kind l s p x ≡ Some left → n ≡ nodes_behind back
    → nodes_after kind n x ≡ nodes_behind (x ∷ back)
nodes_next kind l s p (Symbol Rule) left front back n suits e is = refl
nodes_next kind l s p (Symbol OpenParen) left front back n suits e is = paren_nodes kind l s p left front back n suits e is
nodes_next kind l s p x left front back n suits e is = counted (is_operator x) n (nodes_behind back) is

-- ---- names

same_names : (x : PolicyLexeme) (back : List PolicyLexeme) → ends_in_rule back ≡ false → rule_names (x ∷ back) ≡ rule_names back
same_names (NameLexeme name) [] e = refl
same_names (NameLexeme name) (Symbol Rule ∷ before) e = absurd (true≢false e)
same_names (NameLexeme name) (lexeme ∷ before) e = refl
same_names x back e = refl

new_name : (name : List ℕ) (before : List PolicyLexeme) (names : List (List ℕ)) → names ≡ reverse (rule_names before) → names ++ name ∷ [] ≡ reverse (name ∷ rule_names before)
new_name name before names is = ap (λ (ns : List (List ℕ)). ns ++ name ∷ []) is ∙ sym (reverse-append (name ∷ []) (rule_names before))

pub names_next : (kind : ItemKind) (l s p : ℕ) (x : PolicyLexeme) (left : Stack) (front : List PlacedLexeme) (back : List PolicyLexeme) (names : List (List ℕ)) → Suits kind front back
    → offer kind l s p x ≡ Some left → names ≡ reverse (rule_names back)
    → names_after kind names x ≡ reverse (rule_names (x ∷ back))
names_next automaton.RuleName l s p (NameLexeme name) left front back names suits e is =
    let b = suits.context.1 in
    new_name name suits.context.0 names (is ∙ ap (λ (b : List PolicyLexeme). reverse (rule_names b)) b) ∙ ap (λ (b : List PolicyLexeme). reverse (rule_names (NameLexeme name ∷ b))) (sym b)
names_next automaton.RuleName l s p x left front back names suits e is = absurd cc
names_next kind l s p x left front back names suits e is = is ∙ ap reverse (sym (same_names x back suits.rule))

-- ---- rules

rules_same : (x : PolicyLexeme) (back : List PolicyLexeme) (m : ℕ) → ends_in_rule back ≡ false → rules_behind back ≡ m + (if ends_in_rule back then 1 else 0)
    → rules_behind (x ∷ back) ≡ m + (if ends_in_rule (x ∷ back) then 1 else 0)
rules_same (Symbol Rule) back m e is = omega (arith, is, ap one_if e)
rules_same x back m e is = omega (arith, is, ap one_if e)

one_rule : (back : List PolicyLexeme) (name : List ℕ) (names : List (List ℕ)) → ends_in_rule back ≡ true → rules_behind back
    ≡ length names + (if ends_in_rule back then 1 else 0) → rules_behind (NameLexeme name ∷ back) ≡ length (names ++ name ∷ []) + 0
one_rule back name names e is = omega (arith, is, ap one_if e, length-append names (name ∷ []))

pub rules_next : (kind : ItemKind) (l s p : ℕ) (x : PolicyLexeme) (left : Stack) (front : List PlacedLexeme) (back : List PolicyLexeme) (names : List (List ℕ)) → Suits kind front back
    → offer kind l s p x ≡ Some left
    → rules_behind back ≡ length names + (if ends_in_rule back then 1 else 0) → rules_behind (x ∷ back) ≡ length (names_after kind names x) + (if ends_in_rule (x ∷ back) then 1 else 0)
rules_next automaton.RuleName l s p (NameLexeme name) left front back names suits e is = one_rule back name names suits.rule is
rules_next automaton.RuleName l s p x left front back names suits e is = absurd cc
rules_next kind l s p x left front back names suits e is = rules_same x back (length names) suits.rule is
