-- The grammar as a deterministic automaton over a stack of what is still to come, and the first refusal by it.
use Rattle.enf_data.specs.declared.limits.TheConstants.{MOST_NAME_BYTES}
use Rattle.std.specs.List.{list_any}
use Rattle.std.specs.Prelude.{ℕ, List, ◌∷◌, ◌+◌, [], Option, None, Some, Bool, true, false}
use Rattle.std.specs.Prelude.{if◌then◌else◌, ◌&&◌, nat_lt, nat_le, length, ◌||◌, ◌++◌, Result, Ok}
use Rattle.std.specs.Prelude.{Err}
use Rattle.std.specs.Str.{bytes_eq}
use Rattle.policy_syntax.specs.declared.lexemes.Symbol.TheVariants.{Rule, Not, And, Or, Arrow, OpenParen, CloseParen}
use Rattle.policy_syntax.specs.declared.lexemes.Symbol.TheVariants.{OpenBracket, CloseBracket, Comma, Semicolon, Colon}
use Rattle.policy_syntax.specs.declared.lexemes.Symbol.TheVariants.{Dot, Star}
use Rattle.policy_syntax.specs.declared.limits.TheConstants.{MOST_INTERVAL_END, MOST_NODES, MOST_RULES, MOST_LEVEL}
use Rattle.policy_syntax.specs.declared.limits.TheConstants.{MOST_VARIABLES}
use Rattle.policy_syntax.specs.declared.refusals.SyntaxRefusal.{SyntaxRefusal}
use Rattle.policy_syntax.specs.declared.refusals.SyntaxRefusal.TheVariants.{Syntax, Limit}
use Rattle.policy_syntax.specs.meaning.Lexemes.{PolicyLexeme, Symbol, Truth, Prefix, Infix, Quantifier, Sign}
use Rattle.policy_syntax.specs.meaning.Lexemes.{NameLexeme, DigitsLexeme, NegativeLexeme, TextLexeme, PlacedLexeme}
use Rattle.policy_syntax.specs.meaning.Refusals.{is_operator}

-- what is to come
pub data ItemKind : Type 0 where
  -- any number of rules; a rule from its name on, from its colon on, and its end
  MoreRules : ItemKind
  RuleName : ItemKind
  RuleColon : ItemKind
  RuleEnd : ItemKind
  -- a unary, and the optional parts after operands
  Operand : ItemKind
  InfixTail : ItemKind
  AndTail : ItemKind
  OrTail : ItemKind
  ArrowTail : ItemKind
  -- an interval, and the unary at a level after it: from `[` on, from the first end on, from the comma on, from the
  -- second end on, and from `]` on
  OpenInterval : (operand : ℕ) → ItemKind
  FirstEnd : (operand : ℕ) → ItemKind
  IntervalComma : (operand low : ℕ) → ItemKind
  SecondEnd : (operand low : ℕ) → ItemKind
  CloseInterval : (operand : ℕ) → ItemKind
  -- a variable that a quantifier binds and what follows it up to the formula's end, and what follows the variable
  BoundVariable : ItemKind
  BehindVariable : ItemKind
  -- the end of a parenthesis
  ParenthesisEnd : ItemKind
  -- what follows a name at a place, and a constant, that begins a primary
  BehindName : (place : ℕ) → ItemKind
  BehindConstant : ItemKind
  -- the terms of an event up to its end: after its parenthesis, after a comma, and after a term
  FirstArgument : ItemKind
  NextArgument : ItemKind
  BehindArgument : ItemKind
  -- the second term of a comparison
  RightSide : ItemKind

-- with the level and the scope of its first lexeme
pub record StackItem : Type 0 where
  pub kind : ItemKind
  pub level : ℕ
  pub scope : ℕ

abbrev pub stack_item : ItemKind → (level scope : ℕ) → StackItem
stack_item kind level scope = record { kind = kind; level = level; scope = scope }

-- the next first
abbrev pub Stack : Type 0
Stack = List StackItem

-- a binf, an andf, an orf and a formula, and then the rest
abbrev pub infix_on : (level scope : ℕ) → Stack → Stack
infix_on level scope rest = stack_item Operand level scope ∷ stack_item InfixTail level scope ∷ rest

abbrev pub and_on : (level scope : ℕ) → Stack → Stack
and_on level scope rest = infix_on level scope (stack_item AndTail level scope ∷ rest)

abbrev pub or_on : (level scope : ℕ) → Stack → Stack
or_on level scope rest = and_on level scope (stack_item OrTail level scope ∷ rest)

abbrev pub formula_on : (level scope : ℕ) → Stack → Stack
formula_on level scope rest = or_on level scope (stack_item ArrowTail level scope ∷ rest)

-- what is still to come of an item after a lexeme at a place, where the lexeme can begin the item
abbrev pub offer : ItemKind → (level scope place : ℕ) → PolicyLexeme → Option Stack
offer MoreRules level scope place (Symbol Rule) = Some (stack_item RuleName level scope ∷ [])
offer RuleName level scope place (NameLexeme name) = Some (stack_item RuleColon level scope ∷ [])
offer RuleColon level scope place (Symbol Colon) = Some (formula_on level scope (stack_item RuleEnd level scope ∷ []))
offer RuleEnd level scope place (Symbol Semicolon) = Some (stack_item MoreRules level scope ∷ [])
offer Operand level scope place (Symbol Not) = Some (stack_item Operand (level + 1) scope ∷ [])
offer Operand level scope place (Symbol OpenParen) =
    Some (formula_on (level + 1) scope (stack_item ParenthesisEnd (level + 1) scope ∷ []))
offer Operand level scope place (Prefix operator) = Some
    (stack_item (OpenInterval (level + 1)) (level + 1) scope ∷ [])
offer Operand level scope place (Quantifier quantifier) = Some (stack_item BoundVariable (level + 1) (scope + 1) ∷ [])
offer Operand level scope place (Truth value) = Some []
offer Operand level scope place (NameLexeme name) = Some (stack_item (BehindName place) level scope ∷ [])
offer Operand level scope place (DigitsLexeme value) = Some (stack_item BehindConstant level scope ∷ [])
offer Operand level scope place (NegativeLexeme value) = Some (stack_item BehindConstant level scope ∷ [])
offer Operand level scope place (TextLexeme text) = Some (stack_item BehindConstant level scope ∷ [])
offer InfixTail level scope place (Infix operator) = Some (stack_item (OpenInterval (level + 1)) level scope ∷ [])
offer AndTail level scope place (Symbol And) = Some (and_on (level + 1) scope [])
offer OrTail level scope place (Symbol Or) = Some (or_on (level + 1) scope [])
offer ArrowTail level scope place (Symbol Arrow) = Some (formula_on (level + 1) scope [])
offer (OpenInterval operand) level scope place (Symbol OpenBracket) = Some
    (stack_item (FirstEnd operand) level scope ∷ [])
offer (FirstEnd operand) level scope place (DigitsLexeme low) = Some
    (stack_item (IntervalComma operand low) level scope ∷ [])
offer (IntervalComma operand low) level scope place (Symbol Comma) =
    Some (stack_item (SecondEnd operand low) level scope ∷ [])
offer (SecondEnd operand low) level scope place (DigitsLexeme high) = Some
    (stack_item (CloseInterval operand) level scope ∷ [])
offer (SecondEnd operand low) level scope place (Symbol Star) = Some
    (stack_item (CloseInterval operand) level scope ∷ [])
offer (CloseInterval operand) level scope place (Symbol CloseBracket) = Some (stack_item Operand operand scope ∷ [])
offer BoundVariable level scope place (NameLexeme name) = Some (stack_item BehindVariable level scope ∷ [])
offer BehindVariable level scope place (Symbol Comma) = Some (stack_item BoundVariable level (scope + 1) ∷ [])
offer BehindVariable level scope place (Symbol Dot) = Some (formula_on level scope [])
offer ParenthesisEnd level scope place (Symbol CloseParen) = Some []
offer (BehindName at) level scope place (Symbol OpenParen) = Some (stack_item FirstArgument (level + 1) scope ∷ [])
offer (BehindName at) level scope place (Sign sign) = Some (stack_item RightSide level scope ∷ [])
offer BehindConstant level scope place (Sign sign) = Some (stack_item RightSide level scope ∷ [])
offer FirstArgument level scope place (Symbol CloseParen) = Some []
offer FirstArgument level scope place (NameLexeme name) = Some (stack_item BehindArgument level scope ∷ [])
offer FirstArgument level scope place (DigitsLexeme value) = Some (stack_item BehindArgument level scope ∷ [])
offer FirstArgument level scope place (NegativeLexeme value) = Some (stack_item BehindArgument level scope ∷ [])
offer FirstArgument level scope place (TextLexeme text) = Some (stack_item BehindArgument level scope ∷ [])
offer NextArgument level scope place (NameLexeme name) = Some (stack_item BehindArgument level scope ∷ [])
offer NextArgument level scope place (DigitsLexeme value) = Some (stack_item BehindArgument level scope ∷ [])
offer NextArgument level scope place (NegativeLexeme value) = Some (stack_item BehindArgument level scope ∷ [])
offer NextArgument level scope place (TextLexeme text) = Some (stack_item BehindArgument level scope ∷ [])
offer BehindArgument level scope place (Symbol Comma) = Some (stack_item NextArgument level scope ∷ [])
offer BehindArgument level scope place (Symbol CloseParen) = Some []
offer RightSide level scope place (NameLexeme name) = Some []
offer RightSide level scope place (DigitsLexeme value) = Some []
offer RightSide level scope place (NegativeLexeme value) = Some []
offer RightSide level scope place (TextLexeme text) = Some []
offer kind level scope place lexeme = None

-- an optional part that the lexeme does not begin
abbrev pub skips : ItemKind → PolicyLexeme → Bool
skips MoreRules (Symbol Rule) = false
skips MoreRules lexeme = true
skips InfixTail (Infix operator) = false
skips InfixTail lexeme = true
skips AndTail (Symbol And) = false
skips AndTail lexeme = true
skips OrTail (Symbol Or) = false
skips OrTail lexeme = true
skips ArrowTail (Symbol Arrow) = false
skips ArrowTail lexeme = true
skips kind lexeme = false

-- the stack without such parts before the next item
abbrev pub settle : PolicyLexeme → Stack → Stack
settle lexeme [] = []
settle lexeme (next ∷ rest) = if skips next.kind lexeme then settle lexeme rest else next ∷ rest

abbrev pub is_optional : ItemKind → Bool
is_optional MoreRules = true
is_optional InfixTail = true
is_optional AndTail = true
is_optional OrTail = true
is_optional ArrowTail = true
is_optional kind = false

-- whether nothing need come
abbrev pub accepts : Stack → Bool
accepts [] = true
accepts (next ∷ rest) = is_optional next.kind && accepts rest

-- ---- refusals of a lexeme that can stand here: `names` are those of the rules so far, `nodes` are those of this rule

-- the lexeme is a rule's name that was used before, or an end below the first
abbrev pub is_wrong : ItemKind → (names : List (List ℕ)) → PolicyLexeme → Bool
is_wrong RuleName names (NameLexeme name) = list_any (bytes_eq name) names
is_wrong (SecondEnd operand low) names (DigitsLexeme high) = nat_lt high low
is_wrong kind names lexeme = false

-- the lexeme passes a limit that is not on its level or scope
abbrev pub is_beyond : ItemKind → (nodes : ℕ) → (names : List (List ℕ)) → PolicyLexeme → Bool
is_beyond kind nodes names (Symbol Rule) = nat_le MOST_RULES (length names)
is_beyond kind nodes names (NameLexeme name) = nat_lt MOST_NAME_BYTES (length name)
is_beyond (FirstEnd operand) nodes names (DigitsLexeme end) = nat_lt MOST_INTERVAL_END end
is_beyond (SecondEnd operand low) nodes names (DigitsLexeme end) = nat_lt MOST_INTERVAL_END end
is_beyond kind nodes names lexeme = is_operator lexeme && nat_le MOST_NODES nodes

-- the lexeme passes a limit. The parenthesis after an event's name has the name's level and scope, and makes the name
-- a node
abbrev pub is_over : ItemKind → (level scope nodes : ℕ) → (names : List (List ℕ)) → PolicyLexeme → Bool
is_over (BehindName at) level scope nodes names (Symbol OpenParen) = nat_le MOST_NODES nodes
is_over kind level scope nodes names lexeme =
    nat_lt MOST_LEVEL level || nat_lt MOST_VARIABLES scope || is_beyond kind nodes names lexeme

-- the place of that limit
abbrev pub limit_place : ItemKind → (place : ℕ) → PolicyLexeme → ℕ
limit_place (BehindName at) place (Symbol OpenParen) = at
limit_place kind place lexeme = place

-- ---- what is counted after a lexeme

abbrev pub nodes_after : ItemKind → (nodes : ℕ) → PolicyLexeme → ℕ
nodes_after kind nodes (Symbol Rule) = 0
nodes_after (BehindName at) nodes (Symbol OpenParen) = nodes + 1
nodes_after kind nodes lexeme = if is_operator lexeme then nodes + 1 else nodes

abbrev pub names_after : ItemKind → (names : List (List ℕ)) → PolicyLexeme → List (List ℕ)
names_after RuleName names (NameLexeme name) = names ++ name ∷ []
names_after kind names lexeme = names

-- ---- the first refusal

pub record AutomatonState : Type 0 where
  pub stack : Stack
  pub nodes : ℕ
  pub names : List (List ℕ)

abbrev pub automaton_state : Stack → (nodes : ℕ) → (names : List (List ℕ)) → AutomatonState
automaton_state stack nodes names = record { stack = stack; nodes = nodes; names = names }

-- the state after a lexeme, or its refusal, where this is left of the item that it begins
abbrev pub offered : StackItem → Stack → (nodes : ℕ) → (names : List (List ℕ)) → (place : ℕ)
    → PolicyLexeme → Option Stack
    → Result AutomatonState SyntaxRefusal
offered next rest nodes names place lexeme None = Err (Syntax place)
offered next rest nodes names place lexeme (Some left) =
    if is_wrong next.kind names lexeme then Err (Syntax place)
    else (if is_over next.kind next.level next.scope nodes names lexeme
    then Err (Limit (limit_place next.kind place lexeme))
    else Ok (automaton_state (left ++ rest) (nodes_after next.kind nodes lexeme) (names_after next.kind names lexeme)))

-- the state after a lexeme, or its refusal, from a settled stack
abbrev pub automaton_step : Stack → (nodes : ℕ) → (names : List (List ℕ)) → (place : ℕ) → PolicyLexeme
    → Result AutomatonState SyntaxRefusal
automaton_step [] nodes names place lexeme = Err (Syntax place)
automaton_step (next ∷ rest) nodes names place lexeme =
    offered next rest nodes names place lexeme (offer next.kind next.level next.scope place lexeme)

abbrev pub then_judged : (AutomatonState → Option SyntaxRefusal) → Result AutomatonState SyntaxRefusal
    → Option SyntaxRefusal
then_judged judged (Ok after) = judged after
then_judged judged (Err refusal) = Some refusal

-- the first refusal of lexemes of a text that ends at a place, if there is one
unfoldable pub judge : (end : ℕ) → Stack → (nodes : ℕ) → (names : List (List ℕ)) → List PlacedLexeme
    → Option SyntaxRefusal
judge end stack nodes names [] = if accepts stack then None else Some (Syntax end)
judge end stack nodes names (placed ∷ rest) =
    then_judged (λ (after : AutomatonState). judge end after.stack after.nodes after.names rest)
    (automaton_step (settle placed.1 stack) nodes names placed.0 placed.1)

-- what is to come of a policy
abbrev pub start_stack : Stack
start_stack = stack_item MoreRules 0 0 ∷ []
