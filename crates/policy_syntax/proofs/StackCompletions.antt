-- Each stack stands for some text, and for the empty one where nothing need come.
use Rattle.policy_syntax.proofs.Vocabulary.{◌≡◌, ℕ, true, ◌&&◌, List, [], ◌∷◌, inl, inr, refl, sym, ◌∙◌, and_parts, ItemKind, Stack, stack_item, formula_on, skips, is_optional, accepts, PolicyLexeme}
use Rattle.policy_syntax.proofs.Vocabulary.{Symbol, Truth, Sign, NameLexeme, DigitsLexeme, End, Deep, deepen, Equal, CloseParen, OpenBracket, CloseBracket, Comma, Semicolon, Colon, Dot, Star}
use Rattle.policy_syntax.proofs.StackMeanings.{Denotes, next_deep}
use Rattle.policy_syntax.proofs.StackBeginnings.{Onward, onward}
use Rattle.policy_syntax.proofs.StackPredecessors.{back, skip_back}
use Rattle.policy_syntax.specs.machine.Automaton as automaton

-- the lexeme begins no optional part
pub record Quiet (x : PolicyLexeme) : Type 0 where
  pub no_rule : skips automaton.MoreRules x ≡ true
  pub no_infix : skips automaton.InfixTail x ≡ true
  pub no_and : skips automaton.AndTail x ≡ true
  pub no_or : skips automaton.OrTail x ≡ true
  pub no_arrow : skips automaton.ArrowTail x ≡ true

-- a text that the stack stands for
pub record Complete (stack : Stack) : Type 0 where
  pub text : List Deep
  pub quiet : Quiet (next_deep text)
  pub denoted : Denotes stack text

-- an operand
with_operand : (l s : ℕ) (rest : Stack) → Complete rest → Complete (stack_item automaton.Operand l s ∷ rest)
with_operand l s rest c = record {
  text = deepen l s 0 (Truth true) c.text;
  quiet = record { no_rule = refl; no_infix = refl; no_and = refl; no_or = refl; no_arrow = refl };
  denoted = back automaton.Operand l s 0 (Truth true) rest c.text c.denoted;
}

-- a formula
with_formula : (l s : ℕ) (rest : Stack) → Complete rest → Complete (formula_on l s rest)
with_formula l s rest c =
    let arrow = skip_back automaton.ArrowTail l s rest c.text c.quiet.no_arrow c.denoted in
    let or = skip_back automaton.OrTail l s (stack_item automaton.ArrowTail l s ∷ rest) c.text c.quiet.no_or arrow in
    let and = skip_back automaton.AndTail l s (stack_item automaton.OrTail l s ∷ stack_item automaton.ArrowTail l s ∷ rest) c.text c.quiet.no_and or in
    let operator = skip_back automaton.InfixTail l s (stack_item automaton.AndTail l s ∷ stack_item automaton.OrTail l s ∷ stack_item automaton.ArrowTail l s ∷ rest) c.text c.quiet.no_infix and in
    with_operand l s (stack_item automaton.InfixTail l s ∷ stack_item automaton.AndTail l s ∷ stack_item automaton.OrTail l s ∷ stack_item automaton.ArrowTail l s ∷ rest)
    (record { text = c.text; quiet = c.quiet; denoted = operator })

with_rule_end : (l s : ℕ) (rest : Stack) → Complete rest → Complete (stack_item automaton.RuleEnd l s ∷ rest)
with_rule_end l s rest c = record {
  text = deepen l s 0 (Symbol Semicolon) c.text;
  quiet = record { no_rule = refl; no_infix = refl; no_and = refl; no_or = refl; no_arrow = refl };
  denoted = back automaton.RuleEnd l s 0 (Symbol Semicolon) rest c.text (skip_back automaton.MoreRules l s rest c.text c.quiet.no_rule c.denoted);
}

with_colon : (l s : ℕ) (rest : Stack) → Complete rest → Complete (stack_item automaton.RuleColon l s ∷ rest)
with_colon l s rest c = let f = with_formula l s (stack_item automaton.RuleEnd l s ∷ rest) (with_rule_end l s rest c) in record {
  text = deepen l s 0 (Symbol Colon) f.text;
  quiet = record { no_rule = refl; no_infix = refl; no_and = refl; no_or = refl; no_arrow = refl };
  denoted = back automaton.RuleColon l s 0 (Symbol Colon) rest f.text f.denoted;
}

with_close : (operand l s : ℕ) (rest : Stack) → Complete rest → Complete (stack_item (automaton.CloseInterval operand) l s ∷ rest)
with_close operand l s rest c = let f = with_operand operand s rest c in record {
  text = deepen l s 0 (Symbol CloseBracket) f.text;
  quiet = record { no_rule = refl; no_infix = refl; no_and = refl; no_or = refl; no_arrow = refl };
  denoted = back (automaton.CloseInterval operand) l s 0 (Symbol CloseBracket) rest f.text f.denoted;
}

with_second : (operand low l s : ℕ) (rest : Stack) → Complete rest → Complete (stack_item (automaton.SecondEnd operand low) l s ∷ rest)
with_second operand low l s rest c = let f = with_close operand l s rest c in record {
  text = deepen l s 0 (Symbol Star) f.text;
  quiet = record { no_rule = refl; no_infix = refl; no_and = refl; no_or = refl; no_arrow = refl };
  denoted = back (automaton.SecondEnd operand low) l s 0 (Symbol Star) rest f.text f.denoted;
}

with_comma : (operand low l s : ℕ) (rest : Stack) → Complete rest → Complete (stack_item (automaton.IntervalComma operand low) l s ∷ rest)
with_comma operand low l s rest c = let f = with_second operand low l s rest c in record {
  text = deepen l s 0 (Symbol Comma) f.text;
  quiet = record { no_rule = refl; no_infix = refl; no_and = refl; no_or = refl; no_arrow = refl };
  denoted = back (automaton.IntervalComma operand low) l s 0 (Symbol Comma) rest f.text f.denoted;
}

with_first : (operand l s : ℕ) (rest : Stack) → Complete rest → Complete (stack_item (automaton.FirstEnd operand) l s ∷ rest)
with_first operand l s rest c = let f = with_comma operand 0 l s rest c in record {
  text = deepen l s 0 (DigitsLexeme 0) f.text;
  quiet = record { no_rule = refl; no_infix = refl; no_and = refl; no_or = refl; no_arrow = refl };
  denoted = back (automaton.FirstEnd operand) l s 0 (DigitsLexeme 0) rest f.text f.denoted;
}

with_behind_variable : (l s : ℕ) (rest : Stack) → Complete rest → Complete (stack_item automaton.BehindVariable l s ∷ rest)
with_behind_variable l s rest c = let f = with_formula l s rest c in record {
  text = deepen l s 0 (Symbol Dot) f.text;
  quiet = record { no_rule = refl; no_infix = refl; no_and = refl; no_or = refl; no_arrow = refl };
  denoted = back automaton.BehindVariable l s 0 (Symbol Dot) rest f.text f.denoted;
}

with_right : (l s : ℕ) (rest : Stack) → Complete rest → Complete (stack_item automaton.RightSide l s ∷ rest)
with_right l s rest c = record {
  text = deepen l s 0 (DigitsLexeme 0) c.text;
  quiet = record { no_rule = refl; no_infix = refl; no_and = refl; no_or = refl; no_arrow = refl };
  denoted = back automaton.RightSide l s 0 (DigitsLexeme 0) rest c.text c.denoted;
}

with_behind_argument : (l s : ℕ) (rest : Stack) → Complete rest → Complete (stack_item automaton.BehindArgument l s ∷ rest)
with_behind_argument l s rest c = record {
  text = deepen l s 0 (Symbol CloseParen) c.text;
  quiet = record { no_rule = refl; no_infix = refl; no_and = refl; no_or = refl; no_arrow = refl };
  denoted = back automaton.BehindArgument l s 0 (Symbol CloseParen) rest c.text c.denoted;
}

with_skipped : (kind : ItemKind) (l s : ℕ) (rest : Stack) (c : Complete rest) → skips kind (next_deep c.text) ≡ true → Complete (stack_item kind l s ∷ rest)
with_skipped kind l s rest c skipped = record { text = c.text; quiet = c.quiet; denoted = skip_back kind l s rest c.text skipped c.denoted }

-- any item before what can be completed
with_item : (kind : ItemKind) (l s : ℕ) (rest : Stack) → Complete rest → Complete (stack_item kind l s ∷ rest)
with_item automaton.MoreRules l s rest c = with_skipped automaton.MoreRules l s rest c c.quiet.no_rule
with_item automaton.RuleName l s rest c = let f = with_colon l s rest c in record {
  text = deepen l s 0 (NameLexeme []) f.text;
  quiet = record { no_rule = refl; no_infix = refl; no_and = refl; no_or = refl; no_arrow = refl };
  denoted = back automaton.RuleName l s 0 (NameLexeme []) rest f.text f.denoted;
}
with_item automaton.RuleColon l s rest c = with_colon l s rest c
with_item automaton.RuleEnd l s rest c = with_rule_end l s rest c
with_item automaton.Operand l s rest c = with_operand l s rest c
with_item automaton.InfixTail l s rest c = with_skipped automaton.InfixTail l s rest c c.quiet.no_infix
with_item automaton.AndTail l s rest c = with_skipped automaton.AndTail l s rest c c.quiet.no_and
with_item automaton.OrTail l s rest c = with_skipped automaton.OrTail l s rest c c.quiet.no_or
with_item automaton.ArrowTail l s rest c = with_skipped automaton.ArrowTail l s rest c c.quiet.no_arrow
with_item (automaton.OpenInterval operand) l s rest c = let f = with_first operand l s rest c in record {
  text = deepen l s 0 (Symbol OpenBracket) f.text;
  quiet = record { no_rule = refl; no_infix = refl; no_and = refl; no_or = refl; no_arrow = refl };
  denoted = back (automaton.OpenInterval operand) l s 0 (Symbol OpenBracket) rest f.text f.denoted;
}
with_item (automaton.FirstEnd operand) l s rest c = with_first operand l s rest c
with_item (automaton.IntervalComma operand low) l s rest c = with_comma operand low l s rest c
with_item (automaton.SecondEnd operand low) l s rest c = with_second operand low l s rest c
with_item (automaton.CloseInterval operand) l s rest c = with_close operand l s rest c
with_item automaton.BoundVariable l s rest c = let f = with_behind_variable l s rest c in record {
  text = deepen l s 0 (NameLexeme []) f.text;
  quiet = record { no_rule = refl; no_infix = refl; no_and = refl; no_or = refl; no_arrow = refl };
  denoted = back automaton.BoundVariable l s 0 (NameLexeme []) rest f.text f.denoted;
}
with_item automaton.BehindVariable l s rest c = with_behind_variable l s rest c
with_item automaton.ParenthesisEnd l s rest c = record {
  text = deepen l s 0 (Symbol CloseParen) c.text;
  quiet = record { no_rule = refl; no_infix = refl; no_and = refl; no_or = refl; no_arrow = refl };
  denoted = back automaton.ParenthesisEnd l s 0 (Symbol CloseParen) rest c.text c.denoted;
}
with_item (automaton.BehindName at) l s rest c = let f = with_right l s rest c in record {
  text = deepen l s 0 (Sign Equal) f.text;
  quiet = record { no_rule = refl; no_infix = refl; no_and = refl; no_or = refl; no_arrow = refl };
  denoted = back (automaton.BehindName at) l s 0 (Sign Equal) rest f.text f.denoted;
}
with_item automaton.BehindConstant l s rest c = let f = with_right l s rest c in record {
  text = deepen l s 0 (Sign Equal) f.text;
  quiet = record { no_rule = refl; no_infix = refl; no_and = refl; no_or = refl; no_arrow = refl };
  denoted = back automaton.BehindConstant l s 0 (Sign Equal) rest f.text f.denoted;
}
with_item automaton.FirstArgument l s rest c = record {
  text = deepen l s 0 (Symbol CloseParen) c.text;
  quiet = record { no_rule = refl; no_infix = refl; no_and = refl; no_or = refl; no_arrow = refl };
  denoted = back automaton.FirstArgument l s 0 (Symbol CloseParen) rest c.text c.denoted;
}
with_item automaton.NextArgument l s rest c = let f = with_behind_argument l s rest c in record {
  text = deepen l s 0 (DigitsLexeme 0) f.text;
  quiet = record { no_rule = refl; no_infix = refl; no_and = refl; no_or = refl; no_arrow = refl };
  denoted = back automaton.NextArgument l s 0 (DigitsLexeme 0) rest f.text f.denoted;
}
with_item automaton.BehindArgument l s rest c = with_behind_argument l s rest c
with_item automaton.RightSide l s rest c = with_right l s rest c

pub complete : (stack : Stack) → Complete stack
complete [] = record { text = []; quiet = record { no_rule = refl; no_infix = refl; no_and = refl; no_or = refl; no_arrow = refl }; denoted = refl }
complete (next ∷ rest) = with_item next.kind next.level next.scope rest (complete rest)

-- ---- the end

pub skips_end : (kind : ItemKind) → skips kind End ≡ is_optional kind
skips_end automaton.MoreRules = refl
skips_end automaton.InfixTail = refl
skips_end automaton.AndTail = refl
skips_end automaton.OrTail = refl
skips_end automaton.ArrowTail = refl
skips_end kind = refl

pub ends : (stack : Stack) → accepts stack ≡ true → Denotes stack []
ends [] e = refl
ends (next ∷ rest) e =
    let b = and_parts (is_optional next.kind) (accepts rest) e in
    skip_back next.kind next.level next.scope rest [] (skips_end next.kind ∙ b.0) (ends rest b.1)

pub ended : (stack : Stack) → Denotes stack [] → accepts stack ≡ true
ended [] denoted = refl
ended (next ∷ rest) denoted = by (onward next.kind next.level next.scope rest [] denoted) (λ later. ended rest later)
  where
    by : Onward next.kind next.level next.scope rest [] → (Denotes rest [] → accepts rest ≡ true) → accepts (next ∷ rest) ≡ true
    by (inl goes) otherwise = absurd goes
    by (inr (skipped, later)) otherwise = (λ j. ((sym (skips_end next.kind) ∙ skipped) j) && otherwise later j)
