-- What the automaton counts is what stands after a lexeme.
use Rattle.policy_syntax.proofs.Vocabulary.{◌≡◌, ℕ, Bool, true, false, true≢false, ◌&&◌, if◌then◌else◌, List, [], ◌∷◌, ◌++◌, map, refl, sym, ap, subst, ◌∙◌, reverse-append, and_parts, ItemKind}
use Rattle.policy_syntax.proofs.Vocabulary.{StackItem, Stack, skips, settle, PolicyLexeme, PlacedLexeme, Symbol, NameLexeme, DigitsLexeme, kinds_behind, ends_in_name, wants_end}
use Rattle.policy_syntax.specs.machine.Automaton as automaton
use Rattle.policy_syntax.specs.declared.lexemes.Symbol.TheVariants as symbols

-- ---- one lexeme more

pub behind_push : (front : List PlacedLexeme) (token : PlacedLexeme) → kinds_behind (front ++ token ∷ []) ≡ token.1 ∷ kinds_behind front
behind_push front token = ap (map (λ (t : PlacedLexeme). t.1)) (reverse-append front (token ∷ []))

-- ---- what stands after the next item

-- the last lexeme is the word `rule`
abbrev pub ends_in_rule : List PolicyLexeme → Bool
ends_in_rule (Symbol symbols.Rule ∷ before) = true
ends_in_rule before = false

-- the last lexemes are a bracket and a number
abbrev pub ends_in_low : List PolicyLexeme → Bool
ends_in_low (DigitsLexeme low ∷ Symbol symbols.OpenBracket ∷ before) = true
ends_in_low before = false

abbrev pub is_rule_name : ItemKind → Bool
is_rule_name automaton.RuleName = true
is_rule_name kind = false

abbrev pub is_end : ItemKind → Bool
is_end (automaton.FirstEnd operand) = true
is_end (automaton.SecondEnd operand low) = true
is_end kind = false

-- what else is known of it
abbrev pub Context : ItemKind → List PlacedLexeme → List PolicyLexeme → Type 0
Context automaton.RuleName front back = (before : List PolicyLexeme) × (back ≡ Symbol symbols.Rule ∷ before)
Context automaton.Operand front back = ends_in_name back ≡ false
Context (automaton.FirstEnd operand) front back = (before : List PolicyLexeme) × (back ≡ Symbol symbols.OpenBracket ∷ before)
Context (automaton.IntervalComma operand low) front back = (before : List PolicyLexeme) × (back ≡ DigitsLexeme low ∷ Symbol symbols.OpenBracket ∷ before)
Context (automaton.SecondEnd operand low) front back = (before : List PolicyLexeme) × (back ≡ Symbol symbols.Comma ∷ DigitsLexeme low ∷ Symbol symbols.OpenBracket ∷ before)
Context automaton.BehindVariable front back = ends_in_low back ≡ false
Context automaton.BehindArgument front back = ends_in_low back ≡ false
Context (automaton.BehindName at) front back = (before : List PlacedLexeme) × (name : List ℕ) × (rest : List PolicyLexeme) × (front ≡ before ++ (at, NameLexeme name) ∷ [])
    × (back ≡ NameLexeme name ∷ rest)
Context kind front back = Unit {0}

-- the items that come again to the top
abbrev pub is_inner : ItemKind → Bool
is_inner automaton.InfixTail = true
is_inner automaton.AndTail = true
is_inner automaton.OrTail = true
is_inner automaton.ArrowTail = true
is_inner automaton.ParenthesisEnd = true
is_inner automaton.RuleEnd = true
is_inner kind = false

abbrev pub are_inner : Stack → Bool
are_inner [] = true
are_inner (next ∷ rest) = is_inner next.kind && are_inner rest

pub record Suits (kind : ItemKind) (front : List PlacedLexeme) (back : List PolicyLexeme) : Type 0 where
  pub rule : ends_in_rule back ≡ is_rule_name kind
  pub wanted : wants_end back ≡ is_end kind
  pub context : Context kind front back

-- the first item suits what stands after it, and below it are such that come again
abbrev pub StackSuits : Stack → List PlacedLexeme → List PolicyLexeme → Type 0
StackSuits [] front back = Unit {0}
StackSuits (next ∷ rest) front back = Suits next.kind front back × (are_inner rest ≡ true)

inner_suits : (kind : ItemKind) (front : List PlacedLexeme) (back : List PolicyLexeme) → is_inner kind ≡ true → ends_in_rule back ≡ false → wants_end back ≡ false → Suits kind front back
inner_suits automaton.InfixTail front back e rule wanted = record { rule = rule; wanted = wanted; context = tt }
inner_suits automaton.AndTail front back e rule wanted = record { rule = rule; wanted = wanted; context = tt }
inner_suits automaton.OrTail front back e rule wanted = record { rule = rule; wanted = wanted; context = tt }
inner_suits automaton.ArrowTail front back e rule wanted = record { rule = rule; wanted = wanted; context = tt }
inner_suits automaton.ParenthesisEnd front back e rule wanted = record { rule = rule; wanted = wanted; context = tt }
inner_suits automaton.RuleEnd front back e rule wanted = record { rule = rule; wanted = wanted; context = tt }
inner_suits kind front back e rule wanted = absurd (true≢false (sym e))

pub inner_stack_suits : (stack : Stack) (front : List PlacedLexeme) (back : List PolicyLexeme) → are_inner stack ≡ true → ends_in_rule back ≡ false → wants_end back ≡ false
    → StackSuits stack front back
inner_stack_suits [] front back e rule wanted = tt
inner_stack_suits (next ∷ rest) front back e rule wanted =
    let b = and_parts (is_inner next.kind) (are_inner rest) e in (inner_suits next.kind front back b.0 rule wanted, b.1)

-- what is skipped is no item whose context says anything
skipped_plain : (kind : ItemKind) (x : PolicyLexeme) → skips kind x ≡ true → (is_rule_name kind ≡ false) × (is_end kind ≡ false)
skipped_plain automaton.MoreRules x e = (refl, refl)
skipped_plain automaton.InfixTail x e = (refl, refl)
skipped_plain automaton.AndTail x e = (refl, refl)
skipped_plain automaton.OrTail x e = (refl, refl)
skipped_plain automaton.ArrowTail x e = (refl, refl)
skipped_plain kind x e = absurd (true≢false (sym e))

pub settled_suits : (stack : Stack) (front : List PlacedLexeme) (back : List PolicyLexeme) (x : PolicyLexeme) (next : StackItem) (rest : Stack) → StackSuits stack front back
    → settle x stack ≡ next ∷ rest → Suits next.kind front back × (are_inner rest ≡ true)
settled_suits [] front back x next rest suits e = absurd cc
settled_suits (first ∷ more) front back x next rest suits e =
    by (skips first.kind x) refl e (λ skipped later.
    let plain = skipped_plain first.kind x skipped in
    settled_suits more front back x next rest (inner_stack_suits more front back suits.1 (suits.0.rule ∙ plain.0) (suits.0.wanted ∙ plain.1)) later)
  where
    by : (skipped : Bool) → skips first.kind x ≡ skipped → (if skipped then settle x more else first ∷ more) ≡ next ∷ rest
        → (skips first.kind x ≡ true → settle x more ≡ next ∷ rest → Suits next.kind front back × (are_inner rest ≡ true)) → Suits next.kind front back × (are_inner rest ≡ true)
    by true skipped e later = later skipped e
    by false skipped e later = subst (λ (s : Stack). StackSuits s front back) e suits
