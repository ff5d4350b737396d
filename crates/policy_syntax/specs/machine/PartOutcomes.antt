-- What a part of the reader does to what is to come, whatever comes after it.
use Rattle.enf_data.specs.declared.limits.TheConstants.{MOST_NAME_BYTES}
use Rattle.std.specs.Prelude.{ℕ, List, Option, ◌≡◌, ◌++◌, ◌≢◌, Some, Result, Ok, Err, nat_le}
use Rattle.std.specs.Prelude.{if◌then◌else◌, None, nat_lt, length, [], ◌∷◌, ◌⊎◌}
use Rattle.policy_syntax.specs.declared.limits.TheConstants.{MOST_LEVEL, MOST_NODES, MOST_INTERVAL_END}
use Rattle.policy_syntax.specs.declared.parts.Parts.{Parts}
use Rattle.policy_syntax.specs.declared.refusals.SyntaxRefusal.{SyntaxRefusal}
use Rattle.policy_syntax.specs.declared.refusals.SyntaxRefusal.TheVariants.{NoMemory, Limit, Syntax}
use Rattle.policy_syntax.specs.declared.trees.SyntaxRule.{SyntaxRule}
use Rattle.policy_syntax.specs.machine.Automaton.{Stack, judge, start_stack}
use Rattle.policy_syntax.specs.machine.Cursor.{next_place}
use Rattle.policy_syntax.specs.machine.PhraseReading.{syntax_rule_names}
use Rattle.policy_syntax.specs.meaning.Lexemes.{PolicyLexeme, next_lexeme, NameLexeme, DigitsLexeme, NegativeLexeme}
use Rattle.policy_syntax.specs.meaning.Lexemes.{TextLexeme, Symbol}
use Rattle.policy_syntax.specs.declared.lexemes.Symbol as symbols

-- ---- over what comes after

-- the first refusal of what is left
abbrev pub judge_from : (names : List (List ℕ)) → Stack → Parts → Option SyntaxRefusal
judge_from names stack parts = judge parts.cursor.end stack parts.nodes names parts.cursor.rest

-- the first refusal of what is left is the same before and after a part
unfoldable pub Continues : (from to : Stack) → (old new : Parts) → Type 0
Continues from to old new =
    (names : List (List ℕ)) (below : Stack)
    → judge_from names (from ++ below) old ≡ judge_from names (to ++ below) new

-- the first refusal of what is left is this one, unless there was no memory
unfoldable pub RefusesFrom : (from : Stack) → Parts → SyntaxRefusal → Type 0
RefusesFrom from old refusal =
    refusal ≢ NoMemory → (names : List (List ℕ)) (below : Stack)
    → judge_from names (from ++ below) old ≡ Some refusal

-- a part was read, after which another is to come; or it is refused
abbrev pub ReadsPart : {A : Type 0} → (from to : Stack) → (old new : Parts) → Result A SyntaxRefusal → Type 0
ReadsPart from to old new (Ok _) = Continues from to old new
ReadsPart from to old new (Err refusal) = RefusesFrom from old refusal

-- ---- one lexeme: the refusal of it, if there is one

abbrev pub next_place_of : Parts → ℕ
next_place_of parts = next_place parts.cursor.end parts.cursor.rest

abbrev pub next_lexeme_of : Parts → PolicyLexeme
next_lexeme_of parts = next_lexeme parts.cursor.rest

abbrev pub level_refusal : (place level : ℕ) → Option SyntaxRefusal
level_refusal place level = if nat_le level MOST_LEVEL then None else Some (Limit place)

abbrev pub node_refusal : (place level nodes : ℕ) → Option SyntaxRefusal
node_refusal place level nodes = if nat_lt nodes MOST_NODES then level_refusal place level else Some (Limit place)

abbrev pub name_lexeme_refusal : (place level : ℕ) → PolicyLexeme → Option SyntaxRefusal
name_lexeme_refusal place level (NameLexeme name) =
    if nat_le (length name) MOST_NAME_BYTES then level_refusal place level else Some (Limit place)
name_lexeme_refusal place level _ = Some (Syntax place)

abbrev pub term_refusal : (place level : ℕ) → PolicyLexeme → Option SyntaxRefusal
term_refusal place level (DigitsLexeme _) = level_refusal place level
term_refusal place level (NegativeLexeme _) = level_refusal place level
term_refusal place level (TextLexeme _) = level_refusal place level
term_refusal place level lexeme = name_lexeme_refusal place level lexeme

-- an end of an interval, which is no less than some number
abbrev pub end_refusal : (place level least : ℕ) → PolicyLexeme → Option SyntaxRefusal
end_refusal place level least (DigitsLexeme end) =
    if nat_lt end least then Some (Syntax place)
    else (if nat_le end MOST_INTERVAL_END then level_refusal place level else Some (Limit place))
end_refusal place level least _ = Some (Syntax place)

-- the refusal is this one, unless there was no memory
abbrev pub Bars : Option SyntaxRefusal → SyntaxRefusal → Type 0
Bars found refusal = refusal ≢ NoMemory → found ≡ Some refusal

-- a lexeme was taken that is not refused, or it is refused
abbrev pub JudgesLexeme : {A : Type 0} → Option SyntaxRefusal → Result A SyntaxRefusal → Type 0
JudgesLexeme found (Ok _) = found ≡ None
JudgesLexeme found (Err refusal) = Bars found refusal

-- after some rules one more was read, or it is refused
abbrev pub JudgesRule : List SyntaxRule → (old new : Parts) → Result SyntaxRule SyntaxRefusal → Type 0
JudgesRule rules old new (Ok rule) =
    judge_from (syntax_rule_names rules) start_stack old
    ≡ judge_from (syntax_rule_names rules ++ rule.name ∷ []) start_stack new
JudgesRule rules old new (Err refusal) = Bars (judge_from (syntax_rule_names rules) start_stack old) refusal

-- another lexeme stands there than this word or mark, or it passes the limit on levels
abbrev pub BarsSymbol : symbols.Symbol → (place level : ℕ) → PolicyLexeme → SyntaxRefusal → Type 0
BarsSymbol symbol place level lexeme refusal =
    refusal ≢ NoMemory
    → ((lexeme ≢ Symbol symbol) × (refusal ≡ Syntax place))
    ⊎ ((lexeme ≡ Symbol symbol) × (level_refusal place level ≡ Some refusal))
