-- What each lexeme of a formula is to the automaton.
use Rattle.policy_syntax.proofs.Vocabulary.{◌≡◌, ◌≢◌, ⊎_elim, ℕ, ◌+◌, ◌≤◌, Bool, false, List, [], ◌∷◌, Some, None, refl, sym, Stack, Operand, InfixTail, AndTail, OrTail, ArrowTail, OpenInterval}
use Rattle.policy_syntax.proofs.Vocabulary.{BoundVariable, BehindVariable, ParenthesisEnd, BehindConstant, and_on, formula_on, stack_item, offer, or_on, settle, automaton_step, Bars, BarsSymbol}
use Rattle.policy_syntax.proofs.Vocabulary.{term_refusal, next_lexeme_of, next_place_of, PolicyLexeme, Symbol, Truth, Prefix, Infix, Quantifier, NameLexeme, DigitsLexeme, NegativeLexeme, TextLexeme}
use Rattle.policy_syntax.proofs.Vocabulary.{lexeme_of, IsLexemeTaken, begins_inner, MOST_VARIABLES, Not, And, Or, Arrow, OpenParen, CloseParen, Comma, Dot, Parts, SyntaxRefusal}
use Rattle.policy_syntax.specs.machine.PartOutcomes.{Continues, RefusesFrom}
use Rattle.policy_syntax.proofs.PartMoves.{IsMark, IsNoName, IsOnly, IsOperator, refuses_if, as_refused, one_is, past_stops, level_past}
use Rattle.policy_syntax.proofs.AutomatonSteps.{IsMove, goes_as, moves, sticks}
use Rattle.policy_syntax.specs.declared.lexemes.Lexeme as read
use Rattle.policy_syntax.specs.declared.lexemes.Lexeme.TheVariants as variants
use Rattle.policy_syntax.specs.declared.lexemes.Infix as infixes
use Rattle.policy_syntax.specs.declared.lexemes.Prefix as prefixes
use Rattle.policy_syntax.specs.declared.lexemes.Quantifier as quantifiers

-- ---- operators

pub not_is : (level scope : ℕ) → IsOperator Operand (Symbol Not) level scope (stack_item Operand (level + 1) scope ∷ [])
not_is level scope = record { stands = refl; kept = refl; offers = λ p. refl; right = λ n. refl; limits = λ n names. refl; at = λ p. refl; counts = λ n. refl; named = λ n. refl }

pub prefix_is : (word : prefixes.Prefix) (level scope : ℕ) → IsOperator Operand (Prefix word) level scope (stack_item (OpenInterval (level + 1)) (level + 1) scope ∷ [])
prefix_is word level scope = record { stands = refl; kept = refl; offers = λ p. refl; right = λ n. refl; limits = λ n names. refl; at = λ p. refl; counts = λ n. refl; named = λ n. refl }

pub quantifier_is : (word : quantifiers.Quantifier) (level scope : ℕ) → IsOperator Operand (Quantifier word) level scope (stack_item BoundVariable (level + 1) (scope + 1) ∷ [])
quantifier_is word level scope = record { stands = refl; kept = refl; offers = λ p. refl; right = λ n. refl; limits = λ n names. refl; at = λ p. refl; counts = λ n. refl; named = λ n. refl }

pub truth_is : (value : Bool) (level scope : ℕ) → IsOperator Operand (Truth value) level scope []
truth_is value level scope = record { stands = refl; kept = refl; offers = λ p. refl; right = λ n. refl; limits = λ n names. refl; at = λ p. refl; counts = λ n. refl; named = λ n. refl }

pub infix_is : (word : infixes.Infix) (level scope : ℕ) → IsOperator InfixTail (Infix word) level scope (stack_item (OpenInterval (level + 1)) level scope ∷ [])
infix_is word level scope = record { stands = refl; kept = refl; offers = λ p. refl; right = λ n. refl; limits = λ n names. refl; at = λ p. refl; counts = λ n. refl; named = λ n. refl }

pub and_is : (level scope : ℕ) → IsOperator AndTail (Symbol And) level scope (and_on (level + 1) scope [])
and_is level scope = record { stands = refl; kept = refl; offers = λ p. refl; right = λ n. refl; limits = λ n names. refl; at = λ p. refl; counts = λ n. refl; named = λ n. refl }

pub or_is : (level scope : ℕ) → IsOperator OrTail (Symbol Or) level scope (or_on (level + 1) scope [])
or_is level scope = record { stands = refl; kept = refl; offers = λ p. refl; right = λ n. refl; limits = λ n names. refl; at = λ p. refl; counts = λ n. refl; named = λ n. refl }

pub arrow_is : (level scope : ℕ) → IsOperator ArrowTail (Symbol Arrow) level scope (formula_on (level + 1) scope [])
arrow_is level scope = record { stands = refl; kept = refl; offers = λ p. refl; right = λ n. refl; limits = λ n names. refl; at = λ p. refl; counts = λ n. refl; named = λ n. refl }

-- ---- optional parts that do not come

no_infix : (level scope nodes place : ℕ) (names : List (List ℕ)) (below : Stack) (lexeme : PolicyLexeme) → ((word : infixes.Infix) → lexeme ≢ Infix word)
    → automaton_step (settle lexeme (stack_item InfixTail level scope ∷ below)) nodes names place lexeme ≡ automaton_step (settle lexeme below) nodes names place lexeme
no_infix level scope nodes place names below (Infix word) none = absurd (none word refl)
no_infix level scope nodes place names below lexeme none = refl

pub infix_ends : (level scope : ℕ) (s : Parts) → ((word : infixes.Infix) → next_lexeme_of s ≢ Infix word) → Continues (stack_item InfixTail level scope ∷ []) [] s s
infix_ends level scope s none = goes_as _ _ s (λ below. refl) (λ names below place. no_infix level scope s.nodes place names below (next_lexeme_of s) none)

no_and : (level scope nodes place : ℕ) (names : List (List ℕ)) (below : Stack) (lexeme : PolicyLexeme) → lexeme ≢ Symbol And
    → automaton_step (settle lexeme (stack_item AndTail level scope ∷ below)) nodes names place lexeme ≡ automaton_step (settle lexeme below) nodes names place lexeme
no_and level scope nodes place names below (Symbol And) none = absurd (none refl)
no_and level scope nodes place names below lexeme none = refl

pub and_ends : (level scope : ℕ) (s : Parts) → next_lexeme_of s ≢ Symbol And → Continues (stack_item AndTail level scope ∷ []) [] s s
and_ends level scope s none = goes_as _ _ s (λ below. refl) (λ names below place. no_and level scope s.nodes place names below (next_lexeme_of s) none)

no_or : (level scope nodes place : ℕ) (names : List (List ℕ)) (below : Stack) (lexeme : PolicyLexeme) → lexeme ≢ Symbol Or
    → automaton_step (settle lexeme (stack_item OrTail level scope ∷ below)) nodes names place lexeme ≡ automaton_step (settle lexeme below) nodes names place lexeme
no_or level scope nodes place names below (Symbol Or) none = absurd (none refl)
no_or level scope nodes place names below lexeme none = refl

pub or_ends : (level scope : ℕ) (s : Parts) → next_lexeme_of s ≢ Symbol Or → Continues (stack_item OrTail level scope ∷ []) [] s s
or_ends level scope s none = goes_as _ _ s (λ below. refl) (λ names below place. no_or level scope s.nodes place names below (next_lexeme_of s) none)

no_arrow : (level scope nodes place : ℕ) (names : List (List ℕ)) (below : Stack) (lexeme : PolicyLexeme) → lexeme ≢ Symbol Arrow
    → automaton_step (settle lexeme (stack_item ArrowTail level scope ∷ below)) nodes names place lexeme ≡ automaton_step (settle lexeme below) nodes names place lexeme
no_arrow level scope nodes place names below (Symbol Arrow) none = absurd (none refl)
no_arrow level scope nodes place names below lexeme none = refl

pub arrow_ends : (level scope : ℕ) (s : Parts) → next_lexeme_of s ≢ Symbol Arrow → Continues (stack_item ArrowTail level scope ∷ []) [] s s
arrow_ends level scope s none = goes_as _ _ s (λ below. refl) (λ names below place. no_arrow level scope s.nodes place names below (next_lexeme_of s) none)

-- ---- parentheses

pub open_paren : (level scope : ℕ) → IsMark Operand OpenParen level scope (formula_on (level + 1) scope (stack_item ParenthesisEnd (level + 1) scope ∷ []))
open_paren level scope = record { stands = refl; kept = refl; offers = λ p. refl; right = λ n. refl; limits = λ n names. refl; at = λ p. refl; counts = λ n. refl; named = λ n. refl }

pub close_paren : (level scope : ℕ) → IsMark ParenthesisEnd CloseParen level scope []
close_paren level scope = record { stands = refl; kept = refl; offers = λ p. refl; right = λ n. refl; limits = λ n names. refl; at = λ p. refl; counts = λ n. refl; named = λ n. refl }

pub only_close_paren : (level scope : ℕ) → IsOnly ParenthesisEnd CloseParen level scope
only_close_paren level scope place (Symbol CloseParen) other = absurd (other refl)
only_close_paren level scope place lexeme other = refl

-- ---- the dot after variables

pub dot : (level scope : ℕ) → IsMark BehindVariable Dot level scope (formula_on level scope [])
dot level scope = record { stands = refl; kept = refl; offers = λ p. refl; right = λ n. refl; limits = λ n names. refl; at = λ p. refl; counts = λ n. refl; named = λ n. refl }

variables_stuck : (level scope place : ℕ) (lexeme : PolicyLexeme) → lexeme ≢ Symbol Comma → lexeme ≢ Symbol Dot → offer BehindVariable level scope place lexeme ≡ None
variables_stuck level scope place (Symbol Comma) none other = absurd (none refl)
variables_stuck level scope place (Symbol Dot) none other = absurd (other refl)
variables_stuck level scope place lexeme none other = refl

pub dot_barred : (level scope : ℕ) (old : Parts) (refusal : SyntaxRefusal) → next_lexeme_of old ≢ Symbol Comma
    → BarsSymbol Dot (next_place_of old) level (next_lexeme_of old) refusal → RefusesFrom (stack_item BehindVariable level scope ∷ []) old refusal
dot_barred level scope old refusal none bars =
    refuses_if _ old refusal (λ some. ⊎_elim
    (λ w. as_refused _ old _ refusal (sym w.1) (sticks BehindVariable level scope old refl (λ x. refl) (λ place. variables_stuck level scope place (next_lexeme_of old) none w.0)))
    (λ w. past_stops BehindVariable (Symbol Dot) level scope _ _ _ old refusal (dot level scope) w.0 (level_past _ level scope false refusal w.1)) (bars some))

-- ---- constants that begin a comparison

plain_side : (value level scope : ℕ) → IsMove Operand (DigitsLexeme value) level scope (λ nodes. false) (λ nodes. nodes) (λ place. stack_item BehindConstant level scope ∷ [])
plain_side value level scope = record { stands = refl; kept = refl; offers = λ p. refl; right = λ n. refl; limits = λ n names. refl; at = λ p. refl; counts = λ n. refl; named = λ n. refl }

minus_side : (value level scope : ℕ) → IsMove Operand (NegativeLexeme value) level scope (λ nodes. false) (λ nodes. nodes) (λ place. stack_item BehindConstant level scope ∷ [])
minus_side value level scope = record { stands = refl; kept = refl; offers = λ p. refl; right = λ n. refl; limits = λ n names. refl; at = λ p. refl; counts = λ n. refl; named = λ n. refl }

quoted_side : (text : List ℕ) (level scope : ℕ) → IsMove Operand (TextLexeme text) level scope (λ nodes. false) (λ nodes. nodes) (λ place. stack_item BehindConstant level scope ∷ [])
quoted_side text level scope = record { stands = refl; kept = refl; offers = λ p. refl; right = λ n. refl; limits = λ n names. refl; at = λ p. refl; counts = λ n. refl; named = λ n. refl }

side_goes : (level scope place : ℕ) (old new : Parts) (lexeme : PolicyLexeme) → IsNoName lexeme → scope ≤ MOST_VARIABLES → IsLexemeTaken level lexeme place old.cursor new.cursor
    → term_refusal (next_place_of old) level lexeme ≡ None → new.nodes ≡ old.nodes
    → Continues (stack_item Operand level scope ∷ []) (stack_item BehindConstant level scope ∷ []) old new
side_goes level scope place old new (NameLexeme name) none few t e same = absurd (none name refl)
side_goes level scope place old new (DigitsLexeme value) none few t e same = moves _ _ level scope place _ _ _ old new (plain_side value level scope) t few refl same
side_goes level scope place old new (NegativeLexeme value) none few t e same = moves _ _ level scope place _ _ _ old new (minus_side value level scope) t few refl same
side_goes level scope place old new (TextLexeme text) none few t e same = moves _ _ level scope place _ _ _ old new (quoted_side text level scope) t few refl same
side_goes level scope place old new lexeme none few t e same = absurd cc

pub side_taken : (level scope place : ℕ) (old new : Parts) → IsNoName (next_lexeme_of old) → scope ≤ MOST_VARIABLES
    → IsLexemeTaken level (next_lexeme_of old) place old.cursor new.cursor → term_refusal (next_place_of old) level (next_lexeme_of old) ≡ None → new.nodes ≡ old.nodes
    → Continues (stack_item Operand level scope ∷ []) (stack_item BehindConstant level scope ∷ []) old new
side_taken level scope place old new none few t e same = side_goes level scope place old new (next_lexeme_of old) none few t e same

-- no truth value stands there
abbrev pub IsNoTruth : PolicyLexeme → Type 0
IsNoTruth lexeme = (value : Bool) → lexeme ≢ Truth value

side_stops : (level scope : ℕ) (old : Parts) (refusal : SyntaxRefusal) (lexeme : PolicyLexeme) → next_lexeme_of old ≡ lexeme → IsNoName lexeme → IsNoTruth lexeme
    → begins_inner lexeme ≡ false → term_refusal (next_place_of old) level lexeme ≡ Some refusal
    → RefusesFrom (stack_item Operand level scope ∷ []) old refusal
side_stops level scope old refusal (NameLexeme name) is none truthless inner e = absurd (none name refl)
side_stops level scope old refusal (Truth value) is none truthless inner e = absurd (truthless value refl)
side_stops level scope old refusal (Prefix word) is none truthless inner e = absurd cc
side_stops level scope old refusal (Quantifier word) is none truthless inner e = absurd cc
side_stops level scope old refusal (Symbol Not) is none truthless inner e = absurd cc
side_stops level scope old refusal (Symbol OpenParen) is none truthless inner e = absurd cc
side_stops level scope old refusal (DigitsLexeme value) is none truthless inner e = past_stops _ (DigitsLexeme value) level scope _ _ _ old refusal (plain_side value level scope) is
    (level_past _ level scope false refusal e)
side_stops level scope old refusal (NegativeLexeme value) is none truthless inner e = past_stops _ (NegativeLexeme value) level scope _ _ _ old refusal (minus_side value level scope) is
    (level_past _ level scope false refusal e)
side_stops level scope old refusal (TextLexeme text) is none truthless inner e = past_stops _ (TextLexeme text) level scope _ _ _ old refusal (quoted_side text level scope) is
    (level_past _ level scope false refusal e)
side_stops level scope old refusal lexeme is none truthless inner e = as_refused _ old _ refusal (one_is _ _ e) (sticks Operand level scope old refl (λ x. refl) (λ p. rw is refl))

pub side_barred : (level scope : ℕ) (old : Parts) (refusal : SyntaxRefusal) → IsNoName (next_lexeme_of old) → IsNoTruth (next_lexeme_of old) → begins_inner (next_lexeme_of old)
    ≡ false → Bars (term_refusal (next_place_of old) level (next_lexeme_of old)) refusal
    → RefusesFrom (stack_item Operand level scope ∷ []) old refusal
side_barred level scope old refusal none truthless inner bars = refuses_if _ old refusal (λ some. side_stops level scope old refusal (next_lexeme_of old) refl none truthless inner (bars some))

pub no_truth : (found : read.Lexeme) → ((value : Bool) → found ≡ variants.Truth value → ⊥) → IsNoTruth (lexeme_of found)
no_truth (variants.Truth other) none value e = none other refl
no_truth (variants.Sign _) none value e = cc
no_truth (variants.Name _) none value e = cc
no_truth (variants.Infix _) none value e = cc
no_truth (variants.Symbol _) none value e = cc
no_truth (variants.Prefix _) none value e = cc
no_truth (variants.Quantifier _) none value e = cc
no_truth (variants.Digits _) none value e = cc
no_truth (variants.Negative _) none value e = cc
no_truth (variants.Text _) none value e = cc
no_truth variants.End none value e = cc
no_truth variants.Other none value e = cc

-- no formula begins in it
pub not_inner : (found : read.Lexeme) → lexeme_of found ≢ Symbol Not → lexeme_of found ≢ Symbol OpenParen → ((word : prefixes.Prefix) → found ≡ variants.Prefix word → ⊥)
    → ((word : quantifiers.Quantifier) → found ≡ variants.Quantifier word → ⊥)
    → begins_inner (lexeme_of found) ≡ false
not_inner (variants.Symbol Not) a b p q = absurd (a refl)
not_inner (variants.Symbol OpenParen) a b p q = absurd (b refl)
not_inner (variants.Prefix word) a b p q = absurd (p word refl)
not_inner (variants.Quantifier word) a b p q = absurd (q word refl)
not_inner found a b p q = refl
