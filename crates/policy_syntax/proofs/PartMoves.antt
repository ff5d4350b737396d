-- What each lexeme is to the automaton, part by part.
use Rattle.policy_syntax.proofs.Vocabulary.{◌≡◌, ◌≢◌, ⊎_elim, ℕ, ◌+◌, ◌<◌, ◌≤◌, nat_le, nat_lt, Bor, Bool, true, false, ◌||◌, if◌then◌else◌, List, [], ◌∷◌, length, Some, None, refl, sym, ap, subst}
use Rattle.policy_syntax.proofs.Vocabulary.{◌∙◌, arith, nat_tests, MOST_NAME_BYTES, ItemKind, Stack, Operand, OpenInterval, FirstEnd, IntervalComma, SecondEnd, CloseInterval, BoundVariable}
use Rattle.policy_syntax.proofs.Vocabulary.{BehindVariable, BehindName, BehindConstant, FirstArgument, NextArgument, BehindArgument, RightSide, is_optional, stack_item, offer, settle, skips}
use Rattle.policy_syntax.proofs.Vocabulary.{automaton_step, Bars, BarsSymbol, end_refusal, level_refusal, name_lexeme_refusal, node_refusal, term_refusal, next_lexeme_of, next_place_of, Ahead}
use Rattle.policy_syntax.proofs.Vocabulary.{is_constant, lexeme_of, PolicyLexeme, PlacedLexeme, Symbol, Sign, NameLexeme, DigitsLexeme, NegativeLexeme, TextLexeme, next_lexeme, IsLexemeTaken}
use Rattle.policy_syntax.proofs.Vocabulary.{OpenParen, CloseParen, OpenBracket, CloseBracket, Comma, Star, MOST_INTERVAL_END, MOST_LEVEL, MOST_NODES, MOST_VARIABLES, Parts, SyntaxRefusal, NoMemory}
use Rattle.policy_syntax.specs.machine.Automaton.{judge}
use Rattle.policy_syntax.specs.machine.PartOutcomes.{Continues, RefusesFrom}
use Rattle.policy_syntax.proofs.JudgedLexemes.{judge_takes, judge_limits}
use Rattle.policy_syntax.proofs.AutomatonSteps.{IsMove, moves, stops, sticks, wrongs, goes_as}
use Rattle.policy_syntax.specs.declared.lexemes.Lexeme as read
use Rattle.policy_syntax.specs.declared.lexemes.Lexeme.TheVariants as variants
use Rattle.policy_syntax.specs.declared.lexemes.Sign as signs
use Rattle.policy_syntax.specs.declared.lexemes.Symbol as symbols
use Rattle.policy_syntax.specs.declared.refusals.SyntaxRefusal.TheVariants as refusals

-- ---- a refusal that is no running out of memory

pub refuses_if : (from : Stack) (s : Parts) (refusal : SyntaxRefusal) → (refusal ≢ NoMemory → RefusesFrom from s refusal) → RefusesFrom from s refusal
unfolding RefusesFrom
refuses_if from s refusal h some names below = h some some names below

pub refuses_no_memory : (from : Stack) (s : Parts) → RefusesFrom from s NoMemory
unfolding RefusesFrom
refuses_no_memory from s some names below = absurd (some refl)

pub as_refused : (from : Stack) (s : Parts) (refusal other : SyntaxRefusal) → refusal ≡ other → RefusesFrom from s refusal → RefusesFrom from s other
as_refused from s refusal other e h = subst (λ (y : SyntaxRefusal). RefusesFrom from s y) e h

-- ---- limits

pub one_is : (refusal other : SyntaxRefusal) → Some refusal ≡ Some other → refusal ≡ other
one_is refusal other e = cc

or_true : (a b : Bool) → (a || b || true) ≡ true
or_true true b = refl
or_true false true = refl
or_true false false = refl

or_true_between : (a b : Bool) → (a || true || b) ≡ true
or_true_between true b = refl
or_true_between false b = refl

level_over : (level : ℕ) (b c : Bool) → nat_le level MOST_LEVEL ≡ false → (nat_lt MOST_LEVEL level || b || c) ≡ true
level_over level b c e =
    let f : nat_lt MOST_LEVEL level ≡ true = grind (arith, nat_tests) in
    ap (λ (a : Bool). a || b || c) f

-- the limit, and that it was passed
unfoldable pub IsPast : (place level scope : ℕ) (passes : Bool) (refusal : SyntaxRefusal) → Type 0
IsPast place level scope passes refusal = (refusals.Limit place ≡ refusal) × ((nat_lt MOST_LEVEL level || nat_lt MOST_VARIABLES scope || passes) ≡ true)

pub level_past : (place level scope : ℕ) (passes : Bool) (refusal : SyntaxRefusal) → level_refusal place level ≡ Some refusal → IsPast place level scope passes refusal
unfolding IsPast
level_past place level scope passes refusal e = go (nat_le level MOST_LEVEL) refl e
  where
    go : (b : Bool) → nat_le level MOST_LEVEL ≡ b → (if b then None else Some (refusals.Limit place)) ≡ Some refusal → (refusals.Limit place ≡ refusal)
        × ((nat_lt MOST_LEVEL level || nat_lt MOST_VARIABLES scope || passes) ≡ true)
    go true f e = cc
    go false f e = (one_is _ _ e, level_over level _ _ f)

test_past : (place level scope : ℕ) (fine passes : Bool) (refusal : SyntaxRefusal) → (fine ≡ false → passes ≡ true)
    → (if fine then level_refusal place level else Some (refusals.Limit place)) ≡ Some refusal → IsPast place level scope passes refusal
unfolding IsPast
test_past place level scope true passes refusal past e = level_past place level scope passes refusal e
test_past place level scope false passes refusal past e = (
  one_is _ _ e,
  ap (λ (b : Bool). nat_lt MOST_LEVEL level || nat_lt MOST_VARIABLES scope || b) (past refl) ∙ or_true
      (nat_lt MOST_LEVEL level) (nat_lt MOST_VARIABLES scope),
)

node_past : (place level scope nodes : ℕ) (refusal : SyntaxRefusal) → node_refusal place level nodes ≡ Some refusal → IsPast place level scope (nat_le MOST_NODES nodes) refusal
node_past place level scope nodes refusal e = test_past place level scope (nat_lt nodes MOST_NODES) (nat_le MOST_NODES nodes) refusal (λ f. grind (arith, nat_tests)) e

pub name_past : (place level scope : ℕ) (name : List ℕ) (refusal : SyntaxRefusal) → name_lexeme_refusal place level (NameLexeme name) ≡ Some refusal
    → IsPast place level scope (nat_lt MOST_NAME_BYTES (length name)) refusal
name_past place level scope name refusal e = test_past place level scope (nat_le (length name) MOST_NAME_BYTES) (nat_lt MOST_NAME_BYTES (length name)) refusal (λ f. grind (arith, nat_tests)) e

-- a lexeme that begins the item is refused by its limits
pub past_stops : (kind : ItemKind) (lexeme : PolicyLexeme) (level scope : ℕ) (passes : ℕ → Bool) (counted : ℕ → ℕ) (left : ℕ → Stack) (old : Parts) (refusal : SyntaxRefusal)
    → IsMove kind lexeme level scope passes counted left → next_lexeme_of old ≡ lexeme → IsPast (next_place_of old) level scope (passes old.nodes) refusal
    → RefusesFrom (stack_item kind level scope ∷ []) old refusal
unfolding IsPast
past_stops kind lexeme level scope passes counted left old refusal m is past = as_refused _ old _ refusal past.0 (stops kind lexeme level scope passes counted left old m is past.1)

-- ---- words and marks

-- a word or mark begins the item, with nothing counted
abbrev pub IsMark : ItemKind → symbols.Symbol → (level scope : ℕ) → Stack → Type 0
IsMark kind symbol level scope left = IsMove kind (Symbol symbol) level scope (λ nodes. false) (λ nodes. nodes) (λ place. left)

pub mark_taken : (kind : ItemKind) (symbol : symbols.Symbol) (level scope place : ℕ) (left : Stack) (old new : Parts) → IsMark kind symbol level scope left → scope ≤ MOST_VARIABLES
    → IsLexemeTaken level (Symbol symbol) place old.cursor new.cursor → new.nodes ≡ old.nodes → Continues (stack_item kind level scope ∷ []) left old new
mark_taken kind symbol level scope place left old new m few t same = moves kind (Symbol symbol) level scope place _ _ _ old new m t few refl same

-- it stands there
pub mark_stops : (kind : ItemKind) (symbol : symbols.Symbol) (level scope : ℕ) (left : Stack) (old : Parts) (refusal : SyntaxRefusal) → IsMark kind symbol level scope left
    → next_lexeme_of old ≡ Symbol symbol
    → BarsSymbol symbol (next_place_of old) level (next_lexeme_of old) refusal → RefusesFrom (stack_item kind level scope ∷ []) old refusal
mark_stops kind symbol level scope left old refusal m is bars =
    refuses_if _ old refusal (λ some. ⊎_elim (λ w. absurd (w.0 is)) (λ w. past_stops kind (Symbol symbol) level scope _ _ _ old refusal m is (level_past _ level scope false refusal w.1)) (bars some))

-- no other lexeme begins the item
abbrev pub IsOnly : ItemKind → symbols.Symbol → (level scope : ℕ) → Type 0
IsOnly kind symbol level scope = (place : ℕ) (lexeme : PolicyLexeme) → lexeme ≢ Symbol symbol → offer kind level scope place lexeme ≡ None

pub mark_barred : (kind : ItemKind) (symbol : symbols.Symbol) (level scope : ℕ) (left : Stack) (old : Parts) (refusal : SyntaxRefusal) → IsMark kind symbol level scope left
    → is_optional kind ≡ false → ((lexeme : PolicyLexeme) → skips kind lexeme ≡ false)
    → IsOnly kind symbol level scope → BarsSymbol symbol (next_place_of old) level (next_lexeme_of old) refusal → RefusesFrom (stack_item kind level scope ∷ []) old refusal
mark_barred kind symbol level scope left old refusal m wanted kept only bars =
    refuses_if _ old refusal (λ some. ⊎_elim
    (λ w. as_refused _ old _ refusal (sym w.1) (sticks kind level scope old wanted kept (λ place. only place (next_lexeme_of old) w.0)))
    (λ w. past_stops kind (Symbol symbol) level scope _ _ _ old refusal m w.0 (level_past _ level scope false refusal w.1)) (bars some))

pub open_bracket : (operand level scope : ℕ) → IsMark (OpenInterval operand) OpenBracket level scope (stack_item (FirstEnd operand) level scope ∷ [])
open_bracket operand level scope = record { stands = refl; kept = refl; offers = λ p. refl; right = λ n. refl; limits = λ n names. refl; at = λ p. refl; counts = λ n. refl; named = λ n. refl }

pub only_open_bracket : (operand level scope : ℕ) → IsOnly (OpenInterval operand) OpenBracket level scope
only_open_bracket operand level scope place (Symbol OpenBracket) other = absurd (other refl)
only_open_bracket operand level scope place lexeme other = refl

pub interval_comma : (operand low level scope : ℕ) → IsMark (IntervalComma operand low) Comma level scope (stack_item (SecondEnd operand low) level scope ∷ [])
interval_comma operand low level scope = record { stands = refl; kept = refl; offers = λ p. refl; right = λ n. refl; limits = λ n names. refl; at = λ p. refl; counts = λ n. refl; named = λ n. refl }

pub only_interval_comma : (operand low level scope : ℕ) → IsOnly (IntervalComma operand low) Comma level scope
only_interval_comma operand low level scope place (Symbol Comma) other = absurd (other refl)
only_interval_comma operand low level scope place lexeme other = refl

pub star : (operand low level scope : ℕ) → IsMark (SecondEnd operand low) Star level scope (stack_item (CloseInterval operand) level scope ∷ [])
star operand low level scope = record { stands = refl; kept = refl; offers = λ p. refl; right = λ n. refl; limits = λ n names. refl; at = λ p. refl; counts = λ n. refl; named = λ n. refl }

pub close_bracket : (operand level scope : ℕ) → IsMark (CloseInterval operand) CloseBracket level scope (stack_item Operand operand scope ∷ [])
close_bracket operand level scope = record { stands = refl; kept = refl; offers = λ p. refl; right = λ n. refl; limits = λ n names. refl; at = λ p. refl; counts = λ n. refl; named = λ n. refl }

pub only_close_bracket : (operand level scope : ℕ) → IsOnly (CloseInterval operand) CloseBracket level scope
only_close_bracket operand level scope place (Symbol CloseBracket) other = absurd (other refl)
only_close_bracket operand level scope place lexeme other = refl

-- ---- ends of intervals

first_end : (operand end level scope : ℕ) → IsMove (FirstEnd operand) (DigitsLexeme end) level scope (λ nodes. nat_lt MOST_INTERVAL_END end) (λ nodes. nodes)
    (λ place. stack_item (IntervalComma operand end) level scope ∷ [])
first_end operand end level scope = record { stands = refl; kept = refl; offers = λ p. refl; right = λ n. refl; limits = λ n names. refl; at = λ p. refl; counts = λ n. refl; named = λ n. refl }

second_end : (operand low end level scope : ℕ) → nat_lt end low ≡ false → IsMove (SecondEnd operand low) (DigitsLexeme end) level scope (λ nodes. nat_lt MOST_INTERVAL_END end)
    (λ nodes. nodes) (λ place. stack_item (CloseInterval operand) level scope ∷ [])
second_end operand low end level scope least = record {
  stands = refl;
  kept = refl;
  offers = λ p. refl;
  right = λ n. least;
  limits = λ n names. refl;
  at = λ p. refl;
  counts = λ n.
      refl;
  named = λ n. refl;
}

pub first_end_taken : (operand end level scope place : ℕ) (old new : Parts) → scope ≤ MOST_VARIABLES → IsLexemeTaken level (DigitsLexeme end) place old.cursor new.cursor
    → end ≤ MOST_INTERVAL_END → new.nodes ≡ old.nodes
    → Continues (stack_item (FirstEnd operand) level scope ∷ []) (stack_item (IntervalComma operand end) level scope ∷ []) old new
first_end_taken operand end level scope place old new few t small same =
    let e : nat_lt MOST_INTERVAL_END end ≡ false = grind (arith, nat_tests) in
    moves _ _ level scope place _ _ _ old new (first_end operand end level scope) t few e same

pub second_end_taken : (operand low end level scope place : ℕ) (old new : Parts) → scope ≤ MOST_VARIABLES → IsLexemeTaken level (DigitsLexeme end) place old.cursor new.cursor
    → low ≤ end → end ≤ MOST_INTERVAL_END → new.nodes ≡ old.nodes
    → Continues (stack_item (SecondEnd operand low) level scope ∷ []) (stack_item (CloseInterval operand) level scope ∷ []) old new
second_end_taken operand low end level scope place old new few t least small same =
    let e : nat_lt MOST_INTERVAL_END end ≡ false = grind (arith, nat_tests) in
    let f : nat_lt end low ≡ false = grind (arith, nat_tests) in
    moves _ _ level scope place _ _ _ old new (second_end operand low end level scope f) t few e same

end_past : (place level scope least end : ℕ) (refusal : SyntaxRefusal) → nat_lt end least ≡ false → end_refusal place level least (DigitsLexeme end) ≡ Some refusal
    → IsPast place level scope (nat_lt MOST_INTERVAL_END end) refusal
end_past place level scope least end refusal some e =
    let f : (if nat_le end MOST_INTERVAL_END then level_refusal place level else Some (refusals.Limit place)) ≡ Some refusal = rw some at e in
    test_past place level scope (nat_le end MOST_INTERVAL_END) (nat_lt MOST_INTERVAL_END end) refusal (λ f. grind (arith, nat_tests)) f

first_end_refused : (operand level scope : ℕ) (old : Parts) (refusal : SyntaxRefusal) (lexeme : PolicyLexeme) → next_lexeme_of old ≡ lexeme
    → end_refusal (next_place_of old) level 0 lexeme ≡ Some refusal → RefusesFrom (stack_item (FirstEnd operand) level scope ∷ []) old refusal
first_end_refused operand level scope old refusal (DigitsLexeme end) is e =
    let some : nat_lt end 0 ≡ false = grind (arith, nat_tests) in
    past_stops _ (DigitsLexeme end) level scope _ _ _ old refusal (first_end operand end level scope) is (end_past _ level scope 0 end refusal some e)
first_end_refused operand level scope old refusal lexeme is e = as_refused _ old _ refusal (one_is _ _ e) (sticks (FirstEnd operand) level scope old refl (λ x. refl) (λ p. rw is refl))

pub first_end_barred : (operand level scope : ℕ) (old : Parts) (refusal : SyntaxRefusal) → Bars (end_refusal (next_place_of old) level 0 (next_lexeme_of old)) refusal
    → RefusesFrom (stack_item (FirstEnd operand) level scope ∷ []) old refusal
first_end_barred operand level scope old refusal bars = refuses_if _ old refusal (λ some. first_end_refused operand level scope old refusal (next_lexeme_of old) refl (bars some))

-- it is below the first
second_end_below : (operand low level scope end : ℕ) (old : Parts) → next_lexeme_of old ≡ DigitsLexeme end → nat_lt end low ≡ true
    → RefusesFrom (stack_item (SecondEnd operand low) level scope ∷ []) old (refusals.Syntax (next_place_of old))
second_end_below operand low level scope end old is below = wrongs (SecondEnd operand low) (DigitsLexeme end) level scope (stack_item (CloseInterval operand) level scope ∷ []) old refl
    refl (λ p. refl) (λ names. below) is refl

second_end_refused : (operand low level scope : ℕ) (old : Parts) (refusal : SyntaxRefusal) (lexeme : PolicyLexeme) → next_lexeme_of old ≡ lexeme → lexeme ≢ Symbol Star
    → end_refusal (next_place_of old) level low lexeme ≡ Some refusal → RefusesFrom (stack_item (SecondEnd operand low) level scope ∷ []) old refusal
second_end_refused operand low level scope old refusal (DigitsLexeme end) is none e = go (nat_lt end low) refl
  where
    go : (b : Bool) → nat_lt end low ≡ b → RefusesFrom (stack_item (SecondEnd operand low) level scope ∷ []) old refusal
    go true below =
        let f : Some (refusals.Syntax (next_place_of old)) ≡ Some refusal = rw below at e in
        as_refused _ old _ refusal (one_is _ _ f) (second_end_below operand low level scope end old is below)
    go false some = past_stops _ (DigitsLexeme end) level scope _ _ _ old refusal (second_end operand low end level scope some) is (end_past _ level scope low end refusal some e)
second_end_refused operand low level scope old refusal (Symbol Star) is none e = absurd (none refl)
second_end_refused operand low level scope old refusal lexeme is none e = as_refused _ old _ refusal (one_is _ _ e) (sticks (SecondEnd operand low) level scope old refl (λ x. refl) (λ p. rw is refl))

pub second_end_barred : (operand low level scope : ℕ) (old : Parts) (refusal : SyntaxRefusal) → next_lexeme_of old ≢ Symbol Star
    → Bars (end_refusal (next_place_of old) level low (next_lexeme_of old)) refusal → RefusesFrom (stack_item (SecondEnd operand low) level scope ∷ []) old refusal
second_end_barred operand low level scope old refusal none bars = refuses_if _ old refusal (λ some. second_end_refused operand low level scope old refusal (next_lexeme_of old) refl none (bars some))

-- ---- variables

variable : (name : List ℕ) (level scope : ℕ) → IsMove BoundVariable (NameLexeme name) level scope (λ nodes. nat_lt MOST_NAME_BYTES (length name)) (λ nodes. nodes)
    (λ place. stack_item BehindVariable level scope ∷ [])
variable name level scope = record { stands = refl; kept = refl; offers = λ p. refl; right = λ n. refl; limits = λ n names. refl; at = λ p. refl; counts = λ n. refl; named = λ n. refl }

-- no name stands there
abbrev pub IsNoName : PolicyLexeme → Type 0
IsNoName lexeme = (name : List ℕ) → lexeme ≢ NameLexeme name

pub no_name : (found : read.Lexeme) → ((name : Bor (List ℕ)) → found ≡ variants.Name name → ⊥) → IsNoName (lexeme_of found)
no_name (variants.Name other) none name e = none other refl
no_name (variants.Infix _) none name e = cc
no_name (variants.Symbol _) none name e = cc
no_name (variants.Truth _) none name e = cc
no_name (variants.Prefix _) none name e = cc
no_name (variants.Quantifier _) none name e = cc
no_name (variants.Sign _) none name e = cc
no_name (variants.Digits _) none name e = cc
no_name (variants.Negative _) none name e = cc
no_name (variants.Text _) none name e = cc
no_name variants.End none name e = cc
no_name variants.Other none name e = cc

pub variable_taken : (name : List ℕ) (level scope place : ℕ) (old new : Parts) → scope ≤ MOST_VARIABLES → length name ≤ MOST_NAME_BYTES
    → IsLexemeTaken level (NameLexeme name) place old.cursor new.cursor → new.nodes ≡ old.nodes
    → Continues (stack_item BoundVariable level scope ∷ []) (stack_item BehindVariable level scope ∷ []) old new
variable_taken name level scope place old new few short t same =
    let e : nat_lt MOST_NAME_BYTES (length name) ≡ false = grind (arith, nat_tests) in
    moves _ _ level scope place _ _ _ old new (variable name level scope) t few e same

no_variable : (level scope place : ℕ) (lexeme : PolicyLexeme) → IsNoName lexeme → offer BoundVariable level scope place lexeme ≡ None
no_variable level scope place (NameLexeme name) none = absurd (none name refl)
no_variable level scope place lexeme none = refl

pub variable_other : (level scope : ℕ) (old : Parts) → IsNoName (next_lexeme_of old) → RefusesFrom (stack_item BoundVariable level scope ∷ []) old (refusals.Syntax (next_place_of old))
variable_other level scope old none = sticks BoundVariable level scope old refl (λ x. refl) (λ p. no_variable level scope p (next_lexeme_of old) none)

pub variable_many : (level scope : ℕ) (name : List ℕ) (old : Parts) → next_lexeme_of old ≡ NameLexeme name → MOST_VARIABLES < scope
    → RefusesFrom (stack_item BoundVariable level scope ∷ []) old (refusals.Limit (next_place_of old))
variable_many level scope name old is many =
    let e : nat_lt MOST_VARIABLES scope ≡ true = grind (arith, nat_tests) in
    stops _ (NameLexeme name) level scope _ _ _ old (variable name level scope) is (ap (λ (b : Bool). nat_lt MOST_LEVEL level || b || nat_lt MOST_NAME_BYTES (length name)) e ∙
    or_true_between (nat_lt MOST_LEVEL level) (nat_lt MOST_NAME_BYTES (length name)))

pub variable_barred : (level scope : ℕ) (name : List ℕ) (old : Parts) (refusal : SyntaxRefusal) → next_lexeme_of old ≡ NameLexeme name
    → Bars (name_lexeme_refusal (next_place_of old) level (next_lexeme_of old)) refusal → RefusesFrom (stack_item BoundVariable level scope ∷ []) old refusal
variable_barred level scope name old refusal is bars =
    refuses_if _ old refusal (λ some. past_stops _ (NameLexeme name) level scope _ _ _ old refusal (variable name level scope) is
    (name_past _ level scope name refusal (subst (λ (x : PolicyLexeme). name_lexeme_refusal (next_place_of old) level x ≡ Some refusal) is (bars some))))

-- ---- nodes

pub node_many : (place level nodes : ℕ) (refusal : SyntaxRefusal) → refusal ≡ refusals.Limit place → MOST_NODES ≤ nodes → Bars (node_refusal place level nodes) refusal
node_many place level nodes refusal is many some =
    let e : nat_lt nodes MOST_NODES ≡ false = grind (arith, nat_tests) in
    rw e (ap Some (sym is))

pub node_level : (place level nodes : ℕ) (refusal : SyntaxRefusal) → nodes < MOST_NODES → Bars (level_refusal place level) refusal → Bars (node_refusal place level nodes) refusal
node_level place level nodes refusal few bars some =
    let e : nat_lt nodes MOST_NODES ≡ true = grind (arith, nat_tests) in
    rw e (bars some)

-- ---- terms

level_fine : (place level : ℕ) → level ≤ MOST_LEVEL → level_refusal place level ≡ None
level_fine place level low =
    let e : nat_le level MOST_LEVEL ≡ true = grind (arith, nat_tests) in
    rw e

pub constant_fine : (place level : ℕ) (lexeme : PolicyLexeme) → is_constant lexeme ≡ true → level ≤ MOST_LEVEL → term_refusal place level lexeme ≡ None
constant_fine place level (DigitsLexeme value) is low = level_fine place level low
constant_fine place level (NegativeLexeme value) is low = level_fine place level low
constant_fine place level (TextLexeme text) is low = level_fine place level low
constant_fine place level lexeme is low = absurd cc

-- each term begins the item, and leaves the same to come
pub record IsTermItem (kind : ItemKind) (level scope : ℕ) (left : Stack) : Type 0 where
  pub name : (name : List ℕ) → IsMove kind (NameLexeme name) level scope (λ nodes. nat_lt MOST_NAME_BYTES (length name)) (λ nodes. nodes) (λ place. left)
  pub plain : (value : ℕ) → IsMove kind (DigitsLexeme value) level scope (λ nodes. false) (λ nodes. nodes) (λ place. left)
  pub minus : (value : ℕ) → IsMove kind (NegativeLexeme value) level scope (λ nodes. false) (λ nodes. nodes) (λ place. left)
  pub quoted : (text : List ℕ) → IsMove kind (TextLexeme text) level scope (λ nodes. false) (λ nodes. nodes) (λ place. left)
  pub wanted : is_optional kind ≡ false
  pub kept : (lexeme : PolicyLexeme) → skips kind lexeme ≡ false
  pub others : (place : ℕ) (lexeme : PolicyLexeme) → term_refusal place level lexeme ≡ Some (refusals.Syntax place) → offer kind level scope place lexeme ≡ None

name_short : (place level : ℕ) (name : List ℕ) → name_lexeme_refusal place level (NameLexeme name) ≡ None → nat_lt MOST_NAME_BYTES (length name) ≡ false
name_short place level name e = go (nat_le (length name) MOST_NAME_BYTES) refl e
  where
    go : (b : Bool) → nat_le (length name) MOST_NAME_BYTES ≡ b → (if b then level_refusal place level else Some (refusals.Limit place)) ≡ None → nat_lt MOST_NAME_BYTES (length name) ≡ false
    go true f e = grind (arith, nat_tests)
    go false f e = absurd cc

term_goes : (kind : ItemKind) (level scope place : ℕ) (left : Stack) (old new : Parts) (lexeme : PolicyLexeme) → IsTermItem kind level scope left → scope ≤ MOST_VARIABLES
    → IsLexemeTaken level lexeme place old.cursor new.cursor
    → term_refusal (next_place_of old) level lexeme ≡ None → new.nodes ≡ old.nodes → Continues (stack_item kind level scope ∷ []) left old new
term_goes kind level scope place left old new (NameLexeme name) m few t e same = moves _ _ level scope place _ _ _ old new (m.name name) t few (name_short _ level name e) same
term_goes kind level scope place left old new (DigitsLexeme value) m few t e same = moves _ _ level scope place _ _ _ old new (m.plain value) t few refl same
term_goes kind level scope place left old new (NegativeLexeme value) m few t e same = moves _ _ level scope place _ _ _ old new (m.minus value) t few refl same
term_goes kind level scope place left old new (TextLexeme text) m few t e same = moves _ _ level scope place _ _ _ old new (m.quoted text) t few refl same
term_goes kind level scope place left old new lexeme m few t e same = absurd cc

pub term_taken : (kind : ItemKind) (level scope place : ℕ) (left : Stack) (old new : Parts) → IsTermItem kind level scope left → scope ≤ MOST_VARIABLES
    → IsLexemeTaken level (next_lexeme_of old) place old.cursor new.cursor
    → term_refusal (next_place_of old) level (next_lexeme_of old) ≡ None → new.nodes ≡ old.nodes → Continues (stack_item kind level scope ∷ []) left old new
term_taken kind level scope place left old new m few t e same = term_goes kind level scope place left old new (next_lexeme_of old) m few t e same

term_stops : (kind : ItemKind) (level scope : ℕ) (left : Stack) (old : Parts) (refusal : SyntaxRefusal) (lexeme : PolicyLexeme) → IsTermItem kind level scope left → next_lexeme_of old
    ≡ lexeme → term_refusal (next_place_of old) level lexeme ≡ Some refusal
    → RefusesFrom (stack_item kind level scope ∷ []) old refusal
term_stops kind level scope left old refusal (NameLexeme name) m is e = past_stops _ (NameLexeme name) level scope _ _ _ old refusal (m.name name) is (name_past _ level scope name refusal e)
term_stops kind level scope left old refusal (DigitsLexeme value) m is e = past_stops _ (DigitsLexeme value) level scope _ _ _ old refusal (m.plain value) is (level_past _ level scope false refusal e)
term_stops kind level scope left old refusal (NegativeLexeme value) m is e = past_stops _ (NegativeLexeme value) level scope _ _ _ old refusal (m.minus value) is
    (level_past _ level scope false refusal e)
term_stops kind level scope left old refusal (TextLexeme text) m is e = past_stops _ (TextLexeme text) level scope _ _ _ old refusal (m.quoted text) is (level_past _ level scope false refusal e)
term_stops kind level scope left old refusal lexeme m is e = as_refused _ old _ refusal (one_is _ _ e) (sticks kind level scope old m.wanted m.kept (λ p. rw is (m.others p _ refl)))

pub term_barred : (kind : ItemKind) (level scope : ℕ) (left : Stack) (old : Parts) (refusal : SyntaxRefusal) → IsTermItem kind level scope left
    → Bars (term_refusal (next_place_of old) level (next_lexeme_of old)) refusal → RefusesFrom (stack_item kind level scope ∷ []) old refusal
term_barred kind level scope left old refusal m bars = refuses_if _ old refusal (λ some. term_stops kind level scope left old refusal (next_lexeme_of old) m refl (bars some))

syntax_is_none : (place level : ℕ) (b : Bool) → (if b then level_refusal place level else Some (refusals.Limit place)) ≡ Some (refusals.Syntax place) → ⊥
syntax_is_none place level true e = go (nat_le level MOST_LEVEL) e
  where
    go : (b : Bool) → (if b then None else Some (refusals.Limit place)) ≡ Some (refusals.Syntax place) → ⊥
    go true e = cc
    go false e = cc
syntax_is_none place level false e = cc

right_others : (level scope place : ℕ) (lexeme : PolicyLexeme) → term_refusal place level lexeme ≡ Some (refusals.Syntax place) → offer RightSide level scope place lexeme ≡ None
right_others level scope place (NameLexeme name) e = absurd (syntax_is_none place level (nat_le (length name) MOST_NAME_BYTES) e)
right_others level scope place (DigitsLexeme value) e = absurd (syntax_is_none place level true e)
right_others level scope place (NegativeLexeme value) e = absurd (syntax_is_none place level true e)
right_others level scope place (TextLexeme text) e = absurd (syntax_is_none place level true e)
right_others level scope place lexeme e = refl

pub right_side : (level scope : ℕ) → IsTermItem RightSide level scope []
right_side level scope = record {
  name = λ x. record { stands = refl; kept = refl; offers = λ p. refl; right = λ n. refl; limits = λ n names. refl; at = λ p. refl; counts = λ n. refl; named = λ n. refl };
  plain = λ x. record { stands = refl; kept = refl; offers = λ p. refl; right = λ n. refl; limits = λ n names. refl; at = λ p. refl; counts = λ n. refl; named = λ n. refl };
  minus = λ x. record { stands = refl; kept = refl; offers = λ p. refl; right = λ n. refl; limits = λ n names. refl; at = λ p. refl; counts = λ n. refl; named = λ n. refl };
  quoted = λ x. record { stands = refl; kept = refl; offers = λ p. refl; right = λ n. refl; limits = λ n names. refl; at = λ p. refl; counts = λ n. refl; named = λ n. refl };
  wanted = refl;
  kept = λ x. refl;
  others = right_others level scope;
}

argument_others : (level scope place : ℕ) (lexeme : PolicyLexeme) → term_refusal place level lexeme ≡ Some (refusals.Syntax place) → offer NextArgument level scope place lexeme ≡ None
argument_others level scope place (NameLexeme name) e = absurd (syntax_is_none place level (nat_le (length name) MOST_NAME_BYTES) e)
argument_others level scope place (DigitsLexeme value) e = absurd (syntax_is_none place level true e)
argument_others level scope place (NegativeLexeme value) e = absurd (syntax_is_none place level true e)
argument_others level scope place (TextLexeme text) e = absurd (syntax_is_none place level true e)
argument_others level scope place lexeme e = refl

pub argument : (level scope : ℕ) → IsTermItem NextArgument level scope (stack_item BehindArgument level scope ∷ [])
argument level scope = record {
  name = λ x. record { stands = refl; kept = refl; offers = λ p. refl; right = λ n. refl; limits = λ n names. refl; at = λ p. refl; counts = λ n. refl; named = λ n. refl };
  plain = λ x. record { stands = refl; kept = refl; offers = λ p. refl; right = λ n. refl; limits = λ n names. refl; at = λ p. refl; counts = λ n. refl; named = λ n. refl };
  minus = λ x. record { stands = refl; kept = refl; offers = λ p. refl; right = λ n. refl; limits = λ n names. refl; at = λ p. refl; counts = λ n. refl; named = λ n. refl };
  quoted = λ x. record { stands = refl; kept = refl; offers = λ p. refl; right = λ n. refl; limits = λ n names. refl; at = λ p. refl; counts = λ n. refl; named = λ n. refl };
  wanted = refl;
  kept = λ x. refl;
  others = argument_others level scope;
}

-- ---- arguments

pub argument_comma : (level scope : ℕ) → IsMark BehindArgument Comma level scope (stack_item NextArgument level scope ∷ [])
argument_comma level scope = record { stands = refl; kept = refl; offers = λ p. refl; right = λ n. refl; limits = λ n names. refl; at = λ p. refl; counts = λ n. refl; named = λ n. refl }

pub arguments_end : (level scope : ℕ) → IsMark BehindArgument CloseParen level scope []
arguments_end level scope = record { stands = refl; kept = refl; offers = λ p. refl; right = λ n. refl; limits = λ n names. refl; at = λ p. refl; counts = λ n. refl; named = λ n. refl }

pub no_arguments : (level scope : ℕ) → IsMark FirstArgument CloseParen level scope []
no_arguments level scope = record { stands = refl; kept = refl; offers = λ p. refl; right = λ n. refl; limits = λ n names. refl; at = λ p. refl; counts = λ n. refl; named = λ n. refl }

first_as_next : (level scope nodes place : ℕ) (names : List (List ℕ)) (below : Stack) (lexeme : PolicyLexeme) → lexeme ≢ Symbol CloseParen
    → automaton_step (settle lexeme (stack_item FirstArgument level scope ∷ below)) nodes names place lexeme
    ≡ automaton_step (settle lexeme (stack_item NextArgument level scope ∷ below)) nodes names place lexeme
first_as_next level scope nodes place names below (Symbol CloseParen) other = absurd (other refl)
first_as_next level scope nodes place names below lexeme other = refl

pub first_argument : (level scope : ℕ) (s : Parts) → next_lexeme_of s ≢ Symbol CloseParen → Continues (stack_item FirstArgument level scope ∷ []) (stack_item NextArgument level scope ∷ []) s s
first_argument level scope s other = goes_as _ _ s (λ below. refl) (λ names below place. first_as_next level scope s.nodes place names below (next_lexeme_of s) other)

-- after a term stands neither a comma nor the end
arguments_stuck : (level scope place : ℕ) (lexeme : PolicyLexeme) → lexeme ≢ Symbol Comma → lexeme ≢ Symbol CloseParen → offer BehindArgument level scope place lexeme ≡ None
arguments_stuck level scope place (Symbol Comma) none other = absurd (none refl)
arguments_stuck level scope place (Symbol CloseParen) none other = absurd (other refl)
arguments_stuck level scope place lexeme none other = refl

pub arguments_barred : (level scope : ℕ) (old : Parts) (refusal : SyntaxRefusal) → next_lexeme_of old ≢ Symbol Comma
    → BarsSymbol CloseParen (next_place_of old) level (next_lexeme_of old) refusal → RefusesFrom (stack_item BehindArgument level scope ∷ []) old refusal
arguments_barred level scope old refusal none bars =
    refuses_if _ old refusal (λ some. ⊎_elim
    (λ w. as_refused _ old _ refusal (sym w.1) (sticks BehindArgument level scope old refl (λ x. refl) (λ place. arguments_stuck level scope place (next_lexeme_of old) none w.0)))
    (λ w. past_stops BehindArgument (Symbol CloseParen) level scope _ _ _ old refusal (arguments_end level scope) w.0 (level_past _ level scope false refusal w.1)) (bars some))

-- ---- principal lexemes of nodes

-- the principal lexeme of a node begins the item
abbrev pub IsOperator : ItemKind → PolicyLexeme → (level scope : ℕ) → Stack → Type 0
IsOperator kind lexeme level scope left = IsMove kind lexeme level scope (λ nodes. nat_le MOST_NODES nodes) (λ nodes. nodes + 1) (λ place. left)

pub operator_taken : (kind : ItemKind) (lexeme : PolicyLexeme) (level scope place : ℕ) (left : Stack) (old new : Parts) → IsOperator kind lexeme level scope left
    → scope ≤ MOST_VARIABLES → next_lexeme_of old ≡ lexeme → IsLexemeTaken level (next_lexeme_of old) place old.cursor new.cursor
    → new.nodes ≡ old.nodes + 1 → new.nodes ≤ MOST_NODES → Continues (stack_item kind level scope ∷ []) left old new
operator_taken kind lexeme level scope place left old new m few is t more small =
    let e : nat_le MOST_NODES old.nodes ≡ false = grind (arith, nat_tests) in
    moves kind lexeme level scope place _ _ _ old new m (subst (λ (x : PolicyLexeme). IsLexemeTaken level x place old.cursor new.cursor) is t) few e more

pub operator_barred : (kind : ItemKind) (lexeme : PolicyLexeme) (level scope : ℕ) (left : Stack) (old : Parts) (refusal : SyntaxRefusal) → IsOperator kind lexeme level scope left
    → next_lexeme_of old ≡ lexeme → Bars (node_refusal (next_place_of old) level old.nodes) refusal
    → RefusesFrom (stack_item kind level scope ∷ []) old refusal
operator_barred kind lexeme level scope left old refusal m is bars =
    refuses_if _ old refusal (λ some. past_stops kind lexeme level scope _ _ _ old refusal m is (node_past _ level scope old.nodes refusal (bars some)))

pub sign_is : (word : signs.Sign) (level scope : ℕ) → IsOperator BehindConstant (Sign word) level scope (stack_item RightSide level scope ∷ [])
sign_is word level scope = record { stands = refl; kept = refl; offers = λ p. refl; right = λ n. refl; limits = λ n names. refl; at = λ p. refl; counts = λ n. refl; named = λ n. refl }

-- ---- comparisons

abbrev pub IsNoSign : PolicyLexeme → Type 0
IsNoSign lexeme = (sign : signs.Sign) → lexeme ≢ Sign sign

pub no_sign : (found : read.Lexeme) → ((sign : signs.Sign) → found ≡ variants.Sign sign → ⊥) → IsNoSign (lexeme_of found)
no_sign (variants.Sign other) none sign e = none other refl
no_sign (variants.Name _) none sign e = cc
no_sign (variants.Infix _) none sign e = cc
no_sign (variants.Symbol _) none sign e = cc
no_sign (variants.Truth _) none sign e = cc
no_sign (variants.Prefix _) none sign e = cc
no_sign (variants.Quantifier _) none sign e = cc
no_sign (variants.Digits _) none sign e = cc
no_sign (variants.Negative _) none sign e = cc
no_sign (variants.Text _) none sign e = cc
no_sign variants.End none sign e = cc
no_sign variants.Other none sign e = cc

constant_stuck : (level scope place : ℕ) (lexeme : PolicyLexeme) → IsNoSign lexeme → offer BehindConstant level scope place lexeme ≡ None
constant_stuck level scope place (Sign sign) none = absurd (none sign refl)
constant_stuck level scope place lexeme none = refl

pub comparison_other : (level scope : ℕ) (old : Parts) → IsNoSign (next_lexeme_of old) → RefusesFrom (stack_item BehindConstant level scope ∷ []) old (refusals.Syntax (next_place_of old))
comparison_other level scope old none = sticks BehindConstant level scope old refl (λ x. refl) (λ p. constant_stuck level scope p (next_lexeme_of old) none)

-- ---- names that begin a primary

pub operand_name : (name : List ℕ) (level scope : ℕ) → IsMove Operand (NameLexeme name) level scope (λ nodes. nat_lt MOST_NAME_BYTES (length name)) (λ nodes. nodes)
    (λ place. stack_item (BehindName place) level scope ∷ [])
operand_name name level scope = record { stands = refl; kept = refl; offers = λ p. refl; right = λ n. refl; limits = λ n names. refl; at = λ p. refl; counts = λ n. refl; named = λ n. refl }

pub name_taken : (name : List ℕ) (level scope place : ℕ) (old new : Parts) → scope ≤ MOST_VARIABLES → length name ≤ MOST_NAME_BYTES
    → IsLexemeTaken level (NameLexeme name) place old.cursor new.cursor → new.nodes ≡ old.nodes
    → Continues (stack_item Operand level scope ∷ []) (stack_item (BehindName place) level scope ∷ []) old new
name_taken name level scope place old new few short t same =
    let e : nat_lt MOST_NAME_BYTES (length name) ≡ false = grind (arith, nat_tests) in
    moves _ _ level scope place _ _ _ old new (operand_name name level scope) t few e same

pub name_barred : (level scope : ℕ) (name : List ℕ) (old : Parts) (refusal : SyntaxRefusal) → next_lexeme_of old ≡ NameLexeme name
    → Bars (name_lexeme_refusal (next_place_of old) level (next_lexeme_of old)) refusal → RefusesFrom (stack_item Operand level scope ∷ []) old refusal
name_barred level scope name old refusal is bars =
    refuses_if _ old refusal (λ some. past_stops _ (NameLexeme name) level scope _ _ _ old refusal (operand_name name level scope) is
    (name_past _ level scope name refusal (subst (λ (x : PolicyLexeme). name_lexeme_refusal (next_place_of old) level x ≡ Some refusal) is (bars some))))

name_as_constant : (at level scope nodes place : ℕ) (names : List (List ℕ)) (below : Stack) (lexeme : PolicyLexeme) → lexeme ≢ Symbol OpenParen
    → automaton_step (settle lexeme (stack_item (BehindName at) level scope ∷ below)) nodes names place lexeme
    ≡ automaton_step (settle lexeme (stack_item BehindConstant level scope ∷ below)) nodes names place lexeme
name_as_constant at level scope nodes place names below (Symbol OpenParen) other = absurd (other refl)
name_as_constant at level scope nodes place names below lexeme other = refl

-- no event, the name is a variable
pub variable_side : (at level scope : ℕ) (s : Parts) → next_lexeme_of s ≢ Symbol OpenParen → Continues (stack_item (BehindName at) level scope ∷ []) (stack_item BehindConstant level scope ∷ []) s s
variable_side at level scope s other = goes_as _ _ s (λ below. refl) (λ names below place. name_as_constant at level scope s.nodes place names below (next_lexeme_of s) other)

-- ---- events: the node is counted before its parenthesis is taken

pub event_taken : (name level scope place : ℕ) (old counted new : Parts) → counted.cursor ≡ old.cursor → counted.nodes ≡ old.nodes + 1 → counted.nodes ≤ MOST_NODES
    → IsLexemeTaken level (Symbol OpenParen) place counted.cursor new.cursor → new.nodes ≡ counted.nodes
    → Continues (stack_item (BehindName name) level scope ∷ []) (stack_item FirstArgument (level + 1) scope ∷ []) old new
unfolding Continues
event_taken name level scope place old counted new at more few t same names below =
    let e : nat_le MOST_NODES old.nodes ≡ false = grind (arith, nat_tests) in
    let taken = subst (λ (a : Ahead). IsLexemeTaken level (Symbol OpenParen) place a new.cursor) at t in
    ap (λ rest. judge old.cursor.end (stack_item (BehindName name) level scope ∷ below) old.nodes names rest) taken.was
    ∙ judge_takes old.cursor.end level scope old.nodes place (BehindName name) below (stack_item FirstArgument (level + 1) scope ∷ []) names (Symbol OpenParen) new.cursor.rest refl refl refl e
    ∙ (λ j. judge (taken.same_end j) (stack_item FirstArgument (level + 1) scope ∷ below) ((sym more ∙ sym same) j) names new.cursor.rest)

many_events : (end name level scope nodes : ℕ) (rest : List PlacedLexeme) (below : Stack) (names : List (List ℕ)) → next_lexeme rest ≡ Symbol OpenParen → nat_le MOST_NODES nodes ≡ true
    → judge end (stack_item (BehindName name) level scope ∷ below) nodes names rest ≡ Some (refusals.Limit name)
many_events end name level scope nodes [] below names is many = absurd cc
many_events end name level scope nodes ((place, lexeme) ∷ rest) below names is many =
    ap (λ (x : PolicyLexeme). judge end (stack_item (BehindName name) level scope ∷ below) nodes names ((place, x) ∷ rest)) is
    ∙ judge_limits end level scope nodes place (BehindName name) below (stack_item FirstArgument (level + 1) scope ∷ []) names (Symbol OpenParen) rest refl refl refl many

pub event_many : (name level scope : ℕ) (old : Parts) (refusal : SyntaxRefusal) → next_lexeme_of old ≡ Symbol OpenParen → refusal ≡ refusals.Limit name
    → MOST_NODES ≤ old.nodes → RefusesFrom (stack_item (BehindName name) level scope ∷ []) old refusal
unfolding RefusesFrom
event_many name level scope old refusal is limit many some names below =
    let e : nat_le MOST_NODES old.nodes ≡ true = grind (arith, nat_tests) in
    many_events old.cursor.end name level scope old.nodes old.cursor.rest below names is e ∙ ap Some (sym limit)

-- the parenthesis stands there, and is no deeper than the name
pub event_opens : (name level scope : ℕ) (old counted : Parts) (refusal : SyntaxRefusal) → next_lexeme_of counted ≡ Symbol OpenParen → level ≤ MOST_LEVEL
    → BarsSymbol OpenParen (next_place_of counted) level (next_lexeme_of counted) refusal
    → RefusesFrom (stack_item (BehindName name) level scope ∷ []) old refusal
event_opens name level scope old counted refusal is low bars =
    refuses_if _ old refusal (λ some. ⊎_elim (λ w. absurd (w.0 is)) (λ w. absurd (none_is (sym (level_fine (next_place_of counted) level low) ∙ w.1))) (bars some))
  where
    none_is : None ≡ Some refusal → ⊥
    none_is e = cc

-- ---- variables after one another

pub variable_comma : (level scope : ℕ) → IsMark BehindVariable Comma level scope (stack_item BoundVariable level (scope + 1) ∷ [])
variable_comma level scope = record { stands = refl; kept = refl; offers = λ p. refl; right = λ n. refl; limits = λ n names. refl; at = λ p. refl; counts = λ n. refl; named = λ n. refl }
