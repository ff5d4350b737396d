-- One lexeme where nothing is refused: what the automaton saw of it, and the limits that it keeps.
use Rattle.policy_syntax.proofs.Vocabulary.{◌≡◌, ℕ, ◌<◌, ◌≤◌, nat_le, nat_lt, Bool, true, false, ◌||◌, ◌&&◌, List, [], ◌∷◌, ◌++◌, length, Option, None, Some, refl, sym, subst, ◌∙◌, arith, nat_tests}
use Rattle.policy_syntax.proofs.Vocabulary.{and_parts, or_parts as neither, MOST_NAME_BYTES, le_from_true, ItemKind, Stack, stack_item, offer, skips, is_beyond, is_over, is_wrong, limit_place}
use Rattle.policy_syntax.proofs.Vocabulary.{nodes_after, names_after, TermPhrase, Variable, Plain, Minus, Quoted, term_tree, bound, term_lexeme, term_place, PolicyLexeme, PlacedLexeme, NameLexeme}
use Rattle.policy_syntax.proofs.Vocabulary.{DigitsLexeme, next_lexeme, IsShortTerm, MOST_LEVEL, MOST_VARIABLES, SyntaxRefusal, Syntax, Limit}
use Rattle.policy_syntax.specs.machine.Automaton.{judge}
use Rattle.policy_syntax.proofs.StackCompletions.{skips_end}
use Rattle.policy_syntax.proofs.JudgedLexemes.{judge_takes, judge_limits, judge_refuses, judge_skips, judge_skips_end}
use Rattle.policy_syntax.proofs.PassedLimits.{is_call, other}

-- ---- tests

pub false_le : (a b : ℕ) → nat_le a b ≡ false → b < a
false_le a b e = grind (arith, nat_tests)

pub le_false : (a b : ℕ) → b < a → nat_le a b ≡ false
le_false a b e = grind (arith, nat_tests)

pub false_lt : (a b : ℕ) → nat_lt a b ≡ false → b ≤ a
false_lt a b e = grind (arith, nat_tests)

pub lt_false : (a b : ℕ) → b ≤ a → nat_lt a b ≡ false
lt_false a b e = grind (arith, nat_tests)

-- ---- levels and scopes

pub record Low (level scope : ℕ) : Type 0 where
  pub level_is : level ≤ MOST_LEVEL
  pub scope_is : scope ≤ MOST_VARIABLES

-- a lexeme and those after it are within the limits
pub bound_out : (level scope place : ℕ) (x : PolicyLexeme) (rest : Bool) → bound level scope place x rest ≡ true → Low level scope × (rest ≡ true)
bound_out level scope place x rest e =
    let a = and_parts (nat_le level MOST_LEVEL && nat_le scope MOST_VARIABLES) rest e in
    let b = and_parts (nat_le level MOST_LEVEL) (nat_le scope MOST_VARIABLES) a.0 in
    (record { level_is = le_from_true level MOST_LEVEL b.0; scope_is = le_from_true scope MOST_VARIABLES b.1 }, a.1)

pub low_out : (kind : ItemKind) (level scope nodes : ℕ) (names : List (List ℕ)) (x : PolicyLexeme) → is_call kind x ≡ false → is_over kind level scope nodes names x ≡ false
    → Low level scope × (is_beyond kind nodes names x ≡ false)
low_out kind level scope nodes names x called e =
    let o = other kind level scope nodes 0 names x called in
    let a = neither (nat_lt MOST_LEVEL level || nat_lt MOST_VARIABLES scope) (is_beyond kind nodes names x) (sym o.over_is ∙ e) in
    let b = neither (nat_lt MOST_LEVEL level) (nat_lt MOST_VARIABLES scope) a.0 in
    (record { level_is = false_lt MOST_LEVEL level b.0; scope_is = false_lt MOST_VARIABLES scope b.1 }, a.1)

pub low_in : (kind : ItemKind) (level scope nodes : ℕ) (names : List (List ℕ)) (x : PolicyLexeme) → is_call kind x ≡ false → Low level scope → is_beyond kind nodes names x
    ≡ false → is_over kind level scope nodes names x ≡ false
low_in kind level scope nodes names x called low e =
    let o = other kind level scope nodes 0 names x called in
    let a : nat_lt MOST_LEVEL level ≡ false = lt_false MOST_LEVEL level low.level_is in
    let b : nat_lt MOST_VARIABLES scope ≡ false = lt_false MOST_VARIABLES scope low.scope_is in
    o.over_is ∙ (λ j. a j || b j || e j)

-- ---- steps

-- nothing is refused at the lexeme, nor after it
pub record Went (end level scope nodes : ℕ) (kind : ItemKind) (rest left : Stack) (names : List (List ℕ)) (x : PolicyLexeme) (more : List PlacedLexeme) : Type 0 where
  pub right : is_wrong kind names x ≡ false
  pub low : is_over kind level scope nodes names x ≡ false
  pub later : judge end (left ++ rest) (nodes_after kind nodes x) (names_after kind names x) more ≡ None

no_refusal : (x : SyntaxRefusal) → ◌≡◌ {A = Option SyntaxRefusal} (Some x) None → ⊥
no_refusal x e = cc

pub went : (end level scope nodes place : ℕ) (kind : ItemKind) (rest left : Stack) (names : List (List ℕ)) (x : PolicyLexeme) (more : List PlacedLexeme) → skips kind x ≡ false
    → offer kind level scope place x ≡ Some left
    → judge end (stack_item kind level scope ∷ rest) nodes names ((place, x) ∷ more) ≡ None → Went end level scope nodes kind rest left names x more
went end level scope nodes place kind rest left names x more kept offers e = by (is_wrong kind names x) (is_over kind level scope nodes names x) refl refl
  where
    by : (wrong beyond : Bool) → is_wrong kind names x ≡ wrong → is_over kind level scope nodes names x ≡ beyond → Went end level scope nodes kind rest left names x more
    by true beyond w o = absurd (no_refusal (Syntax place) (sym (judge_refuses end level scope nodes place kind rest left names x more kept offers w) ∙ e))
    by false true w o = absurd (no_refusal (Limit (limit_place kind place x)) (sym (judge_limits end level scope nodes place kind rest left names x more kept offers w o) ∙ e))
    by false false w o = record { right = w; low = o; later = sym (judge_takes end level scope nodes place kind rest left names x more kept offers w o) ∙ e }

-- an optional part that does not come
pub tail_skips : (end level scope nodes : ℕ) (kind : ItemKind) (rest : Stack) (names : List (List ℕ)) (text : List PlacedLexeme) → skips kind (next_lexeme text) ≡ true
    → judge end (stack_item kind level scope ∷ rest) nodes names text ≡ judge end rest nodes names text
tail_skips end level scope nodes kind rest names [] e = judge_skips_end end level scope nodes kind rest names (sym (skips_end kind) ∙ e)
tail_skips end level scope nodes kind rest names (token ∷ text) e = judge_skips end level scope nodes token.0 kind rest names token.1 text e

-- ---- terms

-- the kinds that terms come for
pub record IsTermKind (kind : ItemKind) (nodes : ℕ) (names : List (List ℕ)) : Type 0 where
  pub kept : (x : PolicyLexeme) → skips kind x ≡ false
  pub same : (x : PolicyLexeme) → names_after kind names x ≡ names
  pub right : (x : PolicyLexeme) → is_wrong kind names x ≡ false
  pub plain : (value : ℕ) → is_beyond kind nodes names (DigitsLexeme value) ≡ false
  pub no_call : (x : PolicyLexeme) → is_call kind x ≡ false

pub record TermWent (end level scope nodes : ℕ) (rest : Stack) (names : List (List ℕ)) (t : TermPhrase) (more : List PlacedLexeme) : Type 0 where
  pub low : Low level scope
  pub short : IsShortTerm (term_tree t)
  pub later : judge end rest nodes names more ≡ None

pub term_out : (end level scope nodes : ℕ) (kind : ItemKind) (rest left : Stack) (names : List (List ℕ)) (t : TermPhrase) (more : List PlacedLexeme) → IsTermKind kind nodes names
    → offer kind level scope (term_place t) (term_lexeme t) ≡ Some left
    → judge end (stack_item kind level scope ∷ rest) nodes names ((term_place t, term_lexeme t) ∷ more) ≡ None → TermWent end level scope nodes (left ++ rest) names t more
term_out end level scope nodes kind rest left names (Variable place name) more term offers e =
    let w = went end level scope nodes place kind rest left names (NameLexeme name) more (term.kept (NameLexeme name)) offers e in
    let low = low_out kind level scope nodes names (NameLexeme name) (term.no_call (NameLexeme name)) w.low in
    record {
      low = low.0;
      short = false_lt MOST_NAME_BYTES (length name) low.1;
      later = subst (λ (ns : List (List ℕ)). judge end (left ++ rest) nodes ns more ≡ None)
          (term.same (NameLexeme name)) w.later;
    }
term_out end level scope nodes kind rest left names (Plain place value) more term offers e =
    let x = term_lexeme (Plain place value) in
    let w = went end level scope nodes place kind rest left names x more (term.kept x) offers e in
    let low = low_out kind level scope nodes names x (term.no_call x) w.low in
    record { low = low.0; short = tt; later = subst (λ (ns : List (List ℕ)). judge end (left ++ rest) nodes ns more ≡ None) (term.same x) w.later }
term_out end level scope nodes kind rest left names (Minus place value) more term offers e =
    let x = term_lexeme (Minus place value) in
    let w = went end level scope nodes place kind rest left names x more (term.kept x) offers e in
    let low = low_out kind level scope nodes names x (term.no_call x) w.low in
    record { low = low.0; short = tt; later = subst (λ (ns : List (List ℕ)). judge end (left ++ rest) nodes ns more ≡ None) (term.same x) w.later }
term_out end level scope nodes kind rest left names (Quoted place value) more term offers e =
    let x = term_lexeme (Quoted place value) in
    let w = went end level scope nodes place kind rest left names x more (term.kept x) offers e in
    let low = low_out kind level scope nodes names x (term.no_call x) w.low in
    record { low = low.0; short = tt; later = subst (λ (ns : List (List ℕ)). judge end (left ++ rest) nodes ns more ≡ None) (term.same x) w.later }

term_beyond : (kind : ItemKind) (nodes : ℕ) (names : List (List ℕ)) (t : TermPhrase) → IsTermKind kind nodes names → IsShortTerm (term_tree t) → is_beyond kind nodes names (term_lexeme t) ≡ false
term_beyond kind nodes names (Variable place name) term short = lt_false MOST_NAME_BYTES (length name) short
term_beyond kind nodes names (Plain place value) term short = term.plain value
term_beyond kind nodes names (Minus place value) term short = refl
term_beyond kind nodes names (Quoted place value) term short = refl

term_nodes : (kind : ItemKind) (nodes : ℕ) (t : TermPhrase) → nodes_after kind nodes (term_lexeme t) ≡ nodes
term_nodes kind nodes (Variable place name) = refl
term_nodes kind nodes (Plain place value) = refl
term_nodes kind nodes (Minus place value) = refl
term_nodes kind nodes (Quoted place value) = refl

pub term_in : (end level scope nodes : ℕ) (kind : ItemKind) (rest left : Stack) (names : List (List ℕ)) (t : TermPhrase) (more : List PlacedLexeme) → IsTermKind kind nodes names
    → offer kind level scope (term_place t) (term_lexeme t) ≡ Some left
    → TermWent end level scope nodes (left ++ rest) names t more → judge end (stack_item kind level scope ∷ rest) nodes names ((term_place t, term_lexeme t) ∷ more) ≡ None
term_in end level scope nodes kind rest left names t more term offers w =
    let x = term_lexeme t in
    judge_takes end level scope nodes (term_place t) kind rest left names x more (term.kept x) offers (term.right x)
    (low_in kind level scope nodes names x (term.no_call x) w.low (term_beyond kind nodes names t term w.short))
    ∙ (λ j. judge end (left ++ rest) (term_nodes kind nodes t j) (term.same x j) more) ∙ w.later
