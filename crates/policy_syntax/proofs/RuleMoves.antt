-- What each lexeme of a rule outside its formula is to the automaton.
use Rattle.policy_syntax.proofs.Vocabulary.{◌≡◌, ◌≢◌, ⊎_elim, ℕ, suc, ◌<◌, ◌≤◌, nat_le, nat_lt, true, false, ◌||◌, List, [], ◌∷◌, ◌++◌, length, Result, None, Some, Err, refl, sym, ap, subst, ◌∙◌}
use Rattle.policy_syntax.proofs.Vocabulary.{arith, nat_tests, err_from_is_err_and, list_any, IsErrAnd, bytes_eq, MOST_NAME_BYTES, Stack, AutomatonState, MoreRules, RuleName, RuleColon, RuleEnd}
use Rattle.policy_syntax.proofs.Vocabulary.{formula_on, stack_item, settle, start_stack, automaton_step, then_judged, Bars, BarsSymbol, JudgesRule, level_refusal, name_lexeme_refusal, judge_from}
use Rattle.policy_syntax.proofs.Vocabulary.{next_lexeme_of, next_place_of, PolicyLexeme, PlacedLexeme, Symbol, NameLexeme, next_lexeme, next_place, IsLexemeTaken, has_name, is_name_of}
use Rattle.policy_syntax.proofs.Vocabulary.{syntax_rule_names, Rule, Colon, Semicolon, MOST_RULES, Parts, SyntaxRefusal, Syntax, Limit, NoMemory, SyntaxRule}
use Rattle.policy_syntax.specs.machine.Automaton.{judge}
use Rattle.policy_syntax.specs.machine.PartOutcomes.{Continues, RefusesFrom}
use Rattle.policy_syntax.proofs.JudgedLexemes.{judge_takes, judge_limits, judge_refuses, judge_sticks, judge_ends}
use Rattle.policy_syntax.proofs.PartMoves.{IsMark, IsOnly, IsPast, name_past}

-- ---- the word `rule`

pub rule_taken : (names : List (List ℕ)) (place : ℕ) (old new : Parts) → length names < MOST_RULES → IsLexemeTaken 0 (Symbol Rule) place old.cursor new.cursor → new.nodes ≡ 0
    → judge_from names start_stack old ≡ judge_from names (stack_item RuleName 0 0 ∷ []) new
rule_taken names place old new few t none =
    let e : nat_le MOST_RULES (length names) ≡ false = grind (arith, nat_tests) in
    ap (λ rest. judge old.cursor.end start_stack old.nodes names rest) t.was
    ∙ judge_takes old.cursor.end 0 0 old.nodes place MoreRules [] (stack_item RuleName 0 0 ∷ []) names (Symbol Rule) new.cursor.rest refl refl refl e
    ∙ (λ j. judge (t.same_end j) (stack_item RuleName 0 0 ∷ []) (sym none j) names new.cursor.rest)

many_rules : (end nodes : ℕ) (rest : List PlacedLexeme) (names : List (List ℕ)) → next_lexeme rest ≡ Symbol Rule → nat_le MOST_RULES (length names) ≡ true
    → judge end start_stack nodes names rest ≡ Some (Limit (next_place end rest))
many_rules end nodes [] names is many = absurd cc
many_rules end nodes ((place, lexeme) ∷ rest) names is many =
    ap (λ (x : PolicyLexeme). judge end start_stack nodes names ((place, x) ∷ rest)) is
    ∙ judge_limits end 0 0 nodes place MoreRules [] (stack_item RuleName 0 0 ∷ []) names (Symbol Rule) rest refl refl refl many

pub rule_many : (names : List (List ℕ)) (old : Parts) → next_lexeme_of old ≡ Symbol Rule → MOST_RULES ≤ length names → judge_from names start_stack old ≡ Some (Limit (next_place_of old))
rule_many names old is many =
    let e : nat_le MOST_RULES (length names) ≡ true = grind (arith, nat_tests) in
    many_rules old.cursor.end old.nodes old.cursor.rest names is e

no_rule : (nodes place : ℕ) (names : List (List ℕ)) (lexeme : PolicyLexeme) → lexeme ≢ Symbol Rule → automaton_step (settle lexeme start_stack) nodes names place lexeme ≡ Err (Syntax place)
no_rule nodes place names (Symbol Rule) none = absurd (none refl)
no_rule nodes place names lexeme none = refl

rule_stuck : (end nodes : ℕ) (rest : List PlacedLexeme) (names : List (List ℕ)) → rest ≢ [] → next_lexeme rest ≢ Symbol Rule → judge end start_stack nodes names rest
    ≡ Some (Syntax (next_place end rest))
unfolding judge
rule_stuck end nodes [] names more none = absurd (more refl)
rule_stuck end nodes (placed ∷ rest) names more none = ap (then_judged (λ (s : AutomatonState). judge end s.stack s.nodes s.names rest)) (no_rule nodes placed.0 names placed.1 none)

pub rule_other : (names : List (List ℕ)) (old : Parts) → old.cursor.rest ≢ [] → next_lexeme_of old ≢ Symbol Rule → judge_from names start_stack old ≡ Some (Syntax (next_place_of old))
rule_other names old more none = rule_stuck old.cursor.end old.nodes old.cursor.rest names more none

pub length_names : (rules : List SyntaxRule) → length (syntax_rule_names rules) ≡ length rules
length_names [] = refl
length_names (rule ∷ rules) = ap suc (length_names rules)

pub names_push : (rules : List SyntaxRule) (rule : SyntaxRule) → syntax_rule_names (rules ++ rule ∷ []) ≡ syntax_rule_names rules ++ rule.name ∷ []
names_push [] rule = refl
names_push (first ∷ rules) rule = ap (λ rest. first.name ∷ rest) (names_push rules rule)

level_zero : (place : ℕ) (refusal : SyntaxRefusal) → level_refusal place 0 ≡ Some refusal → ⊥
level_zero place refusal e = cc

pub rule_barred : (names : List (List ℕ)) (old : Parts) (refusal : SyntaxRefusal) → old.cursor.rest ≢ [] → BarsSymbol Rule (next_place_of old) 0 (next_lexeme_of old) refusal
    → refusal ≢ NoMemory → judge_from names start_stack old ≡ Some refusal
rule_barred names old refusal more bars some =
    ⊎_elim (λ w. rule_stuck old.cursor.end old.nodes old.cursor.rest names more w.0 ∙ ap Some (sym w.1)) (λ w. absurd (level_zero (next_place_of old) refusal w.1)) (bars some)

-- ---- the name of a rule

names_tested : (rules : List SyntaxRule) (name : List ℕ) → has_name rules name ≡ list_any (bytes_eq name) (syntax_rule_names rules)
names_tested [] name = refl
names_tested (rule ∷ rules) name = ap (λ b. bytes_eq name rule.name || b) (names_tested rules name)

pub rule_name_taken : (rules : List SyntaxRule) (name : List ℕ) (place : ℕ) (old new : Parts) → has_name rules name ≡ false → length name ≤ MOST_NAME_BYTES
    → IsLexemeTaken 0 (NameLexeme name) place old.cursor new.cursor → new.nodes ≡ old.nodes
    → judge_from (syntax_rule_names rules) (stack_item RuleName 0 0 ∷ []) old ≡ judge_from (syntax_rule_names rules ++ name ∷ []) (stack_item RuleColon 0 0 ∷ []) new
rule_name_taken rules name place old new fresh short t same =
    let e : nat_lt MOST_NAME_BYTES (length name) ≡ false = grind (arith, nat_tests) in
    ap (λ rest. judge old.cursor.end (stack_item RuleName 0 0 ∷ []) old.nodes (syntax_rule_names rules) rest) t.was
    ∙ judge_takes old.cursor.end 0 0 old.nodes place RuleName [] (stack_item RuleColon 0 0 ∷ []) (syntax_rule_names rules) (NameLexeme name) new.cursor.rest refl refl
    (sym (names_tested rules name) ∙ fresh) e
    ∙ (λ j. judge (t.same_end j) (stack_item RuleColon 0 0 ∷ []) (sym same j) (syntax_rule_names rules ++ name ∷ []) new.cursor.rest)

used : (end nodes : ℕ) (rest : List PlacedLexeme) (rules : List SyntaxRule) → is_name_of (next_lexeme rest) rules ≡ true
    → judge end (stack_item RuleName 0 0 ∷ []) nodes (syntax_rule_names rules) rest ≡ Some (Syntax (next_place end rest))
used end nodes [] rules is = absurd cc
used end nodes ((place, NameLexeme name) ∷ rest) rules is =
    judge_refuses end 0 0 nodes place RuleName [] (stack_item RuleColon 0 0 ∷ []) (syntax_rule_names rules) (NameLexeme name) rest refl refl (sym (names_tested rules name) ∙ is)
used end nodes ((place, lexeme) ∷ rest) rules is = absurd cc

pub rule_name_used : (rules : List SyntaxRule) (old : Parts) → is_name_of (next_lexeme_of old) rules ≡ true → judge_from (syntax_rule_names rules) (stack_item RuleName 0 0 ∷ []) old
    ≡ Some (Syntax (next_place_of old))
rule_name_used rules old is = used old.cursor.end old.nodes old.cursor.rest rules is

name_stops : (end nodes : ℕ) (rest : List PlacedLexeme) (rules : List SyntaxRule) (refusal : SyntaxRefusal) → is_name_of (next_lexeme rest) rules ≡ false
    → name_lexeme_refusal (next_place end rest) 0 (next_lexeme rest) ≡ Some refusal
    → judge end (stack_item RuleName 0 0 ∷ []) nodes (syntax_rule_names rules) rest ≡ Some refusal
unfolding IsPast
name_stops end nodes [] rules refusal fresh e = judge_ends end 0 0 nodes RuleName [] (syntax_rule_names rules) refl ∙ e
name_stops end nodes ((place, NameLexeme name) ∷ rest) rules refusal fresh e =
    let past = name_past place 0 0 name refusal e in
    judge_limits end 0 0 nodes place RuleName [] (stack_item RuleColon 0 0 ∷ []) (syntax_rule_names rules) (NameLexeme name) rest refl refl (sym (names_tested rules name) ∙ fresh)
    past.1 ∙ ap Some past.0
name_stops end nodes ((place, lexeme) ∷ rest) rules refusal fresh e = judge_sticks end 0 0 nodes place RuleName [] (syntax_rule_names rules) lexeme rest refl refl ∙ e

pub rule_name_barred : (rules : List SyntaxRule) (old : Parts) (refusal : SyntaxRefusal) → is_name_of (next_lexeme_of old) rules ≡ false
    → Bars (name_lexeme_refusal (next_place_of old) 0 (next_lexeme_of old)) refusal → refusal ≢ NoMemory
    → judge_from (syntax_rule_names rules) (stack_item RuleName 0 0 ∷ []) old ≡ Some refusal
rule_name_barred rules old refusal fresh bars some = name_stops old.cursor.end old.nodes old.cursor.rest rules refusal fresh (bars some)

-- ---- the colon and the semicolon

pub colon : IsMark RuleColon Colon 0 0 (formula_on 0 0 (stack_item RuleEnd 0 0 ∷ []))
colon = record { stands = refl; kept = refl; offers = λ p. refl; right = λ n. refl; limits = λ n names. refl; at = λ p. refl; counts = λ n. refl; named = λ n. refl }

pub only_colon : IsOnly RuleColon Colon 0 0
only_colon place (Symbol Colon) other = absurd (other refl)
only_colon place lexeme other = refl

pub semicolon : IsMark RuleEnd Semicolon 0 0 (stack_item MoreRules 0 0 ∷ [])
semicolon = record { stands = refl; kept = refl; offers = λ p. refl; right = λ n. refl; limits = λ n names. refl; at = λ p. refl; counts = λ n. refl; named = λ n. refl }

pub only_semicolon : IsOnly RuleEnd Semicolon 0 0
only_semicolon place (Symbol Semicolon) other = absurd (other refl)
only_semicolon place lexeme other = refl

-- ---- over nothing

pub alone : (from to : Stack) (s0 s1 : Parts) (names : List (List ℕ)) → Continues from to s0 s1 → judge_from names (from ++ []) s0 ≡ judge_from names (to ++ []) s1
unfolding Continues
alone from to s0 s1 names f = f names []

pub refused_alone : (from : Stack) (s : Parts) (refusal : SyntaxRefusal) (names : List (List ℕ)) → RefusesFrom from s refusal → refusal ≢ NoMemory → judge_from names (from ++ []) s ≡ Some refusal
unfolding RefusesFrom
refused_alone from s refusal names f some = f some names []

-- ---- at the exit of a `?`

pub rule_err : (rules : List SyntaxRule) (old new : Parts) (r : Result SyntaxRule SyntaxRefusal) (refusal : SyntaxRefusal) → IsErrAnd r (λ y. y ≡ refusal)
    → Bars (judge_from (syntax_rule_names rules) start_stack old) refusal → JudgesRule rules old new r
rule_err rules old new r refusal is bars =
    let p = err_from_is_err_and r is in
    subst (λ (x : Result SyntaxRule SyntaxRefusal). JudgesRule rules old new x) (sym p.1) (subst (λ (y : SyntaxRefusal). Bars (judge_from (syntax_rule_names rules) start_stack old) y) (sym p.2) bars)

-- ---- the end

pub done : (names : List (List ℕ)) (s : Parts) → s.cursor.rest ≡ [] → judge_from names start_stack s ≡ None
unfolding judge
done names s ends = ap (λ rest. judge s.cursor.end start_stack s.nodes names rest) ends
