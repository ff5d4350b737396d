-- Nothing is refused in exactly the policies within the limits.
use Rattle.policy_syntax.proofs.Vocabulary.{◌≡◌, ◌≢◌, ℕ, ◌+◌, ◌≤◌, Bool, true, false, true≢false, List, [], ◌∷◌, ◌++◌, length, map, Contains, Option, None, Some, Result, Ok, Err, refl, sym, ap, subst}
use Rattle.policy_syntax.proofs.Vocabulary.{◌∙◌, append_assoc, length-append, arith, append-nil, list_any, AllByRecursion, bytes_eq, bytes_eq-Decides, list_any-Decides, HasNoRepeats-middle}
use Rattle.policy_syntax.proofs.Vocabulary.{HasNoRepeats-push, HasNoRepeats, MOST_NAME_BYTES, stack_item, formula_on, start_stack, PolicyFits, bound, formula_fold, policy_fold, policy_tree, spell}
use Rattle.policy_syntax.proofs.Vocabulary.{IsPolicyText, RulePhrase, formula_tree, PlacedLexeme, Symbol, NameLexeme, lexemes, IsPolicy, IsRule, tree_size, PolicyRule as RuleTree, CallGivesSyntax}
use Rattle.policy_syntax.proofs.Vocabulary.{GivesSyntaxAnswer, IsSyntaxAnswer, Rule, Colon, Semicolon, MOST_RULES, SyntaxRefusal, Syntax, Limit, NoMemory}
use Rattle.policy_syntax.specs.machine.Automaton.{judge}
use Rattle.policy_syntax.proofs.LexemeLimits.{bound_is}
use Rattle.policy_syntax.proofs.PhrasesWithinLimits.{formula_bound, formula_in}
use Rattle.policy_syntax.proofs.JudgedLexemes.{judge_takes}
use Rattle.policy_syntax.proofs.FirstRefusals.{first_judged, judged_first, judged_sentence}
use Rattle.policy_syntax.proofs.OneTree.{policy_one}
use Rattle.policy_syntax.proofs.UnrefusedPhrases.{formula_out}
use Rattle.policy_syntax.proofs.LexemeRefusals.{start_on}
use Rattle.policy_syntax.proofs.UnrefusedLexemes.{bound_out, false_le, false_lt, le_false, low_in, low_out, lt_false, went}
use Rattle.policy_syntax.specs.machine.Automaton as automaton

-- the names of rules
abbrev names_of : List RulePhrase → List (List ℕ)
names_of rules = map (λ (rule : RuleTree). rule.name) (policy_tree rules)

absent : (names : List (List ℕ)) (name : List ℕ) → list_any (bytes_eq name) names ≡ false → Contains names name → ⊥
absent names name e there = true≢false (sym ((list_any-Decides bytes_eq bytes_eq-Decides names name).1 there) ∙ e)

unused : (names : List (List ℕ)) (name : List ℕ) → (Contains names name → ⊥) → list_any (bytes_eq name) names ≡ false
unused names name never = by (list_any (bytes_eq name) names) refl
  where
    by : (b : Bool) → list_any (bytes_eq name) names ≡ b → b ≡ false
    by true e = absurd (never ((list_any-Decides bytes_eq bytes_eq-Decides names name).0 e))
    by false e = refl

-- rules after some others, whose names these are, keep the limits with them
record IsWithin (names : List (List ℕ)) (rules : List RulePhrase) : Type 0 where
  bounded : policy_fold bound rules true ≡ true
  few : length names + length (policy_tree rules) ≤ MOST_RULES
  each : AllByRecursion IsRule (policy_tree rules)
  distinct : HasNoRepeats (names ++ names_of rules)

rules_out : (end n : ℕ) (names : List (List ℕ)) (rules : List RulePhrase) → PolicyFits rules → length names ≤ MOST_RULES → HasNoRepeats names
    → judge end start_stack n names (policy_fold spell rules []) ≡ None → IsWithin names rules
rules_out end n names [] fits few distinct e = record { bounded = refl; few = omega (arith, few); each = tt; distinct = subst HasNoRepeats (sym (append-nil names)) distinct }
rules_out end n names (rule ∷ rules) fits few distinct e =
    let t4 = policy_fold spell rules [] in
    let t3 = (rule.semicolon, Symbol Semicolon) ∷ t4 in
    let t2 = formula_fold spell 0 0 rule.formula t3 in
    let t1 = (rule.colon, Symbol Colon) ∷ t2 in
    let t0 = (rule.name_place, NameLexeme rule.name) ∷ t1 in
    let more = names ++ rule.name ∷ [] in
    let m = tree_size (formula_tree rule.formula) in
    let w1 = went end 0 0 n rule.place automaton.MoreRules [] (stack_item automaton.RuleName 0 0 ∷ []) names (Symbol Rule) t0 refl refl e in
    let a1 = low_out automaton.MoreRules 0 0 n names (Symbol Rule) refl w1.low in
    let w2 = went end 0 0 0 rule.name_place automaton.RuleName [] (stack_item automaton.RuleColon 0 0 ∷ []) names (NameLexeme rule.name) t1 refl refl w1.later in
    let a2 = low_out automaton.RuleName 0 0 0 names (NameLexeme rule.name) refl w2.low in
    let w3 = went end 0 0 0 rule.colon automaton.RuleColon [] (formula_on 0 0 (stack_item automaton.RuleEnd 0 0 ∷ [])) more (Symbol Colon) t2 refl refl w2.later in
    let f = formula_out end more 0 0 (stack_item automaton.RuleEnd 0 0 ∷ []) 0 rule.formula t3 fits.0 w3.later in
    let w4 = went end 0 0 (0 + m) rule.semicolon automaton.RuleEnd [] start_stack more (Symbol Semicolon) t4 refl refl f.later in
    let room = false_le MOST_RULES (length names) a1.1 in
    let longer = length-append names (rule.name ∷ []) in
    let q = rules_out end (0 + m) more rules fits.1 (omega (arith, room, longer)) (HasNoRepeats-push names rule.name distinct (absent names rule.name w2.right)) w4.later in
    let low = a1.0 in
    record {
      bounded = bound_is 0 0 rule.place (Symbol Rule) _ low.level_is low.scope_is ∙ bound_is 0 0 rule.name_place (NameLexeme rule.name) _ low.level_is low.scope_is ∙ bound_is 0 0
          rule.colon (Symbol Colon) _ low.level_is low.scope_is
          ∙ ap (formula_fold bound 0 0 rule.formula) (bound_is 0 0 rule.semicolon (Symbol Semicolon) _ low.level_is low.scope_is ∙ q.bounded) ∙ f.bounded;
      few = omega (arith, q.few, longer);
      each = (record { short = false_lt MOST_NAME_BYTES (length rule.name) a2.1; small = omega (arith, f.few); kept = f.kept }, q.each);
      distinct = subst HasNoRepeats (append_assoc names (rule.name ∷ []) (names_of rules)) q.distinct;
    }

rules_in : (end n : ℕ) (names : List (List ℕ)) (rules : List RulePhrase) → PolicyFits rules → IsWithin names rules → judge end start_stack n names (policy_fold spell rules []) ≡ None
unfolding judge
rules_in end n names [] fits w = refl
rules_in end n names (rule ∷ rules) fits w =
    let t4 = policy_fold spell rules [] in
    let t3 = (rule.semicolon, Symbol Semicolon) ∷ t4 in
    let t2 = formula_fold spell 0 0 rule.formula t3 in
    let t1 = (rule.colon, Symbol Colon) ∷ t2 in
    let t0 = (rule.name_place, NameLexeme rule.name) ∷ t1 in
    let more = names ++ rule.name ∷ [] in
    let m = tree_size (formula_tree rule.formula) in
    let b4 = policy_fold bound rules true in
    let b3 = bound 0 0 rule.semicolon (Symbol Semicolon) b4 in
    let b2 = formula_fold bound 0 0 rule.formula b3 in
    let b1 = bound 0 0 rule.colon (Symbol Colon) b2 in
    let c0 = bound_out 0 0 rule.place (Symbol Rule) (bound 0 0 rule.name_place (NameLexeme rule.name) b1) w.bounded in
    let c1 = bound_out 0 0 rule.name_place (NameLexeme rule.name) b1 c0.1 in
    let c2 = bound_out 0 0 rule.colon (Symbol Colon) b2 c1.1 in
    let c3 = formula_bound 0 0 rule.formula b3 c2.1 in
    let c4 = bound_out 0 0 rule.semicolon (Symbol Semicolon) b4 c3.1 in
    let low = c0.0 in
    let is = w.each.0 in
    let longer = length-append names (rule.name ∷ []) in
    judge_takes end 0 0 n rule.place automaton.MoreRules [] (stack_item automaton.RuleName 0 0 ∷ []) names (Symbol Rule) t0 refl refl refl
    (low_in automaton.MoreRules 0 0 n names (Symbol Rule) refl low (le_false MOST_RULES (length names) (omega (arith, w.few))))
    ∙ judge_takes end 0 0 0 rule.name_place automaton.RuleName [] (stack_item automaton.RuleColon 0 0 ∷ []) names (NameLexeme rule.name) t1 refl refl
    (unused names rule.name (HasNoRepeats-middle names (names_of rules) rule.name w.distinct))
    (low_in automaton.RuleName 0 0 0 names (NameLexeme rule.name) refl low (lt_false MOST_NAME_BYTES (length rule.name) is.short))
    ∙ judge_takes end 0 0 0 rule.colon automaton.RuleColon [] (formula_on 0 0 (stack_item automaton.RuleEnd 0 0 ∷ [])) more (Symbol Colon) t2 refl refl refl
    (low_in automaton.RuleColon 0 0 0 more (Symbol Colon) refl low refl)
    ∙ formula_in end more 0 0 (stack_item automaton.RuleEnd 0 0 ∷ []) 0 rule.formula t3 fits.0 (record {
      bounded = c3.0;
      kept = is.kept;
      few = omega (arith, is.small);
      later = judge_takes end 0 0 (0 + m) rule.semicolon automaton.RuleEnd [] start_stack more (Symbol Semicolon) t4 refl refl refl
          (low_in automaton.RuleEnd 0 0 (0 + m) more (Symbol Semicolon) refl low refl)
          ∙ rules_in end (0 + m) more rules fits.1 (record {
            bounded = c4.1;
            few = omega (arith, w.few, longer);
            each = w.each.1;
            distinct = subst HasNoRepeats (sym (append_assoc names (rule.name ∷ []) (names_of rules))) w.distinct;
          });
    })

-- ---- policies

pub policy_out : (bytes : List ℕ) (end : ℕ) → judge end start_stack 0 [] (lexemes bytes) ≡ None → (rules : List RuleTree) × IsPolicyText bytes rules
policy_out bytes end e =
    let s = judged_sentence end [] start_stack 0 [] (lexemes bytes) start_on e in
    let w = rules_out end 0 [] s.0 s.1 (omega arith) tt (subst (λ (text : List PlacedLexeme). judge end start_stack 0 [] text ≡ None) (sym s.2) e) in (
      policy_tree s.0,
      record {
        read = record { phrase = s.0; tree_is = refl; fits = s.1; spells = s.2; bounds = w.bounded };
        within = record { few = omega (arith, w.few); each = w.each; distinct = w.distinct };
      },
    )

pub policy_in : (bytes : List ℕ) (end : ℕ) (rules : List RuleTree) → IsPolicyText bytes rules → judge end start_stack 0 [] (lexemes bytes) ≡ None
policy_in bytes end rules is =
    let r = is.read in
    let within : IsPolicy (policy_tree r.phrase) = subst IsPolicy (sym r.tree_is) is.within in
    subst (λ (text : List PlacedLexeme). judge end start_stack 0 [] text ≡ None) r.spells
    (rules_in end 0 [] r.phrase r.fits (record { bounded = r.bounds; few = omega (arith, within.few); each = within.each; distinct = within.distinct }))

-- ---- answers

abbrev pub Answer : Type 0
Answer = Result (List RuleTree) SyntaxRefusal

abbrev pub refusal_of : Answer → Option SyntaxRefusal
refusal_of (Ok rules) = None
refusal_of (Err refusal) = Some refusal

-- the first refusal of a text by the automaton
abbrev pub judged : List ℕ → Option SyntaxRefusal
judged bytes = judge (length bytes) start_stack 0 [] (lexemes bytes)

pub answer_judged : (bytes : List ℕ) (answer : Answer) → IsSyntaxAnswer bytes answer → judged bytes ≡ refusal_of answer
answer_judged bytes (Ok rules) is = policy_in bytes (length bytes) rules is
answer_judged bytes (Err refusal) is = first_judged (length bytes) [] start_stack 0 [] (lexemes bytes) refusal start_on is

pub refusal_answer : (bytes : List ℕ) (refusal : SyntaxRefusal) → judged bytes ≡ Some refusal → IsSyntaxAnswer bytes (Err refusal)
refusal_answer bytes refusal e = judged_first (length bytes) [] start_stack 0 [] (lexemes bytes) refusal start_on e

same_rules : (bytes : List ℕ) (rules others : List RuleTree) → IsPolicyText bytes rules → IsPolicyText bytes others → rules ≡ others
same_rules bytes rules others a b =
    sym a.read.tree_is ∙ ap policy_tree (policy_one a.read.phrase b.read.phrase (a.read.spells ∙ sym b.read.spells) a.read.fits b.read.fits) ∙ b.read.tree_is

same : (bytes : List ℕ) (answer other : Answer) → IsSyntaxAnswer bytes answer → IsSyntaxAnswer bytes other → refusal_of answer ≡ refusal_of other → answer ≡ other
same bytes (Ok rules) (Ok others) is also e = ap Ok (same_rules bytes rules others is also)
same bytes (Ok rules) (Err refusal) is also e = absurd cc
same bytes (Err refusal) (Ok others) is also e = absurd cc
same bytes (Err refusal) (Err other) is also e = cc

-- a text has one answer at most
pub only_answer : (bytes : List ℕ) (answer other : Answer) → IsSyntaxAnswer bytes answer → IsSyntaxAnswer bytes other → answer ≡ other
only_answer bytes answer other is also = same bytes answer other is also (sym (answer_judged bytes answer is) ∙ answer_judged bytes other also)

-- ---- answers of a call

pub error_answer : (bytes : List ℕ) (refusal : SyntaxRefusal) → (refusal ≢ NoMemory → judged bytes ≡ Some refusal) → GivesSyntaxAnswer bytes (Err refusal)
error_answer bytes NoMemory e = tt
error_answer bytes (Syntax place) e = refusal_answer bytes (Syntax place) (e (λ f. cc))
error_answer bytes (Limit place) e = refusal_answer bytes (Limit place) (e (λ f. cc))

pub error_gives : (bytes : List ℕ) (refusal : SyntaxRefusal) → (refusal ≢ NoMemory → judged bytes ≡ Some refusal) → (answer : Answer) → IsSyntaxAnswer bytes answer
    → CallGivesSyntax (Err refusal) answer
error_gives bytes NoMemory e answer given = tt
error_gives bytes (Syntax place) e answer given = only_answer bytes (Err (Syntax place)) answer (refusal_answer bytes (Syntax place) (e (λ f. cc))) given
error_gives bytes (Limit place) e answer given = only_answer bytes (Err (Limit place)) answer (refusal_answer bytes (Limit place) (e (λ f. cc))) given
