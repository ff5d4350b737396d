-- A call that answers by the rules gives their answer, and no other.
use Rattle.formula_reader.proofs.Vocabulary.{◌≡◌, ◌≢◌, List, None, Some, Result, Ok, Err, sym, ◌∙◌, NameEntry, CallGivesPolicy, GivesResolutionAnswer, IsResolutionAnswer, Rule, rules_in}
use Rattle.formula_reader.proofs.Vocabulary.{policy_refusal, PolicyRefusal, Syntax, UnknownName, Arity, SortClash, FreeVariable, Rebound, Limit, NoMemory}
use Rattle.policy_syntax.specs.meaning.Trees as syntax

-- rules have at most one answer
pub answers_same : (entries : List NameEntry) (rules : List syntax.PolicyRule) (a b : Result (List Rule) PolicyRefusal)
    → IsResolutionAnswer entries rules a → IsResolutionAnswer entries rules b → a ≡ b
answers_same entries rules (Ok p) (Ok q) g h = let e : Some p ≡ Some q = sym g.1 ∙ h.1 in cc
answers_same entries rules (Ok p) (Err r) g h = let e : None ≡ Some r = sym g.0 ∙ h in cc
answers_same entries rules (Err r) (Ok q) g h = let e : Some r ≡ None = sym g ∙ h.0 in cc
answers_same entries rules (Err r) (Err s) g h = let e : Some r ≡ Some s = sym g ∙ h in cc

-- the rules under the signature, where no refusal stands
pub gives_rules : (entries : List NameEntry) (rules : List syntax.PolicyRule) (answer : List Rule)
    → policy_refusal entries rules ≡ None → rules_in entries rules ≡ Some answer → GivesResolutionAnswer entries rules (Ok answer)
gives_rules entries rules answer e h = (e, h)

-- no other answer than those
pub only_rules : (entries : List NameEntry) (rules : List syntax.PolicyRule) (given : List Rule) (answer : Result (List Rule) PolicyRefusal)
    → policy_refusal entries rules ≡ None → rules_in entries rules ≡ Some given → IsResolutionAnswer entries rules answer → CallGivesPolicy (Ok given) answer
only_rules entries rules given answer e h is = answers_same entries rules (Ok given) answer (e, h) is

-- the refusal that stands first
pub gives_refusal : (entries : List NameEntry) (rules : List syntax.PolicyRule) (refusal : PolicyRefusal)
    → (refusal ≢ NoMemory → policy_refusal entries rules ≡ Some refusal) → GivesResolutionAnswer entries rules (Err refusal)
gives_refusal entries rules (Syntax place) h = h (λ e. cc)
gives_refusal entries rules (UnknownName place) h = h (λ e. cc)
gives_refusal entries rules (Arity place) h = h (λ e. cc)
gives_refusal entries rules (SortClash place) h = h (λ e. cc)
gives_refusal entries rules (FreeVariable place) h = h (λ e. cc)
gives_refusal entries rules (Rebound place) h = h (λ e. cc)
gives_refusal entries rules (Limit place) h = h (λ e. cc)
gives_refusal entries rules NoMemory h = tt

-- no other answer than that
pub only_refusal : (entries : List NameEntry) (rules : List syntax.PolicyRule) (refusal : PolicyRefusal) (answer : Result (List Rule) PolicyRefusal)
    → (refusal ≢ NoMemory → policy_refusal entries rules ≡ Some refusal) → IsResolutionAnswer entries rules answer → CallGivesPolicy (Err refusal) answer
only_refusal entries rules (Syntax place) answer h is = answers_same entries rules (Err (Syntax place)) answer (h (λ e. cc)) is
only_refusal entries rules (UnknownName place) answer h is = answers_same entries rules (Err (UnknownName place)) answer (h (λ e. cc)) is
only_refusal entries rules (Arity place) answer h is = answers_same entries rules (Err (Arity place)) answer (h (λ e. cc)) is
only_refusal entries rules (SortClash place) answer h is = answers_same entries rules (Err (SortClash place)) answer (h (λ e. cc)) is
only_refusal entries rules (FreeVariable place) answer h is = answers_same entries rules (Err (FreeVariable place)) answer (h (λ e. cc)) is
only_refusal entries rules (Rebound place) answer h is = answers_same entries rules (Err (Rebound place)) answer (h (λ e. cc)) is
only_refusal entries rules (Limit place) answer h is = answers_same entries rules (Err (Limit place)) answer (h (λ e. cc)) is
only_refusal entries rules NoMemory answer h is = tt

pub ruleset all_rules = (gives_rules, only_rules, gives_refusal, only_refusal)
