-- What both passes answer to a text.
use Rattle.formula_reader.proofs.Vocabulary.{◌≡◌, ℕ, List, Result, Ok, Err, IfOk, IsErrAnd, refl, sym, subst, SyntaxRefusal, NameEntry, GivesResolutionAnswer, policy_answer_of, GivesPolicyAnswer}
use Rattle.formula_reader.proofs.Vocabulary.{IsResolutionAnswer, FollowsFirstPass, IsPolicyAnswer, of_first_pass, Rule, policy_rules_of, IsWellFormedPolicy, ReadIsWellFormed, Policy, PolicyRefusal}
use Rattle.formula_reader.proofs.Vocabulary.{Syntax, UnknownName, Arity, SortClash, FreeVariable, Rebound, Limit, NoMemory}
use Rattle.formula_reader.proofs.RulesExist.{one_answer_of}
use Rattle.policy_syntax.specs.machine.CallAnswers as first_pass
use Rattle.policy_syntax.specs.meaning.Refusals as refusals
use Rattle.policy_syntax.specs.meaning.Trees as syntax
use Rattle.policy_syntax.specs.declared.refusals.SyntaxRefusal.TheVariants as first

-- the answer to rules that were read is the text's
pub text_gives : (entries : List NameEntry) (bytes : List ℕ) (rules : List syntax.PolicyRule) (answer : Result (List Rule) PolicyRefusal)
    → refusals.IsSyntaxAnswer bytes (Ok rules) → GivesResolutionAnswer entries rules answer → GivesPolicyAnswer entries bytes answer
text_gives entries bytes rules (Ok policy) read h = record { passed = Ok rules; read = read; follows = h }
text_gives entries bytes rules (Err (Syntax place)) read h = record { passed = Ok rules; read = read; follows = h }
text_gives entries bytes rules (Err (UnknownName place)) read h = record { passed = Ok rules; read = read; follows = h }
text_gives entries bytes rules (Err (Arity place)) read h = record { passed = Ok rules; read = read; follows = h }
text_gives entries bytes rules (Err (SortClash place)) read h = record { passed = Ok rules; read = read; follows = h }
text_gives entries bytes rules (Err (FreeVariable place)) read h = record { passed = Ok rules; read = read; follows = h }
text_gives entries bytes rules (Err (Rebound place)) read h = record { passed = Ok rules; read = read; follows = h }
text_gives entries bytes rules (Err (Limit place)) read h = record { passed = Ok rules; read = read; follows = h }
text_gives entries bytes rules (Err NoMemory) read h = tt

-- and so is the refusal of the first pass
pub refusal_gives : (entries : List NameEntry) (bytes : List ℕ) (refusal : SyntaxRefusal)
    → first_pass.GivesSyntaxAnswer bytes (Err refusal) → GivesPolicyAnswer entries bytes (Err (of_first_pass refusal))
refusal_gives entries bytes (first.Syntax place) read = record { passed = Err (first.Syntax place); read = read; follows = refl }
refusal_gives entries bytes (first.Limit place) read = record { passed = Err (first.Limit place); read = read; follows = refl }
refusal_gives entries bytes first.NoMemory read = tt

-- as a call of `?` gives it
pub refusal_passed : (entries : List NameEntry) (bytes : List ℕ) (refusal : SyntaxRefusal) (result : Result Policy PolicyRefusal)
    → IsErrAnd result (λ r. r ≡ of_first_pass refusal) → first_pass.GivesSyntaxAnswer bytes (Err refusal) → GivesPolicyAnswer entries bytes (policy_answer_of result)
refusal_passed entries bytes refusal (Ok policy) e read = absurd e
refusal_passed entries bytes refusal (Err other) e read = subst (λ (r : PolicyRefusal). GivesPolicyAnswer entries bytes (Err r)) (sym e) (refusal_gives entries bytes refusal read)

-- what follows one answer of the first pass
follows_rules : (entries : List NameEntry) (rules : List syntax.PolicyRule) (passed : Result (List syntax.PolicyRule) SyntaxRefusal) (answer : Result (List Rule) PolicyRefusal)
    → Ok rules ≡ passed → FollowsFirstPass entries passed answer → IsResolutionAnswer entries rules answer
follows_rules entries rules passed answer e h = subst (λ (p : Result (List syntax.PolicyRule) SyntaxRefusal). FollowsFirstPass entries p answer) (sym e) h

follows_refusal : (entries : List NameEntry) (refusal : SyntaxRefusal) (passed : Result (List syntax.PolicyRule) SyntaxRefusal) (answer : Result (List Rule) PolicyRefusal)
    → Err refusal ≡ passed → FollowsFirstPass entries passed answer → answer ≡ Err (of_first_pass refusal)
follows_refusal entries refusal passed answer e h = subst (λ (p : Result (List syntax.PolicyRule) SyntaxRefusal). FollowsFirstPass entries p answer) (sym e) h

-- a text has exactly one answer, where it has exactly one of the first pass
pub text_answer_of : (entries : List NameEntry) (bytes : List ℕ)
    → (passed : Result (List syntax.PolicyRule) SyntaxRefusal) × refusals.IsSyntaxAnswer bytes passed
    × ((other : Result (List syntax.PolicyRule) SyntaxRefusal) → refusals.IsSyntaxAnswer bytes other → other ≡ passed)
    → (answer : Result (List Rule) PolicyRefusal) × IsPolicyAnswer entries bytes answer
    × ((other : Result (List Rule) PolicyRefusal) → IsPolicyAnswer entries bytes other → other ≡ answer)
text_answer_of entries bytes (Ok rules, read, only) =
    let one = one_answer_of entries rules in (
      one.0,
      record { passed = Ok rules; read = read; follows = one.1 },
      λ other h.
          one.2 other (follows_rules entries rules h.passed other (sym (only h.passed h.read)) h.follows),
    )
text_answer_of entries bytes (Err refusal, read, only) = (
  Err (of_first_pass refusal),
  record { passed = Err refusal; read = read; follows = refl },
  λ other h.
      follows_refusal entries refusal h.passed other (sym (only h.passed h.read)) h.follows,
)

-- a policy that a call gives is one that a text is read as
pub text_good_of : ReadIsWellFormed → (entries : List NameEntry) (bytes : List ℕ) (rules : List syntax.PolicyRule) (result : Result Policy PolicyRefusal)
    → refusals.IsSyntaxAnswer bytes (Ok rules) → GivesResolutionAnswer entries rules (policy_answer_of result) → IfOk result (λ policy. IsWellFormedPolicy entries (policy_rules_of policy))
text_good_of good entries bytes rules (Ok policy) read h = good entries bytes (policy_rules_of policy) (text_gives entries bytes rules (Ok (policy_rules_of policy)) read h)
text_good_of good entries bytes rules (Err refusal) read h = tt
