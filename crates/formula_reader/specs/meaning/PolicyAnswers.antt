-- The answer to a text of a policy: that of the second pass, where the first refuses nothing.
use Rattle.std.specs.Prelude.{◌≡◌, List, None, Some, Result, Ok, Err, ℕ}
use Rattle.signature.specs.declared.entries.NameEntry.{NameEntry}
use Rattle.policy_syntax.specs.declared.refusals.SyntaxRefusal.{SyntaxRefusal}
use Rattle.formula_reader.specs.declared.policies.PolicyRefusal.{PolicyRefusal}
use Rattle.formula_reader.specs.declared.policies.PolicyRefusal.TheVariants.{Syntax, Limit, NoMemory}
use Rattle.formula_reader.specs.meaning.Resolution.{Rule, rules_in}
use Rattle.formula_reader.specs.meaning.SortRefusals.{policy_refusal}
use Rattle.policy_syntax.specs.meaning.Trees as syntax
use Rattle.policy_syntax.specs.declared.refusals.SyntaxRefusal.TheVariants as first
use Rattle.policy_syntax.specs.meaning.Refusals as first_pass

-- the answer to the rules of a syntax tree: the rules under the signature where no refusal stands, else the first
-- refusal
abbrev pub IsResolutionAnswer : List NameEntry → List syntax.PolicyRule → Result (List Rule) PolicyRefusal → Type 0
IsResolutionAnswer entries rules (Ok answer) = (policy_refusal entries rules ≡ None)
    × (rules_in entries rules ≡ Some answer)
IsResolutionAnswer entries rules (Err refusal) = policy_refusal entries rules ≡ Some refusal

-- a refusal of the first pass, as one of the reader
abbrev pub of_first_pass : SyntaxRefusal → PolicyRefusal
of_first_pass (first.Syntax place) = Syntax place
of_first_pass (first.Limit place) = Limit place
of_first_pass first.NoMemory = NoMemory

-- the answer after the first pass: that of the second pass to the rules that the first read, or the refusal of the
-- first
abbrev pub FollowsFirstPass : List NameEntry → Result (List syntax.PolicyRule) SyntaxRefusal
    → Result (List Rule) PolicyRefusal → Type 0
FollowsFirstPass entries (Ok rules) answer = IsResolutionAnswer entries rules answer
FollowsFirstPass entries (Err refusal) answer = answer ≡ Err (of_first_pass refusal)

-- the answer to a text: what follows the answer of the first pass to it
pub record IsPolicyAnswer (entries : List NameEntry) (bytes : List ℕ)
    (answer : Result (List Rule) PolicyRefusal) : Type 0
  where
    pub passed : Result (List syntax.PolicyRule) SyntaxRefusal
    pub read : first_pass.IsSyntaxAnswer bytes passed
    pub follows : FollowsFirstPass entries passed answer
