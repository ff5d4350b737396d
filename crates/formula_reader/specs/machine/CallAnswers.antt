-- A call's answer to a syntax tree or a text, unless there was no memory.
use Rattle.std.specs.Prelude.{List, Result, Ok, Err, ◌≡◌, ℕ}
use Rattle.signature.specs.declared.entries.NameEntry.{NameEntry}
use Rattle.formula_reader.specs.declared.policies.Policy.{Policy}
use Rattle.formula_reader.specs.declared.policies.PolicyRefusal.{PolicyRefusal}
use Rattle.formula_reader.specs.declared.policies.PolicyRefusal.TheVariants.{NoMemory}
use Rattle.formula_reader.specs.machine.StoredRules.{policy_rules_of}
use Rattle.formula_reader.specs.meaning.PolicyAnswers.{IsResolutionAnswer, IsPolicyAnswer}
use Rattle.formula_reader.specs.meaning.Resolution.{Rule}
use Rattle.policy_syntax.specs.meaning.Trees as syntax

-- a call's answer as pure rules
abbrev pub policy_answer_of : Result Policy PolicyRefusal → Result (List Rule) PolicyRefusal
policy_answer_of (Ok policy) = Ok (policy_rules_of policy)
policy_answer_of (Err refusal) = Err refusal

-- the answer of a call is the tree's, unless there was no memory
abbrev pub GivesResolutionAnswer : List NameEntry → List syntax.PolicyRule → Result (List Rule) PolicyRefusal
    → Type 0
GivesResolutionAnswer entries rules (Err NoMemory) = Unit {0}
GivesResolutionAnswer entries rules answer = IsResolutionAnswer entries rules answer

-- a call answers this, unless there was no memory
abbrev pub CallGivesPolicy : Result (List Rule) PolicyRefusal → Result (List Rule) PolicyRefusal → Type 0
CallGivesPolicy (Err NoMemory) answer = Unit {0}
CallGivesPolicy result answer = result ≡ answer

-- the answer of a call is the text's, unless there was no memory
abbrev pub GivesPolicyAnswer : List NameEntry → List ℕ → Result (List Rule) PolicyRefusal → Type 0
GivesPolicyAnswer entries bytes (Err NoMemory) = Unit {0}
GivesPolicyAnswer entries bytes answer = IsPolicyAnswer entries bytes answer
