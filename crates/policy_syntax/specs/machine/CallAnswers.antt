-- A call's answer to a text, unless there was no memory.
use Rattle.std.specs.Prelude.{List, Result, Ok, Err, ℕ, ◌≡◌}
use Rattle.policy_syntax.specs.declared.refusals.SyntaxRefusal.{SyntaxRefusal}
use Rattle.policy_syntax.specs.declared.refusals.SyntaxRefusal.TheVariants.{NoMemory}
use Rattle.policy_syntax.specs.declared.trees.SyntaxPolicy.{SyntaxPolicy}
use Rattle.policy_syntax.specs.machine.StoredTrees.{policy_syntax_rules}
use Rattle.policy_syntax.specs.meaning.Refusals.{IsSyntaxAnswer}
use Rattle.policy_syntax.specs.meaning.Trees.{PolicyRule}

-- the answer of a call, with its rules as pure trees
abbrev pub syntax_answer_of : Result SyntaxPolicy SyntaxRefusal → Result (List PolicyRule) SyntaxRefusal
syntax_answer_of (Ok policy) = Ok (policy_syntax_rules policy)
syntax_answer_of (Err refusal) = Err refusal

-- the answer of a call is the text's, unless there was no memory
abbrev pub GivesSyntaxAnswer : List ℕ → Result (List PolicyRule) SyntaxRefusal → Type 0
GivesSyntaxAnswer bytes (Err NoMemory) = Unit {0}
GivesSyntaxAnswer bytes answer = IsSyntaxAnswer bytes answer

-- a call answers this, unless there was no memory
abbrev pub CallGivesSyntax : Result (List PolicyRule) SyntaxRefusal → Result (List PolicyRule) SyntaxRefusal
    → Type 0
CallGivesSyntax (Err NoMemory) answer = Unit {0}
CallGivesSyntax result answer = result ≡ answer
