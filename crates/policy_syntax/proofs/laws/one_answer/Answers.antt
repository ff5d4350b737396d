-- The answer is what the automaton says.
use Rattle.policy_syntax.proofs.Vocabulary.{◌≡◌, ℕ, List, length, Option, None, Some, Ok, Err, refl, IsSyntaxAnswer, SyntaxRefusal}
use Rattle.policy_syntax.proofs.Policies.{Answer, judged, only_answer, policy_out, refusal_answer}
use Rattle.policy_syntax.proofs.laws.one_answer.Goals as goal

some_answer : (bytes : List ℕ) (found : Option SyntaxRefusal) → judged bytes ≡ found → (answer : Answer) × IsSyntaxAnswer bytes answer
some_answer bytes None e = let p = policy_out bytes (length bytes) e in (Ok p.0, p.1)
some_answer bytes (Some refusal) e = (Err refusal, refusal_answer bytes refusal e)

pub returns : goal.returns
returns c bytes =
    let a = some_answer bytes (judged bytes) refl in
    (a.0, a.1, λ other is. only_answer bytes other a.0 is a.1)
