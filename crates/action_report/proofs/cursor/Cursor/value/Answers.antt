-- What is printed for a value is a token of it, and no other stands there.
use Rattle.action_report.proofs.Vocabulary.{ap, ◌+◌, ◌∙◌, length, Some, zero-add, spelled, behind_front}
use Rattle.action_report.proofs.cursor.Cursor.value.Goals as goal

pub returns-in-None-clause-again : goal.returns-in-None-clause-again
returns-in-None-clause-again c = λ value rest fits ends e.
    absurd ((rw c.in-None.is at c.in_ok-value.ensures.none) value (0 + length (spelled value)) (c.printed_is_token.ensures c.args.self.now.rest.now 0 value rest fits ends e))

pub returns-in-Some-clause-again : goal.returns-in-Some-clause-again
returns-in-Some-clause-again c = λ value rest fits ends e.
    let one = c.one_token_at_place.ensures c.args.self.now.rest.now 0 c.in-Some.end (0 + length (spelled value)) c.in-Some.value value (rw c.in-Some.is at c.in_ok-value.ensures.some)
    (c.printed_is_token.ensures c.args.self.now.rest.now 0 value rest fits ends e) in
    (ap Some one.0, behind_front (spelled value) rest c.args.self.now.rest.now c.in-Some.end e (one.1 ∙ zero-add (length (spelled value))))
