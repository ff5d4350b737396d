-- What is printed for a value is a token of it, and no other stands there.
use Rattle.save_codec.proofs.Vocabulary.{◌++◌, ◌+◌, ◌∙◌, Some, ap, sym, length, spelled, Value}
use Rattle.save_codec.proofs.cursor.Cursor.value.Goals as goal

pub returns-in-None-clause-again : goal.returns-in-None-clause-again
returns-in-None-clause-again c = λ value rest fits ends e.
    absurd ((rw c.in-None.is at c.in_ok-value.ensures.none) value (0 + length (spelled value)) (c.printed_is_token.ensures c.args.self.now.rest.now 0 value rest fits ends e))

pub returns-then-not-taken-clause-again : goal.returns-then-not-taken-clause-again
returns-then-not-taken-clause-again c = λ value rest fits ends e.
    let one = c.one_token_at_place.ensures c.args.self.now.rest.now 0 c.in-Some.field-0-1 (0 + length (spelled value)) c.in-Some.value value (rw c.in-Some.is at c.in_ok-value.ensures.some)
    (c.printed_is_token.ensures c.args.self.now.rest.now 0 value rest fits ends e) in
    absurd (cc ((c.in_ok-taken-in-Some.ensures.again rest (e ∙ ap (λ (v : Value). spelled v ++ rest) (sym one.0))).0, c.if-not-taken.true))

pub returns-else-not-taken-clause-again : goal.returns-else-not-taken-clause-again
returns-else-not-taken-clause-again c = λ value rest fits ends e.
    let one = c.one_token_at_place.ensures c.args.self.now.rest.now 0 c.in-Some.field-0-1 (0 + length (spelled value)) c.in-Some.value value (rw c.in-Some.is at c.in_ok-value.ensures.some)
    (c.printed_is_token.ensures c.args.self.now.rest.now 0 value rest fits ends e) in
    (ap Some one.0, (c.in_ok-taken-in-Some.ensures.again rest (e ∙ ap (λ (v : Value). spelled v ++ rest) (sym one.0))).1)
