use Rattle.save_codec.proofs.PlainTexts.{quotes}
use Rattle.save_codec.proofs.cursor.Cursor.quoted.Goals as goal

pub returns-clause-taken : goal.returns-clause-taken
returns-clause-taken c = λ is.
    quotes c.args.text.now c.args.self.now.rest.now c.take.new.self.rest.now c.take-else-not-take.new.self.rest.now c.take-else-not-take-2.new.self.rest.now
    (c.is_plain.ensures c.if-not-is_plain.false)
    (c.take.ensures.taken c.if-not-take.false) (c.take-else-not-take.ensures.taken c.if-not-take-2.false) (c.take-else-not-take-2.ensures.taken c.if-not-take-3.false)
