-- No number begins with a dash.
use Rattle.save_codec.proofs.Vocabulary.{Some, ap}
use Rattle.save_codec.proofs.LineTexts.{no_dash}
use Rattle.save_codec.proofs.cursor.Cursor.last.Goals as goal

pub returns-then-take-clause-again : goal.returns-then-take-clause-again
returns-then-take-clause-again c = λ last rest small e.
    ap Some (no_dash last rest c.args.self.now.rest.now c.take.new.self.rest.now small e (c.take.ensures.taken c.if-take.true))
