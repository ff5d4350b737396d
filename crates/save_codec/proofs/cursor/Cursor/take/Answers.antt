use Rattle.save_codec.proofs.Vocabulary.{Bor, List, ℕ, None, Some, Option, Decides-eqb, strip_prefix_is}
use Rattle.save_codec.proofs.cursor.Cursor.take.Goals as goal

pub returns-in-Some-clause-taken : goal.returns-in-Some-clause-taken
returns-in-Some-clause-taken c = λ is.
    let some : Option (Bor (List ℕ)) = Some c.in-Some.rest in
    strip_prefix_is Decides-eqb c.args.self.now.rest.now c.args.bytes.now some c.in-Some.ensures.cases

pub returns-in-None-clause-again : goal.returns-in-None-clause-again
returns-in-None-clause-again c = λ rest e.
    let none : Option (Bor (List ℕ)) = None in
    absurd (strip_prefix_is Decides-eqb c.args.self.now.rest.now c.args.bytes.now none c.in-None.ensures.cases rest e)
