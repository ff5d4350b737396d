use Rattle.action_report.proofs.Vocabulary.{Bor, List, ℕ, None, Option, Decides-eqb, strip_prefix_is}
use Rattle.action_report.proofs.cursor.Cursor.take.Goals as goal

pub returns-in-None : goal.returns-in-None
returns-in-None c = λ rest e.
    let none : Option (Bor (List ℕ)) = None in
    absurd (strip_prefix_is Decides-eqb c.args.self.now.rest.now c.args.bytes.now none c.in-None.ensures.cases rest e)
