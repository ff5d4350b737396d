use Rattle.monitorable_guard.proofs.Vocabulary.{drop}
use Rattle.monitorable_guard.proofs.AnswerLemmas.{given_some}
use Rattle.monitorable_guard.proofs.past_tables.Past.has_some.Goals as goal

pub returns : goal.returns
returns g c = given_some (g.V.Lookup.valuation c.args.v.now) (drop c.args.operator (g.Self.Past.tables c.args.self.now)) c.in_ok-rows.rows c.in_ok-rows.ensures.table
    c.in_ok-rows.ensures.rows c.is_empty.result c.is_empty.ensures.empty
