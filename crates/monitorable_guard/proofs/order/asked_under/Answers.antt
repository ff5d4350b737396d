use Rattle.monitorable_guard.proofs.Vocabulary.{None, IfOk-weaker}
use Rattle.monitorable_guard.proofs.order.asked_under.Goals as goal

pub ordered-requires-clause-safe : goal.ordered-requires-clause-safe
ordered-requires-clause-safe c = (None, c.requires)

pub returns-clause-safe : goal.returns-clause-safe
returns-clause-safe c = IfOk-weaker c.ordered.result _ _ (λ a each. each None c.requires) c.ordered.ensures.safe
