use Rattle.choice_step.proofs.Vocabulary.{Contains, subst, IsTrue}
use Rattle.choice_step.proofs.changing.Changing.contains.Goals as goal

pub returns : goal.returns
returns c = subst (λ l. (IsTrue c.contains.result → Contains l c.args.event.now) × (Contains l c.args.event.now → IsTrue c.contains.result)) c.present.ensures c.contains.ensures
