use Rattle.past_state.proofs.Vocabulary.{All, sym, subst, All-push, HasItsColumns}
use Rattle.past_state.proofs.shapes.push_shape.Goals as goal

pub returns-clause-columns : goal.returns-clause-columns
returns-clause-columns c = λ fits each. subst (All HasItsColumns) (sym c.in_ok-push.ensures.items) (All-push HasItsColumns c.args.out.now.items _ each (fits _ c.in_ok-columns.ensures))
