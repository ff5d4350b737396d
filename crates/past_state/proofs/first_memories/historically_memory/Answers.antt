use Rattle.past_state.proofs.Vocabulary.{ℕ, subst, IfOk-weaker, Once, Historically, tree_of, IsFor}
use Rattle.past_state.proofs.FirstMemoryLemmas.{for_denied}
use Rattle.past_state.proofs.first_memories.historically_memory.Goals as goal

pub returns : goal.returns
returns c = IfOk-weaker c.once_memory.result _ (λ m. (place : ℕ) → IsFor (Historically place c.args.interval (tree_of c.args.operand.now)) m)
    (λ m for place. for_denied place c.args.interval (tree_of c.args.operand.now) m (subst (λ f. IsFor (Once place c.args.interval f) m) c.in_ok-denial_of.ensures (for place))) c.once_memory.ensures
