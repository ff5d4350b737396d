use Rattle.past_state.proofs.Vocabulary.{◌∙◌, tree_of}
use Rattle.past_state.proofs.FirstMemoryLemmas.{distinct, for_prev}
use Rattle.past_state.proofs.first_memories.prev_memory.Goals as goal

pub new-requires : goal.new-requires
new-requires c = distinct c.in_ok-columns.columns c.in_ok-columns.ensures.rising

pub returns : goal.returns
returns c = λ place. for_prev place c.args.interval (tree_of c.args.operand.now) c.of-slot.result c.in_ok-operand.operand c.in_ok-columns.columns (c.of-slot.ensures ∙ c.new.ensures)
    c.in_ok-columns.ensures c.in_ok-operand.ensures
