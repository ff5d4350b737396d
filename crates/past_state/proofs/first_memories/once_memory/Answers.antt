use Rattle.past_state.proofs.Vocabulary.{tree_of}
use Rattle.past_state.proofs.FirstMemoryLemmas.{distinct, for_once}
use Rattle.past_state.proofs.first_memories.once_memory.Goals as goal

pub new-window-requires : goal.new-window-requires
new-window-requires c = distinct c.in_ok-columns.columns c.in_ok-columns.ensures.rising

pub returns : goal.returns
returns c = λ place. for_once place c.args.interval (tree_of c.args.operand.now) c.new-window.result c.in_ok-right.right c.in_ok-columns.columns c.new-window.ensures.interval
    c.new-window.ensures.columns c.in_ok-columns.ensures c.in_ok-right.ensures
