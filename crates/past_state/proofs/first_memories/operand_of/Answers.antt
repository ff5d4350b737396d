use Rattle.past_state.proofs.Vocabulary.{◌∙◌, [], refl, tree_of}
use Rattle.past_state.proofs.FirstMemoryLemmas.{asks}
use Rattle.past_state.proofs.first_memories.operand_of.Goals as goal

pub returns-in_ok-guard-in-None : goal.returns-in_ok-guard-in-None
returns-in_ok-guard-in-None c =
    asks (tree_of c.args.operand.now) [] c.in_ok-guard-in-None.guard (tree_of c.args.operand.now) c.in_ok-guard-in-None.ensures.formula refl (c.in_ok-guard-in-None.ensures.bound ∙ c.new.ensures) c.requires.fresh
