use Rattle.past_state.proofs.Vocabulary.{◌∙◌, ap, tree_of}
use Rattle.past_state.proofs.first_memories.guard_alone.Goals as goal

pub returns-in-Ok : goal.returns-in-Ok
returns-in-Ok c = record {
  formula_is = ap tree_of c.in-Ok.ensures.ok.0 ∙ c.in_ok-duplicate.ensures;
  bound_is = c.in-Ok.ensures.ok.1 ∙ c.new.ensures;
}
