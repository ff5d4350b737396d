use Rattle.past_state.proofs.Vocabulary.{◌∙◌, [], refl, ⊎_elim, tree_of, IsFree}
use Rattle.past_state.proofs.FirstMemoryLemmas.{distinct, asks, for_since, fresh_fewer}
use Rattle.past_state.proofs.first_memories.since_memory.Goals as goal

pub new-window-requires : goal.new-window-requires
new-window-requires c = distinct c.in_ok-columns.columns c.in_ok-columns.ensures.rising

pub left_of-requires-clause-fresh : goal.left_of-requires-clause-fresh
left_of-requires-clause-fresh c =
    fresh_fewer (tree_of c.args.left.now) (λ x. IsFree x (tree_of c.args.right.now)) _
    (λ x either. ⊎_elim (λ there. (c.in_ok-columns.ensures.exact x).0 there) (λ free. c.requires.within x free) either) c.requires.fresh_left

pub returns : goal.returns
returns c = λ place. for_since place c.args.interval (tree_of c.args.left.now) (tree_of c.args.right.now) c.new-window.result c.in_ok-left.left c.args.left_tables c.in_ok-right.right
    c.in_ok-columns.columns c.new-window.ensures.interval c.new-window.ensures.columns c.in_ok-columns.ensures
    (asks (tree_of c.args.right.now) [] c.in_ok-right.right (tree_of c.args.right.now) c.in_ok-right.ensures.formula refl (c.in_ok-right.ensures.bound ∙ c.new.ensures) c.requires.fresh_right)
    c.in_ok-left.ensures
    c.requires.counted c.requires.within
