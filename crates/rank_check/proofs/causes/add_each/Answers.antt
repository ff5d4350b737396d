use Rattle.rank_check.proofs.Vocabulary.{[], subst, List, take_all, NameId, AddsEdges, none_in_nil}
use Rattle.rank_check.proofs.MatrixLemmas.{nothing, one_more, Each}
use Rattle.rank_check.proofs.causes.add_each.Goals as goal

pub loop-from-init : goal.loop-from-init
loop-from-init c = nothing (Each [] c.args.to) c.args.edges.now (λ a b below also each. none_in_nil a each.0)

pub loop-from-preserved : goal.loop-from-preserved
loop-from-preserved c = one_more c.args.met.now c.loop-from.from-index _ c.args.to c.args.edges.now _ c.add.new.self c.loop-from-test.true c.loop-from.invariant c.add.ensures

pub returns : goal.returns
returns c =
    subst (λ (l : List NameId). AddsEdges (Each l c.args.to) c.args.edges.now c.loop-from.edges) (take_all c.loop-from.from-index c.args.met.now c.loop-from-test.false) c.loop-from.invariant
