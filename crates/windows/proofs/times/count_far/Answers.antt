use Rattle.windows.proofs.Vocabulary.{◌-◌, arith, get_or, leb, rules}
use Rattle.std.proofs.lemmas.Bool.{leb-false, leb-true}
use Rattle.std.proofs.lemmas.List.Sorted.{IsPartitionPoint-from_clause}
use Rattle.windows.proofs.TimeLemmas.{far_first}
use Rattle.windows.proofs.times.count_far.Goals as goal

pub returns-clause-far : goal.returns-clause-far
returns-clause-far c = λ place d below. leb-true c.args.low (c.args.now - get_or c.args.times.now.items place d)
    ((IsPartitionPoint-from_clause (λ y. leb c.args.low (c.args.now - y)) c.args.times.now.items c.partition_point.result c.partition_point.ensures.partitioned
    (far_first c.args.times.now.items c.args.low c.args.now c.requires) (λ a r q k. search rules)).0 place d (omega arith) below)

pub returns-clause-near : goal.returns-clause-near
returns-clause-near c = λ place d past within. leb-false c.args.low (c.args.now - get_or c.args.times.now.items place d)
    ((IsPartitionPoint-from_clause (λ y. leb c.args.low (c.args.now - y)) c.args.times.now.items c.partition_point.result c.partition_point.ensures.partitioned
    (far_first c.args.times.now.items c.args.low c.args.now c.requires) (λ a r q k. search rules)).1 place d past within)
