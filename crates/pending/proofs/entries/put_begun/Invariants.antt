use Rattle.pending.proofs.Vocabulary.{◌≡◌, ◌++◌, length, map, plan_of, entries_from}
use Rattle.pending.proofs.entries.put_begun.Given as goal

abbrev pub invariant-loop-instance : goal.invariant-loop-instance
invariant-loop-instance l =
    (l.initial.instance-iterator.rest.items ≡ l.yielded ++ l.instance-iterator.rest.items) × (l.among ≡ length l.yielded)
    × (l.into.items ≡ l.initial.into.items ++ entries_from (map plan_of l.plans) l.time l.place l.number 0 l.yielded)
