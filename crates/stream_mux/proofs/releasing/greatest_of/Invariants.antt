use Rattle.std.proofs.Common.{◌≡◌, max, take}
use Rattle.stream_mux.specs.meaning.MergedStreams.{greatest_time}
use Rattle.stream_mux.proofs.releasing.greatest_of.Given as goal

abbrev pub invariant-loop-item : goal.invariant-loop-item
invariant-loop-item l = l.greatest ≡ max l.fn.greatest (greatest_time (take l.item-index l.items))
