use Rattle.stream_mux.proofs.MergedLists.{merges_are_ordered, one_merge}
use Rattle.stream_mux.proofs.TakenRecords.{interleavings_merge_alike, merges_keep_streams}
use Rattle.stream_mux.proofs.laws.merges.Goals as goal

pub returns : goal.returns
returns c = record {
  ordered = merges_are_ordered;
  streams = merges_keep_streams;
  one = one_merge;
  alike = interleavings_merge_alike;
}
