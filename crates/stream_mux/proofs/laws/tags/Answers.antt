use Rattle.stream_mux.proofs.BadTags.{no_colon_is_bad, no_number_is_bad, no_semicolon_is_bad}
use Rattle.stream_mux.proofs.TaggedRecords.{ends_stand_behind_tags, records_stand_behind_tags}
use Rattle.stream_mux.proofs.laws.tags.Goals as goal

pub returns : goal.returns
returns c = record {
  records = records_stand_behind_tags;
  ends = ends_stand_behind_tags;
  no_number = no_number_is_bad;
  no_colon = no_colon_is_bad;
  no_semicolon = no_semicolon_is_bad;
}
