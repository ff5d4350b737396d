use Rattle.save_codec.proofs.Vocabulary.{length}
use Rattle.save_codec.proofs.sorts.Known.+note_columns.Given as goal

abbrev pub decreases-note_columns : goal.decreases-note_columns
decreases-note_columns l = length l.terms.now
