use Rattle.save_codec.proofs.Vocabulary.{length}
use Rattle.save_codec.proofs.ReadLemmas.{IsReadSoFar}
use Rattle.save_codec.proofs.texts.read_lines.Given as goal

abbrev pub invariant-loop-alloc : goal.invariant-loop-alloc
invariant-loop-alloc l = IsReadSoFar l.fn.text l.cursor.rest.now l.before l.count l.parts

abbrev pub decreases-loop-alloc : goal.decreases-loop-alloc
decreases-loop-alloc l = length l.cursor.rest.now
