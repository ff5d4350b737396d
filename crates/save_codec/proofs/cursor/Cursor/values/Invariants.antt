use Rattle.save_codec.proofs.Vocabulary.{◌≡◌, ◌++◌, length, AllByRecursion, IsValue, values_text}
use Rattle.save_codec.proofs.ValueLists.{AreLeft}
use Rattle.save_codec.proofs.cursor.Cursor.values.Given as goal

abbrev pub invariant-loop-alloc : goal.invariant-loop-alloc
invariant-loop-alloc l = record {
  are_values : AllByRecursion IsValue l.row;
  read : l.fn.self.rest.now ≡ values_text l.row ++ l.self.rest.now;
  left : AreLeft l.fn.self.rest.now l.row l.self.rest.now;
}

abbrev pub decreases-loop-alloc : goal.decreases-loop-alloc
decreases-loop-alloc l = length l.self.rest.now
