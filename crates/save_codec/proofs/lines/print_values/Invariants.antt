use Rattle.save_codec.proofs.Vocabulary.{◌≡◌, ◌++◌, All, take, IsValue, values_text}
use Rattle.save_codec.proofs.lines.print_values.Given as goal

abbrev pub invariant-loop-value : goal.invariant-loop-value
invariant-loop-value l = record {
  text : l.out.items ≡ l.fn.out.items ++ values_text (take l.value-index l.values);
  values : All IsValue (take l.value-index l.values);
}
