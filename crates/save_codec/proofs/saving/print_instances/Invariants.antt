use Rattle.save_codec.proofs.Vocabulary.{◌≡◌, ◌++◌, All, map, take, lines_text, due_line, IsStoredInstance}
use Rattle.save_codec.proofs.saving.print_instances.Given as goal

abbrev pub invariant-loop-instance : goal.invariant-loop-instance
invariant-loop-instance l = record {
  text : l.out.items ≡ l.fn.out.items ++ lines_text (map due_line (take l.instance-index l.instances));
  instances : All IsStoredInstance (take l.instance-index l.instances);
}
