use Rattle.save_codec.proofs.Vocabulary.{◌≡◌, ◌++◌, All, map, take, IsValue, values_text}
use Rattle.save_codec.proofs.saving.print_bound.Given as goal

abbrev pub invariant-loop-binding : goal.invariant-loop-binding
invariant-loop-binding l = record {
  text : l.out.items ≡ l.fn.out.items ++ values_text (map (λ b. b.1) (take l.binding-index l.bindings));
  values : All (λ b. IsValue b.1) (take l.binding-index l.bindings);
}
