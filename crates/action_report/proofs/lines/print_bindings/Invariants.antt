use Rattle.action_report.proofs.Vocabulary.{◌≡◌, ◌++◌, take, bindings_text}
use Rattle.action_report.proofs.lines.print_bindings.Given as goal

abbrev pub invariant-loop-binding : goal.invariant-loop-binding
invariant-loop-binding l = l.out.items ≡ l.fn.out.items ++ bindings_text l.vars (take l.binding-index l.bindings)
