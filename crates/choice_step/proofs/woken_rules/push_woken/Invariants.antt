use Rattle.choice_step.proofs.Vocabulary.{◌≡◌, ◌++◌, map, take, woken_by}
use Rattle.choice_step.proofs.woken_rules.push_woken.Given as goal

abbrev pub invariant-loop-name : goal.invariant-loop-name
invariant-loop-name l = l.out.items ≡ l.fn.out.items ++ map (woken_by l.rule) (take l.name-index l.names)
