use Rattle.obligations.proofs.Vocabulary.{All, take, plan_of, IgnoresIn}
use Rattle.obligations.proofs.moved_plans.ignores_all.Given as goal

abbrev pub invariant-loop-name : goal.invariant-loop-name
invariant-loop-name l = All (λ name. IgnoresIn name (plan_of l.node)) (take l.name-index l.names)
