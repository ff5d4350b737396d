use Rattle.obligations.proofs.moved_plans.suppresses_own.Goals as goal

pub returns-then-answers_own : goal.returns-then-answers_own
returns-then-answers_own c = λ yes. (c.in-Some.terms.now, c.answers_own.ensures c.if-answers_own.true, c.suppresses_with.ensures yes)
