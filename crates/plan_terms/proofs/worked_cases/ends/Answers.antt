use Rattle.plan_terms.proofs.Vocabulary.{arith}
use Rattle.plan_terms.proofs.worked_cases.ends.Goals as goal

pub returns-clause-last : goal.returns-clause-last
returns-clause-last c = (omega arith, omega arith)

pub returns-clause-one_point : goal.returns-clause-one_point
returns-clause-one_point c = (omega arith, omega arith)

pub returns-clause-eventually : goal.returns-clause-eventually
returns-clause-eventually c = λ ends. omega (arith, ends.1)

pub returns-clause-always : goal.returns-clause-always
returns-clause-always c = λ ends. omega (arith, ends.1)

pub returns-clause-until : goal.returns-clause-until
returns-clause-until c = λ ends. omega (arith, ends.1)

pub returns-clause-next : goal.returns-clause-next
returns-clause-next c = λ ends. omega (arith, ends)

pub returns-clause-eventually_falls : goal.returns-clause-eventually_falls
returns-clause-eventually_falls c = λ ends. omega (arith, ends.0)

pub returns-clause-always_falls : goal.returns-clause-always_falls
returns-clause-always_falls c = λ ends. omega (arith, ends.0)

pub returns-clause-until_falls : goal.returns-clause-until_falls
returns-clause-until_falls c = λ ends. omega (arith, ends.0)
