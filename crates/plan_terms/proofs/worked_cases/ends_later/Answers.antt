use Rattle.plan_terms.proofs.Vocabulary.{arith}
use Rattle.plan_terms.proofs.worked_cases.ends_later.Goals as goal

pub returns-clause-at_1 : goal.returns-clause-at_1
returns-clause-at_1 c = omega arith

pub returns-clause-eventually : goal.returns-clause-eventually
returns-clause-eventually c = λ later. omega (arith, later)

pub returns-clause-always : goal.returns-clause-always
returns-clause-always c = λ later. omega (arith, later)

pub returns-clause-until : goal.returns-clause-until
returns-clause-until c = λ later. omega (arith, later)

pub returns-clause-next : goal.returns-clause-next
returns-clause-next c = λ later. omega (arith, later)

pub returns-clause-all : goal.returns-clause-all
returns-clause-all c = (tt, (omega arith, (tt, (tt, (omega arith, (tt, (tt, (tt, (tt, (tt, (tt, tt)))))))))))

pub returns-clause-one_ends_at_once : goal.returns-clause-one_ends_at_once
returns-clause-one_ends_at_once c = λ all. omega (arith, all.1.1.1.1.0)
