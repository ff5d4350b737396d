use Rattle.enf_run.proofs.Vocabulary.{[], ap, arith, codes, length, length-append, refl}
use Rattle.enf_run.proofs.worked_cases.fronts.Goals as goal

pub returns-clause-all : goal.returns-clause-all
returns-clause-all c = record { split = refl; of_last = codes "cd"; begins = refl }

pub returns-clause-within_the_last : goal.returns-clause-within_the_last
returns-clause-within_the_last c = record { split = refl; of_last = codes "c"; begins = refl }

pub returns-clause-without_the_last : goal.returns-clause-without_the_last
returns-clause-without_the_last c = record { split = refl; of_last = []; begins = refl }

pub returns-clause-not_within_another : goal.returns-clause-not_within_another
returns-clause-not_within_another c h = omega (arith, ap length h.begins, length-append (codes "ab") h.of_last)

pub returns-clause-nothing_of_one : goal.returns-clause-nothing_of_one
returns-clause-nothing_of_one c = record { split = refl; of_last = []; begins = refl }
