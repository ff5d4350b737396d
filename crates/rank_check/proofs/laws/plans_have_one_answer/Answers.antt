use Rattle.rank_check.proofs.AnswerLemmas.{answered, accepted_stays, one_reason}
use Rattle.rank_check.proofs.laws.plans_have_one_answer.Goals as goal

pub returns-clause-answered : goal.returns-clause-answered
returns-clause-answered c plans none = answered plans none

pub returns-clause-accepted : goal.returns-clause-accepted
returns-clause-accepted c = accepted_stays

pub returns-clause-one : goal.returns-clause-one
returns-clause-one c = one_reason
