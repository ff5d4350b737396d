use Rattle.enf_data.specs.meaning.Valuations.{no_values}
use Rattle.enf_cases.proofs.RunningLemmas.{nothing_bound}
use Rattle.enf_cases.proofs.past.answer.Goals as goal

pub answer_log-requires-clause-asked : goal.answer_log-requires-clause-asked
answer_log-requires-clause-asked c = nothing_bound c.in_ok-guard.guard no_values c.in_ok-guard.ensures.bound
