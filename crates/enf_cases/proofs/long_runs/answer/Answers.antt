use Rattle.enf_data.specs.meaning.Valuations.{no_values}
use Rattle.enf_cases.proofs.RunningLemmas.{copy_binds, nothing_bound, one_copy}
use Rattle.enf_cases.proofs.long_runs.answer.Goals as goal

pub count-requires-clause-later : goal.count-requires-clause-later
count-requires-clause-later c = λ time. c.in_ok-state.ensures.stands.up_to time tt

pub count-requires-clause-one : goal.count-requires-clause-one
count-requires-clause-one c = one_copy c.in_ok-guard.guard c.in_ok-state.state.guards c.in_ok-state.ensures.of

pub count-requires-clause-binds : goal.count-requires-clause-binds
count-requires-clause-binds c = copy_binds c.in_ok-guard.guard c.in_ok-state.state.guards no_values c.in_ok-state.ensures.of (nothing_bound c.in_ok-guard.guard no_values c.in_ok-guard.ensures.bound)
