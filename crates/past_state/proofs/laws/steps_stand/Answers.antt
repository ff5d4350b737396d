use Rattle.past_state.proofs.PastLemmas.{run_stands, commit_stands}
use Rattle.past_state.proofs.laws.steps_stand.Goals as goal

pub returns-clause-tables : goal.returns-clause-tables
returns-clause-tables c = run_stands c.dependence.ensures.names (record {
  present = c.present_is_satisfied.ensures;
  since_answers = c.since.ensures.answers;
  since_goes_on = c.since.ensures.goes_on;
  once_answers = c.once.ensures.answers;
  once_goes_on = c.once.ensures.goes_on;
  denied = c.once.ensures.denied;
  begun_answers = c.once_begun.ensures.answers;
  begun_goes_on = c.once_begun.ensures.goes_on;
  prev_answers = c.prev.ensures.answers;
  prev_goes_on = c.prev.ensures.goes_on;
  prev_grows = c.prev_grows.ensures;
})

pub returns-clause-committed : goal.returns-clause-committed
returns-clause-committed c = commit_stands c.dependence.ensures.names (record {
  present = c.present_is_satisfied.ensures;
  since_answers = c.since.ensures.answers;
  since_goes_on = c.since.ensures.goes_on;
  once_answers = c.once.ensures.answers;
  once_goes_on = c.once.ensures.goes_on;
  denied = c.once.ensures.denied;
  begun_answers = c.once_begun.ensures.answers;
  begun_goes_on = c.once_begun.ensures.goes_on;
  prev_answers = c.prev.ensures.answers;
  prev_goes_on = c.prev.ensures.goes_on;
  prev_grows = c.prev_grows.ensures;
})
