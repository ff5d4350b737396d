use Rattle.enf_run.proofs.two_run_laws.joins.Goals as goal

pub returns : goal.returns
returns c = record {
  plans = c.policy_has_one_answer.ensures.plans;
  records = c.records_join.ensures.never_fall;
  clock = c.records_join.ensures.clock;
  rises = c.records_join.ensures.rises;
  within = c.lawful_joins.ensures.within;
  satisfying = c.good.ensures.satisfying;
  front = c.good.ensures.front;
  is_trace = c.good.ensures.is_trace;
  grows = c.trace_grows.ensures.trace;
  new = c.trace_grows.ensures.last;
}
