use Rattle.trace_meaning.proofs.Growth.{trace_grows, last_is_the_new}
use Rattle.trace_meaning.proofs.laws.trace_grows.Goals as goal

pub returns : goal.returns
returns c = record { trace = trace_grows; last = last_is_the_new }
