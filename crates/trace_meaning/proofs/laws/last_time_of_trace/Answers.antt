use Rattle.trace_meaning.proofs.Growth.{last_at, no_later}
use Rattle.trace_meaning.proofs.laws.last_time_of_trace.Goals as goal

pub returns : goal.returns
returns c = record { at_the_end = last_at; none_later = no_later }
