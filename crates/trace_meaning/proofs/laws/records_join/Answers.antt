use Rattle.trace_meaning.proofs.Records.{records_join, clock_joins, clock_rises}
use Rattle.trace_meaning.proofs.laws.records_join.Goals as goal

pub returns : goal.returns
returns c = record { never_fall = records_join; clock = clock_joins; rises = clock_rises }
