use Rattle.trace_meaning.proofs.LawfulChange.{order_of_any, within_joins, lawful_joins}
use Rattle.trace_meaning.proofs.laws.lawful_joins.Goals as goal

pub returns : goal.returns
returns c = record { order = order_of_any; within = within_joins; lawful = lawful_joins }
