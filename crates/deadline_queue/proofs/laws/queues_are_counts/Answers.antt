use Rattle.deadline_queue.proofs.QueueLaws.{count_entries, one_queue}
use Rattle.deadline_queue.proofs.laws.queues_are_counts.Goals as goal

pub returns-clause-one : goal.returns-clause-one
returns-clause-one c = one_queue

pub returns-clause-listed : goal.returns-clause-listed
returns-clause-listed c = count_entries
