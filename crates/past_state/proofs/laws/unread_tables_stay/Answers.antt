use Rattle.past_state.proofs.UnreadLemmas.{unread_guards_hold, unread_tables_stay}
use Rattle.past_state.proofs.laws.unread_tables_stay.Goals as goal

pub returns-clause-are : goal.returns-clause-are
returns-clause-are c = unread_tables_stay

pub returns-clause-hold : goal.returns-clause-hold
returns-clause-hold c = unread_guards_hold c.dependence.ensures.names
