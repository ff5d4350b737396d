use Rattle.rank_check.proofs.Vocabulary.{refl, arith, name_p, name_q, name_r, in_a_row, two_in_turn, EdgesLead, Edge, IsRank}
use Rattle.rank_check.proofs.CaseLemmas.{edge_of, no_longer, turn_of_two}
use Rattle.rank_check.proofs.ChainLemmas.{no_rank}
use Rattle.rank_check.proofs.worked_cases.ranks.Goals as goal

to_q : EdgesLead (Edge in_a_row) 1 name_p name_q
to_q = (name_p, refl, edge_of in_a_row name_p name_q (0, omega arith, refl))

to_r : EdgesLead (Edge in_a_row) 2 name_p name_r
to_r = (name_q, to_q, edge_of in_a_row name_q name_r (1, omega arith, refl))

third : IsRank (Edge in_a_row) name_r 2
third = record { reached = (name_p, to_r); longest = no_longer name_r }

pub returns-clause-first : goal.returns-clause-first
returns-clause-first c = record { reached = (name_p, refl); longest = no_longer name_p }

pub returns-clause-second : goal.returns-clause-second
returns-clause-second c = record { reached = (name_p, to_q); longest = no_longer name_q }

pub returns-clause-third : goal.returns-clause-third
returns-clause-third c = third

pub returns-clause-no_cycle : goal.returns-clause-no_cycle
returns-clause-no_cycle c cycle = no_rank (Edge in_a_row) name_r 2 third cycle

pub returns-clause-on_a_cycle : goal.returns-clause-on_a_cycle
returns-clause-on_a_cycle c is = no_rank (Edge two_in_turn) name_p 1 is turn_of_two
