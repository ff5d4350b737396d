use Rattle.pending.proofs.WakePatternLemmas.{early_miss_nothing, early_stay, miss_nothing, stay}
use Rattle.pending.proofs.laws.sleepers_stay.Goals as goal

pub returns-clause-misses_nothing : goal.returns-clause-misses_nothing
returns-clause-misses_nothing c = miss_nothing

pub returns-clause-stays : goal.returns-clause-stays
returns-clause-stays c = stay c.dependence.ensures.steps c.nodes_have_scopes.ensures.found c.last_time_of_trace.ensures.at_the_end

pub returns-clause-early_misses_nothing : goal.returns-clause-early_misses_nothing
returns-clause-early_misses_nothing c = early_miss_nothing

pub returns-clause-early_stays : goal.returns-clause-early_stays
returns-clause-early_stays c = early_stay
