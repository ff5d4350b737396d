use Rattle.enf_run.proofs.TwoRunLemmas.{kept_behind_saved, saved_behind_saved, saved_is_asked}
use Rattle.enf_run.proofs.two_run_laws.headlines_join.Goals as goal

pub returns-clause-asked : goal.returns-clause-asked
returns-clause-asked c = saved_is_asked

pub returns-clause-kept : goal.returns-clause-kept
returns-clause-kept c = kept_behind_saved c.joins.ensures

pub returns-clause-saved : goal.returns-clause-saved
returns-clause-saved c = saved_behind_saved c.joins.ensures
