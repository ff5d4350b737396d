use Rattle.std.proofs.Common.{codes}
use Rattle.enf_run.proofs.CalmRunLemmas.{alone_names, alone_resumes_none}
use Rattle.enf_cli.proofs.tests.calm.ran.Goals as goal

pub run_calmly-status-requires-clause-words : goal.run_calmly-status-requires-clause-words
run_calmly-status-requires-clause-words c = alone_names _ (codes "sig") (codes "pol") c.requires

pub run_calmly-status-requires-clause-state : goal.run_calmly-status-requires-clause-state
run_calmly-status-requires-clause-state c = λ file resumes. absurd (alone_resumes_none _ (codes "sig") (codes "pol") file c.requires resumes)
