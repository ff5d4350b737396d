use Rattle.enf_run.proofs.Vocabulary.{rules}
use Rattle.enf_run.proofs.StartLemmas.{new_again}
use Rattle.enf_run.proofs.log_run.Enforcement.resumed.Goals as goal

pub returns-clause-new : goal.returns-clause-new
returns-clause-new c = new_again c.args.signature.now c.args.policy c.args.state _ c.in_ok-intake.ensures (search rules) c.requires.bounds c.requires.small
