use Rattle.std.proofs.Common.{codes, refl}
use Rattle.enf_run.proofs.CalmRunLemmas.{no_read_fault, no_write_fault}
use Rattle.enf_cli.proofs.tests.calm.run_calmly.Goals as goal

pub returns : goal.returns
returns c =
    record {
      no_read_fault = λ is. no_read_fault _ c.args.files.now refl (codes "sig") (codes "pol") c.requires.words
          c.requires.signature c.requires.policy c.requires.state refl refl (rw is at c.run.ensures.outcome);
      no_write_fault = λ is. no_write_fault _ c.args.files.now refl c.run.new.files refl refl refl refl refl (rw is at c.run.ensures.outcome);
    }
