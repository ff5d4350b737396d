use Rattle.enf_run.proofs.Vocabulary.{arith, err_from_is_err_and}
use Rattle.enf_run.proofs.FileLemmas.{is_long, is_not_read, is_short}
use Rattle.enf_run.proofs.files.read_file.Goals as goal

pub returns-then-len-most-clause-bytes :
    goal.returns-then-len-most-clause-bytes
returns-then-len-most-clause-bytes g c = is_long c.args.most _ c.args.name.now c.in_ok-bytes.bytes.items c.in_ok-bytes.ensures.gives (omega (arith, c.in_ok-bytes.bytes.ok.0))

pub returns-clause-bytes : goal.returns-clause-bytes
returns-clause-bytes g c = is_short c.args.most _ c.args.name.now c.in_ok-bytes.bytes.items c.in_ok-bytes.ensures.gives (omega (arith, c.in_ok-bytes.bytes.ok.0))

pub returns-in_err-bytes-clause-not_read : goal.returns-in_err-bytes-clause-not_read
returns-in_err-bytes-clause-not_read g c =
    let p = err_from_is_err_and c.from_residual.result c.from_residual.ensures.1 in
    rw (p.1, p.2) (is_not_read c.args.most c.args.name.now c.in_err-bytes.field-0.0 _ _ c.in_err-bytes.ensures)
