use Rattle.enf_run.proofs.Vocabulary.{MOST_FILE_BYTES, err_from_is_err_and}
use Rattle.enf_run.proofs.FileLemmas.{not_drawn}
use Rattle.enf_run.proofs.files.draw_seed.Goals as goal

pub returns-in_err-draw-clause-not_read : goal.returns-in_err-draw-clause-not_read
returns-in_err-draw-clause-not_read g c =
    let p = err_from_is_err_and c.from_residual.result c.from_residual.ensures.1 in
    rw (p.1, p.2) (not_drawn MOST_FILE_BYTES c.args.name.now c.in_err-draw.field-0.0 _ _ c.in_err-draw.ensures)
