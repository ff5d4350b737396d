use Rattle.enf_run.proofs.Vocabulary.{◌∙◌, ap, Err, err_from_is_err_and, written_before, cut_after, write_faults_behind}
use Rattle.enf_run.proofs.ReportLemmas.{cut_counts, pieces_part}
use Rattle.enf_run.proofs.report_lines.write_pieces.Goals as goal

pub returns-in_err-write_all : goal.returns-in_err-write_all
returns-in_err-write_all g c =
    let p = err_from_is_err_and c.from_residual.result c.from_residual.ensures.1 in
    let why = c.in_err-write_all.field-0.0 in
    let w = c.in_err-write_all.ensures in
    rw (p.1, p.2) (record {
      adds = pieces_part (λ piece. piece.now) c.args.pieces.now c.loop-piece.piece-index (written_before why) _ _ _ _ c.loop-piece-test.true w.not_whole c.loop-piece.invariant.gave w.part;
      writes = w.writes ∙ cut_counts (Unit {0}) (Unit {0}) why _ ∙ ap (write_faults_behind {T = Unit {0}} (Err (cut_after why))) c.loop-piece.invariant.writes;
      reads = w.reads ∙ c.loop-piece.invariant.reads;
      late = w.late ∙ c.loop-piece.invariant.late;
    })
