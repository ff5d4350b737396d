use Rattle.enf_run.proofs.Vocabulary.{◌≡◌, take, flat_map, Gave}
use Rattle.enf_run.proofs.report_lines.write_pieces.Given as goal

abbrev pub invariant-loop-piece : goal.invariant-loop-piece
invariant-loop-piece g l =
    let seen = g.R.Sink.seen in
    record {
      gave : Gave (flat_map (λ piece. piece.now) (take l.piece-index l.pieces)) (seen l.fn.report).told (seen l.report).told;
      writes : (seen l.report).write_faults ≡ (seen l.fn.report).write_faults;
      reads : (seen l.report).read_faults ≡ (seen l.fn.report).read_faults;
      late : (seen l.report).late_reads ≡ (seen l.fn.report).late_reads;
    }
