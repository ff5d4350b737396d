use Rattle.enf_run.proofs.Vocabulary.{◌≡◌, ◌-◌, ◌≤◌}
use Rattle.enf_run.proofs.GatheredPieces.{IsGathered}
use Rattle.enf_run.proofs.generated_log.give_log.Given as goal

abbrev pub invariant-loop-piece : goal.invariant-loop-piece
invariant-loop-piece g l =
    let seen = g.S.Sink.seen in
    record {
      start : l.log.start ≡ l.fn.start;
      steps : l.log.steps ≡ l.fn.steps;
      within : l.log.made ≤ l.fn.steps;
      gathered : IsGathered l.fn.start l.log.made l.piece.items (seen l.fn.sink).told (seen l.sink).told;
      writes : (seen l.sink).write_faults ≡ (seen l.fn.sink).write_faults;
      reads : (seen l.sink).read_faults ≡ (seen l.fn.sink).read_faults;
      late : (seen l.sink).late_reads ≡ (seen l.fn.sink).late_reads;
    }

abbrev pub decreases-loop-piece : goal.decreases-loop-piece
decreases-loop-piece g l = l.fn.steps - l.log.made
