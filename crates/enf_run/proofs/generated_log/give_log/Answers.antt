use Rattle.enf_run.proofs.Vocabulary.{◌<◌, ◌≤◌, ◌∙◌, ap, arith, inl, err_from_is_err_and}
use Rattle.std.specs.Prelude.{Ok}
use Rattle.enf_run.proofs.GeneratedLogLemmas.{gathered_cut, gathered_given, gathered_line, gathered_short, gathered_whole}
use Rattle.enf_run.proofs.generated_log.give_log.Goals as goal

pub returns-in_err-append_line-clause-cut : goal.returns-in_err-append_line-clause-cut
returns-in_err-append_line-clause-cut g c =
    let p = err_from_is_err_and c.from_residual-in_err-append_line.result c.from_residual-in_err-append_line.ensures.1 in
    let h = c.loop-piece.invariant in
    let less : c.loop-piece.log.made < c.args.steps = omega (arith, c.in_err-append_line.ensures.left, h.steps) in
    rw (p.1, p.2) (inl (gathered_short c.args.start c.loop-piece.log.made c.loop-piece.piece.items _ _ h.gathered c.args.steps less))

pub returns-in_err-write_all-clause-cut : goal.returns-in_err-write_all-clause-cut
returns-in_err-write_all-clause-cut g c =
    let p = err_from_is_err_and c.from_residual-in_err-write_all.result c.from_residual-in_err-write_all.ensures.1 in
    let h = c.loop-piece.invariant in
    let more = c.in_ok-append_line.was ∙ ap Ok c.if-branch.true in
    let made = ap (λ p. p.made) (c.append_line.ensures.made more) in
    let within : c.append_line.new.self.made ≤ c.args.steps = omega (arith, made, c.append_line.ensures.more more, h.steps) in
    let now = gathered_line c.args.start c.loop-piece.log.made c.loop-piece.piece.items _ _ h.gathered
    c.loop-piece.log.start c.append_line.new.self.made c.append_line.new.out.items h.start made
    (c.append_line.ensures.line more) in
    let w = c.in_err-write_all.ensures in
    rw (p.1, p.2) (gathered_cut c.args.start c.append_line.new.self.made c.append_line.new.out.items _ _ now
    c.args.steps within c.in_err-write_all.field-0.0 c.deref.result.now _ c.deref.ensures.value w.not_whole
    w.part)

pub loop-piece-preserved-then-len-ge-PIECE_BYTES : goal.loop-piece-preserved-then-len-ge-PIECE_BYTES
loop-piece-preserved-then-len-ge-PIECE_BYTES g c =
    let h = c.loop-piece.invariant in
    let more = c.in_ok-append_line.was ∙ ap Ok c.if-branch.true in
    let next = c.append_line.ensures.made more in
    let made = ap (λ p. p.made) next in
    let now = gathered_line c.args.start c.loop-piece.log.made c.loop-piece.piece.items _ _ h.gathered
    c.loop-piece.log.start c.append_line.new.self.made c.append_line.new.out.items h.start made
    (c.append_line.ensures.line more) in
    let w = c.in_ok-write_all.ensures in
    record {
      start = ap (λ p. p.start) next ∙ h.start;
      steps = ap (λ p. p.steps) next ∙ h.steps;
      within = omega (arith, made, c.append_line.ensures.more more, h.steps);
      gathered = gathered_given c.args.start c.append_line.new.self.made c.append_line.new.out.items _ _ now
          c.deref.result.now c.deref.ensures.value _ w.whole c.clear.new.self.items c.clear.ensures.items;
      writes = w.writes ∙ h.writes;
      reads = w.reads ∙ h.reads;
      late = w.late ∙ h.late;
    }

pub loop-piece-preserved : goal.loop-piece-preserved
loop-piece-preserved g c =
    let h = c.loop-piece.invariant in
    let more = c.in_ok-append_line.was ∙ ap Ok c.if-branch.true in
    let next = c.append_line.ensures.made more in
    let made = ap (λ p. p.made) next in
    record {
      start = ap (λ p. p.start) next ∙ h.start;
      steps = ap (λ p. p.steps) next ∙ h.steps;
      within = omega (arith, made, c.append_line.ensures.more more, h.steps);
      gathered = gathered_line c.args.start c.loop-piece.log.made c.loop-piece.piece.items _ _ h.gathered
          c.loop-piece.log.start c.append_line.new.self.made c.append_line.new.out.items h.start made
          (c.append_line.ensures.line more);
      writes = h.writes;
      reads = h.reads;
      late = h.late;
    }

pub returns-in_err-write_all-2-clause-cut : goal.returns-in_err-write_all-2-clause-cut
returns-in_err-write_all-2-clause-cut g c =
    let p = err_from_is_err_and c.from_residual-in_err-write_all-2.result c.from_residual-in_err-write_all-2.ensures.1 in
    let h = c.loop-piece.invariant in
    let none = c.in_ok-append_line.was ∙ ap Ok c.if-branch.false in
    let w = c.in_err-write_all-2.ensures in
    rw (p.1, p.2)
    (gathered_cut c.args.start c.loop-piece.log.made c.loop-piece.piece.items _ _ h.gathered c.args.steps h.within c.in_err-write_all-2.field-0.0 c.deref-2.result.now _
    (c.deref-2.ensures.value ∙ c.append_line.ensures.rest none) w.not_whole w.part)

pub returns-clause-whole : goal.returns-clause-whole
returns-clause-whole g c =
    let h = c.loop-piece.invariant in
    let none = c.in_ok-append_line.was ∙ ap Ok c.if-branch.false in
    gathered_whole c.args.start c.loop-piece.log.made c.loop-piece.piece.items _ _ h.gathered c.deref-2.result.now
    (c.deref-2.ensures.value ∙ c.append_line.ensures.rest none) _ c.in_ok-write_all-2.ensures.whole
    c.args.steps (c.append_line.ensures.done none ∙ h.steps)
