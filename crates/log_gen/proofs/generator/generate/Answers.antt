-- One line more, and what was appended of it before memory ran out.
use Rattle.std.proofs.Common.{ap, ◌∙◌, arith}
use Rattle.std.specs.Prelude.{Ok}
use Rattle.enf_data.proofs.ListFacts.{on_err_from}
use Rattle.log_gen.proofs.GeneratedTexts.{append_more, part_of_text}
use Rattle.log_gen.proofs.generator.generate.Goals as goal

pub returns-in_err-append_line-clause-err : goal.returns-in_err-append_line-clause-err
returns-in_err-append_line-clause-err c =
    let before = c.loop-log.invariant in
    let left = c.in_err-append_line.ensures.left in
    on_err_from _ (part_of_text c.args.start c.loop-log.log.start c.loop-log.log.made c.args.steps c.args.out.now.items c.loop-log.out.items c.append_line.new.out.items
    before.start (omega (arith, left, before.steps)) before.appended c.in_err-append_line.ensures.part)

pub loop-log-preserved : goal.loop-log-preserved
loop-log-preserved c =
    let more = c.in_ok-append_line.was ∙ ap Ok c.if-branch.true in
    let made = c.append_line.ensures.made more in
    let line = c.append_line.ensures.line more in
    let before = c.loop-log.invariant in
    record {
      start = ap (λ p. p.start) made ∙ before.start;
      steps = ap (λ p. p.steps) made ∙ before.steps;
      within = omega (arith, ap (λ p. p.made) made, c.append_line.ensures.more more, before.steps);
      appended = append_more c.args.start c.loop-log.log.start c.loop-log.log.made c.append_line.new.self.made c.args.out.now.items c.loop-log.out.items c.append_line.new.out.items
          before.start (ap (λ p. p.made) made) before.appended line;
    }
