use Rattle.enf_run.proofs.Vocabulary.{List, ◌+◌, ◌*◌, ◌^◌, ◌∙◌, ap, length, subst, acted_steps, TallyAtMost, tally_with}
use Rattle.enforcer_core.specs.declared.steps.OutStep.{OutStep}
use Rattle.enf_run.proofs.drills.Drill.take.Goals as goal

pub returns-in-Ok : goal.returns-in-Ok
returns-in-Ok c =
    let t = c.args.self.now.tally in
    record {
      made = c.in-Ok.out;
      takes = c.in-Ok.ensures.takes;
      tally = c.count.ensures.counted ∙ ap (λ (steps : List OutStep). tally_with t (acted_steps steps)) c.as_slice.ensures;
      few = λ most h. subst (λ (steps : List OutStep). TallyAtMost (most + length steps * 2 ^ 63) c.count.new.self) c.as_slice.ensures (c.count.ensures.few most h);
    }
