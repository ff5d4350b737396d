use Rattle.enf_run.proofs.Vocabulary.{List, ◌∙◌, ap, acted_steps, tally_with}
use Rattle.enforcer_core.specs.declared.steps.OutStep.{OutStep}
use Rattle.enf_run.proofs.drills.Drill.finish.Goals as goal

pub returns-in-Ok : goal.returns-in-Ok
returns-in-Ok c =
    let t = c.args.self.now.tally in
    record {
      state = c.in_ok-state.state;
      saved = c.in_ok-state.ensures.saves;
      kept = c.len.ensures;
      pending = c.len-in-Ok.ensures;
      last = acted_steps c.in-Ok.out.steps;
      drained = c.in-Ok.ensures.drains.decided;
      tally = c.count.ensures.counted ∙ ap (λ (steps : List OutStep). tally_with t (acted_steps steps)) c.as_slice.ensures;
    }
