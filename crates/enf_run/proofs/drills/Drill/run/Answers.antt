use Rattle.enf_run.proofs.Vocabulary.{◌≡◌, ℕ, ap, arith, refl, subst, suc, sym, ◌∙◌, Step, generated_step, early, SampleDrillFinds, FinishesDrill}
use Rattle.enf_run.proofs.DrillLemmas.{Runs, all_made, ok_weaker, runs_end, runs_more, runs_none}
use Rattle.enf_run.proofs.drills.Drill.run.Goals as goal

pub loop-step-init : goal.loop-step-init
loop-step-init c =
    let drill = c.args.self.now in
    let start = c.args.log.now.start in
    record {
      start = refl;
      steps = refl;
      within = omega (arith, c.requires.begins);
      runs = subst (λ (n : ℕ). Runs start drill.enforcer n drill) (sym c.requires.begins) (runs_none c.enforcer_laws.ensures start drill c.requires.new);
    }

pub take-requires-clause-time : goal.take-requires-clause-time
take-requires-clause-time c =
    let makes = rw c.in-Some.is at c.in_ok-step.ensures.answer in
    let soon = early c.loop-step.log.start (suc c.loop-step.log.made) in
    omega (arith, ap (λ (s : Step). s.time) makes.step_is, soon, makes.more, c.loop-step.invariant.steps, c.requires.steps)

pub loop-step-preserved : goal.loop-step-preserved
loop-step-preserved c =
    let drill = c.args.self.now in
    let start = c.args.log.now.start in
    let h = c.loop-step.invariant in
    let makes = rw c.in-Some.is at c.in_ok-step.ensures.answer in
    let made = ap (λ p. p.made) makes.after_is in
    let step_is = subst (λ (n : ℕ). c.in-Some.step ≡ generated_step n c.loop-step.log.made) h.start makes.step_is in
    record {
      start = ap (λ p. p.start) makes.after_is ∙ h.start;
      steps = ap (λ p. p.steps) makes.after_is ∙ h.steps;
      within = omega (arith, made, makes.more, h.steps);
      runs = subst (λ (n : ℕ). Runs start drill.enforcer n c.take.new.self) (sym made)
          (runs_more c.enforcer_laws.ensures start drill c.requires.new c.loop-step.log.made c.loop-step.self c.take.new.self c.in-Some.step step_is h.runs c.in_ok-take.ensures);
    }

pub returns : goal.returns
returns c =
    let drill = c.args.self.now in
    let start = c.args.log.now.start in
    let steps = c.args.log.now.steps in
    let h = c.loop-step.invariant in
    let all = all_made c.loop-step.log c.next_step.new.self c.in_ok-step.field-0 c.in_ok-step.ensures.answer c.in_default.not-Some ∙ h.steps in
    let runs = subst (λ (n : ℕ). Runs start drill.enforcer n c.loop-step.self) all h.runs in
    ok_weaker (FinishesDrill c.loop-step.self) (SampleDrillFinds start steps) c.finish.result
    (λ found f. runs_end c.enforcer_laws.ensures start drill c.requires.new steps c.loop-step.self found runs f)
    c.finish.ensures
