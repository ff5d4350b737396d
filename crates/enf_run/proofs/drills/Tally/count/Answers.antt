use Rattle.enf_run.proofs.Vocabulary.{◌∷◌, [], ◌+◌, ◌*◌, ◌^◌, ap, arith, sym, ◌∙◌, take, acted_step, acted_steps, tally_with}
use Rattle.enf_run.proofs.DrillLemmas.{and_more, and_none, at_most_more}
use Rattle.enf_run.proofs.LineLemmas.{taken_next}
use Rattle.enf_run.proofs.drills.Tally.count.Goals as goal

pub loop-step-init : goal.loop-step-init
loop-step-init c =
    let t = c.args.self.now in
    record { counted = sym (and_none t); few = λ most h. at_most_more t most (most + 0 * 2 ^ 63) (omega arith) h }

pub loop-step-preserved : goal.loop-step-preserved
loop-step-preserved c =
    let t = c.args.self.now in
    let steps = c.args.out.now in
    let i = c.loop-step.step-index in
    let step = acted_step c.step-item.result in
    record {
      counted = c.count_step.ensures.counted ∙ ap (λ u. tally_with u (step ∷ [])) c.loop-step.invariant.counted ∙ and_more t (acted_steps (take i steps)) (step ∷ [])
          ∙ ap (tally_with t) (sym (taken_next steps i c.step-item.result c.loop-step-test.true c.step-item.is));
      few = λ most h. at_most_more c.count_step.new.self (most + i * 2 ^ 63 + 2 ^ 63) (most + (i + 1) * 2 ^ 63)
          (omega arith) (c.count_step.ensures.few (most + i * 2 ^ 63) (c.loop-step.invariant.few most h));
    }
