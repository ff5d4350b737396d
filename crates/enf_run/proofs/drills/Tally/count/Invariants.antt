use Rattle.enf_run.proofs.Vocabulary.{◌≡◌, ◌+◌, ◌*◌, ◌^◌, ℕ, take, acted_steps, TallyAtMost, tally_with}
use Rattle.enf_run.proofs.drills.Tally.count.Given as goal

abbrev pub invariant-loop-step : goal.invariant-loop-step
invariant-loop-step l = record {
  counted : l.self ≡ tally_with l.fn.self (acted_steps (take l.step-index l.out));
  few : (most : ℕ) → TallyAtMost most l.fn.self → TallyAtMost (most + l.step-index * 2 ^ 63) l.self;
}
