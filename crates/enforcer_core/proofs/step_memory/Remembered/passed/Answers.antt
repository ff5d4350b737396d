use Rattle.enforcer_core.proofs.Vocabulary.{ℕ, ◌<◌, ◌≤◌, Option, subst, arith, IsPassed}
use Rattle.enforcer_core.proofs.step_memory.Remembered.passed.Goals as goal

pub returns-in-Some : goal.returns-in-Some
returns-in-Some c deadline there passed =
    let before : deadline < c.in-Some.time = subst (λ (until : Option ℕ). IsPassed until deadline) c.in-Some.is passed in
    let le : c.in_ok-least.least ≤ deadline = c.in_ok-least.ensures.1 deadline there in
    let not_passed = c.if-time-least.true in
    absurd (omega (arith, before, le, not_passed))
