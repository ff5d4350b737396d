-- An enforcer that goes on still stands for a trace.
use Rattle.std.proofs.Common.{ℕ, List, ◌++◌, subst, sym}
use Rattle.enforce_types.specs.machine.TypedPolicies.{StoredTyped, WorkTogether, typed_of}
use Rattle.choice_step.specs.meaning.ActedSteps.{ActedStep}
use Rattle.choice_step.specs.meaning.Follows.{steps_of}
use Rattle.enforcer_core.specs.machine.Answers.{EnforcerGoesOn}
use Rattle.enforcer_core.specs.machine.Enforcers.{Enforcing}
use Rattle.enforcer_core.specs.machine.Stands.{KeepsStanding}
use Rattle.enf_cases.specs.machine.EnforcerProgress.{StaysStanding}

pub stays_standing : (before after : Enforcing) (clock steps : ℕ) (out : List ActedStep) → EnforcerGoesOn before clock steps after
    → KeepsStanding before after out → StaysStanding before after
stays_standing before after clock steps out goes keeps s = record {
  goes_on = goes.goes_on;
  together = subst (λ (policy : StoredTyped). WorkTogether (typed_of policy)) (sym goes.policy) s.together;
  trace = s.trace ++ steps_of out;
  stands = keeps s.trace s.stands;
}
