use Rattle.std.proofs.Common.{◌+◌, ◌≤◌}
use Rattle.enf_cases.specs.machine.EnforcerProgress.{IsStandingEnforcer}
use Rattle.enf_cases.specs.declared.enforcing.TheConstants.{MOST_TIME}
use Rattle.enf_cases.proofs.enforcing.take_records.Given as goal

abbrev pub invariant-loop-taken : goal.invariant-loop-taken
invariant-loop-taken l =
    (l.enforcer.position ≤ l.taken + l.enforcer.clock) × (l.enforcer.clock ≤ MOST_TIME) × IsStandingEnforcer l.enforcer
