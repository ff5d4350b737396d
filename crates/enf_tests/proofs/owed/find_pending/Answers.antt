use Rattle.std.proofs.Common.{map}
use Rattle.plan_terms.specs.machine.StoredPlans.{plan_of}
use Rattle.enf_tests.proofs.owed.find_pending.Goals as goal

pub progress-requires-clause-keeps : goal.progress-requires-clause-keeps
progress-requires-clause-keeps c = c.new-pending.ensures.kept (map plan_of c.args.plans.now)
