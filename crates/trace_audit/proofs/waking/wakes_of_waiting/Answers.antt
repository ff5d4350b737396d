use Rattle.trace_audit.proofs.WakingLemmas.{waiting_stays}
use Rattle.trace_audit.proofs.waking.wakes_of_waiting.Goals as goal

pub returns : goal.returns
returns c =
    waiting_stays c.is_classical.ensures c.plans_wait.ensures.unmet_fail c.plans_wait.ensures.unmissed_hold c.args.waiting.now
    c.in_ok-patterns_of.field-0 c.in_ok-patterns_of.ensures
