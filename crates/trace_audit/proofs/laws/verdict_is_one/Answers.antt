use Rattle.trace_audit.proofs.LawLemmas.{verdict_is_one}
use Rattle.trace_audit.proofs.laws.verdict_is_one.Goals as goal

pub returns : goal.returns
returns c = verdict_is_one
