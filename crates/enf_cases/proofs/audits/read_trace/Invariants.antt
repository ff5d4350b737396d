use Rattle.std.proofs.Common.{◌≤◌, length}
use Rattle.trace_meaning.specs.meaning.Traces.{last_time}
use Rattle.enf_cases.proofs.audits.read_trace.Given as goal

abbrev pub invariant-loop : goal.invariant-loop
invariant-loop l = (last_time l.trace ≤ l.last) × (l.last ≤ 2000000000000000) × (length l.trace ≤ 1000)
