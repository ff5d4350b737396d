use Rattle.std.proofs.Common.{ℕ, ◌≤◌, ◌<◌, length}
use Rattle.enf_data.specs.meaning.Valuations.{no_values}
use Rattle.past_state.specs.machine.Past.{BindsBound}
use Rattle.past_state.specs.machine.OperatorRuns.{AreUpToTimeOf}
use Rattle.enf_cases.proofs.long_runs.count.Given as goal

abbrev pub invariant-loop-step : goal.invariant-loop-step
invariant-loop-step l = ((time : ℕ) → l.step ≤ time → AreUpToTimeOf time l.state.operators) × (0 < length l.state.guards) × BindsBound l.state.guards 0 no_values × (l.held ≤ l.step)
