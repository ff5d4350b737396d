use Rattle.std.proofs.Common.{◌≡◌, length}
use Rattle.enf_cases.proofs.window_runs.answer_steps.Given as goal

abbrev pub invariant-loop-bytes : goal.invariant-loop-bytes
invariant-loop-bytes l = (l.window.columns ≡ l.form.columns) × (l.window.interval ≡ l.form.interval) × (l.window.last ≡ l.last)

abbrev pub decreases-loop-bytes : goal.decreases-loop-bytes
decreases-loop-bytes l = length l.rest
