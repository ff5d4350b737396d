use Rattle.slices.proofs.SlicedTraces.{slices_are_traces, slices_come_from_traces}
use Rattle.slices.proofs.laws.slices.Goals as goal

pub returns : goal.returns
returns c = record { steps = slices_come_from_traces; traces = slices_are_traces }
