use Rattle.stream_mux.proofs.MuxStands.{fresh_muxes_stand, refuses_by_history}
use Rattle.stream_mux.proofs.laws.muxes.Goals as goal

pub returns : goal.returns
returns c = record { fresh = fresh_muxes_stand; refusals = refuses_by_history }
