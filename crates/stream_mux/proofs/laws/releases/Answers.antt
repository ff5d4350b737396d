use Rattle.stream_mux.proofs.ReleasedSteps.{released_go_first}
use Rattle.stream_mux.proofs.SentItems.{sent_steps_are_released}
use Rattle.stream_mux.proofs.SentOrder.{sent_never_falls}
use Rattle.stream_mux.proofs.laws.releases.Goals as goal

pub returns : goal.returns
returns c = record { first = released_go_first; sent = sent_steps_are_released; never_fall = sent_never_falls }
