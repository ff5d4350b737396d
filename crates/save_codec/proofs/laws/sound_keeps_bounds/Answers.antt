use Rattle.save_codec.proofs.SoundLemmas.{sound_keeps}
use Rattle.save_codec.proofs.laws.sound_keeps_bounds.Goals as goal

pub returns : goal.returns
returns c = sound_keeps c.nodes_have_scopes.ensures.rises
