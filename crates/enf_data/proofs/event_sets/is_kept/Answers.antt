use Rattle.enf_data.proofs.Vocabulary.{ap, not}
use Rattle.std.proofs.lemmas.Bool.Decides.{same_from_decides}
use Rattle.enf_data.proofs.ValueEquality.{has_event-Decides}
use Rattle.enf_data.proofs.event_sets.is_kept.Goals as goal

pub returns : goal.returns
returns c =
    ap not (same_from_decides c.contains.result _ c.contains.ensures (has_event-Decides c.args.gone.now c.args.event.now))
