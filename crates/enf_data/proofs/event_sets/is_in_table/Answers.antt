use Rattle.enf_data.proofs.Vocabulary.{Decides-at}
use Rattle.enf_data.proofs.Lists.{list_any-Decides}
use Rattle.enf_data.proofs.EventEquality.{derived_event_eq-Decides}
use Rattle.enf_data.proofs.event_sets.is_in_table.Goals as goal

pub returns : goal.returns
returns c = Decides-at _ _ c.contains.ensures (list_any-Decides _ derived_event_eq-Decides c.args.table.now.keys c.args.event.now)
