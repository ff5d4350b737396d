use Rattle.enf_data.proofs.TableKeys.{Removes-remove_key}
use Rattle.enf_data.proofs.EventEquality.{derived_event_eq-Decides}
use Rattle.enf_data.proofs.Lists.{HasNoRepeats-from_distinct}
use Rattle.enf_data.proofs.event_sets.remove_from_table.Goals as goal

pub returns-clause-removed : goal.returns-clause-removed
returns-clause-removed c =
    Removes-remove_key _ derived_event_eq-Decides c.args.table.now.keys c.shift_remove.new.self.keys c.args.event.now c.shift_remove.result c.shift_remove.ensures.found c.shift_remove.ensures.keys

pub returns-clause-distinct : goal.returns-clause-distinct
returns-clause-distinct c = HasNoRepeats-from_distinct _ derived_event_eq-Decides _ c.shift_remove.ensures.unique
