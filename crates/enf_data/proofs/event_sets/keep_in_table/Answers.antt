use Rattle.enf_data.proofs.Vocabulary.{not, has_event}
use Rattle.std.proofs.Common.{rules}
use Rattle.std.proofs.lemmas.Fn.{filter_same}
use Rattle.enf_data.proofs.EventEquality.{derived_event_eq-Decides}
use Rattle.enf_data.proofs.Lists.{HasNoRepeats-from_distinct}
use Rattle.enf_data.proofs.event_sets.keep_in_table.Goals as goal

pub returns-clause-removed : goal.returns-clause-removed
returns-clause-removed c =
    filter_same _ (λ event. not (has_event c.args.gone.now event)) _ (λ event b f call. search rules) c.args.table.now.keys c.retain.new.self.keys c.retain.ensures.filtered

pub returns-clause-distinct : goal.returns-clause-distinct
returns-clause-distinct c = HasNoRepeats-from_distinct _ derived_event_eq-Decides _ c.retain.ensures.unique
