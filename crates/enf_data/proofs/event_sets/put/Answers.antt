use Rattle.enf_data.proofs.Vocabulary.{sym, ◌∙◌}
use Rattle.enf_data.proofs.TableKeys.{Inserts-insert_key, put_last}
use Rattle.enf_data.proofs.EventEquality.{derived_event_eq-Decides}
use Rattle.enf_data.proofs.Lists.{HasNoRepeats-from_distinct}
use Rattle.enf_data.proofs.ListFacts.{ok_both}
use Rattle.enf_data.proofs.event_sets.put.Goals as goal

pub returns-clause-keys : goal.returns-clause-keys
returns-clause-keys c =
    let inserted = ok_both c.insert.result _ _ _ c.insert.ensures.added c.insert.ensures.keys
    (λ new added is. Inserts-insert_key _ derived_event_eq-Decides c.args.table.now.keys c.insert.new.self.keys c.args.event new added is) in
    put_last c.args.event c.args.table.now.keys c.insert.new.self.keys c.insert.result (sym c.is_err.ensures.value ∙ c.if-is_err.false) inserted c.requires.absent

pub returns-clause-distinct : goal.returns-clause-distinct
returns-clause-distinct c = HasNoRepeats-from_distinct _ derived_event_eq-Decides _ c.insert.ensures.unique
