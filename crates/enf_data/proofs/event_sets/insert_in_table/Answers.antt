use Rattle.enf_data.proofs.Vocabulary.{on_err_weaker}
use Rattle.enf_data.proofs.TableKeys.{Inserts-insert_key, no_Contains, ok_through, err_through}
use Rattle.enf_data.proofs.EventEquality.{derived_event_eq-Decides}
use Rattle.enf_data.proofs.Lists.{HasNoRepeats-from_distinct}
use Rattle.enf_data.proofs.ListFacts.{ok_both}
use Rattle.enf_data.proofs.event_sets.insert_in_table.Goals as goal

pub returns-clause-inserted : goal.returns-clause-inserted
returns-clause-inserted c =
    ok_through _ _ c.insert.result c.map_err.result c.map_err.ensures.cases
    (ok_both c.insert.result _ _ _ c.insert.ensures.added c.insert.ensures.keys (λ new added is. Inserts-insert_key _ derived_event_eq-Decides c.args.table.now.keys c.insert.new.self.keys
    c.args.event new added is))

pub returns-clause-absent : goal.returns-clause-absent
returns-clause-absent c =
    err_through _ _ c.insert.result c.map_err.result c.map_err.ensures.cases
    (on_err_weaker c.insert.result (no_Contains _ derived_event_eq-Decides c.args.table.now.keys c.args.event) c.insert.ensures.absent)

pub returns-clause-distinct : goal.returns-clause-distinct
returns-clause-distinct c = HasNoRepeats-from_distinct _ derived_event_eq-Decides _ c.insert.ensures.unique
