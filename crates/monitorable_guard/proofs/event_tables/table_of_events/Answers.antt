use Rattle.monitorable_guard.proofs.Vocabulary.{subst, AddsRows, IsMatchOfName, bound_in}
use Rattle.monitorable_guard.proofs.AddedTables.{added_fit, ok_added}
use Rattle.monitorable_guard.proofs.event_tables.table_of_events.Goals as goal

pub from_rows-requires-clause-fits : goal.from_rows-requires-clause-fits
from_rows-requires-clause-fits c =
    let P = IsMatchOfName c.args.events.now c.args.name c.args.terms.now (bound_in c.args.v.now) c.args.columns in
    added_fit c.args.columns c.gather_named.new.out.items P
    (subst (λ before. AddsRows c.args.columns before c.gather_named.new.out.items P) c.new-found.ensures.items
    (subst (λ l. AddsRows l c.new-found.result.items c.gather_named.new.out.items (IsMatchOfName c.args.events.now c.args.name c.args.terms.now (bound_in c.args.v.now) l))
    c.as_slice.ensures c.in_ok-gather_named.ensures))

pub returns-clause-rows : goal.returns-clause-rows
returns-clause-rows c =
    let P = IsMatchOfName c.args.events.now c.args.name c.args.terms.now (bound_in c.args.v.now) c.args.columns in
    ok_added c.args.columns c.gather_named.new.out.items P
    (subst (λ before. AddsRows c.args.columns before c.gather_named.new.out.items P) c.new-found.ensures.items
    (subst (λ l. AddsRows l c.new-found.result.items c.gather_named.new.out.items (IsMatchOfName c.args.events.now c.args.name c.args.terms.now (bound_in c.args.v.now) l))
    c.as_slice.ensures c.in_ok-gather_named.ensures))
    c.from_rows.result c.from_rows.ensures.columns c.from_rows.ensures.rows
