use Rattle.monitorable_guard.proofs.Vocabulary.{sym, subst, List, AddsRows, AreBoundOrFree, IsGuardAnswer, Valuation, VarId, rising_distinct, variable_cmp_total, tree_of, bound_in, filled_from_row}
use Rattle.monitorable_guard.proofs.AddedTables.{added_fit}
use Rattle.monitorable_guard.proofs.CycleLemmas.{ok_open}
use Rattle.monitorable_guard.proofs.RowsLemmas.{SomeOf}
use Rattle.monitorable_guard.proofs.WithinLemmas.{ok_in, row_ask, row_scope}
use Rattle.monitorable_guard.proofs.evaluation.rows_in.Goals as goal

pub gather_under-requires-clause-ask : goal.gather_under-requires-clause-ask
gather_under-requires-clause-ask g c =
    row_ask c.args.present.now.events.now (g.P.Past.tables c.args.present.now.past.now) (bound_in c.args.scope.now) (tree_of c.args.formula.now) c.args.columns
    c.requires.open c.args.within.now c.requires.table c.requires.within c.requires.ask

pub gather_under-requires-clause-within : goal.gather_under-requires-clause-within
gather_under-requires-clause-within g c =
    let v = bound_in c.args.scope.now in
    let f = tree_of c.args.formula.now in
    λ row there. subst (λ l. AreBoundOrFree l (filled_from_row v c.args.within.now.columns row) f) (sym c.as_slice.ensures)
    (row_scope c.args.present.now.events.now (g.P.Past.tables c.args.present.now.past.now) v f c.args.columns c.requires.open c.args.within.now
    c.requires.table c.requires.within row there)

pub from_rows-requires-clause-distinct : goal.from_rows-requires-clause-distinct
from_rows-requires-clause-distinct g c = rising_distinct variable_cmp_total c.args.columns c.requires.open.rising

pub from_rows-requires-clause-fits : goal.from_rows-requires-clause-fits
from_rows-requires-clause-fits g c =
    let E = c.args.present.now.events.now in
    let T = g.P.Past.tables c.args.present.now.past.now in
    let v = bound_in c.args.scope.now in
    let f = tree_of c.args.formula.now in
    let under : List VarId → Valuation → Type 0 = λ l w. SomeOf c.args.within.now.rows (λ row. IsGuardAnswer E T (filled_from_row v c.args.within.now.columns row) f l w) in
    added_fit c.args.columns c.gather_under.new.out.items (under c.args.columns)
    (subst (λ before. AddsRows c.args.columns before c.gather_under.new.out.items (under c.args.columns)) c.new-found.ensures.items
    (subst (λ l. AddsRows l c.new-found.result.items c.gather_under.new.out.items (under l)) c.as_slice.ensures c.in_ok-gather_under.ensures))

pub returns-clause-columns : goal.returns-clause-columns
returns-clause-columns g c =
    ok_open c.args.present.now.events.now (g.P.Past.tables c.args.present.now.past.now) (bound_in c.args.scope.now) (tree_of c.args.formula.now) c.args.columns
    c.from_rows.result c.requires.open c.from_rows.ensures.columns

pub returns-clause-rows : goal.returns-clause-rows
returns-clause-rows g c =
    let E = c.args.present.now.events.now in
    let T = g.P.Past.tables c.args.present.now.past.now in
    let v = bound_in c.args.scope.now in
    let f = tree_of c.args.formula.now in
    let under : List VarId → Valuation → Type 0 = λ l w. SomeOf c.args.within.now.rows (λ row. IsGuardAnswer E T (filled_from_row v c.args.within.now.columns row) f l w) in
    ok_in E T v f c.args.columns c.requires.open c.args.within.now c.requires.table c.requires.within c.gather_under.new.out.items
    (subst (λ before. AddsRows c.args.columns before c.gather_under.new.out.items (under c.args.columns)) c.new-found.ensures.items
    (subst (λ l. AddsRows l c.new-found.result.items c.gather_under.new.out.items (under l)) c.as_slice.ensures c.in_ok-gather_under.ensures))
    c.from_rows.result c.from_rows.ensures.columns c.from_rows.ensures.rows
