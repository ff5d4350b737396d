use Rattle.monitorable_guard.proofs.Vocabulary.{sym, subst, [], AddsRows, AreOpenUnder, IsGuardAnswer, rising_distinct, variable_cmp_total, tree_of, bound_in}
use Rattle.monitorable_guard.specs.machine.NeededEvents.{BeginsWithEvent}
use Rattle.monitorable_guard.proofs.AddedTables.{added_fit}
use Rattle.monitorable_guard.proofs.CycleLemmas.{ok_answers, ok_open}
use Rattle.monitorable_guard.proofs.told_rows.rows_told.Given.{Over}
use Rattle.monitorable_guard.proofs.told_rows.rows_told.Goals as goal

pub gather_told-requires-clause-open : goal.gather_told-requires-clause-open
gather_told-requires-clause-open g c = subst (AreOpenUnder (bound_in c.args.scope.now) (tree_of c.args.formula.now)) (sym c.as_slice-2.ensures) c.requires.open

pub gather_told-requires-clause-begins : goal.gather_told-requires-clause-begins
gather_told-requires-clause-begins g c =
    subst (λ l. BeginsWithEvent c.in-Some.name l (tree_of c.args.formula.now)) (sym c.as_slice-2.ensures) (subst (λ l. BeginsWithEvent c.in-Some.name l (tree_of c.args.formula.now)) c.as_slice.ensures c.in-Some.ensures)

adds : (g : Over) (c : goal.In_ok-gather_told g) → AddsRows c.args.columns [] c.gather_told.new.out.items
    (IsGuardAnswer c.args.present.now.events.now (g.P.Past.tables c.args.present.now.past.now) (bound_in c.args.scope.now) (tree_of c.args.formula.now) c.args.columns)
adds g c =
    let E = c.args.present.now.events.now in
    let T = g.P.Past.tables c.args.present.now.past.now in
    let v = bound_in c.args.scope.now in
    let f = tree_of c.args.formula.now in
    subst (λ before. AddsRows c.args.columns before c.gather_told.new.out.items (IsGuardAnswer E T v f c.args.columns)) c.in_ok-found.ensures.items
    (subst (λ l. AddsRows l c.in_ok-found.found.items c.gather_told.new.out.items (IsGuardAnswer E T v f l)) c.as_slice-2.ensures c.in_ok-gather_told.ensures)

pub from_rows-requires-clause-distinct : goal.from_rows-requires-clause-distinct
from_rows-requires-clause-distinct g c = rising_distinct variable_cmp_total c.args.columns c.requires.open.rising

pub from_rows-requires-clause-fits : goal.from_rows-requires-clause-fits
from_rows-requires-clause-fits g c = added_fit c.args.columns c.gather_told.new.out.items
    (IsGuardAnswer c.args.present.now.events.now (g.P.Past.tables c.args.present.now.past.now) (bound_in c.args.scope.now) (tree_of c.args.formula.now) c.args.columns) (adds g c)

pub returns-clause-columns : goal.returns-clause-columns
returns-clause-columns g c = ok_open c.args.present.now.events.now (g.P.Past.tables c.args.present.now.past.now) (bound_in c.args.scope.now) (tree_of c.args.formula.now) c.args.columns
    c.from_rows.result c.requires.open c.from_rows.ensures.columns

pub returns-clause-rows : goal.returns-clause-rows
returns-clause-rows g c =
    ok_answers c.args.present.now.events.now (g.P.Past.tables c.args.present.now.past.now) (bound_in c.args.scope.now) (tree_of c.args.formula.now) c.args.columns c.gather_told.new.out.items (adds g c.before)
    c.from_rows.result c.from_rows.ensures.columns c.from_rows.ensures.rows
