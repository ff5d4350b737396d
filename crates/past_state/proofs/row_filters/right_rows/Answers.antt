use Rattle.past_state.proofs.Vocabulary.{◌∙◌, ◌↔◌, sym, subst, IfOk-weaker, tree_of, none_in_nil, AreFreeVariables, AllComeFrom, BoundFormula, HasValuation, HoldsNow, BindsColumns, IsTable, Valuation, Contains}
use Rattle.monitorable_guard.specs.machine.NeededEvents.{HoldsForNone}
use Rattle.past_state.proofs.ColumnLemmas.{open_free}
use Rattle.past_state.proofs.row_filters.right_rows.Goals as goal

pub returns-then-lacks_event-clause-free : goal.returns-then-lacks_event-clause-free
returns-then-lacks_event-clause-free g c = IfOk-weaker c.no_rows.result _ (λ t. AreFreeVariables (tree_of c.args.guard.now.formula) t.columns)
    (λ t opened. open_free (tree_of c.args.guard.now.formula) c.args.guard.now.bound t.columns c.requires.bound opened) c.no_rows.ensures.columns

pub returns-then-lacks_event-clause-rows : goal.returns-then-lacks_event-clause-rows
returns-then-lacks_event-clause-rows g c =
    let lacks : HoldsForNone c.args.events.now (tree_of c.args.guard.now.formula) = subst (λ l. HoldsForNone l (tree_of c.args.guard.now.formula)) (c.as_slice.ensures.events ∙ c.set.ensures)
    (subst (λ (b : BoundFormula). HoldsForNone c.as_slice.result.now (tree_of b.formula)) c.guard.ensures (c.lacks_event.ensures c.if-lacks_event.true)) in
    IfOk-weaker c.no_rows.result _ _
    (λ t none v binds. (λ has. absurd (none_in_nil has.0 (subst (λ l. Contains l has.0) none has.1)), λ holds. absurd (lacks (g.P.Past.tables c.args.past.now) v holds))) c.no_rows.ensures.none

pub returns-then-lacks_event-clause-known : goal.returns-then-lacks_event-clause-known
returns-then-lacks_event-clause-known g c = IfOk-weaker c.no_rows.result _ (AllComeFrom c.args.events.now (g.P.Past.tables c.args.past.now) (tree_of c.args.guard.now.formula))
    (λ t none row there. absurd (none_in_nil row (subst (λ l. Contains l row) none there))) c.no_rows.ensures.none

pub returns-clause-table : goal.returns-clause-table
returns-clause-table g c = IfOk-weaker c.of.result _ IsTable (λ t same. subst IsTable (sym same) c.in_ok-rows.ensures.table) c.of.ensures

pub returns-clause-free : goal.returns-clause-free
returns-clause-free g c = IfOk-weaker c.of.result _ (λ t. AreFreeVariables (tree_of c.args.guard.now.formula) t.columns)
    (λ t same. subst (λ r. AreFreeVariables (tree_of c.args.guard.now.formula) r.columns) (sym same) c.in_ok-rows.ensures.free) c.of.ensures

pub returns-clause-rows : goal.returns-clause-rows
returns-clause-rows g c = IfOk-weaker c.of.result _ _
    (λ t same. subst (λ r. (v : Valuation) → BindsColumns v r.columns → HasValuation r v ↔ HoldsNow c.args.events.now (g.P.Past.tables c.args.past.now) v (tree_of c.args.guard.now.formula)) (sym same)
    c.in_ok-rows.ensures.rows) c.of.ensures

pub returns-clause-known : goal.returns-clause-known
returns-clause-known g c = IfOk-weaker c.of.result _ (AllComeFrom c.args.events.now (g.P.Past.tables c.args.past.now) (tree_of c.args.guard.now.formula))
    (λ t same. subst (AllComeFrom c.args.events.now (g.P.Past.tables c.args.past.now) (tree_of c.args.guard.now.formula)) (sym same) c.in_ok-rows.ensures.known) c.of.ensures
