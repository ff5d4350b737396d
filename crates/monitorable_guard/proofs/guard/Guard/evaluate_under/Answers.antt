use Rattle.monitorable_guard.proofs.Vocabulary.{Contains, sym, subst, ◌∙◌, tree_of, bound_in, valuation_part, IsPartOfValuation, part_is, AreOpen, Safe}
use Rattle.monitorable_guard.specs.machine.Guards.{BoundFormula}
use Rattle.monitorable_guard.specs.machine.Reordering.{IsReordered, only_formula}
use Rattle.monitorable_guard.proofs.AskedGuards.{numbers_within, asked_can, asked_opens, ok_given_columns, ok_given_rows}
use Rattle.monitorable_guard.proofs.GuardLemmas.{opens_under, ok_columns, ok_rows}
use Rattle.monitorable_guard.proofs.KnownNow.{ok_known}
use Rattle.monitorable_guard.proofs.guard.Guard.evaluate_under.Goals as goal

pub invariant_of-past : goal.invariant_of-past
invariant_of-past g c =
    let f = tree_of c.args.self.now.formula in
    let asked = tree_of c.self.inside.asked.formula in
    let numbers = c.as_slice-2.result.now in
    let tables = g.P.Past.tables c.args.past.now in
    let same : IsReordered (only_formula 0 f) asked numbers = subst (λ (b : BoundFormula). IsReordered (only_formula 0 (tree_of b.formula)) asked numbers) c.self.view_is
    (subst (IsReordered (only_formula 0 (tree_of c.self.inside.formula)) asked) (sym c.as_slice-2.ensures.value) c.self.invariant.2) in
    record { within = numbers_within f asked numbers same tables c.requires.tabled }

pub rows_told-requires-clause-ask : goal.rows_told-requires-clause-ask
rows_told-requires-clause-ask g c =
    let f = tree_of c.args.self.now.formula in
    let bound = c.args.self.now.bound in
    let asked = tree_of c.self.inside.asked.formula in
    let numbers = c.as_slice-2.result.now in
    let tables = g.P.Past.tables c.args.past.now in
    let scope = valuation_part (bound_in c.args.v.now) c.as_slice.result.now in
    let same : IsReordered (only_formula 0 f) asked numbers = subst (λ (b : BoundFormula). IsReordered (only_formula 0 (tree_of b.formula)) asked numbers) c.self.view_is
    (subst (IsReordered (only_formula 0 (tree_of c.self.inside.formula)) asked) (sym c.as_slice-2.ensures.value) c.self.invariant.2) in
    let part = subst (λ l. IsPartOfValuation (bound_in c.args.v.now) l scope) (c.as_slice.ensures ∙ c.bound.ensures.bound) (part_is (bound_in c.args.v.now) c.as_slice.result.now) in
    let safe : Safe asked (Contains bound) = subst (λ (b : BoundFormula). Safe asked (Contains b.bound)) c.self.view_is c.self.invariant.3 in
    asked_can f asked numbers same bound c.columns.result.now c.columns.ensures (bound_in c.args.v.now) scope part tables safe c.requires

pub rows_told-requires-clause-open : goal.rows_told-requires-clause-open
rows_told-requires-clause-open g c =
    let f = tree_of c.args.self.now.formula in
    let bound = c.args.self.now.bound in
    let asked = tree_of c.self.inside.asked.formula in
    let numbers = c.as_slice-2.result.now in
    let tables = g.P.Past.tables c.args.past.now in
    let scope = valuation_part (bound_in c.args.v.now) c.as_slice.result.now in
    let same : IsReordered (only_formula 0 f) asked numbers = subst (λ (b : BoundFormula). IsReordered (only_formula 0 (tree_of b.formula)) asked numbers) c.self.view_is
    (subst (IsReordered (only_formula 0 (tree_of c.self.inside.formula)) asked) (sym c.as_slice-2.ensures.value) c.self.invariant.2) in
    let part = subst (λ l. IsPartOfValuation (bound_in c.args.v.now) l scope) (c.as_slice.ensures ∙ c.bound.ensures.bound) (part_is (bound_in c.args.v.now) c.as_slice.result.now) in
    asked_opens f asked numbers same scope c.in_ok-columns.columns
    (opens_under f bound (bound_in c.args.v.now) scope part c.requires.binds c.in_ok-columns.columns (subst (AreOpen f bound) (sym c.in_ok-columns.ensures) c.columns.ensures))

pub returns-clause-columns : goal.returns-clause-columns
returns-clause-columns g c =
    let f = tree_of c.args.self.now.formula in
    let bound = c.args.self.now.bound in
    let asked = tree_of c.self.inside.asked.formula in
    let numbers = c.as_slice-2.result.now in
    let tables = g.P.Past.tables c.args.past.now in
    let scope = valuation_part (bound_in c.args.v.now) c.as_slice.result.now in
    let same : IsReordered (only_formula 0 f) asked numbers = subst (λ (b : BoundFormula). IsReordered (only_formula 0 (tree_of b.formula)) asked numbers) c.self.view_is
    (subst (IsReordered (only_formula 0 (tree_of c.self.inside.formula)) asked) (sym c.as_slice-2.ensures.value) c.self.invariant.2) in
    let part = subst (λ l. IsPartOfValuation (bound_in c.args.v.now) l scope) (c.as_slice.ensures ∙ c.bound.ensures.bound) (part_is (bound_in c.args.v.now) c.as_slice.result.now) in
    ok_columns f bound (bound_in c.args.v.now) scope part c.requires.binds c.rows_told.result
    (ok_given_columns f asked numbers same scope c.rows_told.result c.rows_told.ensures.columns)

pub returns-clause-rows : goal.returns-clause-rows
returns-clause-rows g c =
    let f = tree_of c.args.self.now.formula in
    let bound = c.args.self.now.bound in
    let asked = tree_of c.self.inside.asked.formula in
    let numbers = c.as_slice-2.result.now in
    let tables = g.P.Past.tables c.args.past.now in
    let scope = valuation_part (bound_in c.args.v.now) c.as_slice.result.now in
    let same : IsReordered (only_formula 0 f) asked numbers = subst (λ (b : BoundFormula). IsReordered (only_formula 0 (tree_of b.formula)) asked numbers) c.self.view_is
    (subst (IsReordered (only_formula 0 (tree_of c.self.inside.formula)) asked) (sym c.as_slice-2.ensures.value) c.self.invariant.2) in
    let part = subst (λ l. IsPartOfValuation (bound_in c.args.v.now) l scope) (c.as_slice.ensures ∙ c.bound.ensures.bound) (part_is (bound_in c.args.v.now) c.as_slice.result.now) in
    ok_rows f bound (bound_in c.args.v.now) scope part c.requires.binds c.args.events.now tables c.requires.tabled c.rows_told.result
    (ok_given_columns f asked numbers same scope c.rows_told.result c.rows_told.ensures.columns)
    (ok_given_rows f asked numbers same scope c.args.events.now tables c.rows_told.result c.rows_told.ensures.rows)

pub returns-clause-known : goal.returns-clause-known
returns-clause-known g c =
    let f = tree_of c.args.self.now.formula in
    let bound = c.args.self.now.bound in
    let asked = tree_of c.self.inside.asked.formula in
    let numbers = c.as_slice-2.result.now in
    let tables = g.P.Past.tables c.args.past.now in
    let scope = valuation_part (bound_in c.args.v.now) c.as_slice.result.now in
    let same : IsReordered (only_formula 0 f) asked numbers = subst (λ (b : BoundFormula). IsReordered (only_formula 0 (tree_of b.formula)) asked numbers) c.self.view_is
    (subst (IsReordered (only_formula 0 (tree_of c.self.inside.formula)) asked) (sym c.as_slice-2.ensures.value) c.self.invariant.2) in
    let part = subst (λ l. IsPartOfValuation (bound_in c.args.v.now) l scope) (c.as_slice.ensures ∙ c.bound.ensures.bound) (part_is (bound_in c.args.v.now) c.as_slice.result.now) in
    ok_known c.args.events.now tables f bound (bound_in c.args.v.now) scope part c.requires.binds c.bound.ensures.safe c.requires.fresh c.requires.tabled c.rows_told.result
    c.rows_told.ensures.table
    (ok_given_columns f asked numbers same scope c.rows_told.result c.rows_told.ensures.columns)
    (ok_given_rows f asked numbers same scope c.args.events.now tables c.rows_told.result c.rows_told.ensures.rows)
