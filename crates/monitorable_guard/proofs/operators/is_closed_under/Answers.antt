use Rattle.monitorable_guard.proofs.Vocabulary.{List, IfOk, Contains, IsTrue, ◌↔◌, ◌≡◌, ◌∙◌, subst, sym, tree_of, Value, there_from_get, bound_in, filled_from_row, IsBoundBy, FreeWithin}
use Rattle.monitorable_guard.proofs.CycleLemmas.{ok_alike}
use Rattle.monitorable_guard.proofs.operators.is_closed_under.Goals as goal

pub returns : goal.returns
returns c =
    let first : List Value = c.in-Some.first.now in
    let there : Contains c.args.table.now.rows first = subst (λ l. Contains l first) c.rows.ensures.rows (there_from_get c.rows.result.now 0 first (sym c.in-Some.ensures.value)) in
    let inner : filled_from_row (bound_in c.args.scope.now) c.as_slice.result.now c.as_slice-2.result.now
    ≡ filled_from_row (bound_in c.args.scope.now) c.args.table.now.columns first =
    (λ i. filled_from_row (bound_in c.args.scope.now) ((c.as_slice.ensures ∙ c.columns.ensures.columns) i) (c.as_slice-2.ensures i)) in
    ok_alike (tree_of c.args.formula.now) (bound_in c.args.scope.now) c.args.table.now first c.requires there c.is_closed.result
    (subst (λ v. IfOk c.is_closed.result (λ closed. IsTrue closed ↔ FreeWithin (tree_of c.args.formula.now) (IsBoundBy v))) inner c.is_closed.ensures)
