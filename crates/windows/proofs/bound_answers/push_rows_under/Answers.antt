use Rattle.windows.proofs.Vocabulary.{◌∙◌, ◌↔◌, ◌⊎◌, ◌<◌, ◌≤◌, ◌++◌, ◌∷◌, [], IsTrue, List, length, take, get_or, Contains, sym, ap, subst, false≢true, take_all, Value, are_cells_as_bound, cells}
use Rattle.windows.proofs.EntryLemmas.{next_of}
use Rattle.windows.proofs.BoundAnswerLemmas.{grows_by, grows_not}
use Rattle.windows.proofs.bound_answers.push_rows_under.Goals.{then-are_as_bound+in_ok-duplicate+in_ok-push, else-are_as_bound}
use Rattle.windows.proofs.bound_answers.push_rows_under.Goals as goal

pub loop-row-preserved : goal.loop-row-preserved
loop-row-preserved g c =
    let bounds = cells c.args.query.columns.now (g.V.Lookup.valuation c.args.query.values.now) in
    next_of (λ l. (row : List Value) → Contains c.if-are_as_bound.out.items row ↔ (Contains c.args.out.now.items row ⊎ (Contains l row × IsTrue (are_cells_as_bound bounds row))))
    c.args.rows.now.rows c.loop-row.row-index c.row-item.result
    (subst (λ l. c.loop-row.row-index < length l) c.rows-row-items.ensures.rows c.loop-row-test.true)
    (c.row-item.is ∙ ap (λ l. get_or l c.loop-row.row-index c.row-item.result) c.rows-row-items.ensures.rows)
    (elim c.if-are_as_bound.branch [
      | then-are_as_bound+in_ok-duplicate+in_ok-push w ↦ grows_by (λ row. IsTrue (are_cells_as_bound bounds row)) c.args.out.now.items (take c.loop-row.row-index c.args.rows.now.rows)
          c.row-item.result c.loop-row.out.items c.loop-row.invariant
          c.if-are_as_bound.out.items w.in_ok-duplicate.field-0 w.in_ok-duplicate.ensures (ap (λ o. o.items) w.out-is ∙ w.in_ok-push.ensures.items)
          (sym (ap (are_cells_as_bound bounds) c.as_slice.ensures) ∙ sym c.are_as_bound.ensures ∙ w.if-are_as_bound.true)
      | else-are_as_bound w ↦ subst (λ o. (row : List Value) → Contains o.items row ↔ (Contains c.args.out.now.items row
          ⊎ (Contains (take c.loop-row.row-index c.args.rows.now.rows ++ c.row-item.result ∷ []) row × IsTrue (are_cells_as_bound bounds row)))) (sym w.out-is)
          (grows_not (λ row. IsTrue (are_cells_as_bound bounds row)) c.args.out.now.items (take c.loop-row.row-index c.args.rows.now.rows) c.row-item.result c.loop-row.out.items c.loop-row.invariant
          (λ passes. false≢true (sym w.if-are_as_bound.false ∙ c.are_as_bound.ensures ∙ ap (are_cells_as_bound bounds) c.as_slice.ensures ∙ passes)))
    ])

pub returns-clause-rows : goal.returns-clause-rows
returns-clause-rows g c =
    let bounds = cells c.args.query.columns.now (g.V.Lookup.valuation c.args.query.values.now) in
    subst (λ l. (row : List Value) → Contains c.loop-row.out.items row ↔ (Contains c.args.out.now.items row ⊎ (Contains l row × IsTrue (are_cells_as_bound bounds row))))
    (take_all c.loop-row.row-index c.args.rows.now.rows (subst (λ l. length l ≤ c.loop-row.row-index) c.rows-row-items.ensures.rows c.loop-row-test.false)) c.loop-row.invariant
