use Rattle.windows.proofs.Vocabulary.{◌∙◌, ◌↔◌, ◌⊎◌, ◌<◌, ◌≤◌, List, length, take, get_or, Contains, ap, subst, take_all, Value}
use Rattle.windows.proofs.EntryLemmas.{grows, next_of}
use Rattle.windows.proofs.entries.push_rows.Goals as goal

pub loop-row-preserved : goal.loop-row-preserved
loop-row-preserved c =
    next_of (λ l. (row : List Value) → Contains c.push.new.self.items row ↔ (Contains c.args.out.now.items row ⊎ Contains l row)) c.args.rows.now.rows c.loop-row.row-index c.row-item.result
    (subst (λ l. c.loop-row.row-index < length l) c.rows-row-items.ensures.rows c.loop-row-test.true)
    (c.row-item.is ∙ ap (λ l. get_or l c.loop-row.row-index c.row-item.result) c.rows-row-items.ensures.rows)
    (grows c.args.out.now.items (take c.loop-row.row-index c.args.rows.now.rows) c.row-item.result c.loop-row.out.items c.push.new.self.items c.in_ok-duplicate.field-0 c.loop-row.invariant
    c.in_ok-duplicate.ensures c.in_ok-push.ensures.items)

pub returns-clause-rows : goal.returns-clause-rows
returns-clause-rows c =
    subst (λ l. (row : List Value) → Contains c.loop-row.out.items row ↔ (Contains c.args.out.now.items row ⊎ Contains l row))
    (take_all c.loop-row.row-index c.args.rows.now.rows (subst (λ l. length l ≤ c.loop-row.row-index) c.rows-row-items.ensures.rows c.loop-row-test.false)) c.loop-row.invariant
