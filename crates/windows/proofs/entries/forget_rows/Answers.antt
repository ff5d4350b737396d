use Rattle.windows.proofs.Vocabulary.{◌∙◌, refl, ◌<◌, ◌≤◌, length, take, get_or, ap, subst, Contains, take_all, KeepsRows}
use Rattle.windows.proofs.EntryLemmas.{keeps_all, keeps_then, next_of}
use Rattle.windows.proofs.entries.forget_rows.Goals as goal

pub loop-row-init : goal.loop-row-init
loop-row-init c = (keeps_all c.args.entries.now.entries, refl, c.requires.counted)

pub loop-row-preserved : goal.loop-row-preserved
loop-row-preserved c = (
  next_of (λ l. KeepsRows (λ row. Contains l row → ⊥) c.args.entries.now.entries c.forget_row-left.new.entries.entries) c.args.failing.now.rows c.loop-row.row-index c.row-item.result
      (subst (λ l. c.loop-row.row-index < length l) c.rows-row-items.ensures.rows c.loop-row-test.true)
      (c.row-item.is ∙ ap (λ l. get_or l c.loop-row.row-index c.row-item.result) c.rows-row-items.ensures.rows)
      (keeps_then (take c.loop-row.row-index c.args.failing.now.rows) c.row-item.result c.args.entries.now.entries c.loop-row.entries.entries c.forget_row-left.new.entries.entries
      c.loop-row.invariant.0 c.forget_row-left.ensures.keeps),
  c.forget_row-left.ensures.rows ∙ c.loop-row.invariant.1,
  c.forget_row-left.ensures.counted,
)

pub returns-clause-keeps : goal.returns-clause-keeps
returns-clause-keeps c =
    subst (λ l. KeepsRows (λ row. Contains l row → ⊥) c.args.entries.now.entries c.loop-row.entries.entries)
    (take_all c.loop-row.row-index c.args.failing.now.rows (subst (λ l. length l ≤ c.loop-row.row-index) c.rows-row-items.ensures.rows c.loop-row-test.false)) c.loop-row.invariant.0

pub returns-clause-rows : goal.returns-clause-rows
returns-clause-rows c = c.loop-row.invariant.1
