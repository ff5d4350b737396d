use Rattle.windows.proofs.Vocabulary.{◌∙◌, ◌↔◌, ◌⊎◌, ◌<◌, ◌≤◌, List, length, get_or, Contains, ap, subst, take_all, Value}
use Rattle.windows.proofs.PartLemmas.{Gathered, gathered_next, gathered_none}
use Rattle.windows.specs.machine.RowParts.{GivesPart}
use Rattle.windows.proofs.row_parts.push_parts.Goals as goal

pub loop-part-init : goal.loop-part-init
loop-part-init c = gathered_none c.args.interval c.args.now c.args.columns.now c.args.entries.now.entries c.args.parts.now.columns c.args.out.now.items

pub loop-part-preserved : goal.loop-part-preserved
loop-part-preserved c = gathered_next c.args.interval c.args.now c.args.columns.now c.args.entries.now.entries c.args.parts.now.columns c.args.parts.now.rows c.loop-part.part-index
    c.part-item.result c.args.out.now.items c.loop-part.out.items c.push_part.new.out.items
    (subst (λ l. c.loop-part.part-index < length l) c.rows-part-items.ensures.rows c.loop-part-test.true)
    (c.part-item.is ∙ ap (λ l. get_or l c.loop-part.part-index c.part-item.result) c.rows-part-items.ensures.rows) c.loop-part.invariant
    (subst (λ of. (row : List Value) → Contains c.push_part.new.out.items row ↔ (Contains c.loop-part.out.items row
    ⊎ GivesPart c.args.interval c.args.now c.args.columns.now c.args.entries.now.entries of c.part-item.result row)) (c.as_slice-of.ensures ∙ c.columns.ensures.columns) c.in_ok-push_part.ensures)

pub returns-clause-rows : goal.returns-clause-rows
returns-clause-rows c =
    subst (λ l. Gathered c.args.interval c.args.now c.args.columns.now c.args.entries.now.entries c.args.parts.now.columns c.args.out.now.items l c.loop-part.out.items)
    (take_all c.loop-part.part-index c.args.parts.now.rows (subst (λ l. length l ≤ c.loop-part.part-index) c.rows-part-items.ensures.rows c.loop-part-test.false)) c.loop-part.invariant
