use Rattle.windows.proofs.Vocabulary.{◌↔◌, ◌⊎◌, List, Contains, subst, Value, on_ok_weaker, GivesRow, SurvivesUnder, cells}
use Rattle.valuations.specs.machine.Bindings.{filled_from_row}
use Rattle.windows.specs.declared.surviving_rows.Surviving.TheVariants.{All as Whole}
use Rattle.windows.proofs.row_parts.push_part.Goals as goal

pub returns : goal.returns
returns c = on_ok_weaker c.push_given_by.result (λ rows.
    subst (λ v. (row : List Value) → Contains c.push_given_by.new.out.items row ↔ (Contains c.args.out.now.items row
    ⊎ GivesRow c.args.interval c.args.now (SurvivesUnder Whole (cells c.args.columns.now v)) c.args.entries.now.entries row))
    (λ i. filled_from_row (c.empty-nothing.ensures i) c.args.of.now (c.as_slice.ensures i)) rows) c.push_given_by.ensures.rows
