use Rattle.valuations.proofs.Vocabulary.{◌≡◌, ◌∙◌, ◌↔◌, ap, subst, List, Contains, IfOk, filter, Valuation, value_of_term, ComparesValues, compares_values, ReadsTerm, operand_value, HasValuation}
use Rattle.valuations.proofs.TableLemmas.{fits_by, ok_relation}
use Rattle.valuations.proofs.ComparisonLemmas.{kept_fits, select_has}
use Rattle.valuations.proofs.tables.Table.select.Goals as goal

columns_are : (c : goal.In_ok-duplicate) → c.in_ok-duplicate.field-0 ≡ c.args.self.now.columns
columns_are c = c.in_ok-duplicate.ensures ∙ c.columns-2.ensures.columns

kept : (c : goal.In_ok-duplicate) → c.in_ok-rows.rows.items ≡ filter (λ row. compares_values c.args.kind (operand_value c.operand_of.result row)
    (operand_value c.operand_of-2.result row)) c.args.self.now.rows
kept c = c.in_ok-rows.ensures ∙ ap (filter (λ row. compares_values c.args.kind (operand_value c.operand_of.result row) (operand_value c.operand_of-2.result row))) c.rows.ensures.rows

pub from_rows-requires-clause-fits : goal.from_rows-requires-clause-fits
from_rows-requires-clause-fits c = fits_by _ _ _ _ (columns_are c) (kept c) (kept_fits c.args.self.now _ c.columns.ensures.table)

pub returns-clause-rows : goal.returns-clause-rows
returns-clause-rows c =
    let at : goal.In_ok-duplicate = c.before in
    let columns = c.as_slice-columns.ensures ∙ c.columns.ensures.columns in
    ok_relation c.from_rows.result _ _ (λ t. (v : Valuation) → HasValuation t v ↔ (HasValuation c.args.self.now v
    × ComparesValues c.args.kind (value_of_term v c.args.left.now) (value_of_term v c.args.right.now)))
    (subst (λ l. IfOk c.from_rows.result (λ t. t.columns ≡ l)) (columns_are at) c.from_rows.ensures.columns)
    (subst (λ l. IfOk c.from_rows.result (λ t. (row : List _) → Contains t.rows row ↔ Contains l row)) (kept at) c.from_rows.ensures.rows)
    (select_has c.args.self.now c.args.left.now c.args.right.now _ _ c.args.kind c.columns.ensures.table c.requires.left c.requires.right
    (subst (λ l. ReadsTerm l c.args.left.now c.operand_of.result) columns c.operand_of.ensures)
    (subst (λ l. ReadsTerm l c.args.right.now c.operand_of-2.result) columns c.operand_of-2.ensures))
