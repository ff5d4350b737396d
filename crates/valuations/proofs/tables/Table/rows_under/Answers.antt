use Rattle.valuations.proofs.Vocabulary.{◌≡◌, ◌∙◌, ◌↔◌, ap, subst, List, map, Contains, IfOk, filter, option_copied, Valuation, value_at, is_row_as_bound, HasValuation, AgreesWhereBound}
use Rattle.valuations.proofs.TableLemmas.{fits_by, ok_relation}
use Rattle.valuations.proofs.ComparisonLemmas.{kept_fits, under_has}
use Rattle.valuations.proofs.tables.Table.rows_under.Given.{Over}
use Rattle.valuations.proofs.tables.Table.rows_under.Goals as goal

columns_are : (g : Over) (c : goal.In_ok-duplicate g) → c.in_ok-duplicate.field-0 ≡ c.args.self.now.columns
columns_are g c = c.in_ok-duplicate.ensures ∙ c.columns-2.ensures.columns

kept : (g : Over) (c : goal.In_ok-duplicate g) → c.in_ok-rows.rows.items ≡ filter (λ row. is_row_as_bound (map option_copied c.as_slice-2.result.now) row) c.args.self.now.rows
kept g c = c.in_ok-rows.ensures ∙ ap (filter (λ row. is_row_as_bound (map option_copied c.as_slice-2.result.now) row)) c.rows.ensures.rows

pub from_rows-requires-clause-fits : goal.from_rows-requires-clause-fits
from_rows-requires-clause-fits g c = fits_by _ _ _ _ (columns_are g c) (kept g c) (kept_fits c.args.self.now _ c.columns.ensures.table)

pub returns-clause-rows : goal.returns-clause-rows
returns-clause-rows g c =
    let at : goal.In_ok-duplicate g = c.before.before in
    ok_relation c.from_rows.result _ _ (λ t. (w : Valuation) → HasValuation t w ↔ (HasValuation c.args.self.now w × AgreesWhereBound c.args.self.now.columns (g.V.Lookup.valuation c.args.v.now) w))
    (subst (λ l. IfOk c.from_rows.result (λ t. t.columns ≡ l)) (columns_are g at) c.from_rows.ensures.columns)
    (subst (λ l. IfOk c.from_rows.result (λ t. (row : List _) → Contains t.rows row ↔ Contains l row)) (kept g at) c.from_rows.ensures.rows)
    (under_has c.args.self.now (g.V.Lookup.valuation c.args.v.now) _ c.columns.ensures.table
    (ap (map option_copied) c.as_slice-2.ensures.value ∙ c.in_ok-bounds.ensures ∙ ap (map (value_at (g.V.Lookup.valuation c.args.v.now)))
    (c.as_slice.ensures ∙ c.columns.ensures.columns)))
