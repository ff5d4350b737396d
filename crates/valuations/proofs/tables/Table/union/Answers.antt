use Rattle.valuations.proofs.Vocabulary.{◌≡◌, ◌∙◌, ◌↔◌, ◌⊎◌, ap, subst, List, ◌++◌, length, map, Contains, IfOk, All-append, Valuation, all_from as each, row_part, ArePlaces, HasValuation}
use Rattle.valuations.proofs.TableLemmas.{contains_by, places_by, fits_by, ok_relation, parts_fit, pushed_parts, union_has}
use Rattle.valuations.proofs.tables.Table.union.Goals as goal

pub places_of-requires : goal.places_of-requires
places_of-requires c =
    contains_by _ _ c.args.other.now.columns c.args.self.now.columns (c.as_slice.ensures ∙ c.columns.ensures.columns) (c.as_slice-2.ensures ∙ c.columns-2.ensures.columns)
    (each (Contains c.args.other.now.columns) _ c.requires.0)

columns_are : (c : goal.In_ok-duplicate) → c.in_ok-duplicate.field-0 ≡ c.args.self.now.columns
columns_are c = c.in_ok-duplicate.ensures ∙ c.columns-3.ensures.columns

places : (c : goal.In_ok-duplicate) → ArePlaces c.args.other.now.columns c.args.self.now.columns c.in_ok-places.places.items
places c = places_by _ _ c.args.other.now.columns c.args.self.now.columns _ (c.as_slice.ensures ∙ c.columns.ensures.columns) (c.as_slice-2.ensures ∙ c.columns-2.ensures.columns) c.in_ok-places.ensures

pushed : (c : goal.In_ok-duplicate) → c.push_parts.new.out.items ≡ c.args.self.now.rows ++ map (λ row. row_part row c.in_ok-places.places.items) c.args.other.now.rows
pushed c = pushed_parts _ c.args.self.now.rows _ _ _ _ _ (c.in_ok-push_copies.ensures ∙ ap (λ l. l ++ c.rows.result.now) c.new-rows.ensures.items ∙ c.rows.ensures.rows)
    c.as_slice-3.ensures.value c.rows-2.ensures.rows c.in_ok-push_parts.ensures

pub from_rows-requires-clause-fits : goal.from_rows-requires-clause-fits
from_rows-requires-clause-fits c = fits_by _ _ _ _ (columns_are c) (pushed c)
    (All-append (λ row. length row ≡ length c.args.self.now.columns) _ _ c.columns-2.ensures.table.fits
    (parts_fit c.args.other.now c.args.self.now.columns _ c.columns.ensures.table c.requires.0 (places c)))

pub returns-clause-rows : goal.returns-clause-rows
returns-clause-rows c =
    let at : goal.In_ok-duplicate = c.before.before in
    ok_relation c.from_rows.result _ _ (λ t. (v : Valuation) → HasValuation t v ↔ (HasValuation c.args.self.now v ⊎ HasValuation c.args.other.now v))
    (subst (λ l. IfOk c.from_rows.result (λ t. t.columns ≡ l)) (columns_are at) c.from_rows.ensures.columns)
    (subst (λ l. IfOk c.from_rows.result (λ t. (row : List _) → Contains t.rows row ↔ Contains l row)) (pushed at) c.from_rows.ensures.rows)
    (union_has c.args.self.now c.args.other.now _ c.columns-2.ensures.table c.columns.ensures.table c.requires (places at))
