use Rattle.valuations.proofs.Vocabulary.{◌≡◌, ◌∙◌, ◌↔◌, subst, List, [], map, Contains, IfOk, Valuation, all_from as each, row_part, ArePlaces, HasValuation, AgreeOnColumns}
use Rattle.valuations.proofs.TableLemmas.{contains_by, places_by, fits_by, ok_relation, parts_fit, pushed_parts, project_has}
use Rattle.valuations.proofs.tables.Table.project.Goals as goal

pub places_of-requires : goal.places_of-requires
places_of-requires c =
    contains_by _ _ c.args.self.now.columns c.args.columns.now (c.as_slice.ensures ∙ c.columns.ensures.columns) c.as_slice-2.ensures (each (Contains c.args.self.now.columns) _ c.requires.within)

columns_are : (c : goal.In_ok-duplicate) → c.in_ok-duplicate.field-0 ≡ c.args.columns.now
columns_are c = c.in_ok-duplicate.ensures

places : (c : goal.In_ok-duplicate) → ArePlaces c.args.self.now.columns c.args.columns.now c.in_ok-places.places.items
places c = places_by _ _ c.args.self.now.columns c.args.columns.now _ (c.as_slice.ensures ∙ c.columns.ensures.columns) c.as_slice-2.ensures c.in_ok-places.ensures

pushed : (c : goal.In_ok-duplicate) → c.push_parts.new.out.items ≡ map (λ row. row_part row c.in_ok-places.places.items) c.args.self.now.rows
pushed c = pushed_parts _ [] _ _ _ _ _ c.new-rows.ensures.items c.as_slice-3.ensures.value c.rows.ensures.rows c.in_ok-push_parts.ensures

pub from_rows-requires-clause-fits : goal.from_rows-requires-clause-fits
from_rows-requires-clause-fits c = fits_by _ _ _ _ (columns_are c) (pushed c) (parts_fit c.args.self.now c.args.columns.now _ c.columns.ensures.table c.requires.within (places c))

pub returns-clause-rows : goal.returns-clause-rows
returns-clause-rows c =
    let at : goal.In_ok-duplicate = c.before.before in
    ok_relation c.from_rows.result _ _ (λ t. (v : Valuation) → HasValuation t v ↔ ((w : Valuation) × HasValuation c.args.self.now w × AgreeOnColumns c.args.columns.now v w))
    (subst (λ l. IfOk c.from_rows.result (λ t. t.columns ≡ l)) (columns_are at) c.from_rows.ensures.columns)
    (subst (λ l. IfOk c.from_rows.result (λ t. (row : List _) → Contains t.rows row ↔ Contains l row)) (pushed at) c.from_rows.ensures.rows)
    (project_has c.args.self.now c.args.columns.now _ c.columns.ensures.table c.requires.within (places at))
