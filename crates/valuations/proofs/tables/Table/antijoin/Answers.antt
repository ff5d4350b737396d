use Rattle.valuations.proofs.Vocabulary.{◌≡◌, ◌∙◌, ◌↔◌, refl, sym, subst, Contains, IfOk, Valuation, all_from as each, shown_rows, HasValuation}
use Rattle.valuations.proofs.TableLemmas.{AreAntijoinParts, contains_by, places_by, single_by, single_others, fits_by, ok_relation, antijoin_fits, antijoin_has}
use Rattle.valuations.proofs.tables.Table.antijoin.Goals as goal

pub places_of-requires : goal.places_of-requires
places_of-requires c =
    contains_by _ _ c.args.self.now.columns c.args.other.now.columns (c.as_slice-columns.ensures ∙ c.columns.ensures.columns) (c.as_slice-others.ensures ∙ c.columns-2.ensures.columns)
    (each (Contains c.args.self.now.columns) _ c.requires)

columns_are : (c : goal.In_ok-duplicate) → c.in_ok-duplicate.field-0 ≡ c.args.self.now.columns
columns_are c = c.in_ok-duplicate.ensures ∙ c.columns-3.ensures.columns

parts : (c : goal.In_ok-duplicate) → AreAntijoinParts c.args.self.now c.args.other.now c.in_ok-left.left.items c.in_ok-right.right.items c.in_ok-rows.rows.items
parts c =
    let a = c.args.self.now.columns in
    let b = c.args.other.now.columns in
    let columns : c.as_slice-columns.result.now ≡ a = c.as_slice-columns.ensures ∙ c.columns.ensures.columns in
    let others : c.as_slice-others.result.now ≡ b = c.as_slice-others.ensures ∙ c.columns-2.ensures.columns in
    let order_is : c.as_slice-3.result.now ≡ c.in_ok-order.order.items = c.as_slice-3.ensures.value in
    record {
      a_table = c.columns.ensures.table;
      b_table = c.columns-2.ensures.table;
      within = c.requires;
      left_places = places_by _ _ a b _ columns others c.in_ok-left.ensures;
      right_places = places_by _ _ b b _ others others c.in_ok-right.ensures;
      single = single_others _ _ _ (shown_rows c.as_slice-3.result.now) _ _ (λ row. subst (λ l. Contains (shown_rows l) row ↔ Contains c.args.other.now.rows row) (sym order_is)
          (subst (λ l. Contains (shown_rows c.in_ok-order.order.items) row ↔ Contains l row) c.rows.ensures.rows (c.in_ok-order.ensures.rows row)))
          (single_by _ _ _ _ _ _ _ _ c.as_slice-2.ensures.value c.as_slice-4.ensures.value c.rows-2.ensures.rows c.in_ok-rows.ensures);
    }

pub from_rows-requires-clause-fits : goal.from_rows-requires-clause-fits
from_rows-requires-clause-fits c = fits_by _ _ _ _ (columns_are c) refl (antijoin_fits _ _ _ _ _ (parts c))

pub returns-clause-rows : goal.returns-clause-rows
returns-clause-rows c =
    let at : goal.In_ok-duplicate = c.before.before.before.before in
    ok_relation c.from_rows.result _ c.in_ok-rows.rows.items (λ t. (v : Valuation) → HasValuation t v ↔ (HasValuation c.args.self.now v × (HasValuation c.args.other.now v → ⊥)))
    (subst (λ l. IfOk c.from_rows.result (λ t. t.columns ≡ l)) (columns_are at) c.from_rows.ensures.columns)
    c.from_rows.ensures.rows (antijoin_has c.args.self.now c.args.other.now _ _ c.in_ok-rows.rows.items (parts at))
