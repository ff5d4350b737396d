use Rattle.valuations.proofs.Vocabulary.{◌≡◌, ◌∙◌, ◌↔◌, refl, sym, ap, subst, List, ◌++◌, length, Contains, IfOk, HasNoRepeats, VarId, shown_rows, Valuation, columns_shared, columns_unshared}
use Rattle.valuations.proofs.Vocabulary.{HasValuation}
use Rattle.valuations.proofs.TableLemmas.{AreJoinParts, contains_by, places_by, joined_by, joined_others, fits_by, ok_relation, shared_left, shared_right, not_shared_right, joined_distinct}
use Rattle.valuations.proofs.TableLemmas.{places_long, join_fits, join_has}
use Rattle.valuations.proofs.tables.Table.join.Goals as goal

both : (f : List VarId → List VarId → List VarId) (a b x y : List VarId) → x ≡ a → y ≡ b → f x y ≡ f a b
both f a b x y e g = ap (λ l. f l y) e ∙ ap (f a) g

pub places_of-requires : goal.places_of-requires
places_of-requires c =
    let a = c.args.self.now.columns in
    let b = c.args.other.now.columns in
    let columns : c.as_slice-columns.result.now ≡ a = c.as_slice-columns.ensures ∙ c.columns.ensures.columns in
    let others : c.as_slice-others.result.now ≡ b = c.as_slice-others.ensures ∙ c.columns-2.ensures.columns in
    contains_by _ _ a (columns_shared a b) columns (c.as_slice.ensures.value ∙ c.in_ok-shared.ensures ∙ both columns_shared a b _ _ columns others) (shared_left a b)

pub places_of-requires-2 : goal.places_of-requires-2
places_of-requires-2 c =
    let a = c.args.self.now.columns in
    let b = c.args.other.now.columns in
    let columns : c.as_slice-columns.result.now ≡ a = c.as_slice-columns.ensures ∙ c.columns.ensures.columns in
    let others : c.as_slice-others.result.now ≡ b = c.as_slice-others.ensures ∙ c.columns-2.ensures.columns in
    contains_by _ _ b (columns_shared a b) others (c.as_slice-2.ensures.value ∙ c.in_ok-shared.ensures ∙ both columns_shared a b _ _ columns others) (shared_right a b)

pub places_of-requires-3 : goal.places_of-requires-3
places_of-requires-3 c =
    let a = c.args.self.now.columns in
    let b = c.args.other.now.columns in
    let columns : c.as_slice-columns.result.now ≡ a = c.as_slice-columns.ensures ∙ c.columns.ensures.columns in
    let others : c.as_slice-others.result.now ≡ b = c.as_slice-others.ensures ∙ c.columns-2.ensures.columns in
    contains_by _ _ b (columns_unshared a b) others (c.as_slice-3.ensures.value ∙ c.in_ok-further.ensures ∙ both columns_unshared a b _ _ columns others) (not_shared_right a b)

pub joined_rows-requires-clause-same : goal.joined_rows-requires-clause-same
joined_rows-requires-clause-same c =
    ap length c.as_slice-7.ensures.value
    ∙ places_long _ _ _ c.in_ok-right.ensures ∙ ap length (c.as_slice-2.ensures.value ∙ sym c.as_slice.ensures.value) ∙ sym (places_long _ _ _ c.in_ok-left.ensures)
    ∙ sym (ap length c.as_slice-5.ensures.value)

columns_are : (c : goal.In_ok-joined_columns) → c.in_ok-joined_columns.field-0 ≡ c.args.self.now.columns ++ columns_unshared c.args.self.now.columns c.args.other.now.columns
columns_are c =
    let a = c.args.self.now.columns in
    let b = c.args.other.now.columns in
    let columns : c.as_slice-columns.result.now ≡ a = c.as_slice-columns.ensures ∙ c.columns.ensures.columns in
    let others : c.as_slice-others.result.now ≡ b = c.as_slice-others.ensures ∙ c.columns-2.ensures.columns in
    c.in_ok-joined_columns.ensures ∙ both (λ x y. x ++ y) a (columns_unshared a b) _ _ columns (c.as_slice-9.ensures.value ∙ c.in_ok-further.ensures ∙ both columns_unshared a b _ _ columns others)

parts : (c : goal.In_ok-joined_columns) → AreJoinParts c.args.self.now c.args.other.now c.in_ok-left.left.items c.in_ok-right.right.items c.in_ok-rest.rest.items c.in_ok-rows.rows.items
parts c =
    let a = c.args.self.now.columns in
    let b = c.args.other.now.columns in
    let columns : c.as_slice-columns.result.now ≡ a = c.as_slice-columns.ensures ∙ c.columns.ensures.columns in
    let others : c.as_slice-others.result.now ≡ b = c.as_slice-others.ensures ∙ c.columns-2.ensures.columns in
    let order_is : c.as_slice-6.result.now ≡ c.in_ok-order.order.items = c.as_slice-6.ensures.value in
    record {
      a_table = c.columns.ensures.table;
      b_table = c.columns-2.ensures.table;
      left_places = places_by _ _ a (columns_shared a b) _ columns (c.as_slice.ensures.value ∙ c.in_ok-shared.ensures ∙ both columns_shared a b _ _ columns others) c.in_ok-left.ensures;
      right_places = places_by _ _ b (columns_shared a b) _ others (c.as_slice-2.ensures.value ∙ c.in_ok-shared.ensures ∙ both columns_shared a b _ _ columns others) c.in_ok-right.ensures;
      rest_places = places_by _ _ b (columns_unshared a b) _ others (c.as_slice-3.ensures.value ∙ c.in_ok-further.ensures ∙ both columns_unshared a b _ _ columns others) c.in_ok-rest.ensures;
      joined = joined_others _ _ _ _ (shown_rows c.as_slice-6.result.now) _ _ (λ row. subst (λ l. Contains (shown_rows l) row ↔ Contains c.args.other.now.rows row) (sym order_is)
          (subst (λ l. Contains (shown_rows c.in_ok-order.order.items) row ↔ Contains l row) c.rows.ensures.rows (c.in_ok-order.ensures.rows row)))
          (joined_by _ _ _ _ _ _ _ _ _ _ c.as_slice-5.ensures.value c.as_slice-7.ensures.value c.as_slice-8.ensures.value c.rows-2.ensures.rows c.in_ok-rows.ensures);
    }

pub from_rows-requires-clause-distinct : goal.from_rows-requires-clause-distinct
from_rows-requires-clause-distinct c = subst HasNoRepeats (sym (columns_are c)) (joined_distinct _ _ c.columns.ensures.table.distinct c.columns-2.ensures.table.distinct)

pub from_rows-requires-clause-fits : goal.from_rows-requires-clause-fits
from_rows-requires-clause-fits c = fits_by _ _ _ _ (columns_are c) refl (join_fits _ _ _ _ _ _ (parts c))

pub returns-clause-rows : goal.returns-clause-rows
returns-clause-rows c =
    let at : goal.In_ok-joined_columns = c.before.before.before.before.before.before.before in
    ok_relation c.from_rows.result _ c.in_ok-rows.rows.items (λ t. (v : Valuation) → HasValuation t v ↔ (HasValuation c.args.self.now v × HasValuation c.args.other.now v))
    (subst (λ l. IfOk c.from_rows.result (λ t. t.columns ≡ l)) (columns_are at) c.from_rows.ensures.columns)
    c.from_rows.ensures.rows (join_has c.args.self.now c.args.other.now _ _ _ c.in_ok-rows.rows.items (parts at))
